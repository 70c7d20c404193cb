-- What is kept of a book's entries, so that the least day of those between two places is found at once. This profile's own.
use Rattle.std.specs.Prelude.{◌≡◌, ℕ, ◌==◌, ◌<◌, ◌≤◌, Bool, true, false, ℤ, ◌<ℤ◌, ◌≤ℤ◌, List, map, take, drop, Option, Some, Vec}
use Rattle.std.specs.List.{filter, slice_get}
use Rattle.std.specs.declared.alloc.Global.{Global}
use Rattle.act_model.specs.declared.observed.Obs.{Obs}
use Rattle.act_model.specs.declared.observed.Obs.TheVariants.{Rate, Event}
use Rattle.act_profile.specs.Dates.{least}
use Rattle.act_profile.specs.Reads.{day_of_entry}
use Rattle.act_cut.specs.declared.changes.Changes.{Changes}
use Rattle.act_cut.specs.declared.lows.Low.{Low}

-- the entry is a rate of the code, or an event of the contract
abbrev pub is_rate_of : ℕ → Obs → Bool
is_rate_of n (Rate code day value) = n == code
is_rate_of n (Event contract kind day value) = false

abbrev pub is_event_of : ℕ → Obs → Bool
is_event_of n (Rate code day value) = false
is_event_of n (Event contract kind day value) = n == contract

-- the least day of the entries from place u up to w that pass a test
unfoldable pub least_by : (Obs → Bool) → List Obs → ℕ → ℕ → Option ℤ
least_by test entries u w = least (map day_of_entry (filter test (drop u (take w entries))))

-- days of entries that pass a test, with the places of these: a day that isn't before one further behind isn't kept
pub record AreLows (test : Obs → Bool) (entries : List Obs) (lows : List Low) : Type 0 where
  pub rising : (i j : ℕ) (first second : Low) → i < j → slice_get lows i ≡ Some first → slice_get lows j ≡ Some second
      → (first.place < second.place) × (first.day <ℤ second.day)
  pub there : (i : ℕ) (low : Low) → slice_get lows i ≡ Some low
      → (entry : Obs) × (slice_get entries low.place ≡ Some entry) × (test entry ≡ true) × (day_of_entry entry ≡ low.day)
  pub reached : (place : ℕ) (entry : Obs) → slice_get entries place ≡ Some entry → test entry ≡ true
      → (i : ℕ) × (low : Low) × (slice_get lows i ≡ Some low) × (place ≤ low.place) × (low.day ≤ℤ day_of_entry entry)

-- for each of some numbers, from 0, those of the entries that pass the number's test
abbrev pub AreListed : (ℕ → Obs → Bool) → List Obs → List (Vec Low Global) → Type 0
AreListed test entries lists = (n : ℕ) (lows : Vec Low Global) → slice_get lists n ≡ Some lows → AreLows (test n) entries lows.items

-- those of the rates of codes, and of the events of contracts
pub record AreChanges (entries : List Obs) (changes : Changes) : Type 0 where
  pub rates : AreListed is_rate_of entries changes.rates.items
  pub events : AreListed is_event_of entries changes.events.items
