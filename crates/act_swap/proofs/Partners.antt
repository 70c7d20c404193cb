-- Which rows of two legs are netted, in a walk over rows in the order of their days.
use Rattle.std.proofs.Common.{◌≡◌, ℕ, zero, suc, ◌+◌, ◌-◌, ◌<◌, ◌≤◌, ◌&&◌, ◌==◌, not, nat_lt, Bool, true, false, ℤ, int_lt, ◌<ℤ◌, ◌≤ℤ◌, List, [], ◌∷◌, length, take, drop, get_or, slice_get, All, Option, Some, None, option_map, inl, inr, refl, sym, ◌∙◌, ap, arith}
use Rattle.std.proofs.Math.Seq.{take-nil}
use Rattle.std.proofs.lemmas.Bool.{cases_Bool}
use Rattle.std.proofs.lemmas.Bool.Decides.{nat_tests}
use Rattle.std.proofs.lemmas.Int.{ints}
use Rattle.std.proofs.lemmas.List.{get_or-drop, length-drop}
use Rattle.std.proofs.lemmas.List.Elements.{All-from_get_or}
use Rattle.std.proofs.lemmas.List.Sums.{count_by_more_no, count_by_more_yes, length-filter, prefix_len-le-length, prefix_len_passes, prefix_len_stops}
use Rattle.std.proofs.lemmas.Option.{get_or_from_slice_get, slice_get_within}
use Rattle.std.specs.List.{count_by, enumerate_from, filter, prefix_len}
use Rattle.std.specs.Ordering.{int_eq}
use Rattle.act_model.specs.Run.{Stream}
use Rattle.act_model.specs.declared.event.EventType.TheVariants.{IP}
use Rattle.act_model.specs.declared.run.Row.{Row}
use Rattle.act_profile.specs.Legs.{PlacedRow, earlier_like, is_netted_with, placed_rows, taken_rows}
use Rattle.act_profile.specs.Order.{is_type}
use Rattle.act_swap.proofs.Walks.{next_at}
use Rattle.act_profile.specs.DayOrder.{AreInDayOrder}
use Rattle.act_swap.specs.declared.netting.Starts.{Starts}
use Rattle.act_swap.specs.Netting.{AreBefore, earlier_rows, is_like, is_taken, partner_place}

-- ---- lists

-- of what passes a test, those that pass another which only passes with the first
kept_again : {X : Type 0} (p t : X → Bool) → ((x : X) → p x ≡ true → t x ≡ true) → (xs : List X) → filter p (filter t xs) ≡ filter p xs
kept_again p t only [] = refl
kept_again p t only (x ∷ xs) =
    elim (cases_Bool (t x)) [
      | inl passes ↦ elim (cases_Bool (p x)) [
        | inl holds ↦ rw passes (rw holds (ap (λ later. x ∷ later) (kept_again p t only xs)))
        | inr fails ↦ rw passes (rw fails (kept_again p t only xs))
      ]
      | inr left_out ↦ elim (cases_Bool (p x)) [
        | inl holds ↦ absurd (let passes = only x holds in cc)
        | inr fails ↦ rw left_out (rw fails (kept_again p t only xs))
      ]
    ]

-- where nothing passes a test, nothing is kept
none_kept : {X : Type 0} (p : X → Bool) → ((x : X) → p x ≡ false) → (xs : List X) → filter p xs ≡ []
none_kept p fails [] = refl
none_kept p fails (x ∷ xs) = rw (fails x) (none_kept p fails xs)

-- ---- rows that are netted

like_taken_by : (status a b : ℤ) (p q : ℕ) (c : Bool) → (int_lt status a && not (p == 16)) ≡ true → ((p == 7) && (q == 7) && int_eq a b && c) ≡ true → (int_lt status b && not (q == 16)) ≡ true
like_taken_by status a b p q c taken like = grind (arith, nat_tests, ints)

-- one that is netted with a row that is taken, is taken too
like_taken : (status : ℤ) (row : Row) → is_taken status row ≡ true → (other : Row) → is_like row other ≡ true → is_taken status other ≡ true
like_taken status row taken other like = like_taken_by status row.day other.day _ _ _ taken like

unlike_by : (a b : ℤ) (p q : Bool) (c : Bool) → int_eq a b ≡ false → (p && q && int_eq a b && c) ≡ false
unlike_by a b p q c differ = grind (arith, nat_tests, ints)

-- rows of different days aren't netted
pub unlike_earlier : (row other : Row) → int_lt other.day row.day ≡ true → is_like row other ≡ false
unlike_earlier row other before = unlike_by row.day other.day (is_type row.kind IP) (is_type other.kind IP) (row.currency == other.currency) (grind (arith, ints))

pub unlike_later : (row other : Row) → row.day <ℤ other.day → is_like row other ≡ false
unlike_later row other after = unlike_by row.day other.day (is_type row.kind IP) (is_type other.kind IP) (row.currency == other.currency) (grind (arith, ints))

-- the tests of rows with their places
abbrev pub netted : Row → PlacedRow → Bool
netted row = is_netted_with (0, row)

-- ---- the rows before a day

abbrev pub is_earlier : ℤ → Row → Bool
is_earlier day row = int_lt row.day day

-- none of them is netted with one of that day
pub none_before : (row : Row) (rows : List Row) → length (filter (is_like row) (take (prefix_len (is_earlier row.day) rows) rows)) ≡ 0
none_before row [] = refl
none_before row (r ∷ rows) =
    elim (cases_Bool (int_lt r.day row.day)) [
      | inl before ↦
          let unlike = unlike_earlier row r before in
          let one : 1 + prefix_len (is_earlier row.day) rows ≡ suc (prefix_len (is_earlier row.day) rows) = omega arith in
          rw (before, one, unlike) (none_before row rows)
      | inr from ↦ rw from refl
    ]

-- so they can be passed over
pub passed_earlier : (row : Row) (n : ℕ) (rows : List Row) →
    filter (netted row) (enumerate_from n rows) ≡ filter (netted row) (enumerate_from (n + prefix_len (is_earlier row.day) rows) (drop (prefix_len (is_earlier row.day) rows) rows))
passed_earlier row n [] = refl
passed_earlier row n (r ∷ rows) =
    elim (cases_Bool (int_lt r.day row.day)) [
      | inl before ↦
          let unlike = unlike_earlier row r before in
          let k = prefix_len (is_earlier row.day) rows in
          let skipped : filter (netted row) (enumerate_from n (r ∷ rows)) ≡ filter (netted row) (enumerate_from (n + 1) rows) = rw unlike refl in
          let count : prefix_len (is_earlier row.day) (r ∷ rows) ≡ suc k = rw before (omega arith) in
          let place : n + suc k ≡ n + 1 + k = omega arith in
          skipped ∙ passed_earlier row (n + 1) rows
          ∙ sym (ap (λ m. filter (netted row) (enumerate_from (n + m) (drop m (r ∷ rows)))) count ∙ ap (λ m. filter (netted row) (enumerate_from m (drop k rows))) place)
      | inr from ↦
          let none : prefix_len (is_earlier row.day) (r ∷ rows) ≡ 0 = rw from refl in
          let place : n + 0 ≡ n = omega arith in
          sym (ap (λ m. filter (netted row) (enumerate_from (n + m) (drop m (r ∷ rows)))) none ∙ ap (λ m. filter (netted row) (enumerate_from m (r ∷ rows))) place)
    ]

-- a later day has no fewer rows before it
pub earlier_more : (a b : ℤ) → a ≤ℤ b → (rows : List Row) → prefix_len (is_earlier a) rows ≤ prefix_len (is_earlier b) rows
earlier_more a b up [] = omega arith
earlier_more a b up (r ∷ rows) =
    elim (cases_Bool (int_lt r.day a)) [
      | inl before ↦
          let also : int_lt r.day b ≡ true = grind (arith, ints) in
          rw (before, also) (omega (arith, earlier_more a b up rows))
      | inr from ↦ rw from (omega arith)
    ]

-- the rows before a day stand before a row of it
pub earlier_within : (row : Row) (rows : List Row) (place : ℕ) → slice_get rows place ≡ Some row → prefix_len (is_earlier row.day) rows ≤ place
earlier_within row rows place here =
    let passes = prefix_len_passes (is_earlier row.day) rows place row in
    let is = get_or_from_slice_get rows place row row here in
    grind (arith, ints)

module _ (day : ℤ) (rows : List Row) (place : ℕ) (row : Row) (within : place ≤ prefix_len (is_earlier day) rows) (here : slice_get rows place ≡ Some row) where
  -- the first row that isn't before the day
  pub stops_here : int_lt row.day day ≡ false → place ≡ prefix_len (is_earlier day) rows
  stops_here from =
      let passes = prefix_len_passes (is_earlier day) rows place row in
      let is = get_or_from_slice_get rows place row row here in
      grind arith

  -- one more that is
  pub goes_on : int_lt row.day day ≡ true → place + 1 ≤ prefix_len (is_earlier day) rows
  goes_on before =
      let stops = prefix_len_stops (is_earlier day) rows row in
      let is = get_or_from_slice_get rows place row row here in
      let lt = slice_get_within rows place row here in
      grind arith

-- all are
pub all_earlier : (day : ℤ) (rows : List Row) (place : ℕ) → place ≤ prefix_len (is_earlier day) rows → length rows ≤ place → length rows ≡ prefix_len (is_earlier day) rows
all_earlier day rows place within le = omega (arith, prefix_len-le-length (is_earlier day) rows)

-- a row of a later day than the one before it is the first of its day
pub begins_day : (rows : List Row) (place : ℕ) (row before : Row) → AreInDayOrder rows → slice_get rows place ≡ Some row → 1 ≤ place → slice_get rows (place - 1) ≡ Some before → ¬ (before.day ≡ row.day) → place ≡ prefix_len (is_earlier row.day) rows
begins_day rows place row before order here some there differs =
    let k = prefix_len (is_earlier row.day) rows in
    let le : k ≤ place = earlier_within row rows place here in
    let is = get_or_from_slice_get rows place row row here in
    let was = get_or_from_slice_get rows (place - 1) before row there in
    let within = slice_get_within rows place row here in
    let up : before.day ≤ℤ row.day = rw (was, is) at (order.ascending (place - 1) place row (omega (arith, some)) within) in
    elim (cases_Bool (nat_lt k place)) [
      | inl earlier ↦
          let lt : k < place = grind (arith, nat_tests) in
          let first = prefix_len_stops (is_earlier row.day) rows row (omega (arith, lt, within)) in
          let low : (get_or rows k row).day ≤ℤ before.day =
          elim (cases_Bool (nat_lt k (place - 1))) [
            | inl more ↦ rw was at (order.ascending k (place - 1) row (grind (arith, nat_tests)) (omega (arith, some, within)))
            | inr last ↦
                let same : k ≡ place - 1 = grind (arith, nat_tests) in
                rw (same, was) (omega (arith, ints))
          ] in
          absurd (grind (arith, ints))
      | inr from ↦ grind (arith, nat_tests)
    ]

-- the first row of all is the first of its day
pub begins_first : (rows : List Row) (place : ℕ) (row : Row) → slice_get rows place ≡ Some row → place ≡ 0 → 0 ≡ prefix_len (is_earlier row.day) rows
begins_first rows place row here first =
    let le = earlier_within row rows place here in
    omega arith

-- a day that is another than one before it
pub days_differ : (a b day : ℤ) → a ≡ day → int_eq day b ≡ false → ¬ (a ≡ b)
days_differ a b day same apart equal = grind (arith, nat_tests, ints)

-- where the rows of a day begin, the search for a later day's goes on
pub begins_later : (rows : List Row) (other : Stream) (place : ℕ) (row before : Row) → AreInDayOrder rows → slice_get rows place ≡ Some row → 1 ≤ place → slice_get rows (place - 1) ≡ Some before → earlier_rows before.day other ≤ earlier_rows row.day other
begins_later rows other place row before order here some there =
    let is = get_or_from_slice_get rows place row row here in
    let was = get_or_from_slice_get rows (place - 1) before row there in
    let within = slice_get_within rows place row here in
    let up : before.day ≤ℤ row.day = rw (was, is) at (order.ascending (place - 1) place row (omega (arith, some)) within) in
    earlier_more before.day row.day up other.rows

-- what is known behind a row
pub known_behind : (run other : Stream) (place : ℕ) (row : Row) (starts : Starts) → slice_get run.rows place ≡ Some row → starts.day ≡ row.day → starts.from ≡ earlier_rows row.day run → starts.other_from ≡ earlier_rows row.day other → AreBefore run other (place + 1) (Some starts)
known_behind run other place row starts here day from other_from =
    let back : place + 1 - 1 ≡ place = omega arith in
    (omega arith, (row, rw back here, sym day), rw day from, rw day other_from)

-- ---- the number of a row among those like it

in_front : (like : Row → Bool) (i n : ℕ) (rows : List Row) → length (filter (λ (r : PlacedRow). nat_lt r.0 i && like r.1) (enumerate_from n rows)) ≡ length (filter like (take (i - n) rows))
in_front like i n [] = rw (take-nil {A = Row}) refl
in_front like i n (r ∷ rows) =
    elim (cases_Bool (nat_lt n i)) [
      | inl before ↦
          let left : i - n ≡ suc (i - (n + 1)) = grind (arith, nat_tests) in
          elim (cases_Bool (like r)) [
            | inl holds ↦ rw (before, left, holds) (ap suc (in_front like i (n + 1) rows))
            | inr fails ↦ rw (before, left, fails) (in_front like i (n + 1) rows)
          ]
      | inr from ↦
          let none : i - n ≡ 0 = grind (arith, nat_tests) in
          let later : i - (n + 1) ≡ 0 = grind (arith, nat_tests) in
          rw (from, none) (in_front like i (n + 1) rows ∙ rw later refl)
    ]

earlier_is : (status : ℤ) (run : Stream) (place : ℕ) (row : Row) → is_taken status row ≡ true → earlier_like (taken_rows status run) (place, row) ≡ count_by (is_like row) (take place run.rows)
earlier_is status run place row taken =
    let test = λ (r : PlacedRow). nat_lt r.0 place && netted row r in
    let only : (r : PlacedRow) → test r ≡ true → is_taken status r.1 ≡ true = λ r passes. like_taken status row taken r.1 (grind arith) in
    let front : place - 0 ≡ place = omega arith in
    sym (length-filter test (taken_rows status run)) ∙ ap length (kept_again test (λ r. is_taken status r.1) only (placed_rows run))
    ∙ in_front (is_like row) place 0 run.rows ∙ rw front (length-filter (is_like row) (take place run.rows))

-- the place of the one that stands as far on among those like it is that of its partner
pub partner_is : (status : ℤ) (run other : Stream) (place : ℕ) (row : Row) (count : ℕ) (found : Option ℕ) → is_taken status row ≡ true → count ≡ count_by (is_like row) (take place run.rows) →
    found ≡ option_map (λ r. r.0) (slice_get (filter (netted row) (placed_rows other)) count) → found ≡ partner_place (taken_rows status run) (taken_rows status other) (place, row)
partner_is status run other place row count found taken counted is =
    let same = kept_again (netted row) (λ r. is_taken status r.1) (λ r like. like_taken status row taken r.1 like) (placed_rows other) in
    is ∙ ap (λ (rows : List PlacedRow). option_map (λ (r : PlacedRow). r.0) (slice_get rows count)) (sym same)
    ∙ ap (λ k. option_map (λ (r : PlacedRow). r.0) (slice_get (filter (netted row) (taken_rows status other)) k)) (counted ∙ sym (earlier_is status run place row taken))

-- a row that is no interest has no partner
pub no_partner : (status : ℤ) (run other : Stream) (place : ℕ) (row : Row) → is_type row.kind IP ≡ false → None ≡ partner_place (taken_rows status run) (taken_rows status other) (place, row)
no_partner status run other place row differs =
    let none = none_kept (netted row) (λ (r : PlacedRow). rw differs refl) (taken_rows status other) in
    sym (ap (λ (rows : List PlacedRow). option_map (λ (r : PlacedRow). r.0) (slice_get rows (earlier_like (taken_rows status run) (place, row)))) none)

-- none of the rows before those of a row's day counts
pub count_first : (row : Row) (rows : List Row) (from : ℕ) → from ≡ prefix_len (is_earlier row.day) rows → 0 ≡ count_by (is_like row) (take from rows)
count_first row rows from is = rw is (sym (none_before row rows) ∙ length-filter (is_like row) (take (prefix_len (is_earlier row.day) rows) rows))

module _ (row : Row) (rows : List Row) (place count : ℕ) (other : Row) (here : slice_get rows place ≡ Some other) (so_far : count ≡ count_by (is_like row) (take place rows)) where
  pub counted_more : is_like row other ≡ true → count + 1 ≡ count_by (is_like row) (take (place + 1) rows)
  counted_more like =
      let is = get_or_from_slice_get rows place other other here in
      let lt = slice_get_within rows place other here in
      let more = count_by_more_yes (is_like row) rows place other lt (rw is like) in
      omega arith

  pub counted_same : is_like row other ≡ false → count ≡ count_by (is_like row) (take (place + 1) rows)
  counted_same unlike =
      let is = get_or_from_slice_get rows place other other here in
      let lt = slice_get_within rows place other here in
      let same = count_by_more_no (is_like row) rows place other lt (rw is unlike) in
      omega arith

-- ---- a search for the n-th of the rows that are netted with one

-- what is left of it at a place
pub record IsSought (row : Row) (rows : List Row) (n place left : ℕ) : Type 0 where
  pub is : slice_get (filter (netted row) (enumerate_from 0 rows)) n ≡ slice_get (filter (netted row) (enumerate_from place (drop place rows))) left

pub sought_first : (row : Row) (rows : List Row) (n from : ℕ) → from ≡ prefix_len (is_earlier row.day) rows → IsSought row rows n from n
sought_first row rows n from is =
    let front : 0 + prefix_len (is_earlier row.day) rows ≡ prefix_len (is_earlier row.day) rows = omega arith in
    record { is = ap (λ (found : List PlacedRow). slice_get found n) (rw is (rw front at (passed_earlier row 0 rows))) }

module _ (row : Row) (rows : List Row) (n place left : ℕ) (other : Row) (here : slice_get rows place ≡ Some other) where
  next_sought : filter (netted row) (enumerate_from place (drop place rows)) ≡ filter (netted row) ((place, other) ∷ enumerate_from (place + 1) (drop (place + 1) rows))
  next_sought = ap (λ rest. filter (netted row) (enumerate_from place rest)) (next_at rows place other here)

  pub sought_on : IsSought row rows n place left → is_like row other ≡ false → IsSought row rows n (place + 1) left
  sought_on so_far unlike =
      let next = rw unlike at next_sought in
      record { is = so_far.is ∙ ap (λ (found : List PlacedRow). slice_get found left) next }

  found_by : is_like row other ≡ true → filter (netted row) (enumerate_from place (drop place rows)) ≡ (place, other) ∷ filter (netted row) (enumerate_from (place + 1) (drop (place + 1) rows))
  found_by like = rw like at next_sought

  pub sought_less : IsSought row rows n place left → is_like row other ≡ true → (fewer : ℕ) → left ≡ suc fewer → IsSought row rows n (place + 1) fewer
  sought_less so_far like fewer is = record { is = so_far.is ∙ rw is (ap (λ (found : List PlacedRow). slice_get found (suc fewer)) (found_by like)) }

  pub sought_here : IsSought row rows n place left → is_like row other ≡ true → left ≡ 0 → Some place ≡ option_map (λ (r : PlacedRow). r.0) (slice_get (filter (netted row) (enumerate_from 0 rows)) n)
  sought_here so_far like none =
      let first : slice_get (filter (netted row) (enumerate_from place (drop place rows))) left ≡ Some (place, other) = rw none (ap (λ (found : List PlacedRow). slice_get found 0) (found_by like)) in
      rw (so_far.is, first) refl

none_later : (row : Row) (place : ℕ) (rows : List Row) → All (λ r. row.day <ℤ r.day) rows → filter (netted row) (enumerate_from place rows) ≡ []
none_later row place [] all = refl
none_later row place (r ∷ rows) all =
    let unlike = unlike_later row r (all 0 r (omega arith)) in
    rw unlike (none_later row (place + 1) rows (λ k d lt. all (suc k) d (omega arith)))

not_found : (row : Row) (rows : List Row) (n place left : ℕ) → IsSought row rows n place left → filter (netted row) (enumerate_from place (drop place rows)) ≡ [] →
    None ≡ option_map (λ (r : PlacedRow). r.0) (slice_get (filter (netted row) (enumerate_from 0 rows)) n)
not_found row rows n place left so_far none = sym (ap (option_map (λ (r : PlacedRow). r.0)) (so_far.is ∙ ap (λ (found : List PlacedRow). slice_get found left) none))

later_at : (row : Row) (rows : List Row) (place : ℕ) (other : Row) → AreInDayOrder rows → get_or rows place other ≡ other → place < length rows → row.day <ℤ other.day →
    (i : ℕ) → i < length (drop place rows) → row.day <ℤ (get_or (drop place rows) i other).day
later_at row rows place other order is within after zero lt =
    let same : place + 0 ≡ place = omega arith in
    rw (get_or-drop place rows 0 other, same, is) after
later_at row rows place other order is within after (suc i) lt =
    let up = rw is at (order.ascending place (place + suc i) other (omega arith) (omega (arith, length-drop place rows))) in
    rw (get_or-drop place rows (suc i) other) (grind (arith, ints))

pub sought_later : (row : Row) (rows : List Row) (n place left : ℕ) (other : Row) → IsSought row rows n place left → AreInDayOrder rows → slice_get rows place ≡ Some other → row.day <ℤ other.day →
    None ≡ option_map (λ (r : PlacedRow). r.0) (slice_get (filter (netted row) (enumerate_from 0 rows)) n)
sought_later row rows n place left other so_far order here after =
    let is = get_or_from_slice_get rows place other other here in
    let within = slice_get_within rows place other here in
    let day_at : (i : ℕ) → i < length (drop place rows) → row.day <ℤ (get_or (drop place rows) i other).day = λ i lt. later_at row rows place other order is within after i lt in
    not_found row rows n place left so_far (none_later row place (drop place rows) (All-from_get_or (λ r. row.day <ℤ r.day) (drop place rows) other day_at))
