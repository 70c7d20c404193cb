-- What books hold. This profile's own.
use Rattle.std.specs.Prelude.{◌≡◌, true, List}
use Rattle.std.specs.List.{All}
use Rattle.act_model.specs.declared.observed.Obs.{Obs}
use Rattle.act_model.specs.Observed.{is_entry}

-- entries of a book: the value of a credit event is 0
abbrev pub AreEntries : List Obs → Type 0
AreEntries entries = All (λ entry. is_entry entry ≡ true) entries
