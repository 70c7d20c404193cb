-- What the steps of callers say, and the book that a journal makes. This profile's own.
use Rattle.std.specs.Prelude.{ℕ, nat_lt, Bool, true, false, List, [], ◌∷◌, length, Option, Some, None}
use Rattle.std.specs.List.{filter_map, range_with_len}
use Rattle.act_model.specs.Names.{NameLists}
use Rattle.act_model.specs.Observed.{is_entry}
use Rattle.act_model.specs.declared.journal.Asked.{Asked}
use Rattle.act_model.specs.declared.journal.Asked.TheVariants.{All, One}
use Rattle.act_model.specs.declared.journal.Item.{Item}
use Rattle.act_model.specs.declared.journal.Step.{Step}
use Rattle.act_model.specs.declared.journal.Step.TheVariants.{Append, Ask}
use Rattle.act_model.specs.declared.observed.Obs.{Obs}
use Rattle.act_model.specs.declared.observed.Obs.TheVariants.{Rate, Event}

-- a step that appends an entry
abbrev pub is_append : Step → Bool
is_append (Append entry) = true
is_append (Ask asked) = false

-- the entry that a step appends
abbrev pub entry_of : Step → Option Obs
entry_of (Append entry) = Some entry
entry_of (Ask asked) = None

-- what a step appends is an entry of a book: the value of a credit event is 0
abbrev pub appends_entry : Step → Bool
appends_entry (Append entry) = is_entry entry
appends_entry (Ask asked) = true

-- the code or the contract that a step names, if any, is a number of the names
abbrev pub is_known : NameLists → Step → Bool
is_known names (Append (Rate code day value)) = nat_lt code (length names.codes)
is_known names (Append (Event contract kind day value)) = nat_lt contract (length names.contracts)
is_known names (Ask All) = true
is_known names (Ask (One contract)) = nat_lt contract (length names.contracts)

-- the contracts asked for, in portfolio order
abbrev pub contracts_of : NameLists → Asked → List ℕ
contracts_of names All = range_with_len 0 (length names.contracts)
contracts_of names (One contract) = contract ∷ []

-- the book of a journal: the entries that its items append, in order
abbrev pub book_of : List Item → List Obs
book_of items = filter_map (λ (item : Item). entry_of item.step) items
