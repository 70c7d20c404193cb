-- The asks of a journal. This profile's own.
use Rattle.std.specs.Prelude.{ℕ, ◌+◌, ◌==◌, if◌then◌else◌, Bool, false, List, count_by, length, take, slice_get, Option, Some, None, option_and_then}
use Rattle.std.specs.List.{filter_map, flat_map, range_with_len}
use Rattle.act_model.specs.Journal.{is_append}
use Rattle.act_model.specs.declared.journal.Item.{Item}
use Rattle.act_model.specs.declared.journal.Step.TheVariants.{Append, Ask}
use Rattle.act_model.specs.declared.asks.Asking.{Asking}

-- an item appends an entry
abbrev pub appends : Item → Bool
appends item = is_append item.step

-- an item is an ask of this caller
abbrev pub is_ask_of : ℕ → Item → Bool
is_ask_of caller item = elim item.step [
  | Append entry ↦ false
  | Ask asked ↦ item.caller == caller
]

-- this caller's ask at a place of a journal, where one stands there: before it stand as many of the caller's asks as its number less 1,
-- and as many entries as its version
abbrev pub ask_at : List Item → ℕ → ℕ → Option Asking
ask_at items caller place =
    option_and_then (λ (item : Item). elim item.step [
      | Append entry ↦ None
      | Ask asked ↦ if item.caller == caller then Some (record {
        caller = caller;
        number = count_by (is_ask_of caller) (take place items) + 1;
        version = count_by appends (take place items);
        asked = asked;
      }) else None
    ]) (slice_get items place)

-- the asks of a caller, in order
abbrev pub caller_asks : List Item → ℕ → List Asking
caller_asks items caller = filter_map (ask_at items caller) (range_with_len 0 (length items))

-- the asks of a journal by caller, of 16 callers at most, and then by number
unfoldable pub asks_of : List Item → List Asking
asks_of items = flat_map (caller_asks items) (range_with_len 1 16)
