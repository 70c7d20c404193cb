use Rattle.std.proofs.Common.{◌≡◌, ◌≤◌, ℤ, true, take}
use Rattle.std.specs.List.{fold}
use Rattle.std.specs.Prelude.{int_lt}
use Rattle.act_profile.specs.Lists.{insert_once_by}
use Rattle.act_kind.specs.Insertion.{earlier, is_later}
use Rattle.act_kind.proofs.dates.united.Given as goal

-- the dates so far are those of the first list and of the others up to here; those before the place are earlier than any date that comes after the
-- last of the others
abbrev pub invariant-others : goal.invariant-others
invariant-others l = record {
  dates : l.dates.items ≡ fold (insert_once_by int_lt) l.initial.dates.items (take l.date-index l.others);
  place : (d : ℤ) → is_later l.previous d ≡ true → l.place ≤ earlier d l.dates.items;
}
