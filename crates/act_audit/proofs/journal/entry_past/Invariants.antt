use Rattle.std.proofs.Common.{◌≡◌, ◌≤◌, take, count_by}
use Rattle.act_model.specs.Asks.{appends}
use Rattle.act_model.specs.Limits.{most_entries}
use Rattle.act_audit.proofs.journal.entry_past.Given as goal

-- the entries so far, for which there is room
abbrev pub invariant-loop-place : goal.invariant-loop-place
invariant-loop-place l = record {
  counted : l.entries ≡ count_by appends (take l.place l.items);
  room : l.entries ≤ most_entries;
}
