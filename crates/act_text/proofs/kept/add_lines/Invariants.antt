use Rattle.std.proofs.Common.{◌≡◌, ◌≤◌, ◌-◌, drop, length, take}
use Rattle.act_text.specs.Kept.{AreLines}
use Rattle.act_text.proofs.kept.add_lines.Given as goal

-- as many rows as there are ends have their lines, and what stands in front of them stays
abbrev pub invariant-lines : goal.invariant-lines
invariant-lines l = record {
  begin : l.begin ≤ length l.text.items;
  front : take l.begin l.text.items ≡ take l.begin l.fn.text.items;
  within : length l.ends.items ≤ length l.rows;
  are : AreLines l.names (take (length l.ends.items) l.rows) (drop l.begin l.text.items) l.ends.items;
  names : l.printer.names ≡ l.names;
}

-- how many have none yet
abbrev pub decreases-lines : goal.decreases-lines
decreases-lines l = length l.rows - length l.ends.items
