use Rattle.std.proofs.Common.{◌≤◌, length, take}
use Rattle.act_desk.specs.Making.{IsMaking}
use Rattle.act_desk.proofs.desk.Desk.make_lines.Given as goal

abbrev pub invariant-loop : goal.invariant-loop
invariant-loop g l = record {
  making : IsMaking g.A.FromAnswer.kept_of l.fn.pass l.caller (take l.made l.lines) l.answers.items l.pass;
  within : l.made ≤ length l.lines;
}
