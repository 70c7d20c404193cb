use Rattle.std.proofs.Common.{◌≡◌, ◌+◌, length}
use Rattle.act_desk.specs.Making.{Brings}
use Rattle.act_desk.proofs.desk.Desk.collect_half.Given as goal

abbrev pub invariant-loop : goal.invariant-loop
invariant-loop g l = record {
  brings : Brings g.A.FromAnswer.kept_of l.caller l.fn.pass l.fn.answers.items l.pass l.answers.items;
  count : length l.answers.items ≡ length l.fn.answers.items + l.counter;
}
