use Rattle.std.proofs.Common.{◌≡◌, ◌-◌, ◌≤◌, length}
use Rattle.std.specs.List.{count_by}
use Rattle.act_desk.specs.Making.{IsMaking, asks}
use Rattle.act_desk.proofs.desk.Desk.make.Given as goal

abbrev pub invariant-rest : goal.invariant-rest
invariant-rest g l = record {
  making : IsMaking g.A.FromAnswer.kept_of l.fn.pass l.caller l.lines l.answers.items l.pass;
  asked : l.asked ≡ count_by asks l.lines;
  within : length l.answers.items ≤ l.asked;
}

abbrev pub decreases-rest : goal.decreases-rest
decreases-rest g l = l.asked - length l.answers.items
