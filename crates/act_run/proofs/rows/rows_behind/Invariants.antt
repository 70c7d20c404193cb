use Rattle.std.proofs.Common.{◌≡◌, ◌+◌, length, map}
use Rattle.std.specs.Arc.{arc_value}
use Rattle.act_profile.specs.Steps.{currency_of, step_of}
use Rattle.act_run.proofs.TakenRows.{HasTaken}
use Rattle.act_run.proofs.rows.rows_behind.Given as goal

abbrev pub invariant-events : goal.invariant-events
invariant-events g l = record {
  taken : HasTaken (step_of l.terms l.plan (g.O.Observed.entries l.seen) (map arc_value l.children)) (currency_of l.terms (map arc_value l.children)) l.fn.rows l.fn.first l.events l.rows l.state l.event-index;
  ticked : l.steps + length l.fn.rows ≡ l.fn.steps + length l.rows;
}
