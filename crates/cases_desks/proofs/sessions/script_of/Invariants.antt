use Rattle.std.proofs.Common.{◌≡◌, ◌≤◌, true, length}
use Rattle.std.specs.List.{All}
use Rattle.act_desk.specs.Making.{asks_known}
use Rattle.act_model.specs.Journal.{appends_entry}
use Rattle.act_model.specs.declared.journal.Line.{Line}
use Rattle.cases_desks.proofs.sessions.script_of.Given as goal

abbrev pub invariant-loop-step : goal.invariant-loop-step
invariant-loop-step l = record {
  few : length l.lines.items ≤ l.step-index;
  entries : All (λ (line : Line). appends_entry line.step ≡ true) l.lines.items;
  known : All (λ (line : Line). asks_known l.portfolio.names line.step ≡ true) l.lines.items;
}
