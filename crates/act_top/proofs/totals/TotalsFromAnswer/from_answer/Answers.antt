use Rattle.std.proofs.Common.{ℕ, List, ap, ◌∙◌}
use Rattle.act_model.specs.Answer.{Reply}
use Rattle.act_model.specs.Run.{Stream}
use Rattle.act_top.specs.Totals.{rows_of_runs, totals_of}
use Rattle.act_transcript.specs.Text.{shared_runs}
use Rattle.act_top.proofs.totals.TotalsFromAnswer.from_answer.Goals as goal

pub returns : goal.returns
returns c = c.of_runs.ensures ∙ ap (λ (runs : List (ℕ × Stream)). totals_of (rows_of_runs runs)) (ap shared_runs c.deref.ensures.value ∙ ap (λ (r : Reply). r.runs) c.answer.view_is)
