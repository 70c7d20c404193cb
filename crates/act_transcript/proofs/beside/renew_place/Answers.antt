use Rattle.std.proofs.Common.{ℕ, inl, sym, subst, ◌∙◌}
use Rattle.act_model.specs.Run.{Stream}
use Rattle.act_profile.specs.DayOrder.{AreInDayOrder}
use Rattle.act_transcript.specs.KnownLines.{IsBlock, IsKnownTo}
use Rattle.act_transcript.proofs.RenewedLines.{on-ok, run-here}
use Rattle.act_transcript.proofs.beside.renew_place.Goals as goal

pub renew_block-renewed-requires-clause-order : goal.renew_block-renewed-requires-clause-order
renew_block-renewed-requires-clause-order c = λ cut is.
    subst (λ (run : ℕ × Stream). AreInDayOrder run.1.rows) (run-here c.args.runs.now c.args.place c.index-runs-place.result c.requires.run c.requires.is c.index-runs-place.is)
    (c.requires.told cut (c.known_at.ensures cut is)).0

pub renew_block-renewed-requires-clause-known : goal.renew_block-renewed-requires-clause-known
renew_block-renewed-requires-clause-known c = λ cut is.
    subst (λ (run : ℕ × Stream). IsKnownTo run.0 cut c.args.lines.now run.1) (run-here c.args.runs.now c.args.place c.index-runs-place.result c.requires.run c.requires.is c.index-runs-place.is)
    (c.requires.told cut (c.known_at.ensures cut is)).1

pub returns : goal.returns
returns c = record {
  written = c.renew_block-renewed.ensures.named;
  block = λ run is. inl (subst (λ (run : ℕ × Stream). IsBlock run.0 run.1 c.renew_block-renewed.new.lines) (sym (run-here c.args.runs.now c.args.place c.index-runs-place.result run is c.index-runs-place.is))
      (on-ok c.renew_block-renewed.result _ (sym c.is_err.ensures.value ∙ c.if-is_err.false) c.renew_block-renewed.ensures.block));
}
