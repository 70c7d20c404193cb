use Rattle.std.proofs.Common.{length, sym, ap, ◌∙◌}
use Rattle.std.proofs.lemmas.List.{length-take-le}
use Rattle.act_model.specs.Run.{Stream}
use Rattle.act_profile.specs.Kept.{KeptRows}
use Rattle.act_run.proofs.kept.kept_rows.Goals as goal

pub returns-in-Some-clause-rows : goal.returns-in-Some-clause-rows
returns-in-Some-clause-rows c = sym (ap (λ (kept : KeptRows). length kept.rows) c.in-Some.ensures.kept ∙ length-take-le c.in-Some.count c.args.run.now.rows c.in-Some.ensures.within)

pub returns-in-None-clause-rows : goal.returns-in-None-clause-rows
returns-in-None-clause-rows c =
    c.count.ensures ∙ (ap (λ (run : Stream). length run.rows) c.run.view_is ∙ sym (ap (λ (kept : KeptRows). length kept.rows) c.in-None.ensures.kept))
