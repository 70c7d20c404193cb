use Rattle.std.proofs.Common.{◌≡◌, false, refl, sym, ◌∙◌}
use Rattle.act_keeping.specs.Keeping.{is_done, is_kept}
use Rattle.act_keeping.specs.declared.pair.Progress.{Progress}
use Rattle.act_keeping.specs.declared.pair.Progress.TheVariants.{Waiting, Claimed, Done, Dropped}
use Rattle.act_keeping.proofs.dropping.drop_run.Goals as goal

-- what didn't come back has no run
not_kept : (p : Progress) → is_done p ≡ false → is_kept p ≡ false
not_kept Waiting is = refl
not_kept Claimed is = refl
not_kept (Done run) is = is
not_kept Dropped is = refl

pub returns-else-is_done-clause-gone : goal.returns-else-is_done-clause-gone
returns-else-is_done-clause-gone c = not_kept c.args.pair.now.progress (sym c.is_done.ensures ∙ c.if-is_done.false)
