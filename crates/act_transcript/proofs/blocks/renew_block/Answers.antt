use Rattle.std.proofs.Common.{None, Some, refl, sym, subst}
use Rattle.act_model.specs.Run.{Stream}
use Rattle.act_profile.specs.DayOrder.{AreInDayOrder}
use Rattle.act_transcript.proofs.blocks.renew_block.Goals as goal

pub returns-in-All-clause-block : goal.returns-in-All-clause-block
returns-in-All-clause-block c = (c.requires.known None c.in-All.is).whole refl

pub kept_rows-requires : goal.kept_rows-requires
kept_rows-requires c = record { in_day_order = subst (λ (run : Stream). AreInDayOrder run.rows) (sym c.deref.ensures) (c.requires.order (Some c.in-Before.day) c.in-Before.is) }
