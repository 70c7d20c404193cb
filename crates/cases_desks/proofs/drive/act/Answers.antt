use Rattle.std.proofs.Common.{refl, arith}
use Rattle.cases_desks.proofs.Playing.{first-plays}
use Rattle.cases_desks.proofs.drive.act.Goals as goal

pub call-requires : goal.call-requires
call-requires g c = first-plays _ _ _ _ _ c.requires (omega arith) refl
