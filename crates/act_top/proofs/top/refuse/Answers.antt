use Rattle.act_engine.specs.Ending.{Outside, words_meaning}
use Rattle.act_engine.specs.Reading.{Refused}
use Rattle.act_engine.specs.Refusal.{Words}
use Rattle.act_engine.proofs.Ending.{ends-halt}
use Rattle.act_engine.proofs.Reading.{reads_refusal}
use Rattle.std.proofs.Common.{refl}
use Rattle.act_top.specs.Words.{usage}
use Rattle.act_top.proofs.top.refuse.Goals as goal

pub returns-clause-ended : goal.returns-clause-ended
returns-clause-ended g c = λ world rows.
    let before : Outside = record { world = world; page = g.K.Sink.page c.args.out.now; rows = rows } in
    ends-halt words_meaning usage before (Refused Words) c.stop.result.status before (g.K.Sink.page c.stop.new.out) (reads_refusal Words world, refl, refl, refl) c.stop.ensures.concluded
