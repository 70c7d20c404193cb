-- What is kept of the runs over two books that differ from a day on.
use Rattle.std.proofs.Common.{Some, None, ap}
use Rattle.act_model.specs.Run.{Stream}
use Rattle.act_profile.specs.Kept.{kept_of}
use Rattle.act_profile.specs.Run.{run_of}
use Rattle.act_causality.proofs.KeptRows.{kept_same, unread}
use Rattle.act_causality.proofs.Law.{causality}
use Rattle.act_run.specs.Resuming.{RunsAreKept}

pub runs_are_kept : RunsAreKept
runs_are_kept contracts c None one other linked within differ = ap (λ (run : Stream). kept_of run None) (unread contracts c one other linked within differ)
runs_are_kept contracts c (Some cut) one other linked within differ =
    kept_same cut (run_of contracts one c) (run_of contracts other c) (causality contracts c cut one other linked within differ.0 differ.1)
