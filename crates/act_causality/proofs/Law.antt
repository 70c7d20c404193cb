-- What is dated before a change stays.
use Rattle.act_date.specs.Civil.{last_day}
use Rattle.act_profile.specs.Reads.{codes_read, contracts_read}
use Rattle.act_profile.specs.Run.{deepest}
use Rattle.act_causality.specs.Causality.{Causality}
use Rattle.act_causality.proofs.Cone.{cone-read}
use Rattle.act_causality.proofs.Facts.{not_after}
use Rattle.act_causality.proofs.References.{run_to-agree}
use Rattle.act_causality.proofs.Shadows.{pairs}

pub causality : Causality
causality contracts c day one other linked within until agree =
    (run_to-agree contracts linked (pairs contracts linked) (codes_read contracts c) (contracts_read contracts c) day (not_after day last_day until) one other agree deepest c (cone-read contracts c within)).runs
