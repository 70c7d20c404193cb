use Rattle.std.proofs.Common.{refl, arith}
use Rattle.std.proofs.lemmas.Bool.Decides.{nat_tests}
use Rattle.std.proofs.lemmas.Option.{slice_get_past, slice_get_read}
use Rattle.act_script.proofs.step.fits_contract.Goals as goal

pub returns-in-Some : goal.returns-in-Some
returns-in-Some c = rw (slice_get_read c.args.kinds.now _ c.args.contract c.in-Some.terms.now refl (grind (arith, nat_tests)) c.in-Some.ensures.lookup.1) c.fits.ensures

pub returns-in-None : goal.returns-in-None
returns-in-None c = rw (slice_get_past c.args.kinds.now c.args.contract (grind (arith, nat_tests))) refl
