use Rattle.std.proofs.Common.{◌<◌, ◌-◌, length, refl, ap, arith, slice_index_or}
use Rattle.std.proofs.lemmas.List.{get_or_default}
use Rattle.std.proofs.lemmas.Option.{slice_get-get_or}
use Rattle.act_keeping.specs.declared.caller.Caller.{Caller}
use Rattle.act_keeping.proofs.caller.spend.Goals as goal

pub returns : goal.returns
returns c =
    let callers = c.args.callers.now in
    let place = c.args.caller - 1 in
    let within : place < length callers = omega (arith, c.requires.from, c.requires.to) in
    let one : Caller = slice_index_or callers place c.index-callers-caller-2.result in
    let read : Caller = slice_index_or callers place c.index-callers-caller.result in
    record {
      before = one;
      after = record { left = one.left; remaining = read.remaining - 1; asked = one.asked; open_asks = one.open_asks };
      was = slice_get-get_or callers place c.index-callers-caller-2.result within;
      is = refl;
      left = refl;
      asked = refl;
      asks = refl;
      remaining = ap (λ (caller : Caller). caller.remaining - 1) (get_or_default callers place c.index-callers-caller.result c.index-callers-caller-2.result within);
    }
