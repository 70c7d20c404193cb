use Rattle.std.proofs.Common.{◌-◌, true, refl, arith, slice_index_or}
use Rattle.std.proofs.lemmas.Option.{slice_get-get_or}
use Rattle.act_keeping.specs.declared.caller.Caller.{Caller}
use Rattle.act_keeping.proofs.caller.set_left.Goals as goal

pub returns : goal.returns
returns c =
    let place = c.args.caller - 1 in
    let one : Caller = slice_index_or c.args.callers.now place c.index-callers-caller.result in
    record {
      before = one;
      after = record { left = true; remaining = one.remaining; asked = one.asked; open_asks = one.open_asks };
      was = slice_get-get_or c.args.callers.now place c.index-callers-caller.result (omega (arith, c.requires.from, c.requires.to));
      is = refl;
      left = refl;
      remaining = refl;
      asked = refl;
      asks = refl;
    }
