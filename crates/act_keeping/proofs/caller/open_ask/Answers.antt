use Rattle.std.proofs.Common.{◌+◌, ◌-◌, refl, arith, slice_index_or}
use Rattle.std.proofs.lemmas.Option.{slice_get-get_or}
use Rattle.act_keeping.specs.declared.caller.Caller.{Caller}
use Rattle.act_keeping.proofs.caller.open_ask.Goals as goal

pub returns-in_default-clause-unchanged : goal.returns-in_default-clause-unchanged
returns-in_default-clause-unchanged c =
    let place = c.args.caller - 1 in
    let one : Caller = slice_index_or c.args.callers.now place c.index-callers-caller.result in
    record {
      before = one;
      after = record { left = one.left; remaining = one.remaining; asked = one.asked; open_asks = c.push_back.new.self };
      was = slice_get-get_or c.args.callers.now place c.index-callers-caller.result (omega (arith, c.requires.from, c.requires.to));
      is = refl;
      left = refl;
      remaining = refl;
      asked = refl;
      asks = c.in_default.ensures.items;
    }

pub returns-clause-opened : goal.returns-clause-opened
returns-clause-opened c =
    let place = c.args.caller - 1 in
    let one : Caller = slice_index_or c.args.callers.now place c.index-callers-caller.result in
    record {
      before = one;
      after = record { left = one.left; remaining = one.remaining; asked = one.asked + 1; open_asks = c.push_back.new.self };
      was = slice_get-get_or c.args.callers.now place c.index-callers-caller.result (omega (arith, c.requires.from, c.requires.to));
      is = refl;
      left = refl;
      remaining = refl;
      asked = refl;
      number = refl;
      asks = c.in-Ok.ensures.items;
    }
