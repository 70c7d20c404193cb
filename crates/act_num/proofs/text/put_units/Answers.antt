use Rattle.std.proofs.Common.{◌≡◌, ◌+◌, ◌++◌, ℕ, List, ℤ, pos, length, take, ap, sym, ◌∙◌, arith}
use Rattle.std.proofs.lemmas.Int.{ints}
use Rattle.act_num.specs.Decimal.{printed}
use Rattle.act_num.proofs.Padded.{printed_zero}
use Rattle.act_num.proofs.text.put_units.Goals as goal

pub returns-then-units-eq0-clause-end : goal.returns-then-units-eq0-clause-end
returns-then-units-eq0-clause-end c =
    let none : c.args.units ≡ pos 0 = omega (arith, ints) in
    c.put.ensures.end ∙ ap (λ (xs : List ℕ). c.args.at + length xs) (sym printed_zero) ∙ ap (λ (z : ℤ). c.args.at + length (printed z)) (sym none)

pub returns-then-units-eq0-clause-written : goal.returns-then-units-eq0-clause-written
returns-then-units-eq0-clause-written c =
    let none : c.args.units ≡ pos 0 = omega (arith, ints) in
    c.put.ensures.written ∙ ap (λ (xs : List ℕ). take c.args.at c.args.out.now ++ xs) (sym printed_zero) ∙ ap (λ (z : ℤ). take c.args.at c.args.out.now ++ printed z) (sym none)
