use Rattle.std.proofs.Common.{◌≡◌, ◌%◌, ◌++◌, false, ap, refl, arith}
use Rattle.std.specs.Prelude.{◌==◌}
use Rattle.std.proofs.lemmas.Bool.Decides.{nat_tests}
use Rattle.std.proofs.lemmas.Result.{IfOk-equal}
use Rattle.act_gen.specs.Portfolio.{loan}
use Rattle.act_gen.proofs.portfolio.push_loan.Goals as goal

pub returns-then-number-eq1 : goal.returns-then-number-eq1
unfolding loan
returns-then-number-eq1 c =
    IfOk-equal _ _ _ _ c.push_object.ensures (ap (λ text. c.args.text.now.items ++ text) (rw (c.loan_type.ensures, c.if-number-eq1.true) refl))

pub returns-else-number-eq1 : goal.returns-else-number-eq1
unfolding loan
returns-else-number-eq1 c =
    let other : (c.args.number % 3 == 1) ≡ false = grind (arith, nat_tests, c.if-number-eq1.false) in
    IfOk-equal _ _ _ _ c.push_object-else-number-eq1.ensures (ap (λ text. c.args.text.now.items ++ text) (rw (c.loan_type.ensures, c.redemption_cycle.ensures, other) refl))
