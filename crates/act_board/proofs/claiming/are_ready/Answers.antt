use Rattle.std.proofs.Common.{ℕ, ◌-◌, inl, inr, sym, ap, ◌∙◌, arith}
use Rattle.std.proofs.lemmas.Bool.{cases_order}
use Rattle.act_history.specs.History.{has_result}
use Rattle.act_board.proofs.claiming.are_ready.Goals as goal

pub returns-then-not-has_result-clause-no : goal.returns-then-not-has_result-clause-no
returns-then-not-has_result-clause-no c = λ is history keeps. (
  c.loop-left.left - 1,
  omega (arith, c.loop-left-test.true),
  omega (arith, c.loop-left-test.true, c.loop-left.invariant.within),
  sym (c.has_result.ensures history keeps) ∙ c.if-not-has_result.true,
)

pub loop-left-preserved : goal.loop-left-preserved
loop-left-preserved c = record {
  within = omega (arith, c.loop-left.invariant.within);
  ready = λ history keeps k from lt. elim (cases_order k (c.loop-left.left - 1)) [
    | inl same ↦ ap (λ (d : ℕ). has_result history d c.args.version) same ∙ (sym (c.has_result.ensures history keeps) ∙ c.if-not-has_result.false)
    | inr apart ↦ elim apart [ inl less ↦ absurd (omega arith) | inr gt ↦ c.loop-left.invariant.ready history keeps k (omega arith) lt ]
  ];
}

pub returns-clause-yes : goal.returns-clause-yes
returns-clause-yes c = λ is history keeps k from lt. c.loop-left.invariant.ready history keeps k (omega (arith, c.loop-left-test.false)) lt
