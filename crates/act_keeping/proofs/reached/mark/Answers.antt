use Rattle.std.proofs.Common.{◌||◌, List, ℕ, false, ap, sym, ◌∙◌, arith, slice_index_or}
use Rattle.std.proofs.lemmas.List.{take_all}
use Rattle.act_profile.specs.Reads.{is_in}
use Rattle.act_keeping.proofs.Marking.{marks-next, or-false}
use Rattle.act_keeping.proofs.reached.mark.Goals as goal

pub loop-contract-init : goal.loop-contract-init
loop-contract-init c = λ k. sym (or-false (slice_index_or c.args.below.now k false))

pub loop-contract-preserved : goal.loop-contract-preserved
loop-contract-preserved c =
    let i = c.loop-contract.contract-index in
    marks-next c.args.below.now c.loop-contract.below c.args.contracts.now i c.loop-contract-test.true
    (omega (arith, c.requires i 0 c.loop-contract-test.true, c.loop-contract.auto.below)) c.loop-contract.invariant

pub returns-clause-marked : goal.returns-clause-marked
returns-clause-marked c = λ k.
    c.loop-contract.invariant k ∙ ap (λ (xs : List ℕ). slice_index_or c.args.below.now k false || is_in xs k) (take_all c.loop-contract.contract-index c.args.contracts.now c.loop-contract-test.false)
