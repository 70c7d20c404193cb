use Rattle.std.proofs.Common.{◌≡◌, not, true, false, ℕ, List, [], get_or, take, sym, ap, ◌∙◌, arith}
use Rattle.std.specs.List.{count_by}
use Rattle.std.proofs.lemmas.List.{take_all}
use Rattle.std.proofs.lemmas.List.Sums.{count_by_more_no, count_by_more_yes}
use Rattle.std.proofs.lemmas.Option.{get_or_from_slice_get}
use Rattle.act_portfolio.specs.Reading.{Accepted}
use Rattle.act_refs.specs.Path.{children_of}
use Rattle.act_history.specs.History.{has_result}
use Rattle.act_board.proofs.ready.lacking_at.Goals as goal
use Rattle.act_board.proofs.ready.lacking_at.Goals.{then-not-has_result, else-not-has_result}

pub loop-child-preserved : goal.loop-child-preserved
loop-child-preserved c =
    let children = c.children-children.result.now in
    let i = c.loop-child.child-index in
    elim c.if-not-has_result.branch [
      | then-not-has_result w ↦
          record {
            few = omega (arith, w.count-is, c.loop-child.invariant.few);
            counted = λ history keeps.
                let lacks : not (has_result history (get_or children i 0) c.args.version) ≡ true = ap not (sym (c.has_result.ensures history keeps) ∙ w.if-not-has_result.true) in
                omega (arith, w.count-is, c.loop-child.invariant.counted history keeps, count_by_more_yes (λ child. not (has_result history child c.args.version)) children i 0 c.loop-child-test.true lacks);
          }
      | else-not-has_result w ↦
          record {
            few = omega (arith, w.count-is, c.loop-child.invariant.few);
            counted = λ history keeps.
                let has : not (has_result history (get_or children i 0) c.args.version) ≡ false = ap not (sym (c.has_result.ensures history keeps) ∙ w.if-not-has_result.false) in
                omega (arith, w.count-is, c.loop-child.invariant.counted history keeps, count_by_more_no (λ child. not (has_result history child c.args.version)) children i 0 c.loop-child-test.true has);
          }
    ]

pub returns : goal.returns
returns c = λ history keeps.
    let children = c.children-children.result.now in
    let whole : take c.loop-child.child-index children ≡ children = take_all c.loop-child.child-index children (omega (arith, c.loop-child-test.false)) in
    let own : children_of history.portfolio.contracts.children c.args.contract ≡ children =
    ap (λ (p : Accepted). children_of p.contracts.children c.args.contract) keeps.1 ∙ get_or_from_slice_get c.args.portfolio.now.contracts.children c.args.contract children [] c.children-children.ensures.children in
    c.loop-child.invariant.counted history keeps ∙ ap (λ (xs : List ℕ). count_by (λ child. not (has_result history child c.args.version)) xs) (whole ∙ sym own)
