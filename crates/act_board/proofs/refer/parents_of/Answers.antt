use Rattle.std.proofs.Common.{◌≡◌, ℕ, List, length, sym, ap, subst, ◌∙◌, arith}
use Rattle.std.proofs.lemmas.Option.{get_or_from_slice_get}
use Rattle.act_refs.specs.Path.{child_lists, children_of}
use Rattle.act_refs.proofs.Paths.{length-child_lists}
use Rattle.act_refs.proofs.Turning.{written_back}
use Rattle.act_keeping.specs.Ready.{AddsTimes}
use Rattle.act_keeping.proofs.Referring.{below-all, below-more, below-none}
use Rattle.act_board.proofs.refer.parents_of.Goals as goal

pub contracts-init : goal.contracts-init
contracts-init c =
    let count : length c.in_ok-parents.parents.items ≡ length c.args.portfolio.now.contracts.terms = c.in_ok-parents.ensures.count ∙ ap length c.terms-count.ensures.terms in
    record {
      count = count;
      below = below-none c.args.portfolio.now.contracts.children c.in_ok-parents.parents.items (count ∙ sym c.contracts_are_linked.ensures.count) c.in_ok-parents.ensures.empty;
    }

pub contracts-preserved : goal.contracts-preserved
contracts-preserved c =
    let children = c.args.portfolio.now.contracts.children in
    let before = c.contracts.parents.items in
    let after = c.add_parent.new.parents in
    let e = c.contracts.contract in
    let own : c.children-children.result.now ≡ children_of children e = sym (get_or_from_slice_get children e c.children-children.result.now _ c.children-children.ensures.children) in
    let adds = subst (λ (xs : List ℕ). AddsTimes (child_lists before) (child_lists after) xs e) own (rw c.deref_mut.ensures.value at c.in_ok-add_parent.ensures) in
    let same : length after ≡ length before = omega (arith, adds.count, length-child_lists before, length-child_lists after) in
    rw (written_back c.contracts.parents.len after before same (sym c.deref_mut.ensures.len ∙ ap length c.deref_mut.ensures.value)) (record {
      count = same ∙ c.contracts.invariant.count;
      below = below-more children (child_lists before) (child_lists after) e c.contracts.invariant.below adds;
    })

pub returns : goal.returns
returns c =
    below-all c.args.portfolio.now.contracts.children (child_lists c.contracts.parents.items) c.contracts.contract (omega (arith, c.contracts-test.false, ap length c.terms-count.ensures.terms, c.contracts_are_linked.ensures.count)) c.contracts.invariant.below
