use Rattle.std.proofs.Common.{◌<◌, false, length, inl, inr, sym, ◌∙◌, arith}
use Rattle.std.proofs.lemmas.Bool.{cases_eq, cases_lt}
use Rattle.std.proofs.lemmas.List.{get_or_default}
use Rattle.std.proofs.lemmas.Option.{MatchOption-at_none, MatchOption-at_some}
use Rattle.act_refs.specs.Path.{OnCycle, child_lists}
use Rattle.act_refs.proofs.Paths.{length-child_lists, no_cycle-outside}
use Rattle.act_refs.proofs.cycle.reported_cycle.Goals as goal
use Rattle.act_refs.proofs.cycle.reported_cycle.Goals.{then-not-index+in_ok-found+in_default, else-not-index}

pub peeled_both_ways-requires-clause-turned : goal.peeled_both_ways-requires-clause-turned
peeled_both_ways-requires-clause-turned c = rw c.deref.ensures.value (c.in_ok-parents.ensures).turned

pub cycle_at-requires-clause-turned : goal.cycle_at-requires-clause-turned
cycle_at-requires-clause-turned c = rw c.deref-then-not-index.ensures.value (c.in_ok-parents.ensures).turned

pub contracts-preserved : goal.contracts-preserved
contracts-preserved c = λ contract lt. elim (cases_eq contract c.contracts.contract) [
  | inl same ↦ rw same (elim c.if-not-index.branch [
    | then-not-index+in_ok-found+in_default w ↦ MatchOption-at_none (¬ (OnCycle (child_lists c.args.children.now) c.contracts.contract)) (λ _. OnCycle (child_lists c.args.children.now) c.contracts.contract) w.in_default.is (w.in_ok-found.ensures).on_cycle
    | else-not-index w ↦
        let within : c.contracts.contract < length c.in_ok-peeled.peeled.items = omega (arith, (c.in_ok-peeled.ensures).count) in
        (c.in_ok-peeled.ensures).peeled c.contracts.contract (get_or_default c.in_ok-peeled.peeled.items c.contracts.contract false c.index.result.now within ∙ sym c.index.ensures ∙ w.if-not-index.false)
  ])
  | inr other ↦ c.contracts.invariant contract (omega arith)
]

pub returns : goal.returns
returns c = λ contract cycle. elim (cases_lt contract c.contracts.contract) [
  | inl lt ↦ c.contracts.invariant contract lt cycle
  | inr le ↦
      let size = length-child_lists c.args.children.now in
      no_cycle-outside (child_lists c.args.children.now) contract (omega arith) cycle
]

pub returns-in-Some : goal.returns-in-Some
returns-in-Some c = record {
  start = c.contracts.contract;
  on_cycle = MatchOption-at_some (¬ (OnCycle (child_lists c.args.children.now) c.contracts.contract)) (λ _. OnCycle (child_lists c.args.children.now) c.contracts.contract) c.in-Some.cycle c.in-Some.is (c.in_ok-found.ensures).on_cycle;
  least = c.contracts.invariant;
  way = rw c.in-Some.is at (c.in_ok-found.ensures).way;
}
