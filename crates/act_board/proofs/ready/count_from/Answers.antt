use Rattle.std.proofs.Common.{◌≡◌, ℕ, List, [], ◌∷◌, ◌++◌, length, Some, inl, inr, refl, sym, ap, subst, ◌∙◌, arith, slice_index_or}
use Rattle.std.specs.List.{slice_get}
use Rattle.std.proofs.lemmas.Bool.{cases_eq}
use Rattle.std.proofs.lemmas.Option.{same_Some, slice_get_read, slice_get_within}
use Rattle.act_portfolio.specs.Reading.{Accepted}
use Rattle.act_history.specs.History.{History}
use Rattle.act_keeping.specs.Keeping.{contract_at}
use Rattle.act_keeping.specs.Ready.{lacking_of}
use Rattle.act_keeping.specs.declared.pair.Pair.{Pair}
use Rattle.act_keeping.proofs.Freed.{get-push_below}
use Rattle.act_history.proofs.Places.{get-push}
use Rattle.act_board.proofs.ready.count_from.Goals as goal

-- the contract of a pair
contract-read : (portfolio : Accepted) (history : History) (order : List ℕ) (r : ℕ) → history.portfolio ≡ portfolio → order ≡ portfolio.order → slice_index_or order r 0 ≡ contract_at history r
contract-read portfolio history order r of same = ap (λ (xs : List ℕ). slice_index_or xs r 0) same ∙ ap (λ (p : Accepted). slice_index_or p.order r 0) (sym of)

pub loop-place-preserved : goal.loop-place-preserved
loop-place-preserved c =
    let lacking = c.loop-place.lacking.items in
    let place = c.loop-place.place in
    let count = c.lacking_at-count.result in
    let pushed = c.in-Ok.ensures.items in
    record {
      count = omega (arith, c.in-Ok.ensures.len, c.loop-place.invariant.count);
      room = omega (arith, c.loop-place.invariant.room, c.push.ensures.capacity);
      same = λ k lt. ap (λ (xs : List ℕ). slice_get xs k) pushed ∙ (get-push_below lacking count k (omega (arith, lt, c.loop-place.invariant.count, c.loop-place.auto.place)) ∙ c.loop-place.invariant.same k lt);
      counted = λ history keeps k pair from lt at. elim (cases_eq k place) [
        | inr other ↦ ap (λ (xs : List ℕ). slice_get xs k) pushed ∙ (get-push_below lacking count k (omega (arith, lt, other, c.loop-place.invariant.count)) ∙ c.loop-place.invariant.counted history keeps k pair from (omega (arith, lt, other)) at)
        | inl same ↦
            let one = c.index-pairs-place.result in
            let found : slice_get c.args.pairs.now place ≡ Some one = slice_get_read c.args.pairs.now _ place one refl c.loop-place-test.true c.index-pairs-place.is in
            let this : one ≡ pair = same_Some one pair (sym found ∙ (ap (λ (n : ℕ). slice_get c.args.pairs.now n) (sym same) ∙ at)) in
            let contract = contract-read c.args.portfolio.now history c.order-order.result.now one.rank keeps.1 c.order-order.ensures.order in
            let made : count ≡ lacking_of history (contract_at history one.rank) one.version = subst (λ (d : ℕ). count ≡ lacking_of history d one.version) contract (c.lacking_at-count.ensures history keeps) in
            let is : count ≡ lacking_of history (contract_at history pair.rank) pair.version = subst (λ (p : Pair). count ≡ lacking_of history (contract_at history p.rank) p.version) this made in
            let here : k ≡ length lacking = same ∙ sym c.loop-place.invariant.count in
            ap (λ (xs : List ℕ). slice_get xs k) pushed ∙ (ap (λ (n : ℕ). slice_get (lacking ++ count ∷ []) n) here ∙ (get-push lacking count ∙ ap Some is))
      ];
    }

pub returns-clause-counted : goal.returns-clause-counted
returns-clause-counted c = λ history keeps k pair from at.
    c.loop-place.invariant.counted history keeps k pair from (omega (arith, slice_get_within c.args.pairs.now k pair at, c.loop-place-test.false)) at
