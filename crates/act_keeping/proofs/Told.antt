-- What the pairs that are kept tell of a history.
use Rattle.std.proofs.Common.{◌≡◌, ℕ, ◌<◌, true, false, List, [], length, get_or, Some, Result, Ok, Err, inl, inr, refl, sym, ap, subst, ◌∙◌, slice_index_or}
use Rattle.std.specs.Prelude.{IfErr}
use Rattle.std.specs.Arc.{arc_value}
use Rattle.std.specs.List.{Contains, slice_get}
use Rattle.std.proofs.lemmas.Bool.{cases_Bool}
use Rattle.std.proofs.lemmas.List.{get_or_default}
use Rattle.std.proofs.lemmas.Option.{get_or_from_slice_get, slice_get_within}
use Rattle.act_accepted.specs.Accepted.{Accepted}
use Rattle.act_refs.specs.Path.{IsChild}
use Rattle.act_history.specs.History.{History, IsWanted, has_result}
use Rattle.act_keeping.specs.Keeping.{AreSorted, IsAt, IsListed, IsResult, IsThere, Keeps, contract_at, is_done, is_kept}
use Rattle.act_keeping.specs.declared.pair.Pair.{Pair}
use Rattle.act_keeping.specs.declared.pair.Progress.{Progress}
use Rattle.act_keeping.specs.declared.pair.Progress.TheVariants.{Waiting, Claimed, Done, Dropped}
use Rattle.act_keeping.proofs.Ordered.{same-pair}

-- the contract of a rank
pub contract-is : (portfolio : Accepted) (history : History) (r c : ℕ) → history.portfolio ≡ portfolio → slice_get portfolio.order r ≡ Some c → contract_at history r ≡ c
contract-is portfolio history r c of ranked =
    ap (λ (p : Accepted). slice_index_or p.order r 0) of ∙ get_or_from_slice_get portfolio.order r c 0 ranked

pub rank-within : (portfolio : Accepted) (history : History) (r c : ℕ) → history.portfolio ≡ portfolio → slice_get portfolio.order r ≡ Some c → r < length history.portfolio.order
rank-within portfolio history r c of ranked = subst (λ (p : Accepted). r < length p.order) (sym of) (slice_get_within portfolio.order r c ranked)

done-is : (history : History) (c v : ℕ) (p : Progress) → IsAt history c v p → is_done p ≡ has_result history c v
done-is history c v Waiting at = sym at.1
done-is history c v Claimed at = sym at.1
done-is history c v (Done run) at = sym at.0
done-is history c v Dropped at = sym at.0

-- a result that is wanted is kept
kept-so : (history : History) (c v d : ℕ) (p : Progress) → IsAt history c v p → IsWanted history d v → is_done p ≡ true → is_kept p ≡ true
kept-so history c v d Waiting at wanted is = absurd (cc)
kept-so history c v d Claimed at wanted is = absurd (cc)
kept-so history c v d (Done run) at wanted is = refl
kept-so history c v d Dropped at wanted is = absurd (at.1.1 d wanted)

pub result-at : (history : History) (c v : ℕ) (p : Progress) (run : _) → p ≡ Done run → IsAt history c v p → IsResult history c v (arc_value run)
result-at history c v p run is at = (subst (IsAt history c v) is at).1

module _ (portfolio : Accepted) (pairs : List Pair) (history : History) (keeps : Keeps portfolio pairs history) where
  of : history.portfolio ≡ portfolio
  of = keeps.1

  at-of : (k r c v : ℕ) (pair : Pair) → slice_get pairs k ≡ Some pair → pair.version ≡ v → pair.rank ≡ r → slice_get portfolio.order r ≡ Some c → IsAt history c v pair.progress
  at-of k r c v pair at version rank ranked =
      let here = (keeps.0.each pair (k, at)).at in
      let contract : contract_at history pair.rank ≡ c = ap (contract_at history) rank ∙ contract-is portfolio history r c of ranked in
      subst (λ (w : ℕ). IsAt history c w pair.progress) version (subst (λ (d : ℕ). IsAt history d pair.version pair.progress) contract here)

  -- what is found says whether there is a result
  pub result-is : (k r c v : ℕ) (pair : Pair) → slice_get pairs k ≡ Some pair → pair.version ≡ v → pair.rank ≡ r → slice_get portfolio.order r ≡ Some c → is_done pair.progress ≡ has_result history c v
  result-is k r c v pair at version rank ranked = done-is history c v pair.progress (at-of k r c v pair at version rank ranked)

  pub no-result : (r c v : ℕ) → ¬ (IsListed pairs v r) → slice_get portfolio.order r ≡ Some c → false ≡ has_result history c v
  no-result r c v none ranked = elim (cases_Bool (has_result history c v)) [
    | inl is ↦ absurd (none (keeps.0.done v r (rank-within portfolio history r c of ranked) (ap (λ (d : ℕ). has_result history d v) (contract-is portfolio history r c of ranked) ∙ is)))
    | inr none_yet ↦ sym none_yet
  ]

  -- and which
  pub result-there : (k r c v : ℕ) (pair : Pair) (run : _) → slice_get pairs k ≡ Some pair → pair.version ≡ v → pair.rank ≡ r → slice_get portfolio.order r ≡ Some c → pair.progress ≡ Done run → IsResult history c v (arc_value run)
  result-there k r c v pair run at version rank ranked is = result-at history c v pair.progress run is (at-of k r c v pair at version rank ranked)

  -- where there is one it is there
  pub there : (c v d : ℕ) → IsWanted history d v → has_result history c v ≡ true → IsThere portfolio pairs c v
  there c v d wanted is = λ r ranked.
      let listed = keeps.0.done v r (rank-within portfolio history r c of ranked) (ap (λ (d : ℕ). has_result history d v) (contract-is portfolio history r c of ranked) ∙ is) in (
        listed.0,
        listed.1,
        listed.2,
        listed.3,
        kept-so history c v d listed.0.progress (at-of listed.1.0 r c v listed.0 listed.1.1 listed.2 listed.3 ranked) wanted (result-is listed.1.0 r c v listed.0 listed.1.1 listed.2 listed.3 ranked ∙ is),
      )

pub listed-in : (graph : List (List ℕ)) (c k : ℕ) (children : List ℕ) → slice_get graph c ≡ Some children → k < length children → IsChild graph c (get_or children k 0)
listed-in graph c k children refers within =
    subst (λ (xs : List ℕ). Contains xs (get_or children k 0)) (sym (get_or_from_slice_get graph c children [] refers)) (k, within, get_or_default children k (get_or children k 0) 0 within)

-- what is done has a run
pub done-run : (p : Progress) → is_kept p ≡ true → ((run : _) → p ≡ Done run → ⊥) → ⊥
done-run Waiting is not = absurd (cc)
done-run Claimed is not = absurd (cc)
done-run (Done run) is not = not run refl
done-run Dropped is not = absurd (cc)

-- one that is there is found done
pub found-done : (portfolio : Accepted) (pairs : List Pair) (c v r k : ℕ) (pair : Pair) → AreSorted pairs → IsThere portfolio pairs c v → slice_get portfolio.order r ≡ Some c
    → slice_get pairs k ≡ Some pair → pair.version ≡ v → pair.rank ≡ r → is_kept pair.progress ≡ true
found-done portfolio pairs c v r k pair sorted is ranked at version rank =
    let one = is r ranked in
    let same : one.0 ≡ pair = same-pair pairs sorted one.1.0 k one.0 pair one.1.1 at (one.2 ∙ sym version) (one.3 ∙ sym rank) in
    ap (λ (p : Pair). is_kept p.progress) (sym same) ∙ one.4

-- what holds anyway holds of an error
pub told-anyway : {A E : Type 0} (r : Result A E) (P : Type 0) → P → IfErr r (λ _. P)
told-anyway (Ok value) P holds = tt
told-anyway (Err fault) P holds = holds
