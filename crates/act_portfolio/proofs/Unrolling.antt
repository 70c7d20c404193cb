-- The run of a contract over those of its children, and the chains of references from it.
use Rattle.std.proofs.Common.{◌≡◌, ℕ, zero, suc, ◌<◌, ◌||◌, Bool, true, false, List, [], ◌∷◌, map, length, slice_get, Some, Ok, refl, sym, ap, ◌∙◌, arith}
use Rattle.std.specs.List.{AllByRecursion, list_any}
use Rattle.std.specs.Option.{unwrap_or}
use Rattle.std.proofs.lemmas.Option.{unwrap_or-slice_get}
use Rattle.act_causality.specs.Causality.{IsWithinDepth, children_at}
use Rattle.act_model.specs.Names.{NameLists}
use Rattle.act_model.specs.Run.{EventPlan, Stream}
use Rattle.act_model.specs.declared.observed.Obs.{Obs}
use Rattle.act_model.specs.declared.terms.Terms.{Terms}
use Rattle.act_profile.specs.Run.{Contracts, deepest, run_of, run_over, run_to, run_where_given}
use Rattle.act_refs.specs.Ordered.{goes_on, order_of}
use Rattle.act_refs.proofs.Ordering.{order_of-short}
use Rattle.act_portfolio.specs.Reading.{IsAccepted}

neither : (a b : Bool) → (a || b) ≡ false → (a ≡ false) × (b ≡ false)
neither true b is = absurd (cc)
neither false b is = (refl, is)

-- ---- chains of references

module _ (contracts : Contracts) where
  none-long : (m c : ℕ) → goes_on contracts.children (suc m) c ≡ false → list_any (goes_on contracts.children m) (children_at contracts c) ≡ false
  unfolding goes_on
  none-long m c short = ap (list_any (goes_on contracts.children m)) (unwrap_or-slice_get contracts.children c []) ∙ short

  always-on : (c : ℕ) → goes_on contracts.children zero c ≡ true
  unfolding goes_on
  always-on c = refl

  all-within : (n : ℕ) (cs : List ℕ) → ((c : ℕ) → goes_on contracts.children n c ≡ false → IsWithinDepth n contracts c) → list_any (goes_on contracts.children n) cs ≡ false → AllByRecursion (IsWithinDepth n contracts) cs
  all-within n [] each short = tt
  all-within n (c ∷ cs) each short =
      let parts = neither (goes_on contracts.children n c) (list_any (goes_on contracts.children n) cs) short in
      (each c parts.0, all-within n cs each parts.1)

  -- where no chain of so many contracts goes on, each has at most so many
  short-within : (n c : ℕ) → goes_on contracts.children n c ≡ false → IsWithinDepth n contracts c
  short-within zero c short = let on = always-on c in absurd (cc)
  short-within (suc n) c short = all-within n (children_at contracts c) (short-within n) (none-long n c short)

-- an accepted portfolio has an order, and so no chain of more than 16
pub within_depth : (names : NameLists) (contracts : Contracts) (order : List ℕ) (unused : List (List (List ℕ))) → IsAccepted names contracts order unused → (c : ℕ) → c < length contracts.terms → IsWithinDepth deepest contracts c
within_depth names contracts order unused accepted c within = short-within contracts deepest c (order_of-short contracts.children order accepted.ordered c (omega (arith, accepted.children)))

-- ---- runs

module _ (contracts : Contracts) (entries : List Obs) where
  each-same : (m : ℕ) (xs : List ℕ) → ((c : ℕ) → goes_on contracts.children m c ≡ false → run_to m contracts entries c ≡ run_to (suc m) contracts entries c) → list_any (goes_on contracts.children m) xs ≡ false
      → map (run_to m contracts entries) xs ≡ map (run_to (suc m) contracts entries) xs
  each-same m [] same short = refl
  each-same m (x ∷ xs) same short =
      let parts = neither (goes_on contracts.children m x) (list_any (goes_on contracts.children m) xs) short in
      ap (λ (r : Stream). r ∷ map (run_to m contracts entries) xs) (same x parts.0) ∙ ap (λ (rs : List Stream). run_to (suc m) contracts entries x ∷ rs) (each-same m xs same parts.1)

  run-next : (m c : ℕ) → run_to (suc m) contracts entries c ≡ run_where_given (slice_get contracts.terms c) (slice_get contracts.plans c) entries (map (run_to m contracts entries) (children_at contracts c))
  unfolding run_to
  run-next m c = refl

  -- one contract more in a chain changes nothing, where no chain is so long
  longer : (m c : ℕ) → goes_on contracts.children m c ≡ false → run_to m contracts entries c ≡ run_to (suc m) contracts entries c
  longer zero c short = let on = always-on contracts c in absurd (cc)
  longer (suc m) c short =
      run-next m c
      ∙ (ap (run_where_given (slice_get contracts.terms c) (slice_get contracts.plans c) entries) (each-same m (children_at contracts c) (longer m) (none-long contracts m c short))
      ∙ sym (run-next (suc m) c))

  pub over-children : (order : List ℕ) (c : ℕ) (terms : Terms) (plan : EventPlan) (list : List ℕ) → order_of contracts.children ≡ Ok order → c < length contracts.children →
      slice_get contracts.terms c ≡ Some terms → slice_get contracts.plans c ≡ Some plan → slice_get contracts.children c ≡ Some list → run_of contracts entries c ≡ run_over terms plan entries (map (run_of contracts entries) list)
  over-children order c terms plan list ordered within of planned refers =
      let short = none-long contracts 15 c (order_of-short contracts.children order ordered c within) in
      let list-is : children_at contracts c ≡ list = ap (λ o. unwrap_or o []) refers in
      run-next 15 c
      ∙ (ap (run_where_given (slice_get contracts.terms c) (slice_get contracts.plans c) entries) (each-same 15 (children_at contracts c) (longer 15) short)
      ∙ rw (of, planned, list-is) refl)
