-- What is answered once the contracts of all depths up to the limit are settled.
use Rattle.std.proofs.Common.{◌≡◌, ℕ, ◌<◌, ◌≤◌, List, length, get_or, Option, Some, None, IsSome, inl, inr, refl, arith}
use Rattle.std.proofs.lemmas.Bool.{cases_lt}
use Rattle.std.specs.List.{All}
use Rattle.act_refs.specs.Order.{IsFirstTooDeep, IsReferenceOrder, IsTooDeep}
use Rattle.act_refs.specs.Path.{HasDepth, HasNoCycle}
use Rattle.act_refs.specs.Settled.{AreSettled, IsFirstUnknown}
use Rattle.act_refs.proofs.Depths.{apart, no_cycle-depth, not_too_deep, not_too_deep-outside}
use Rattle.act_refs.proofs.Paths.{no_cycle-outside}
use Rattle.act_refs.proofs.Permuting.{permutes_all}
use Rattle.act_refs.proofs.Reaching.{known_within}

some_is : (o : Option ℕ) → IsSome o → (d : ℕ) × (o ≡ Some d)
some_is None some = cc
some_is (Some d) some = (d, refl)

module _ (graph : List (List ℕ)) (depth : ℕ) (depths : List (Option ℕ)) (order : List ℕ) (settled : AreSettled graph depth 0 depths order) where
  below : (c d : ℕ) → get_or depths c None ≡ Some d → HasDepth graph c d × (d < depth)
  below c d some =
      let has = settled.known c d some in
      (has.0, elim has.1 [ inl lt ↦ lt | inr tie ↦ absurd (omega (arith, tie.1)) ])

  module _ (all : All (λ known. IsSome known) depths) where
    depth_of : (c : ℕ) → c < length graph → (d : ℕ) × (get_or depths c None ≡ Some d)
    depth_of c within = some_is (get_or depths c None) (all c None (omega (arith, settled.count)))

    pub settled_order : IsReferenceOrder graph order
    settled_order =
        record {
          depths = λ c within. let some = depth_of c within in (some.0, (below c some.0 some.1).0);
          permutation = permutes_all (length graph) order
              (λ i j d lt within. apart graph (get_or order i d) (get_or order j d) (settled.sorted i j d lt within))
              (λ c within. let some = depth_of c within in settled.each c some.0 some.1)
              (λ k d lt. let some = settled.only k d lt in omega (arith, known_within depths (get_or order k d) some.0 some.1, settled.count));
          sorted = settled.sorted;
        }

    pub settled_no_cycle : HasNoCycle graph
    settled_no_cycle = λ c cycle. elim (cases_lt c (length graph)) [
      | inl within ↦ let some = depth_of c within in no_cycle-depth graph c some.0 (below c some.0 some.1).0 cycle
      | inr outside ↦ no_cycle-outside graph c outside cycle
    ]

    pub settled_shallow : depth ≤ 17 → (c : ℕ) → ¬ (IsTooDeep graph c)
    settled_shallow limit c = λ deep. elim (cases_lt c (length graph)) [
      | inl within ↦
          let some = depth_of c within in
          let has = below c some.0 some.1 in
          not_too_deep graph c some.0 has.0 (omega (arith, has.1)) deep
      | inr outside ↦ not_too_deep-outside graph c outside deep
    ]

  pub settled_deep : (c : ℕ) → depth ≡ 17 → IsFirstUnknown depths c → IsFirstTooDeep graph c
  settled_deep c limit is =
      record {
        deep = (depth, omega arith, settled.ahead c (omega arith) (omega (arith, is.within, settled.count)) is.unknown);
        least = λ other lt deep.
            let some = some_is (get_or depths other None) (is.first other lt) in
            let has = below other some.0 some.1 in
            not_too_deep graph other some.0 has.0 (omega (arith, has.1)) deep;
      }
