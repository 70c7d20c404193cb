-- The premises of the law are met.
use Rattle.std.proofs.Common.{◌≡◌, ◌<◌, ℕ, zero, suc, List, [], ◌∷◌, Some, Ok, refl, sym, subst, ◌∙◌, arith}
use Rattle.std.specs.List.{AllByRecursion, slice_get}
use Rattle.act_model.specs.Run.{EventPlan}
use Rattle.act_model.specs.Terms.{Guarantee}
use Rattle.act_model.specs.declared.terms.Capfl.{Capfl}
use Rattle.act_model.specs.declared.terms.Common.{Common}
use Rattle.act_model.specs.declared.terms.Covered.{Covered}
use Rattle.act_model.specs.declared.terms.Kind.TheVariants as kind
use Rattle.act_model.specs.declared.terms.Pam.{Pam}
use Rattle.act_model.specs.declared.terms.Terms.{Terms}
use Rattle.act_profile.specs.Contract.{observed_as}
use Rattle.act_profile.specs.Plan.{plan_of}
use Rattle.act_profile.specs.Run.{Contracts, deepest}
use Rattle.act_causality.specs.Causality.{IsCoveredChild, IsWithinDepth, KnowsChildren, children_at}
use Rattle.act_causality.specs.Example.{FourContractsAreLinked, four_contracts, shadow_of}

-- a plan that is given is the one that was made
planned : (own terms : Terms) (mine plan : EventPlan) → plan_of own ≡ Ok mine → Some own ≡ Some terms → Some mine ≡ Some plan → plan_of terms ≡ Ok plan
planned own terms mine plan is here there =
    let same : own ≡ terms = cc in
    let made : mine ≡ plan = cc in
    rw (← same) (rw (← made) is)

module _ (common : Common) (pam : Pam) (cap_common : Common) (capfl : Capfl) (cover_common : Common) (guarantee : Guarantee) (covered : Covered) (loan cap shadow cover : EventPlan)
    (observed : observed_as common ≡ 0) (covers : guarantee.covered ≡ covered ∷ []) (number : covered.contract ≡ 0) (place : covered.child ≡ 0)
    (loan_is : plan_of (record { common = common; kind = kind.PAM pam }) ≡ Ok loan) (cap_is : plan_of (record { common = cap_common; kind = kind.CAPFL capfl }) ≡ Ok cap)
    (shadow_is : plan_of (shadow_of capfl.life_cap capfl.life_floor common pam) ≡ Ok shadow) (cover_is : plan_of (record { common = cover_common; kind = kind.CEG guarantee }) ≡ Ok cover) where
  abbrev contracts : Contracts
  contracts = four_contracts common pam cap_common capfl cover_common guarantee (loan ∷ cap ∷ shadow ∷ cover ∷ [])

  plans : (c : ℕ) (terms : Terms) (plan : EventPlan) → slice_get contracts.terms c ≡ Some terms → slice_get contracts.plans c ≡ Some plan → plan_of terms ≡ Ok plan
  plans zero terms plan here there = planned (record { common = common; kind = kind.PAM pam }) terms loan plan loan_is here there
  plans (suc zero) terms plan here there = planned (record { common = cap_common; kind = kind.CAPFL capfl }) terms cap plan cap_is here there
  plans (suc (suc zero)) terms plan here there = planned (shadow_of capfl.life_cap capfl.life_floor common pam) terms shadow plan shadow_is here there
  plans (suc (suc (suc zero))) terms plan here there = planned (record { common = cover_common; kind = kind.CEG guarantee }) terms cover plan cover_is here there
  plans (suc (suc (suc (suc c)))) terms plan here there = absurd (cc)

  knows_cap : KnowsChildren contracts (0 ∷ 2 ∷ []) (kind.CAPFL capfl)
  knows_cap = record {
    underlying = 0;
    shadow = 2;
    terms = record { common = common; kind = kind.PAM pam };
    own = shadow_of capfl.life_cap capfl.life_floor common pam;
    both = refl;
    here = refl;
    there = refl;
    is = record { number = 2; events_of = Some 0; cap = capfl.life_cap; floor = capfl.life_floor; common = refl; observed = sym observed; kind = refl };
  }

  covered_child : IsCoveredChild contracts (0 ∷ []) covered
  covered_child = record { number = 0; terms = record { common = common; kind = kind.PAM pam }; child = rw place refl; here = refl; events = number ∙ sym observed }

  knows_cover : KnowsChildren contracts (0 ∷ []) (kind.CEG guarantee)
  knows_cover = subst (λ (some : List Covered). AllByRecursion (IsCoveredChild contracts (0 ∷ [])) some) (sym covers) (covered_child, tt)

  knows : (c : ℕ) (own terms : Terms) → Some own ≡ Some terms → KnowsChildren contracts (children_at contracts c) own.kind → KnowsChildren contracts (children_at contracts c) terms.kind
  knows c own terms here is = let same : own ≡ terms = cc in rw (← same) is

  children : (c : ℕ) (terms : Terms) → slice_get contracts.terms c ≡ Some terms → KnowsChildren contracts (children_at contracts c) terms.kind
  children zero terms here = knows zero (record { common = common; kind = kind.PAM pam }) terms here tt
  children (suc zero) terms here = knows 1 (record { common = cap_common; kind = kind.CAPFL capfl }) terms here knows_cap
  children (suc (suc zero)) terms here = knows 2 (shadow_of capfl.life_cap capfl.life_floor common pam) terms here tt
  children (suc (suc (suc zero))) terms here = knows 3 (record { common = cover_common; kind = kind.CEG guarantee }) terms here knows_cover
  children (suc (suc (suc (suc c)))) terms here = absurd (cc)

  within : (c : ℕ) → c < 4 → IsWithinDepth deepest contracts c
  within zero less = tt
  within (suc zero) less = (tt, (tt, tt))
  within (suc (suc zero)) less = tt
  within (suc (suc (suc zero))) less = (tt, tt)
  within (suc (suc (suc (suc c)))) less = absurd (omega arith)

pub four_contracts_are_linked : FourContractsAreLinked
four_contracts_are_linked common pam cap_common capfl cover_common guarantee covered loan cap shadow cover observed covers number place loan_is cap_is shadow_is cover_is = (
  record {
    plans = plans common pam cap_common capfl cover_common guarantee covered loan cap shadow cover observed covers number place loan_is cap_is shadow_is cover_is;
    children = children common pam cap_common capfl cover_common guarantee covered loan cap shadow cover observed covers number place loan_is cap_is shadow_is cover_is;
  },
  within common pam cap_common capfl cover_common guarantee covered loan cap shadow cover observed covers number place loan_is cap_is shadow_is cover_is,
)
