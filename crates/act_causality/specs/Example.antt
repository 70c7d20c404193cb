-- A portfolio that meets what the law asks of portfolios: a loan, a cap or floor on it with its shadow, and a guarantee of it.
use Rattle.std.specs.Prelude.{◌≡◌, ℕ, ◌<◌, ℤ, List, [], ◌∷◌, Option, Some, Ok}
use Rattle.act_model.specs.Run.{EventPlan}
use Rattle.act_model.specs.Terms.{Guarantee}
use Rattle.act_model.specs.declared.terms.Capfl.{Capfl}
use Rattle.act_model.specs.declared.terms.Common.{Common}
use Rattle.act_model.specs.declared.terms.Covered.{Covered}
use Rattle.act_model.specs.declared.terms.Kind.TheVariants as kind
use Rattle.act_model.specs.declared.terms.Pam.{Pam}
use Rattle.act_model.specs.declared.terms.Terms.{Terms}
use Rattle.act_profile.specs.Contract.{observed_as}
use Rattle.act_profile.specs.Plan.{plan_of}
use Rattle.act_profile.specs.Run.{Contracts, deepest}
use Rattle.act_causality.specs.Causality.{IsLinked, IsWithinDepth, loan_within}

-- the loan's terms with another cap and floor, as a third contract with the loan's observed events
abbrev pub shadow_of : Option ℤ → Option ℤ → Common → Pam → Terms
shadow_of cap floor common pam = record { common = record common { contract = 2; underlying = Some 0 }; kind = kind.PAM (record pam { loan = loan_within cap floor pam.loan }) }

abbrev pub four_contracts : Common → Pam → Common → Capfl → Common → Guarantee → List EventPlan → Contracts
four_contracts common pam cap_common capfl cover_common guarantee plans = record {
  terms = record { common = common; kind = kind.PAM pam } ∷ record { common = cap_common; kind = kind.CAPFL capfl }
      ∷ shadow_of capfl.life_cap capfl.life_floor common pam ∷ record { common = cover_common; kind = kind.CEG guarantee } ∷ [];
  plans = plans;
  children = [] ∷ (0 ∷ 2 ∷ []) ∷ [] ∷ (0 ∷ []) ∷ [];
}

-- such a portfolio is linked, and its chains of references are short
abbrev pub FourContractsAreLinked : Type 0
FourContractsAreLinked = (common : Common) (pam : Pam) (cap_common : Common) (capfl : Capfl) (cover_common : Common) (guarantee : Guarantee) (covered : Covered) (loan cap shadow cover : EventPlan) →
    observed_as common ≡ 0 → guarantee.covered ≡ covered ∷ [] → covered.contract ≡ 0 → covered.child ≡ 0 →
    plan_of (record { common = common; kind = kind.PAM pam }) ≡ Ok loan → plan_of (record { common = cap_common; kind = kind.CAPFL capfl }) ≡ Ok cap →
    plan_of (shadow_of capfl.life_cap capfl.life_floor common pam) ≡ Ok shadow → plan_of (record { common = cover_common; kind = kind.CEG guarantee }) ≡ Ok cover →
    let contracts = four_contracts common pam cap_common capfl cover_common guarantee (loan ∷ cap ∷ shadow ∷ cover ∷ []) in
    IsLinked contracts × ((c : ℕ) → c < 4 → IsWithinDepth deepest contracts c)
