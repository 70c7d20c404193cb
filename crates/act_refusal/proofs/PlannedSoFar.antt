-- The plans of contracts, made one by one.
use Rattle.std.proofs.Common.{◌≡◌, ℕ, zero, suc, ◌+◌, List, [], ◌∷◌, ◌++◌, Result, Ok, Err, refl, ap, sym, ◌∙◌, add-one, append_assoc, append-nil, map}
use Rattle.act_model.specs.Run.{EventPlan}
use Rattle.act_model.specs.declared.run.PlanFault.{PlanFault}
use Rattle.act_model.specs.declared.terms.Terms.{Terms}
use Rattle.act_profile.specs.Outcomes.{then_ok}
use Rattle.act_profile.specs.Plan.{plan_of}
use Rattle.act_refusal.specs.Steps.{plans_from}
use Rattle.act_refusal.specs.Refusal.{Refusal, refused_plan, refusing}

abbrev pub Plans : Type 0
Plans = Result (List EventPlan) Refusal

-- what is planned behind some plans
abbrev pub behind : List EventPlan → Plans → Plans
behind plans (Ok more) = Ok (plans ++ more)
behind plans (Err refusal) = Err refusal

behind-nil : (r : Plans) → r ≡ behind [] r
behind-nil (Ok more) = refl
behind-nil (Err refusal) = refl

behind-behind : (plans : List EventPlan) (plan : EventPlan) (r : Plans) → behind plans (behind (plan ∷ []) r) ≡ behind (plans ++ plan ∷ []) r
behind-behind plans plan (Ok more) = ap Ok (sym (append_assoc plans (plan ∷ []) more))
behind-behind plans plan (Err refusal) = refl

-- the terms up to a place have these plans, and those from there on are left
pub record IsPlannedTo (terms left : List Terms) (plans : List EventPlan) (i : ℕ) : Type 0 where
  pub is : plans_from zero terms ≡ behind plans (plans_from i left)

pub none_planned : (terms : List Terms) → IsPlannedTo terms terms [] 0
none_planned terms = record { is = behind-nil _ }

with_rest : (plan : EventPlan) (r : Plans) → then_ok (λ rest. Ok (plan ∷ rest)) r ≡ behind (plan ∷ []) r
with_rest plan (Ok more) = refl
with_rest plan (Err refusal) = refl

first_planned : (i : ℕ) (terms : Terms) (more : List Terms) (plan : EventPlan) → plan_of terms ≡ Ok plan → plans_from i (terms ∷ more) ≡ behind (plan ∷ []) (plans_from (suc i) more)
unfolding plans_from
first_planned i terms more plan is = rw is (with_rest plan (plans_from (suc i) more))

pub one_planned : (terms left more : List Terms) (plans : List EventPlan) (i : ℕ) (here : Terms) (plan : EventPlan) → IsPlannedTo terms left plans i → left ≡ here ∷ more → plan_of here ≡ Ok plan → IsPlannedTo terms more (plans ++ plan ∷ []) (i + 1)
one_planned terms left more plans i here plan so_far first is = record {
  is = so_far.is ∙ ap (behind plans) (ap (plans_from i) first ∙ first_planned i here more plan is) ∙ behind-behind plans plan _ ∙ ap (λ n. behind (plans ++ plan ∷ []) (plans_from n more)) (sym (add-one i));
}

first_refused : (i : ℕ) (terms : Terms) (more : List Terms) (refusal : Refusal) → refusing (refused_plan i) (plan_of terms) ≡ Err refusal → plans_from i (terms ∷ more) ≡ Err refusal
unfolding plans_from
first_refused i terms more refusal is = rw is refl

pub one_refused : (terms left more : List Terms) (plans : List EventPlan) (i : ℕ) (here : Terms) (refusal : Refusal) → IsPlannedTo terms left plans i → left ≡ here ∷ more → refusing (refused_plan i) (plan_of here) ≡ Err refusal
    → plans_from zero terms ≡ Err refusal
one_refused terms left more plans i here refusal so_far first is =
    so_far.is ∙ ap (behind plans) (ap (plans_from i) first ∙ first_refused i here more refusal is)

none_more : (i : ℕ) → plans_from i [] ≡ Ok []
unfolding plans_from
none_more i = refl

pub all_planned : (terms left : List Terms) (plans : List EventPlan) (i : ℕ) → IsPlannedTo terms left plans i → left ≡ [] → plans_from zero terms ≡ Ok plans
all_planned terms left plans i so_far none =
    so_far.is ∙ ap (behind plans) (ap (plans_from i) none ∙ none_more i) ∙ ap Ok (append-nil plans)

-- planned terms have the plans that are theirs
by_others : (first : Terms) (terms : List Terms) (i : ℕ) (plan : EventPlan) (plans : List EventPlan) → plan_of first ≡ Ok plan → ((others : List EventPlan) → plans_from i terms ≡ Ok others → map plan_of terms ≡ map Ok others)
    → (others : Plans) → plans_from i terms ≡ others → then_ok (λ rest. Ok (plan ∷ rest)) others ≡ Ok plans → map plan_of (first ∷ terms) ≡ map Ok plans
by_others first terms i plan plans one others_are (Err refusal) are is = absurd (cc)
by_others first terms i plan plans one others_are (Ok others) are is =
    let e : plan ∷ others ≡ plans = cc in rw (← e, one, others_are others are) refl

by_first : (first : Terms) (terms : List Terms) (i : ℕ) (plans : List EventPlan) → ((others : List EventPlan) → plans_from (suc i) terms ≡ Ok others → map plan_of terms ≡ map Ok others)
    → (plan : Result EventPlan PlanFault) → plan_of first ≡ plan → then_ok (λ plan. then_ok (λ rest. Ok (plan ∷ rest)) (plans_from (suc i) terms)) (refusing (refused_plan i) plan) ≡ Ok plans → map plan_of (first ∷ terms) ≡ map Ok plans
by_first first terms i plans others_are (Err fault) one is = absurd (cc)
by_first first terms i plans others_are (Ok plan) one is = by_others first terms (suc i) plan plans one others_are (plans_from (suc i) terms) refl is

pub each_planned : (terms : List Terms) (i : ℕ) (plans : List EventPlan) → plans_from i terms ≡ Ok plans → map plan_of terms ≡ map Ok plans
unfolding plans_from
each_planned [] i plans is = let e : [] ≡ plans = cc in rw (← e) refl
each_planned (first ∷ terms) i plans is = by_first first terms i plans (each_planned terms (suc i)) (plan_of first) refl is
