use Rattle.std.proofs.Common.{◌≡◌, Bool, true, false, ◌&&◌, int_eq, nat_eq, rules, sym, ap, ◌∙◌, refl, Some}
use denote.Enum.Bare.{same_true, sameb}
use denote.Enum.Compared.{by}
use Rattle.act_date.specs.contracts.day.Day.{the_inverse as day_of}
use Rattle.act_num.specs.contracts.fixed.Fixed.{the_inverse as fixed_of}
use Rattle.act_model.specs.contracts.journal.Step.{as_values as step_values, enum as step_enum}
use Rattle.act_model.specs.contracts.journal.Asked.{as_values as asked_values, enum as asked_enum}
use Rattle.act_model.specs.contracts.observed.Obs.{as_values as obs_values, enum as obs_enum}
use Rattle.act_model.specs.contracts.observed.ObsKind.{the_type as kind_type}
use Rattle.act_model.specs.declared.journal.Asked.{Asked}
use Rattle.act_model.specs.declared.journal.Asked.TheVariants.{All, One}
use Rattle.act_model.specs.declared.journal.Step.{Step}
use Rattle.act_model.specs.declared.journal.Step.TheVariants.{Append, Ask}
use Rattle.act_model.specs.declared.observed.Obs.{Obs}
use Rattle.act_model.specs.declared.observed.Obs.TheVariants.{Rate, Event}
use Rattle.act_audit.proofs.order.is_step.Goals as goal

abbrev same_obs : Obs → Obs → Bool
same_obs a b = by false false obs_enum.parts (
  λ x y. nat_eq x.0 y.0 && (int_eq (day_of x.1.0).number (day_of y.1.0).number && int_eq (fixed_of x.1.1.0).units (fixed_of y.1.1.0).units),
  (λ x y. nat_eq x.0 y.0 && (sameb kind_type x.1.0 y.1.0 && (int_eq (day_of x.1.1.0).number (day_of y.1.1.0).number && int_eq (fixed_of x.1.1.1.0).units (fixed_of y.1.1.1.0).units)), tt),
)
    (obs_values a) (obs_values b)

abbrev same_asked : Asked → Asked → Bool
same_asked a b = by false false asked_enum.parts (λ x y. true, (λ x y. nat_eq x.0 y.0, tt)) (asked_values a) (asked_values b)

abbrev same_step : Step → Step → Bool
same_step a b = by false false step_enum.parts (λ x y. same_obs x.0 y.0, (λ x y. same_asked x.0 y.0, tt)) (step_values a) (step_values b)

-- both sides of a conjunction
left : (a b : Bool) → (a && b) ≡ true → a ≡ true
left true b is = refl
left false b is = is

right : (a b : Bool) → (a && b) ≡ true → b ≡ true
right true b is = is
right false b is = absurd (cc)

obs : (a b : Obs) → same_obs a b ≡ true → a ≡ b
obs (Rate code day value) (Rate code2 day2 value2) is = search (rules, is)
obs (Rate code day value) (Event contract kind day2 value2) is = absurd (cc)
obs (Event contract kind day value) (Rate code2 day2 value2) is = absurd (cc)
obs (Event contract kind day value) (Event contract2 kind2 day2 value2) is =
    let rest = right (nat_eq contract contract2) _ is in
    let kinds : kind ≡ kind2 = same_true kind_type (search rules) kind kind2 (left _ _ rest) in
    let numbers : Rate contract day value ≡ Rate contract2 day2 value2 = search (rules, left (nat_eq contract contract2) _ is, right (sameb kind_type kind kind2) _ rest) in
    rw kinds (cc)

asked : (a b : Asked) → same_asked a b ≡ true → a ≡ b
asked All All is = refl
asked All (One m) is = absurd (cc)
asked (One n) All is = absurd (cc)
asked (One n) (One m) is = search (rules, is)

step : (a b : Step) → same_step a b ≡ true → a ≡ b
step (Append a) (Append b) is = ap (λ (o : Obs). Append o) (obs a b is)
step (Append a) (Ask b) is = absurd (cc)
step (Ask a) (Append b) is = absurd (cc)
step (Ask a) (Ask b) is = ap (λ (o : Asked). Ask o) (asked a b is)

pub returns-in-Some : goal.returns-in-Some
returns-in-Some c = (λ is. c.in-Some.is ∙ ap (λ (s : Step). Some s) (step c.in-Some.next c.args.step (sym c.eq.ensures ∙ is)), λ same. search (rules, same, c.in-Some.is))
