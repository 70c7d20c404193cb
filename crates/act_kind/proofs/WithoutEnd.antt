-- The dates of a schedule but for its end: at most one fewer.
use Rattle.std.proofs.Common.{◌≡◌, ◌+◌, ◌<◌, ◌≤◌, ℤ, List, length, Some, Err, refl, arith}
use Rattle.std.specs.Option.{ForSome}
use Rattle.act_date.specs.Civil.{IsDay}
use Rattle.act_kind.specs.Types.{IsAnswer}
use Rattle.act_model.specs.declared.run.PlanFault.{PlanFault}
use Rattle.act_model.specs.declared.run.PlanFault.TheVariants.{TooManyDates, DateRange, NoMemory}
use Rattle.act_profile.specs.Dates.{without}
use Rattle.act_sched.proofs.Counts.{length-but_for}
use Rattle.act_sched.specs.Schedule.{LeadsOn, dates_of}
use Rattle.act_sched.specs.declared.schedule.Schedule.{Schedule}

-- what a fault says of the dates, it says of them but for the end
answer_without : (fault : PlanFault) (dates rest : List ℤ) → IsAnswer {A = ℤ} (Err fault) (Some dates) → (fault ≡ TooManyDates → 4096 < length dates) → length dates ≤ length rest + 1 →
    IsAnswer {A = ℤ} (Err fault) (Some rest)
answer_without NoMemory dates rest answer many near = tt
answer_without DateRange dates rest answer many near = cc
answer_without TooManyDates dates rest answer many near = let lt = many refl in omega arith

pub fault_without : (fault : PlanFault) (s : Schedule) → ForSome s.anchor IsDay → LeadsOn s.cycle → IsAnswer {A = ℤ} (Err fault) (Some (dates_of s)) → (fault ≡ TooManyDates → 4096 < length (dates_of s)) →
    IsAnswer {A = ℤ} (Err fault) (Some (without s.end (dates_of s)))
fault_without fault s day some answer many =
    answer_without fault (dates_of s) (without s.end (dates_of s)) answer many (omega (arith, length-but_for s.anchor s.cycle s.end s.rule day some))
