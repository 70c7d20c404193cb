-- Readings that refuse no file as one that wasn't read.
use Rattle.std.proofs.Common.{ℕ, List, [], ◌∷◌, ◌+◌, length, None, Some, Ok, Err}
use Rattle.act_engine.specs.Reading.{Done, Refuse, and_then}
use Rattle.act_engine.specs.Refusal.{Script as RefusesScript}
use Rattle.act_engine.specs.declared.refusal.ScriptRule.TheVariants.{TooMuchAsked}
use Rattle.act_engine.specs.Telling.{IsRegularReading}
use Rattle.act_engine.proofs.Telling.{regular-then}
use Rattle.act_model.specs.Names.{NameLists}
use Rattle.act_portfolio.specs.Reading.{Accepted, portfolio_of}
use Rattle.act_script.specs.Reading.{Script, script_of}
use Rattle.act_script.specs.declared.fault.ScriptFault.{ScriptFault}
use Rattle.act_script.specs.declared.fault.ScriptFault.TheVariants.{NotLine, UnknownName, EventUnfit, TooManyEntries, NoMemory}
use Rattle.act_job.specs.Job.{Job}
use Rattle.act_job.specs.Reading.{job_reading, next_accepted, next_reading, portfolio_accepted, portfolio_reading, portfolio_refusal, script_accepted, script_refusal, scripts_reading, weighed}
use Rattle.act_job.specs.Scripts.{Scripts, no_scripts, with_script}
use Rattle.act_job.specs.Weight.{too_much_asked}

-- ---- portfolios

pub regular-accepted : (bytes : List ℕ) → IsRegularReading (portfolio_accepted bytes)
unfolding portfolio_accepted
regular-accepted bytes =
    elim (portfolio_of bytes) as (λ found. IsRegularReading {A = Accepted} (elim found [ Ok portfolio ↦ Done portfolio | Err refusal ↦ Refuse (portfolio_refusal refusal) ])) [
      | Ok portfolio ↦ tt
      | Err refusal ↦ tt
    ]

pub regular-portfolio : (name : List ℕ) → IsRegularReading (portfolio_reading name)
regular-portfolio name = regular-accepted

-- ---- scripts

regular-refusal : (number : ℕ) (fault : ScriptFault) → IsRegularReading {A = Script} (Refuse (script_refusal number fault))
regular-refusal number (NotLine line) = tt
regular-refusal number (UnknownName line) = tt
regular-refusal number (EventUnfit line) = tt
regular-refusal number (TooManyEntries line) = tt
regular-refusal number NoMemory = tt

regular-script : (portfolio : Accepted) (number : ℕ) (names : NameLists) (entries : ℕ) (bytes : List ℕ) → IsRegularReading (script_accepted portfolio number names entries bytes)
unfolding script_accepted
regular-script portfolio number names entries bytes =
    elim (script_of bytes names portfolio.contracts.terms entries) as (λ found. IsRegularReading {A = Script} (elim found [ Ok script ↦ Done script | Err fault ↦ Refuse (script_refusal number fault) ])) [
      | Ok script ↦ tt
      | Err fault ↦ regular-refusal number fault
    ]

pub regular-next : (portfolio : Accepted) (scripts : Scripts) (bytes : List ℕ) → IsRegularReading (next_accepted portfolio scripts bytes)
regular-next portfolio scripts bytes =
    regular-then (script_accepted portfolio (length scripts.lists + 1) scripts.names scripts.entries bytes) (λ script. Done (with_script scripts script))
    (regular-script portfolio (length scripts.lists + 1) scripts.names scripts.entries bytes) (λ script. tt)

pub regular-scripts : (portfolio : Accepted) (scripts : Scripts) (names : List (List ℕ)) → IsRegularReading (scripts_reading portfolio scripts names)
regular-scripts portfolio scripts [] = tt
regular-scripts portfolio scripts (name ∷ names) =
    regular-then (next_reading portfolio scripts name) (λ more. scripts_reading portfolio more names) (regular-next portfolio scripts) (λ more. regular-scripts portfolio more names)

-- ---- jobs

pub regular-weighed : (workers : ℕ) (portfolio : Accepted) (scripts : Scripts) → IsRegularReading (weighed workers portfolio scripts)
regular-weighed workers portfolio scripts =
    elim (too_much_asked portfolio scripts.lists) as (λ found. IsRegularReading {A = Job} (elim found [
      | Some ask ↦ Refuse (RefusesScript TooMuchAsked ask.0 ask.1)
      | None ↦ Done (record { portfolio = portfolio; scripts = scripts; workers = workers })
    ])) [
      | Some ask ↦ tt
      | None ↦ tt
    ]

pub regular-job : (workers : ℕ) (portfolio : List ℕ) (scripts : List (List ℕ)) → IsRegularReading (job_reading workers portfolio scripts)
regular-job workers portfolio scripts =
    regular-then (portfolio_reading portfolio) (λ p. and_then (scripts_reading p (no_scripts p) scripts) (weighed workers p)) (regular-portfolio portfolio)
    (λ p. regular-then (scripts_reading p (no_scripts p) scripts) (weighed workers p) (regular-scripts p (no_scripts p) scripts) (regular-weighed workers p))
