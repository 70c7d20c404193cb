-- What comes of bytes that are read, and of scripts that are weighed.
use Rattle.std.proofs.Common.{◌≡◌, ◌≢◌, ℕ, List, Option, None, Some, Result, Ok, Err, refl, sym, ap, subst, ◌∙◌}
use Rattle.act_engine.specs.Reading.{Done, Reading, Reads, Refuse, Refused}
use Rattle.act_engine.specs.Refusal.{Script as RefusesScript}
use Rattle.act_engine.specs.declared.refusal.ScriptRule.TheVariants.{TooMuchAsked}
use Rattle.act_engine.proofs.Reading.{reads_refusal, reads_value, want_at_once}
use Rattle.act_io.specs.World.{World}
use Rattle.act_model.specs.Names.{NameLists}
use Rattle.act_portfolio.specs.Reading.{Accepted, portfolio_of}
use Rattle.act_refusal.specs.Refusal.{Refusal as PortfolioRefusal}
use Rattle.act_script.specs.Reading.{Script, script_of}
use Rattle.act_script.specs.declared.fault.ScriptFault.{ScriptFault}
use Rattle.act_script.specs.declared.fault.ScriptFault.TheVariants.{NotLine, UnknownName, EventUnfit, TooManyEntries, NoMemory}
use Rattle.act_job.specs.Job.{Job}
use Rattle.act_job.specs.Reading.{portfolio_accepted, portfolio_refusal, script_accepted, script_halt, script_refusal, weighed}
use Rattle.act_job.specs.Scripts.{Scripts}
use Rattle.act_job.specs.Weight.{too_much_asked}

-- ---- portfolios

-- by what bytes are
abbrev portfolio_by : Result Accepted PortfolioRefusal → Reading Accepted
portfolio_by (Ok portfolio) = Done portfolio
portfolio_by (Err refusal) = Refuse (portfolio_refusal refusal)

by-bytes : (bytes : List ℕ) → portfolio_accepted bytes ≡ portfolio_by (portfolio_of bytes)
unfolding portfolio_accepted
by-bytes bytes = refl

-- bytes that are a portfolio
pub portfolio-there : (bytes : List ℕ) (portfolio : Accepted) (world : World) → portfolio_of bytes ≡ Ok portfolio → Reads (portfolio_accepted bytes) world (Ok portfolio) world
portfolio-there bytes portfolio world is =
    subst (λ (reading : Reading Accepted). Reads reading world (Ok portfolio) world) (sym (by-bytes bytes ∙ ap portfolio_by is)) (reads_value portfolio world)

-- and some that are refused
pub portfolio-refused : (bytes : List ℕ) (refusal : PortfolioRefusal) (world : World) → portfolio_of bytes ≡ Err refusal → Reads (portfolio_accepted bytes) world (Err (Refused (portfolio_refusal refusal))) world
portfolio-refused bytes refusal world is =
    subst (λ (reading : Reading Accepted). Reads reading world (Err (Refused (portfolio_refusal refusal))) world) (sym (by-bytes bytes ∙ ap portfolio_by is))
    (reads_refusal (portfolio_refusal refusal) world)

-- ---- scripts

-- by what bytes are
abbrev script_by : ℕ → Result Script ScriptFault → Reading Script
script_by number (Ok script) = Done script
script_by number (Err fault) = Refuse (script_refusal number fault)

module _ (portfolio : Accepted) (number : ℕ) (names : NameLists) (entries : ℕ) (bytes : List ℕ) (world : World) where
  by-lines : script_accepted portfolio number names entries bytes ≡ script_by number (script_of bytes names portfolio.contracts.terms entries)
  unfolding script_accepted
  by-lines = refl

  -- bytes that are a script
  pub script-there : (script : Script) → script_of bytes names portfolio.contracts.terms entries ≡ Ok script → Reads (script_accepted portfolio number names entries bytes) world (Ok script) world
  script-there script is =
      subst (λ (reading : Reading Script). Reads reading world (Ok script) world) (sym (by-lines ∙ ap (script_by number) is)) (reads_value script world)

  -- and some that are refused
  refused : (fault : ScriptFault) → script_of bytes names portfolio.contracts.terms entries ≡ Err fault
      → Reads (script_accepted portfolio number names entries bytes) world (Err (Refused (script_refusal number fault))) world
  refused fault is =
      subst (λ (reading : Reading Script). Reads reading world (Err (Refused (script_refusal number fault))) world) (sym (by-lines ∙ ap (script_by number) is))
      (reads_refusal (script_refusal number fault) world)

  -- unless memory ran out
  pub script-refused : (fault : ScriptFault) → (fault ≢ NoMemory → script_of bytes names portfolio.contracts.terms entries ≡ Err fault)
      → Reads (script_accepted portfolio number names entries bytes) world (Err (script_halt number fault)) world
  script-refused (NotLine line) is = refused (NotLine line) (is (λ same. cc))
  script-refused (UnknownName line) is = refused (UnknownName line) (is (λ same. cc))
  script-refused (EventUnfit line) is = refused (EventUnfit line) (is (λ same. cc))
  script-refused (TooManyEntries line) is = refused (TooManyEntries line) (is (λ same. cc))
  script-refused NoMemory is = want_at_once (script_accepted portfolio number names entries bytes) world

-- ---- jobs

-- by the ask that is too much
abbrev weighed_by : ℕ → Accepted → Scripts → Option (ℕ × ℕ) → Reading Job
weighed_by workers portfolio scripts (Some ask) = Refuse (RefusesScript TooMuchAsked ask.0 ask.1)
weighed_by workers portfolio scripts None = Done (record { portfolio = portfolio; scripts = scripts; workers = workers })

module _ (workers : ℕ) (portfolio : Accepted) (scripts : Scripts) (world : World) where
  by-weight : weighed workers portfolio scripts ≡ weighed_by workers portfolio scripts (too_much_asked portfolio scripts.lists)
  by-weight = refl

  -- scripts whose asks don't weigh too much
  pub weighed-light : too_much_asked portfolio scripts.lists ≡ None → Reads (weighed workers portfolio scripts) world (Ok (record { portfolio = portfolio; scripts = scripts; workers = workers })) world
  weighed-light light =
      subst (λ (reading : Reading Job). Reads reading world (Ok (record { portfolio = portfolio; scripts = scripts; workers = workers })) world) (sym (by-weight ∙ ap (weighed_by workers portfolio scripts) light))
      (reads_value (record { portfolio = portfolio; scripts = scripts; workers = workers }) world)

  -- and some whose asks do
  pub weighed-heavy : (script line : ℕ) → too_much_asked portfolio scripts.lists ≡ Some (script, line)
      → Reads (weighed workers portfolio scripts) world (Err (Refused (RefusesScript TooMuchAsked script line))) world
  weighed-heavy script line heavy =
      subst (λ (reading : Reading Job). Reads reading world (Err (Refused (RefusesScript TooMuchAsked script line))) world) (sym (by-weight ∙ ap (weighed_by workers portfolio scripts) heavy))
      (reads_refusal (RefusesScript TooMuchAsked script line) world)
