-- What files are read as: portfolios, scripts and jobs. This profile's own.
use Rattle.std.specs.Prelude.{ℕ, ◌+◌, List, [], ◌∷◌, length, Some, None, Ok, Err}
use Rattle.act_model.specs.Limits.{most_bytes}
use Rattle.act_model.specs.Names.{NameLists}
use Rattle.act_portfolio.specs.Reading.{Accepted, portfolio_of}
use Rattle.act_refusal.specs.Refusal.{Refusal as PortfolioRefusal}
use Rattle.act_script.specs.Reading.{Script, script_of}
use Rattle.act_script.specs.declared.fault.ScriptFault.{ScriptFault}
use Rattle.act_script.specs.declared.fault.ScriptFault.TheVariants as fault
use Rattle.act_engine.specs.Reading.{Done, Halt, Reading, Refuse, Refused, Stopped, and_then, file_reading}
use Rattle.act_engine.specs.Refusal.{Portfolio as RefusesPortfolio, Refusal, Script as RefusesScript}
use Rattle.act_engine.specs.declared.refusal.ScriptRule.TheVariants.{NotLine, UnknownName, EventUnfit, TooManyEntries, TooMuchAsked}
use Rattle.act_engine.specs.declared.writing.Failure.TheVariants.{Memory}
use Rattle.act_job.specs.Job.{Job}
use Rattle.act_job.specs.Scripts.{Scripts, no_scripts, with_script}
use Rattle.act_job.specs.Weight.{too_much_asked}

-- ---- portfolios

-- the refusal of a portfolio
abbrev pub portfolio_refusal : PortfolioRefusal → Refusal
portfolio_refusal refusal = RefusesPortfolio refusal.number refusal.place refusal.what

-- the portfolio that bytes are
unfoldable pub portfolio_accepted : List ℕ → Reading Accepted
portfolio_accepted bytes = elim (portfolio_of bytes) [
  | Ok portfolio ↦ Done portfolio
  | Err refusal ↦ Refuse (portfolio_refusal refusal)
]

-- the portfolio of the file of a name
abbrev pub portfolio_reading : List ℕ → Reading Accepted
portfolio_reading name = and_then (file_reading name most_bytes) portfolio_accepted

-- ---- scripts

-- the refusal of the script of that number by its fault. Want of memory is no refusal, and no bytes are refused by it
abbrev pub script_refusal : ℕ → ScriptFault → Refusal
script_refusal script (fault.NotLine line) = RefusesScript NotLine script line
script_refusal script (fault.UnknownName line) = RefusesScript UnknownName script line
script_refusal script (fault.EventUnfit line) = RefusesScript EventUnfit script line
script_refusal script (fault.TooManyEntries line) = RefusesScript TooManyEntries script line
script_refusal script fault.NoMemory = RefusesScript NotLine script 0

-- the script of that number that bytes are, read with the names and behind the entries of those before it
unfoldable pub script_accepted : Accepted → ℕ → NameLists → ℕ → List ℕ → Reading Script
script_accepted portfolio number names entries bytes = elim (script_of bytes names portfolio.contracts.terms entries) [
  | Ok script ↦ Done script
  | Err fault ↦ Refuse (script_refusal number fault)
]

-- the script that bytes are, read behind others
abbrev pub next_accepted : Accepted → Scripts → List ℕ → Reading Scripts
next_accepted portfolio scripts bytes =
    and_then (script_accepted portfolio (length scripts.lists + 1) scripts.names scripts.entries bytes) (λ script. Done (with_script scripts script))

-- these scripts and the one of the file of a name behind them
abbrev pub next_reading : Accepted → Scripts → List ℕ → Reading Scripts
next_reading portfolio scripts name = and_then (file_reading name most_bytes) (next_accepted portfolio scripts)

-- these scripts and those of further files, each of which is read before the next one is asked for
abbrev pub scripts_reading : Accepted → Scripts → List (List ℕ) → Reading Scripts
scripts_reading portfolio scripts [] = Done scripts
scripts_reading portfolio scripts (name ∷ names) = and_then (next_reading portfolio scripts name) (λ more. scripts_reading portfolio more names)

-- ---- jobs

-- what is to be run of scripts with so many workers, unless their asks weigh too much
abbrev pub weighed : ℕ → Accepted → Scripts → Reading Job
weighed workers portfolio scripts = elim (too_much_asked portfolio scripts.lists) [
  | Some ask ↦ Refuse (RefusesScript TooMuchAsked ask.0 ask.1)
  | None ↦ Done (record { portfolio = portfolio; scripts = scripts; workers = workers })
]

-- what is to be run of the files of these names
abbrev pub job_reading : ℕ → List ℕ → List (List ℕ) → Reading Job
job_reading workers portfolio scripts =
    and_then (portfolio_reading portfolio) (λ p. and_then (scripts_reading p (no_scripts p) scripts) (weighed workers p))

-- ---- on the way

-- the halt of a script's fault: its refusal, or want of memory
abbrev pub script_halt : ℕ → ScriptFault → Halt
script_halt script fault.NoMemory = Stopped Memory
script_halt script other = Refused (script_refusal script other)
