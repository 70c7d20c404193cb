-- What is to be run. This profile's own.
use Rattle.std.specs.Prelude.{◌≡◌, ◌≤◌, ℕ, false, List, codes, length, None}
use Rattle.std.specs.List.{All}
use Rattle.std.specs.Str.{bytes_eq}
use Rattle.act_portfolio.specs.Reading.{Accepted}
use Rattle.act_model.specs.Bounds.{StepIsBounded}
use Rattle.act_model.specs.Limits.{most_callers, most_workers}
use Rattle.act_model.specs.Names.{AreNames}
use Rattle.act_model.specs.declared.journal.Line.{Line}
use Rattle.act_profile.specs.Printable.{ArePrintable}
use Rattle.act_job.specs.Scripts.{AreScriptsOf, Scripts}
use Rattle.act_job.specs.Weight.{too_much_asked}

-- a portfolio, the scripts of its callers, and how many workers there are: none where one thread does all
pub record Job : Type 0 where
  pub portfolio : Accepted
  pub scripts : Scripts
  pub workers : ℕ

-- what a portfolio and scripts have so that what is written of them can be read: their names are names, no contract's is `*`, what the contracts
-- name is named, and days and amounts are those that there may be
pub record AreReadable (portfolio : Accepted) (scripts : Scripts) : Type 0 where
  pub contracts_named : AreNames scripts.names.contracts
  pub codes_named : AreNames scripts.names.codes
  pub currencies_named : AreNames scripts.names.currencies
  pub no_star : All (λ (name : List ℕ). bytes_eq name (codes "*") ≡ false) scripts.names.contracts
  pub printable : ArePrintable (length scripts.names.codes) (length scripts.names.currencies) portfolio.contracts
  pub bounded : All (All (λ (line : Line). StepIsBounded line.step)) scripts.lists

-- there are no more callers and workers than there may be, the scripts are of the portfolio, their asks don't weigh too much, and what is
-- written of them can be read
pub record IsRunnable (portfolio : Accepted) (scripts : Scripts) (workers : ℕ) : Type 0 where
  pub few_scripts : length scripts.lists ≤ most_callers
  pub few_workers : workers ≤ most_workers
  pub lines : AreScriptsOf portfolio scripts
  pub light : too_much_asked portfolio scripts.lists ≡ None
  pub readable : AreReadable portfolio scripts
