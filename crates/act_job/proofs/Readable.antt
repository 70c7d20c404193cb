-- What is written of scripts can be read.
use Rattle.std.proofs.Common.{◌≡◌, ℕ, ◌<◌, ◌≤◌, false, List, codes, length, sym, subst, arith}
use Rattle.std.specs.List.{All}
use Rattle.std.specs.Str.{bytes_eq}
use Rattle.std.proofs.lemmas.List.Elements.{All-weaker}
use Rattle.act_model.specs.Bounds.{StepIsBounded}
use Rattle.act_model.specs.Names.{AreNames}
use Rattle.act_model.specs.declared.journal.Line.{Line}
use Rattle.act_model.specs.declared.terms.Terms.{Terms}
use Rattle.act_portfolio.specs.Reading.{Accepted}
use Rattle.act_profile.specs.Printable.{AreNamed, ArePrintable}
use Rattle.act_profile.specs.Reads.{codes_of}
use Rattle.act_profile.specs.Run.{Contracts}
use Rattle.act_job.specs.Job.{AreReadable}
use Rattle.act_job.specs.Scripts.{AreScriptsOf, Scripts}

module _ (fewer more currencies : ℕ) (grow : fewer ≤ more) where
  -- what is named stays so with more codes
  more-named : (terms : Terms) → AreNamed fewer currencies terms → AreNamed more currencies terms
  more-named terms named = record {
    codes_read = All-weaker (λ code. code < fewer) (λ code. code < more) (λ code below. omega (arith, below, grow)) (codes_of terms) named.codes_read;
    currency = named.currency;
    settlement = named.settlement;
    other = named.other;
  }

  -- and what can be printed
  more-printable : (contracts : Contracts) → ArePrintable fewer currencies contracts → ArePrintable more currencies contracts
  more-printable contracts are = record {
    planned = are.planned;
    bounded = are.bounded;
    dated = are.dated;
    named = All-weaker (AreNamed fewer currencies) (AreNamed more currencies) more-named contracts.terms are.named;
  }

-- what is written of the scripts of a portfolio can be read
pub readable-are : (portfolio : Accepted) (scripts : Scripts) → AreScriptsOf portfolio scripts
    → ArePrintable (length portfolio.names.codes) (length portfolio.names.currencies) portfolio.contracts
    → All (λ (name : List ℕ). bytes_eq name (codes "*") ≡ false) portfolio.names.contracts
    → AreNames scripts.names.contracts → AreNames scripts.names.codes → AreNames scripts.names.currencies
    → All (All (λ (line : Line). StepIsBounded line.step)) scripts.lists → AreReadable portfolio scripts
readable-are portfolio scripts are printable no_star contracts market currencies bounded = record {
  contracts_named = contracts;
  codes_named = market;
  currencies_named = currencies;
  no_star = subst (All (λ (name : List ℕ). bytes_eq name (codes "*") ≡ false)) (sym are.contracts) no_star;
  printable = subst (λ (names : List (List ℕ)). ArePrintable (length scripts.names.codes) (length names) portfolio.contracts) (sym are.currencies)
      (more-printable (length portfolio.names.codes) (length scripts.names.codes) (length portfolio.names.currencies) are.codes portfolio.contracts printable);
  bounded = bounded;
}
