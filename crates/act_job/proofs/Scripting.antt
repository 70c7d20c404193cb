-- What is true of scripts that were read.
use Rattle.std.proofs.Common.{◌≡◌, ℕ, ◌+◌, true, [], ◌∷◌, length, refl, sym, ap, ◌∙◌, arith}
use Rattle.std.specs.List.{All, count_by}
use Rattle.std.proofs.lemmas.Bool.{lt-ltb, ltb-true}
use Rattle.std.proofs.lemmas.List.{length-append}
use Rattle.std.proofs.lemmas.List.Elements.{All-nil, All-push}
use Rattle.std.proofs.lemmas.List.Sums.{sum_by_push}
use Rattle.act_model.specs.Journal.{appends_entry, is_append, is_known}
use Rattle.act_model.specs.Names.{NameLists}
use Rattle.act_model.specs.declared.journal.Asked.TheVariants.{All as EachOne, One}
use Rattle.act_model.specs.declared.journal.Line.{Line}
use Rattle.act_model.specs.declared.journal.Step.{Step}
use Rattle.act_model.specs.declared.journal.Step.TheVariants.{Append, Ask}
use Rattle.act_model.specs.declared.observed.Obs.TheVariants.{Event, Rate}
use Rattle.act_portfolio.specs.Reading.{Accepted}
use Rattle.act_script.specs.Asks.{AsksBelow}
use Rattle.act_script.specs.Reading.{AddsCodes, Script}
use Rattle.act_job.specs.Scripts.{AreScriptsOf, IsReadBehind, Scripts, ask_for_all, no_scripts, with_script}
use Rattle.act_job.proofs.Asking.{all-one, asks-below}

-- what a step names is still named where codes are added
more-known : (old new : NameLists) → AddsCodes old new → (step : Step) → is_known old step ≡ true → is_known new step ≡ true
more-known old new added (Append (Rate code day value)) known =
    lt-ltb code (length new.codes) (omega (arith, ltb-true code (length old.codes) known, ap length added.codes.1, length-append old.codes added.codes.0))
more-known old new added (Append (Event contract kind day value)) known = rw added.contracts known
more-known old new added (Ask EachOne) known = refl
more-known old new added (Ask (One contract)) known = rw added.contracts known

-- before the first script
pub none-are : (portfolio : Accepted) → AreScriptsOf portfolio (no_scripts portfolio)
none-are portfolio = record { contracts = refl; currencies = refl; codes = omega arith; known = All-nil (All (λ (line : Line). is_known portfolio.names line.step ≡ true)); entries = All-nil (All (λ (line : Line). appends_entry line.step ≡ true)); counted = refl; few = omega arith }

-- with one that was read behind them
pub more-are : (portfolio : Accepted) (scripts : Scripts) (script : Script) → AreScriptsOf portfolio scripts → IsReadBehind scripts.names scripts.entries script → AreScriptsOf portfolio (with_script scripts script)
more-are portfolio scripts script are read = record {
  contracts = read.added.contracts ∙ are.contracts;
  currencies = read.added.currencies ∙ are.currencies;
  codes = omega (arith, are.codes, ap length read.added.codes.1, length-append scripts.names.codes read.added.codes.0);
  known = All-push (All (λ (line : Line). is_known script.names line.step ≡ true)) scripts.lists script.lines (λ k d within. λ j e below. more-known scripts.names script.names read.added _ (are.known k d within j e below)) read.known;
  entries = All-push (All (λ (line : Line). appends_entry line.step ≡ true)) scripts.lists script.lines are.entries read.entries;
  counted = read.counted ∙ (ap (λ (n : ℕ). n + count_by (λ (line : Line). is_append line.step) script.lines) are.counted
      ∙ sym (sum_by_push (count_by (λ (line : Line). is_append line.step)) scripts.lists script.lines));
  few = read.few;
}

-- the one script that asks once for all contracts
pub ask-are : (portfolio : Accepted) → AreScriptsOf portfolio (ask_for_all portfolio)
ask-are portfolio =
    let ask : Line = record { step = Ask EachOne; line = 1 } in
    record {
      contracts = refl;
      currencies = refl;
      codes = omega arith;
      known = all-one (All (λ (line : Line). is_known portfolio.names line.step ≡ true)) (ask ∷ []) (all-one (λ (line : Line). is_known portfolio.names line.step ≡ true) ask refl);
      entries = all-one (All (λ (line : Line). appends_entry line.step ≡ true)) (ask ∷ []) (all-one (λ (line : Line). appends_entry line.step ≡ true) ask refl);
      counted = refl;
      few = omega arith;
    }

-- asks are for contracts that have a name
pub scripts-below : (portfolio : Accepted) (scripts : Scripts) → AreScriptsOf portfolio scripts → All (AsksBelow (length portfolio.names.contracts)) scripts.lists
scripts-below portfolio scripts are k d within = asks-below scripts.names _ _ (ap length are.contracts) (are.known k d within)
