-- Asks that don't weigh too much.
use Rattle.std.proofs.Common.{◌≡◌, ℕ, ◌+◌, ◌≤◌, nat_lt, Bool, true, false, if◌then◌else◌, List, [], ◌∷◌, ◌++◌, Some, None, refl, sym, ◌∙◌, arith}
use Rattle.std.specs.List.{All as Each, count_by, enumerate_from, flat_map, sum_by}
use Rattle.std.proofs.lemmas.Bool.{ltb-false}
use Rattle.std.proofs.lemmas.List.Sums.{get_or-le-sum_by, sum_by-cons}
use Rattle.act_job.specs.Weight.{tariff_of, too_much_asked}
use Rattle.act_model.specs.declared.journal.Asked.{Asked}
use Rattle.act_model.specs.declared.journal.Asked.TheVariants.{All, One}
use Rattle.act_model.specs.declared.journal.Line.{Line}
use Rattle.act_model.specs.declared.journal.Step.{Step}
use Rattle.act_model.specs.declared.journal.Step.TheVariants.{Append, Ask}
use Rattle.act_portfolio.specs.Reading.{Accepted}
use Rattle.act_script.specs.Spending.{overweight_behind}
use Rattle.act_script.specs.Weight.{Tariff, WeighedAsk, all_asks, ask_weight, script_asks}
use Rattle.act_script.proofs.Weighing.{in_turn}
use Rattle.act_eval.proofs.Asks.{asks, asks-at-append, asks-at-ask}

-- asks that don't weigh too much are few, since each weighs one at least
pub some-weight : (tariff : Tariff) (asked : Asked) → 1 ≤ ask_weight tariff asked
unfolding ask_weight
some-weight tariff All = omega arith
some-weight tariff (One contract) = omega arith

abbrev IsLight : Tariff → ℕ → List WeighedAsk → ℕ → List Line → Type 0
IsLight tariff script others spent lines = overweight_behind spent (script_asks tariff script lines ++ others) ≡ None

-- once so many asks were weighed, so much is spent: one for each at least, and no more than may be
record Spends (others : List WeighedAsk) (spent count : ℕ) : Type 0 where
  pub left : ℕ
  pub some : spent + count ≤ left
  pub few : left ≤ 4_194_304
  pub light : overweight_behind left others ≡ None

module _ (tariff : Tariff) (script : ℕ) (others : List WeighedAsk) where
  -- what is left once an ask was weighed
  light-past : (spent weight : ℕ) (line : Line) (lines : List Line) (test : Bool) → nat_lt 4_194_304 (spent + weight) ≡ test →
      (if test then Some (script, line.line) else overweight_behind (spent + weight) (script_asks tariff script lines ++ others)) ≡ None → (spent + weight ≤ 4_194_304) × IsLight tariff script others (spent + weight) lines
  light-past spent weight line lines true is light = absurd (cc)
  light-past spent weight line lines false is light = (ltb-false 4_194_304 (spent + weight) is, light)

  few-by-step : (spent : ℕ) (line : Line) (lines : List Line) (step : Step) → line.step ≡ step → spent ≤ 4_194_304 → IsLight tariff script others spent (line ∷ lines)
      → ((s : ℕ) → s ≤ 4_194_304 → IsLight tariff script others s lines → Spends others s (count_by asks lines)) → Spends others spent (count_by asks (line ∷ lines))
  few-by-step spent line lines (Append entry) is within light rest =
      let behind = rest spent within (rw is at light) in
      record { left = behind.left; some = omega (arith, asks-at-append line lines entry is, behind.some); few = behind.few; light = behind.light }
  few-by-step spent line lines (Ask asked) is within light rest =
      let weight = ask_weight tariff asked in
      let past = light-past spent weight line lines (nat_lt 4_194_304 (spent + weight)) refl (rw is at light) in
      let behind = rest (spent + weight) past.0 past.1 in
      record { left = behind.left; some = omega (arith, asks-at-ask line lines asked is, some-weight tariff asked, behind.some); few = behind.few; light = behind.light }

  few-from : (spent : ℕ) (lines : List Line) → spent ≤ 4_194_304 → IsLight tariff script others spent lines → Spends others spent (count_by asks lines)
  few-from spent [] within light = record { left = spent; some = omega arith; few = within; light = light }
  few-from spent (line ∷ lines) within light = few-by-step spent line lines line.step refl within light (λ s. few-from s lines)

few-scripts : (tariff : Tariff) (script spent : ℕ) (lists : List (List Line)) → spent ≤ 4_194_304 → overweight_behind spent (flat_map (λ (one : ℕ × List Line). script_asks tariff one.0 one.1) (enumerate_from script lists)) ≡ None
    → spent + sum_by (count_by asks) lists ≤ 4_194_304
few-scripts tariff script spent [] within light = omega arith
few-scripts tariff script spent (lines ∷ lists) within light =
    let behind = few-from tariff script (flat_map (λ (one : ℕ × List Line). script_asks tariff one.0 one.1) (enumerate_from (script + 1) lists)) spent lines within light in
    omega (arith, sum_by-cons (count_by asks) lines lists, behind.some, few-scripts tariff (script + 1) behind.left lists behind.few behind.light)

-- all scripts have no more
pub few-in-all : (portfolio : Accepted) (lists : List (List Line)) → too_much_asked portfolio lists ≡ None → sum_by (count_by asks) lists ≤ 4_194_304
few-in-all portfolio lists light =
    let tariff = tariff_of portfolio lists in
    omega (arith, few-scripts tariff 1 0 lists (omega arith) (sym (in_turn (all_asks tariff lists)) ∙ light))

-- nor does one of them
pub few-in-each : (portfolio : Accepted) (lists : List (List Line)) → too_much_asked portfolio lists ≡ None → Each (λ lines. count_by asks lines ≤ 4_194_304) lists
few-in-each portfolio lists light k d within = omega (arith, get_or-le-sum_by (count_by asks) lists k d within, few-in-all portfolio lists light)

pub few-asks : (portfolio : Accepted) (lines : List Line) → too_much_asked portfolio (lines ∷ []) ≡ None → count_by asks lines ≤ 4_194_304
few-asks portfolio lines light = few-in-each portfolio (lines ∷ []) light 0 lines (omega arith)
