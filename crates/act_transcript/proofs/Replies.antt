-- Answers of a board.
use Rattle.std.proofs.Common.{◌≡◌, ℕ, zero, suc, ◌+◌, ◌<◌, ◌≤◌, ◌==◌, true, false, List, [], ◌∷◌, length, take, get_or, inl, inr, refl, ap, ◌∙◌, arith, eq-eqb}
use Rattle.std.specs.List.{All, range_with_len}
use Rattle.std.proofs.lemmas.Bool.{cases_order, ltb-true}
use Rattle.std.proofs.lemmas.List.Elements.{All-map}
use Rattle.std.proofs.lemmas.List.FromFn.{get_or-range_with_len, length-range_with_len}
use Rattle.act_history.specs.History.{History, entries_of, version_of}
use Rattle.act_history.proofs.Reaching.{left-so, right-so}
use Rattle.act_model.specs.Journal.{contracts_of, is_known}
use Rattle.act_model.specs.Names.{NameLists}
use Rattle.act_model.specs.Run.{Stream}
use Rattle.act_model.specs.declared.asks.Asking.{Asking}
use Rattle.act_model.specs.declared.journal.Asked.{Asked}
use Rattle.act_model.specs.declared.journal.Asked.TheVariants as asking
use Rattle.act_model.specs.declared.journal.Step.TheVariants as step
use Rattle.act_model.specs.declared.observed.Obs.{Obs}
use Rattle.act_profile.specs.Answers.{answer_to}
use Rattle.act_profile.specs.Reads.{is_in}
use Rattle.act_profile.specs.Run.{Contracts, run_of}
use Rattle.act_transcript.specs.KnownLines.{IsReplyOn}

-- an answer to an ask over a board's entries
pub reply-on : (board : History) (names : NameLists) (ask : Asking) → ask.version ≤ version_of board → IsReplyOn board (answer_to board.portfolio.contracts names (entries_of board) ask)
reply-on board names ask within =
    record {
      version = within;
      runs = All-map (λ (run : ℕ × Stream). run.1 ≡ run_of board.portfolio.contracts (take ask.version (entries_of board)) run.0) (λ c. (c, run_of board.portfolio.contracts (take ask.version (entries_of board)) c)) (contracts_of names ask.asked) (λ k d below. refl);
    }

-- a number is in a range
in-range : (a m c : ℕ) → a ≤ c → c < a + m → is_in (range_with_len a m) c ≡ true
in-range a zero c from below = absurd (omega arith)
in-range a (suc m) c from below = elim (cases_order a c) [
  | inl here ↦ left-so (a == c) (is_in (range_with_len (a + 1) m) c) (eq-eqb a c here)
  | inr apart ↦ elim apart [
    | inl lt ↦ right-so (a == c) (is_in (range_with_len (a + 1) m) c) (in-range (a + 1) m c (omega arith) (omega arith))
    | inr gt ↦ absurd (omega arith)
  ]
]

-- the contracts asked for are some that have names
pub named-asked : (names : NameLists) (asked : Asked) → is_known names (step.Ask asked) ≡ true → All (λ c. (is_in (contracts_of names asked) c ≡ true) × (c < length names.contracts)) (contracts_of names asked)
named-asked names asking.All known = λ k d within.
    let few : k < length names.contracts = omega (arith, within, length-range_with_len 0 (length names.contracts)) in
    let is = get_or-range_with_len 0 (length names.contracts) k d few in
    let here : get_or (range_with_len 0 (length names.contracts)) k d ≡ k = omega (arith, is) in
    (ap (is_in (range_with_len 0 (length names.contracts))) here ∙ in-range 0 (length names.contracts) k (omega arith) (omega (arith, few)), omega (arith, here, few))
named-asked names (asking.One contract) known = λ k d within. one k d within
  where
    one : (k d : ℕ) → k < 1 → (is_in (contract ∷ []) (get_or (contract ∷ []) k d) ≡ true) × (get_or (contract ∷ []) k d < length names.contracts)
    one zero d within = (left-so (contract == contract) false (eq-eqb contract contract refl), ltb-true contract (length names.contracts) known)
    one (suc k) d within = absurd (omega arith)

-- the runs of an answer are of contracts that have names
pub reply-named : (contracts : Contracts) (names : NameLists) (entries : List Obs) (ask : Asking) → is_known names (step.Ask ask.asked) ≡ true → All (λ (run : ℕ × Stream). run.0 < length names.contracts) (answer_to contracts names entries ask).runs
reply-named contracts names entries ask known =
    All-map (λ (run : ℕ × Stream). run.0 < length names.contracts) (λ c. (c, run_of contracts (take ask.version entries) c)) (contracts_of names ask.asked)
    (λ k d within. (named-asked names ask.asked known k d within).1)
