-- What the closed board and the answers are, where each caller has made its lines.
use Rattle.std.proofs.Common.{◌≡◌, ℕ, zero, suc, ◌+◌, ◌-◌, ◌≤◌, List, [], length, Some, inl, inr, refl, sym, ap, subst, ◌∙◌, arith}
use Rattle.std.specs.Prelude.{Vec, map}
use Rattle.std.specs.List.{All, count_by, flat_map, range_with_len, slice_get}
use Rattle.std.specs.declared.alloc.Global.{Global}
use Rattle.std.proofs.lemmas.List.{length-map}
use Rattle.std.proofs.lemmas.Option.{slice_get_cases, slice_get_within}
use Rattle.std.proofs.lemmas.Simd.{map-map}
use Rattle.act_model.specs.Answer.{Reply}
use Rattle.act_model.specs.Asks.{asks_of, caller_asks}
use Rattle.act_model.specs.declared.asks.Asking.{Asking}
use Rattle.act_model.specs.declared.journal.Item.{Item}
use Rattle.act_model.specs.declared.journal.Line.{Line}
use Rattle.act_profile.specs.Answers.{answer_to, answers_of}
use Rattle.act_portfolio.specs.Reading.{Accepted}
use Rattle.act_history.specs.History.{History, entries_of, journal_of, replies_of}
use Rattle.act_history.specs.Legal.{IsSound}
use Rattle.act_model.specs.Limits.{most_callers}
use Rattle.act_desk.specs.Making.{appends, item_by}
use Rattle.act_session.specs.Playing.{AreOwn, IsPlayed, answers_by, quotas_of}
use Rattle.act_session.proofs.Lists.{joined-by_number, map-joined, mapped-by_number}
use Rattle.act_session.proofs.Marks.{IsWithin, items-within, none-behind}
use Rattle.act_session.proofs.Played.{HasAll}

-- the asks of a journal by the numbers of the callers
asks-by_number : (items : List Item) → asks_of items ≡ flat_map (caller_asks items) (range_with_len 1 16)
unfolding asks_of
asks-by_number items = refl

module _ {A : Type 0} {kept_of : Reply → A} (of : Accepted) (scripts : List (List Line)) (answers : List (Vec A Global)) (board : History) (few : length scripts ≤ most_callers) (sound : IsSound board)
    (portfolio : board.portfolio ≡ of) (quotas : board.quotas ≡ quotas_of scripts) (count : length answers ≡ length scripts)
    (each : (place : ℕ) (lines : List Line) (replies : Vec A Global) → slice_get scripts place ≡ Some lines → slice_get answers place ≡ Some replies → HasAll kept_of board (place + 1) lines replies.items) where
  -- the answers of the script of a place
  its-answers : (place : ℕ) (lines : List Line) → slice_get scripts place ≡ Some lines → (replies : Vec A Global) × HasAll kept_of board (place + 1) lines replies.items
  its-answers place lines at = elim (slice_get_cases answers place).1 [
    | inl found ↦ (found.0, each place lines found.0 at found.2)
    | inr past ↦ absurd (let within = slice_get_within scripts place lines at in omega (arith, past.0, count, within))
  ]

  -- the script of a caller's number
  its-script : (i : ℕ) → 1 ≤ i → i ≤ length scripts → (lines : List Line) × (replies : List A) × HasAll kept_of board i lines replies
  its-script zero from to = absurd (omega (arith, from))
  its-script (suc place) from to = elim (slice_get_cases scripts place).1 [
    | inl found ↦
        let its = its-answers place found.0 found.2 in
        let same : place + 1 ≡ suc place = omega arith in
        (found.0, its.0.items, subst (λ (i : ℕ). HasAll kept_of board i found.0 its.0.items) same its.1)
    | inr past ↦ absurd (omega (arith, past.0, to))
  ]

  quota-count : length board.quotas ≡ length scripts
  quota-count = ap length quotas ∙ length-map scripts (λ (lines : List Line). count_by appends lines)

  all-within : All (IsWithin (length scripts)) (journal_of board)
  all-within = subst (λ (n : ℕ). All (IsWithin n) (journal_of board)) quota-count (items-within board sound)

  pub is-played : IsPlayed of scripts board
  is-played = record {
    sound = sound;
    portfolio = portfolio;
    quotas = quotas;
    interleaved = record {
      steps = λ place lines at.
          ap (λ (items : List Item). map (λ (item : Item). item.step) items) (its-answers place lines at).1.items
          ∙ map-map (λ (item : Item). item.step) (item_by (place + 1)) lines;
      callers = all-within;
    };
    collected = λ i from to. (its-script i from to).2.collected;
    left = λ i from to. (its-script i from to).2.left;
  }

  -- the answers of the caller of a place
  by-place : (place : ℕ) (replies : Vec A Global) → slice_get answers place ≡ Some replies → replies.items ≡ map kept_of (answers_by board (1 + place))
  by-place place replies at = elim (slice_get_cases scripts place).1 [
    | inl found ↦ let same : place + 1 ≡ 1 + place = omega arith in (each place found.0 replies found.2 at).told ∙ ap (λ (i : ℕ). map kept_of (answers_by board i)) same
    | inr past ↦ absurd (let within = slice_get_within answers place replies at in omega (arith, past.0, count, within))
  ]

  pub all-own : AreOwn kept_of board scripts answers
  all-own =
      mapped-by_number (λ (i : ℕ). map kept_of (answers_by board i)) (λ (replies : Vec A Global). replies.items) answers 1 by-place
      ∙ ap (λ (n : ℕ). map (λ (i : ℕ). map kept_of (answers_by board i)) (range_with_len 1 n)) count

  -- nobody else has asked
  nobody-else : (n : ℕ) → 1 + length answers ≤ n → answers_by board n ≡ []
  nobody-else n behind =
      ap (λ (asks : List Asking). map (answer_to board.portfolio.contracts board.portfolio.names (entries_of board)) asks)
      (none-behind (length scripts) n (journal_of board) (omega (arith, behind, count)) all-within)

  pub all-answered : replies_of answers ≡ map kept_of (answers_of of.contracts of.names (journal_of board))
  all-answered =
      let sixteen : length answers + (most_callers - length scripts) ≡ 16 = omega (arith, few, count) in
      joined-by_number (λ (i : ℕ). map kept_of (answers_by board i)) (λ (replies : Vec A Global). replies.items) answers 1 (most_callers - length scripts) by-place (λ n behind. ap (map kept_of) (nobody-else n behind))
      ∙ (ap (λ (n : ℕ). flat_map (λ (i : ℕ). map kept_of (answers_by board i)) (range_with_len 1 n)) sixteen
      ∙ (sym (map-joined kept_of (answers_by board) (range_with_len 1 16))
      ∙ ap (map kept_of)
      (sym (map-joined (answer_to board.portfolio.contracts board.portfolio.names (entries_of board)) (caller_asks (journal_of board)) (range_with_len 1 16))
      ∙ (ap (λ (asks : List Asking). map (answer_to board.portfolio.contracts board.portfolio.names (entries_of board)) asks) (sym (asks-by_number (journal_of board)))
      ∙ ap (λ (p : Accepted). answers_of p.contracts p.names (journal_of board)) portfolio))))
