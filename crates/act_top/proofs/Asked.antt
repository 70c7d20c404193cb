-- How many answers there are to the asks of scripts that don't weigh too much.
use Rattle.std.proofs.Common.{◌≡◌, ℕ, ◌+◌, ◌<◌, ◌≤◌, Bool, true, false, cond, List, [], ◌∷◌, length, get_or, Option, None, Some, slice_get, refl, ap, subst, ◌∙◌, arith}
use Rattle.std.specs.Prelude.{◌==◌, not}
use Rattle.std.specs.List.{count_by, range_with_len}
use Rattle.std.proofs.lemmas.List.{length-map}
use Rattle.std.proofs.lemmas.List.FromFn.{get_or-range_with_len, length-range_with_len}
use Rattle.std.proofs.lemmas.List.Sums.{sum_by-cons, sum_by-le}
use Rattle.std.proofs.lemmas.Option.{get_or_from_slice_get, slice_get_within, slice_get-get_or}
use Rattle.act_eval.proofs.Asks.{asks}
use Rattle.act_eval.proofs.Light.{few-in-each}
use Rattle.act_job.specs.Weight.{too_much_asked}
use Rattle.act_model.specs.Asks.{asks_of, caller_asks, is_ask_of}
use Rattle.act_model.specs.Journal.{book_of, is_append}
use Rattle.act_model.specs.Names.{NameLists}
use Rattle.act_model.specs.declared.journal.Item.{Item}
use Rattle.act_model.specs.declared.journal.Line.{Line}
use Rattle.act_model.specs.declared.journal.Step.{Step}
use Rattle.act_model.specs.declared.journal.Step.TheVariants.{Append, Ask}
use Rattle.act_model.proofs.AsksInTurn.{asks_in_turn}
use Rattle.act_portfolio.specs.Reading.{Accepted}
use Rattle.act_profile.specs.Answers.{answer_to, answers_of}
use Rattle.act_profile.specs.Run.{Contracts}
use Rattle.act_session.specs.Interleaving.{IsInterleaving, steps_by, steps_of}
use Rattle.act_top.proofs.Interleavings.{no-steps}
use Rattle.act_session.proofs.Interleaved.{mine-first, other-first}
use Rattle.act_transcript.proofs.JournalAnswers.{asked-count, length-flat, sum-each}

-- a step that asks
abbrev is_ask : Step → Bool
is_ask step = not (is_append step)

-- a caller's asks are those of its steps
own-count : (caller : ℕ) (items : List Item) → count_by (is_ask_of caller) items ≡ count_by is_ask (steps_by items caller)
own-count caller [] = refl
own-count caller (item ∷ items) =
    sum_by-cons (λ (i : Item). cond (is_ask_of caller i) 1 0) item items ∙ by item.step refl (item.caller == caller) refl (own-count caller items)
  where
    by : (step : Step) → item.step ≡ step → (mine : Bool) → (item.caller == caller) ≡ mine → count_by (is_ask_of caller) items ≡ count_by is_ask (steps_by items caller)
        → cond (is_ask_of caller item) 1 0 + count_by (is_ask_of caller) items ≡ count_by is_ask (steps_by (item ∷ items) caller)
    by (Append entry) is true same rest =
        let none : ◌≡◌ {A = ℕ} (cond (is_ask_of caller item) 1 0) 0 = rw is refl in
        let here : ◌≡◌ {A = ℕ} (cond (is_ask item.step) 1 0) 0 = rw is refl in
        omega (arith, none, here, rest, ap (count_by is_ask) (mine-first item items caller same), sum_by-cons (λ (s : Step). cond (is_ask s) 1 0) item.step (steps_by items caller))
    by (Ask asked) is true same rest =
        let one : ◌≡◌ {A = ℕ} (cond (is_ask_of caller item) 1 0) 1 = rw (is, same) refl in
        let here : ◌≡◌ {A = ℕ} (cond (is_ask item.step) 1 0) 1 = rw is refl in
        omega (arith, one, here, rest, ap (count_by is_ask) (mine-first item items caller same), sum_by-cons (λ (s : Step). cond (is_ask s) 1 0) item.step (steps_by items caller))
    by (Append entry) is false same rest =
        let none : ◌≡◌ {A = ℕ} (cond (is_ask_of caller item) 1 0) 0 = rw is refl in
        omega (arith, none, rest, ap (count_by is_ask) (other-first item items caller same))
    by (Ask asked) is false same rest =
        let none : ◌≡◌ {A = ℕ} (cond (is_ask_of caller item) 1 0) 0 = rw (is, same) refl in
        omega (arith, none, rest, ap (count_by is_ask) (other-first item items caller same))

-- and those of a script's steps the script's
script-count : (lines : List Line) → count_by is_ask (steps_of lines) ≡ count_by asks lines
script-count [] = refl
script-count (line ∷ lines) =
    omega (arith, sum_by-cons (λ (s : Step). cond (is_ask s) 1 0) line.step (steps_of lines), sum_by-cons (λ (l : Line). cond (asks l) 1 0) line lines, script-count lines)

module _ (portfolio : Accepted) (lists : List (List Line)) (items : List Item) (of : IsInterleaving lists items) (light : too_much_asked portfolio lists ≡ None) where
  few-by : (place : ℕ) → count_by (is_ask_of (place + 1)) items ≤ 4_194_304
  few-by place = by (slice_get lists place) refl
    where
      by : (o : Option (List Line)) → slice_get lists place ≡ o → count_by (is_ask_of (place + 1)) items ≤ 4_194_304
      by (Some lines) is =
          let there : place < length lists = slice_get_within lists place lines is in
          let few : count_by asks (get_or lists place []) ≤ 4_194_304 = few-in-each portfolio lists light place [] there in
          let same : get_or lists place [] ≡ lines = get_or_from_slice_get lists place lines [] is in
          omega (arith, few, ap (count_by asks) same, own-count (place + 1) items, ap (count_by is_ask) (of.steps place lines is), script-count lines)
      by None is =
          let none = no-steps (place + 1) items (λ k d within. λ same.
          let to = (of.callers k d within).1 in
          let there = slice_get-get_or lists place [] (omega (arith, to, same)) in absurd (cc)) in
          omega (arith, own-count (place + 1) items, ap (count_by is_ask) none)

  -- they are few
  pub answers-within : (contracts : Contracts) (names : NameLists) → length (answers_of contracts names items) ≤ 67_108_864
  unfolding asks_of
  answers-within contracts names =
      let callers = range_with_len 1 16 in
      let each = sum-each (λ c. length (caller_asks items c)) (λ c. count_by (is_ask_of c) items) callers (λ c. ap length (asks_in_turn items c) ∙ asked-count c 1 0 items) in
      let most = sum_by-le (λ c. count_by (is_ask_of c) items) 4_194_304 callers
      (λ k d within.
      let number : k + 1 ≡ get_or callers k d = omega (arith, get_or-range_with_len 1 16 k d (omega (arith, within, length-range_with_len 1 16))) in
      subst (λ (c : ℕ). count_by (is_ask_of c) items ≤ 4_194_304) number (few-by k)) in
      omega (arith, length-map (asks_of items) (answer_to contracts names (book_of items)), length-flat (caller_asks items) callers, each, most, length-range_with_len 1 16)
