-- A caller's steps, many in a turn.
use mathlib.Core.List.{IsPrefix}
use Rattle.std.proofs.Common.{◌≡◌, ℕ, zero, suc, ◌+◌, ◌<◌, ◌≤◌, false, List, [], ◌∷◌, ◌++◌, length, drop, take, get_or, Some, inl, ⊎_elim, refl, sym, ap, subst, ◌∙◌, append-nil, append_assoc, arith}
use Rattle.std.specs.List.{count_by, slice_get}
use Rattle.std.proofs.lemmas.List.{get_or-drop, length-append, length-drop, length-take}
use Rattle.std.proofs.lemmas.Option.{get_or_from_slice_get, slice_get_within}
use Rattle.act_model.specs.Limits.{most_asks, most_open}
use Rattle.std.proofs.lemmas.List.Elements.{All-cons, All-nil}
use Rattle.act_model.specs.Answer.{Reply}
use Rattle.act_model.specs.declared.journal.Line.{Line}
use Rattle.act_model.specs.declared.journal.Step.{Step}
use Rattle.act_model.specs.declared.journal.Step.TheVariants as step
use Rattle.act_turn.specs.Journal.{entries_of}
use Rattle.act_turn.specs.Standing.{Standing}
use Rattle.act_board.specs.Entries.{author_of, caller_of, list_of}
use Rattle.act_board.specs.declared.history.Entry.{Entry}
use Rattle.act_history.specs.History.{History, and_then, asks_by, is_collect_by, is_leave_by, item_of, open_asks}
use Rattle.act_desk.specs.Making.{IsAmid, IsMaking, MayMake, asks, item_by}
use Rattle.act_desk.specs.Step.{HasSeen, IsStep}
use Rattle.act_desk.specs.Turns.{InOrder, IsTurn, Makes, MakesLine, Refuses, mark_of}
use Rattle.act_desk.specs.declared.outcome.Made.{Made}
use Rattle.act_desk.specs.declared.outcome.StepFault.TheVariants as fault
use Rattle.act_board.specs.declared.outcome.AskFault.TheVariants as asking
use Rattle.act_desk.proofs.Amid.{amid-append, amid-ask, count-asks}
use Rattle.act_desk.proofs.Goes.{same-history}
use Rattle.act_desk.proofs.Making.{making-line, making-watched}
use Rattle.act_desk.proofs.Taken.{Adds, step-made}
use Rattle.act_desk.proofs.Way.{IsNext, at-start, making-open, next-count}
use Rattle.act_desk.proofs.Turns.{AddsAll, IsOwnMark, enters, in-order-adds}

-- ---- the mark of a step

pub own-stays : (i : ℕ) (s : Step) → is_leave_by i (mark_of i s) ≡ false
own-stays i (step.Append entry) = refl
own-stays i (step.Ask asked) = refl

own-collects : (i : ℕ) (s : Step) → is_collect_by i (mark_of i s) ≡ false
own-collects i (step.Append entry) = refl
own-collects i (step.Ask asked) = refl

own-is : (i : ℕ) (s : Step) → caller_of (mark_of i s) ≡ Some i
own-is i (step.Append entry) = refl
own-is i (step.Ask asked) = refl

own-item : (i : ℕ) (line : Line) → item_of (mark_of i line.step) ≡ Some (item_by i line)
own-item i line = by line.step refl
  where
    by : (s : Step) → line.step ≡ s → item_of (mark_of i s) ≡ Some (record { caller = i; step = s })
    by (step.Append entry) is = refl
    by (step.Ask asked) is = refl

-- ---- what steps add

module _ {k i : ℕ} (own : k ≡ i) where
  line-adds : (line : Line) (before after : History) → MakesLine i line before after → AddsAll (IsOwnMark k) before after
  line-adds line before after is =
      record {
        marks = mark_of i line.step ∷ [];
        after_is = is;
        all = All-cons (IsOwnMark k) (mark_of i line.step) [] (inl (own-is i line.step ∙ ap (λ (n : ℕ). Some n) (sym own))) (All-nil (IsOwnMark k));
      }

  pub makes-adds : (lines : List Line) (made : Made) (before after : History) → Makes i lines made before after → AddsAll (IsOwnMark k) before after
  makes-adds lines made before after is = in-order-adds (IsOwnMark k) (MakesLine i) line-adds (take made.steps lines) before after is.steps

-- ---- a caller on its way

module _ {A : Type 0} {kept_of : Reply → A} {first : Standing Entry} {i : ℕ} {answers : List A} where
  -- of a pass it counts what it has seen
  making-seen : {done : List Line} {old new : Standing Entry} → IsMaking kept_of first i done answers old → new.turn ≡ old.turn → new.number ≡ old.number → new.holds ≡ old.holds → new.seen ≡ old.seen
      → IsMaking kept_of first i done answers new
  making-seen {done} {old} {new} is turn number holds seen = record {
    turn = turn ∙ is.turn;
    number = number ∙ is.number;
    holds = holds ∙ is.holds;
    begins = subst (IsPrefix first.seen) (sym seen) is.begins;
    start = is.start;
    had = is.had;
    now = is.now;
    seen = seen ∙ is.seen;
    amid = is.amid;
    marks = is.marks;
    own = ap (λ (n : ℕ). entries_of author_of n new.seen) number ∙ (ap (entries_of author_of old.number) seen ∙ is.own);
    steps = is.steps;
    collects = is.collects;
    stays = is.stays;
  }

  -- a step more
  making-one : {done : List Line} {old new : Standing Entry} (line : Line) → IsMaking kept_of first i done answers old → IsStep old (MakesLine i line) new → IsMaking kept_of first i (done ++ line ∷ []) answers new
  making-one {done} {old} {new} line is next =
      making-line is (mark_of i line.step) (MakesLine i line) line (own-is i line.step) (own-collects i line.step) (own-stays i line.step) (own-item i line) (λ found after call. call)
      (λ found amid. amid-line line.step refl found amid) next
    where
      amid-line : (s : Step) → line.step ≡ s → (found : History) → IsAmid kept_of is.start i done answers found → IsAmid kept_of is.start i (done ++ line ∷ []) answers (and_then found (mark_of i s))
      amid-line (step.Append entry) is-append found amid = amid-append is.start i done answers found amid line entry is-append
      amid-line (step.Ask asked) is-ask found amid = amid-ask is.start i done answers found amid line asked is-ask

  -- steps more, of which each is a step of the pass as it were
  making-each : (lines done : List Line) (old : Standing Entry) (before after : History) → old.holds ≡ false → old.seen ≡ list_of before → IsMaking kept_of first i done answers old
      → InOrder (MakesLine i) lines before after → (new : Standing Entry) → new.turn ≡ old.turn → new.number ≡ old.number → new.holds ≡ old.holds → new.seen ≡ list_of after
      → IsMaking kept_of first i (done ++ lines) answers new
  making-each [] done old before after free had is same new turn number holds seen =
      subst (λ (ls : List Line). IsMaking kept_of first i ls answers new) (sym (append-nil done))
      (making-seen is turn number holds (seen ∙ (ap list_of same ∙ sym had)))
  making-each (line ∷ lines) done old before after free had is calls new turn number holds seen =
      let between : History = calls.0 in
      let mid : Standing Entry = record old { seen = list_of between; came = list_of before; turns = old.turns + 1 } in
      let adds : Adds old.number before between = record { mark = Some (mark_of i line.step); after_is = calls.1; own = inl (own-is i line.step ∙ ap (λ (n : ℕ). Some n) (sym is.number)) } in
      let next : IsStep old (MakesLine i line) mid =
      step-made (MakesLine i line) old mid before between free ([], append-nil old.seen ∙ had) (ap (entries_of author_of old.number) (sym had))
      (ap (λ b. record old { seen = list_of between; came = list_of before; turns = old.turns + 1; holds = b }) free) adds calls.1 in
      subst (λ (ls : List Line). IsMaking kept_of first i ls answers new) (append_assoc done (line ∷ []) lines)
      (making-each lines (done ++ line ∷ []) mid between after free refl (making-one line is next) calls.2 new turn number holds seen)

  pub making-steps : {lines done : List Line} {made : Made} {old new : Standing Entry} → old.holds ≡ false → IsMaking kept_of first i done answers old → IsTurn old (Makes i lines made) new
      → IsMaking kept_of first i (done ++ take made.steps lines) answers new
  making-steps {lines} {done} {made} {old} {new} free is turn =
      let e = enters (Makes i lines made) old new turn in
      making-each (take made.steps lines) done e.first e.found e.after (e.watched.holds ∙ free) e.had (making-watched is e.watched) e.calls.steps new e.turn e.number e.holds e.seen

-- ---- lines that are taken some at a time

take-none : (n : ℕ) → take {A = Line} n [] ≡ []
take-none zero = refl
take-none (suc n) = refl

take-more : (a b : ℕ) (lines : List Line) → take a lines ++ take b (drop a lines) ≡ take (a + b) lines
take-more zero b lines = let same : b ≡ 0 + b = omega arith in ap (λ (n : ℕ). take n lines) same
take-more (suc a) b [] = take-none b ∙ sym (take-none (suc a + b))
take-more (suc a) b (line ∷ lines) =
    let same : suc (a + b) ≡ suc a + b = omega arith in
    ap (λ (ls : List Line). line ∷ ls) (take-more a b lines) ∙ ap (λ (n : ℕ). take n (line ∷ lines)) same

take-within : (b n : ℕ) (lines : List Line) → b ≤ length (take n lines) → take b (take n lines) ≡ take b lines
take-within zero n lines within = refl
take-within (suc b) zero lines within = absurd (omega (arith, within))
take-within (suc b) (suc n) [] within = absurd (omega (arith, within))
take-within (suc b) (suc n) (line ∷ lines) within = ap (λ (ls : List Line). line ∷ ls) (take-within b n lines (omega (arith, within)))

get-within : (b n : ℕ) (lines : List Line) (line : Line) → b < length (take n lines) → get_or (take n lines) b line ≡ get_or lines b line
get-within b zero lines line within = absurd (omega (arith, within))
get-within b (suc n) [] line within = refl
get-within zero (suc n) (l ∷ lines) line within = refl
get-within (suc b) (suc n) (l ∷ lines) line within = get-within b n lines line (omega (arith, within))

module _ (a n b : ℕ) (lines : List Line) where
  pub steps-taken : b ≤ length (take n (drop a lines)) → take (a + b) lines ≡ take a lines ++ take b (take n (drop a lines))
  steps-taken within = sym (ap (λ (ls : List Line). take a lines ++ ls) (take-within b n (drop a lines) within) ∙ take-more a b lines)

  pub steps-within : a ≤ length lines → b ≤ length (take n (drop a lines)) → a + b ≤ length lines
  steps-within here within = let taken = length-take n (drop a lines) in let left = length-drop a lines in omega (arith, here, within, taken, left)

  next-line : (line : Line) → slice_get (take n (drop a lines)) b ≡ Some line → IsNext lines (a + b) line
  next-line line at =
      let within = slice_get_within (take n (drop a lines)) b line at in
      let taken = length-take n (drop a lines) in
      let left = length-drop a lines in
      record {
        within = omega (arith, within, taken, left);
        at =
            sym (get_or-drop a lines b line)
            ∙ (sym (get-within b n (drop a lines) line within) ∙ get_or_from_slice_get (take n (drop a lines)) b line line at);
      }

module _ {A : Type 0} {kept_of : Reply → A} {first : Standing Entry} {i : ℕ} {answers : List A} {lines : List Line} (may : HasSeen first (λ h. MayMake h i lines)) where
  -- where the next ask finds too many, there are as many open as may be
  pub full-open : (a n : ℕ) {made : Made} {old new : Standing Entry} → IsMaking kept_of first i (take (a + made.steps) lines) answers new → IsTurn old (Makes i (take n (drop a lines)) made) new
      → made.fault ≡ Some (fault.Ask asking.AsksFull) → HasSeen new (λ h. most_open ≤ length (open_asks h i))
  full-open a n {made} {old} {new} is turn fails =
      let e = enters (Makes i (take n (drop a lines)) made) old new turn in
      let refused = e.calls.refused (fault.Ask asking.AsksFull) fails in
      by e.after e.seen refused.0 (next-line a n made.steps lines refused.0 refused.1) refused.0.step refl refused.2
    where
      by : (after : History) → new.seen ≡ list_of after → (line : Line) → IsNext lines (a + made.steps) line → (s : Step) → line.step ≡ s → Refuses i s (fault.Ask asking.AsksFull) after
          → HasSeen new (λ h. most_open ≤ length (open_asks h i))
      by after seen line next (step.Append entry) is-append refuses = absurd refuses
      by after seen line next (step.Ask asked) is-ask refuses =
          ⊎_elim (λ many. record { history = after; seen = seen; holds = many })
          (λ many.
          let same : after ≡ is.now = same-history after is.now (sym seen ∙ is.seen) in
          let many-now : most_asks ≤ length (asks_by is.now i) = subst (λ (h : History). most_asks ≤ length (asks_by h i)) same many in
          let all = ap length is.amid.asked ∙ length-append (asks_by is.start i) is.amid.made in
          let count = is.amid.count in
          let few = (at-start is (λ h. MayMake h i lines) may).few in
          let within = next-count next asks in
          let one = (count-asks (take (a + made.steps) lines) line asked is-ask).1 in
          absurd (omega (arith, many-now, all, count, few, within, one)))
          (refuses.full.0 refl).1

  -- and answers to half of them are left to be collected
  pub half-open : {done : List Line} {pass : Standing Entry} → IsMaking kept_of first i done answers pass → HasSeen pass (λ h. most_open ≤ length (open_asks h i)) → length answers + most_open ≤ count_by asks done
  half-open {done} {pass} is had =
      let one = making-open is may {count = count_by asks done} refl in
      let same : had.history ≡ one.history = same-history had.history one.history (sym had.seen ∙ one.seen) in
      let many : most_open ≤ length (open_asks one.history i) = subst (λ (h : History). most_open ≤ length (open_asks h i)) same had.holds in
      let counted = one.holds in
      omega (arith, many, counted)
