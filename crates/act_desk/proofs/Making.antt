-- A caller on its way through its lines: what each step makes of what is so of its pass.
use Rattle.std.proofs.Common.{◌≡◌, ℕ, ◌≤◌, false, List, [], ◌∷◌, ◌++◌, length, take, Some, Ok, refl, sym, ap, subst, ◌∙◌, append-nil, append_assoc, arith, eq-eqb}
use Rattle.std.specs.Prelude.{map}
use Rattle.std.specs.List.{All, count_by, filter_map, list_any}
use Rattle.std.proofs.lemmas.List.{length-append, map-append, take_all}
use Rattle.std.proofs.lemmas.List.Elements.{filter-append, filter_map-append}
use mathlib.Core.List.{IsPrefix}
use Rattle.act_model.specs.Answer.{Reply}
use Rattle.act_model.specs.declared.asks.Asking.{Asking}
use Rattle.act_model.specs.declared.journal.Asked.{Asked}
use Rattle.act_model.specs.declared.journal.Item.{Item}
use Rattle.act_model.specs.declared.journal.Line.{Line}
use Rattle.act_model.specs.declared.journal.Step.TheVariants as step
use Rattle.act_model.specs.declared.observed.Obs.{Obs}
use Rattle.act_profile.specs.Answers.{answer_to}
use Rattle.act_portfolio.specs.Reading.{Accepted}
use Rattle.act_turn.specs.Journal.{entries_of as own_of, is_by}
use Rattle.act_turn.specs.Standing.{Standing, own_entries}
use Rattle.act_board.specs.Entries.{author_of, caller_of, list_of}
use Rattle.act_history.specs.History.{History, and_then, asks_by, collected_by, entries_of, is_collect_by, is_leave_by, item_of}
use Rattle.act_board.specs.declared.history.Entry.{Entry}
use Rattle.act_board.specs.declared.history.Entry.TheVariants as entry
use Rattle.act_history.specs.declared.mark.Mark.{Mark}
use Rattle.act_history.specs.declared.mark.Mark.TheVariants as mark
use Rattle.act_board.specs.declared.outcome.Collected.TheVariants as collected
use Rattle.act_history.proofs.Going.{any-not, asks-same, count-not, count-yes, entries-same}
use Rattle.act_desk.specs.Calls.{Appends, Asks, CollectsOrNot, Leaves}
use Rattle.act_desk.specs.Making.{HasCollected, HasMade, HasStopped, HasWatched, IsAmid, IsMaking, MayMake, asks, item_by}
use Rattle.act_desk.specs.Step.{HasSeen, IsStep}
use Rattle.act_desk.proofs.Amid.{amid-append, amid-ask, amid-collect, amid-stays}
use Rattle.act_desk.proofs.Goes.{GoesOnBeside}
use Rattle.act_desk.proofs.Own.{stepped}
use Rattle.act_desk.proofs.Taken.{list-next}
use Rattle.act_desk.proofs.Watching.{beside-own, prefix-trans, step-begins, watched-beside}
use Rattle.act_desk.proofs.Way.{all-collected}

-- a mark of the caller's own is its next own entry
own-next : (k : ℕ) (found after : History) (m : Mark) → caller_of m ≡ Some k → after ≡ and_then found m → own_of author_of k (list_of after) ≡ own_of author_of k (list_of found) ++ entry.Mark m ∷ []
own-next k found after m own is =
    ap (own_of author_of k) (ap list_of is ∙ list-next found (Some m))
    ∙ (filter-append (λ (e : Entry). is_by k (author_of e)) (list_of found) (entry.Mark m ∷ [])
    ∙ ap (λ (es : List Entry). own_of author_of k (list_of found) ++ es) (kept own))
  where
    kept : caller_of m ≡ Some k → own_of author_of k (entry.Mark m ∷ []) ≡ entry.Mark m ∷ []
    kept own = let same = eq-eqb k k refl in rw (own, same) refl

-- a pass goes on, to what it has seen then
record Moves (old new : Standing Entry) (after : History) : Type 0 where
  turn : new.turn ≡ old.turn
  number : new.number ≡ old.number
  holds : new.holds ≡ old.holds
  begins : IsPrefix old.seen new.seen
  seen : new.seen ≡ list_of after

-- what a step of the caller's own is: others go on, and then its mark stands
record OwnStep (k : ℕ) (now : History) (m : Mark) (Call : History → History → Type 0) (old new : Standing Entry) : Type 0 where
  found : History
  goes : GoesOnBeside k now found
  after : History
  call : Call found after
  after_is : after ≡ and_then found m
  moves : Moves old new after

own-step : (k : ℕ) (now : History) (m : Mark) (Call : History → History → Type 0) (old new : Standing Entry) → old.number ≡ k → old.seen ≡ list_of now
    → IsStep old Call new → ((found after : History) → Call found after → after ≡ and_then found m) → OwnStep k now m Call old new
own-step k now m Call old new number seen is adds =
    let next = stepped k now Call old new number seen is in
    record {
      found = next.found;
      goes = next.others;
      after = next.after;
      call = next.call;
      after_is = adds next.found next.after next.call;
      moves = record {
        turn = ap (λ (p : Standing Entry). p.turn) is.pass;
        number = ap (λ (p : Standing Entry). p.number) is.pass;
        holds = ap (λ (p : Standing Entry). p.holds) is.pass;
        begins = step-begins Call old new is;
        seen = next.seen;
      };
    }

-- the pass's own entries then
own-after : (k : ℕ) (now : History) (m : Mark) (Call : History → History → Type 0) (old new : Standing Entry) → caller_of m ≡ Some k → old.number ≡ k → old.seen ≡ list_of now → OwnStep k now m Call old new
    → own_entries author_of new ≡ own_entries author_of old ++ entry.Mark m ∷ []
own-after k now m Call old new own number seen is =
    ap (λ (n : ℕ). own_of author_of n new.seen) (is.moves.number ∙ number)
    ∙ (ap (own_of author_of k) is.moves.seen
    ∙ (own-next k is.found is.after m own is.after_is
    ∙ ap (λ (es : List Entry). es ++ entry.Mark m ∷ []) (beside-own k now is.found is.goes ∙ (ap (own_of author_of k) (sym seen) ∙ ap (λ (n : ℕ). own_of author_of n old.seen) (sym number)))))

-- ---- on the way

module _ {A : Type 0} {kept_of : Reply → A} {first : Standing Entry} {i : ℕ} where
  -- the same, of what is the same
  pub making-as : {done done' : List Line} {answers answers' : List A} {pass pass' : Standing Entry} → done' ≡ done → answers' ≡ answers → pass' ≡ pass
      → IsMaking kept_of first i done answers pass → IsMaking kept_of first i done' answers' pass'
  making-as {done} {done'} {answers} {answers'} {pass} {pass'} lines replies passes is =
      subst (λ (ls : List Line). IsMaking kept_of first i ls answers' pass') (sym lines)
      (subst (λ (rs : List A). IsMaking kept_of first i done rs pass') (sym replies) (subst (λ (p : Standing Entry). IsMaking kept_of first i done answers p) (sym passes) is))

  -- the caller's history, which others brought on
  amid-found : {done : List Line} {answers : List A} {old : Standing Entry} (is : IsMaking kept_of first i done answers old) (found : History) → GoesOnBeside i is.now found → IsAmid kept_of is.start i done answers found
  amid-found {done} {answers} is found goes = amid-stays is.start i done answers is.now is.amid found goes

  module _ {done : List Line} {answers : List A} {old new : Standing Entry} (is : IsMaking kept_of first i done answers old) where
    -- the pass goes on, with these marks of its own then
    making-moved : (done' : List Line) (answers' : List A) (after : History) → Moves old new after → IsAmid kept_of is.start i done' answers' after
        → (marks : List Mark) → own_entries author_of new ≡ own_entries author_of first ++ map entry.Mark marks → filter_map item_of marks ≡ map (item_by i) done'
        → count_by (is_collect_by i) marks ≡ length answers' → list_any (is_leave_by i) marks ≡ false → IsMaking kept_of first i done' answers' new
    making-moved done' answers' after moves amid marks own steps collects stays = record {
      turn = moves.turn ∙ is.turn;
      number = moves.number ∙ is.number;
      holds = moves.holds ∙ is.holds;
      begins = prefix-trans first.seen old.seen new.seen is.begins moves.begins;
      start = is.start;
      had = is.had;
      now = after;
      seen = moves.seen;
      amid = amid;
      marks = marks;
      own = own;
      steps = steps;
      collects = collects;
      stays = stays;
    }

    pub making-watched : HasWatched old new → IsMaking kept_of first i done answers new
    making-watched watched =
        making-moved done answers watched.history (record { turn = watched.turn; number = watched.number; holds = watched.holds; begins = watched.begins; seen = watched.seen })
        (amid-found is watched.history (watched-beside old new i is.number is.now is.seen watched)) is.marks (watched.own ∙ is.own) is.steps is.collects is.stays

    -- the pass's own entries, with a mark more
    own-more : (m : Mark) (Call : History → History → Type 0) → caller_of m ≡ Some i → OwnStep i is.now m Call old new → own_entries author_of new ≡ own_entries author_of first ++ map entry.Mark (is.marks ++ m ∷ [])
    own-more m Call mine own =
        own-after i is.now m Call old new mine is.number is.seen own
        ∙ (ap (λ (es : List Entry). es ++ entry.Mark m ∷ []) is.own
        ∙ (append_assoc (own_entries author_of first) (map entry.Mark is.marks) (entry.Mark m ∷ [])
        ∙ ap (λ (es : List Entry). own_entries author_of first ++ es) (sym (map-append entry.Mark is.marks (m ∷ [])))))

    -- a mark more
    making-mark : (m : Mark) (Call : History → History → Type 0) (done' : List Line) (answers' : List A) → (own : OwnStep i is.now m Call old new) → caller_of m ≡ Some i
        → IsAmid kept_of is.start i done' answers' (and_then own.found m)
        → filter_map item_of (is.marks ++ m ∷ []) ≡ map (item_by i) done' → count_by (is_collect_by i) (is.marks ++ m ∷ []) ≡ length answers' → is_leave_by i m ≡ false
        → IsMaking kept_of first i done' answers' new
    making-mark m Call done' answers' own mine amid steps collects stays =
        making-moved done' answers' own.after own.moves (subst (IsAmid kept_of is.start i done' answers') (sym own.after_is) amid) (is.marks ++ m ∷ []) (own-more m Call mine own) steps
        collects (any-not (is_leave_by i) is.marks m stays ∙ is.stays)

    -- a step more, of a line
    pub making-line : (m : Mark) (Call : History → History → Type 0) (line : Line) → caller_of m ≡ Some i → is_collect_by i m ≡ false → is_leave_by i m ≡ false → item_of m ≡ Some (item_by i line)
        → ((found after : History) → Call found after → after ≡ and_then found m) → ((found : History) → IsAmid kept_of is.start i done answers found → IsAmid kept_of is.start i (done ++ line ∷ []) answers (and_then found m))
        → IsStep old Call new → IsMaking kept_of first i (done ++ line ∷ []) answers new
    making-line m Call line mine collects leaves item adds amid next =
        let own = own-step i is.now m Call old new is.number is.seen next adds in
        let one : filter_map item_of (m ∷ []) ≡ item_by i line ∷ [] = rw item refl in
        making-mark m Call (done ++ line ∷ []) answers own mine (amid own.found (amid-found is own.found own.goes))
        (filter_map-append item_of is.marks (m ∷ [])
        ∙ (ap (λ (items : List Item). items ++ filter_map item_of (m ∷ [])) is.steps
        ∙ (ap (λ (items : List Item). map (item_by i) done ++ items) one ∙ sym (map-append (item_by i) done (line ∷ [])))))
        (count-not (is_collect_by i) is.marks m collects ∙ is.collects) leaves

    pub making-append : {version : ℕ} (line : Line) (entry : Obs) → line.step ≡ step.Append entry → IsStep old (Appends i entry (Ok version)) new → IsMaking kept_of first i (done ++ line ∷ []) answers new
    making-append {version} line entry is-append next =
        making-line (mark.Append i entry) (Appends i entry (Ok version)) line refl refl refl (ap (λ s. Some (record { caller = i; step = s })) (sym is-append)) (λ found after call. call.appended)
        (λ found amid. amid-append is.start i done answers found amid line entry is-append) next

    pub making-ask : {number : ℕ} (line : Line) (asked : Asked) → line.step ≡ step.Ask asked → IsStep old (Asks i asked (Ok number)) new → IsMaking kept_of first i (done ++ line ∷ []) answers new
    making-ask {number} line asked is-ask next =
        making-line (mark.Ask i asked) (Asks i asked (Ok number)) line refl refl refl (ap (λ s. Some (record { caller = i; step = s })) (sym is-ask)) (λ found after call. call.taken)
        (λ found amid. amid-ask is.start i done answers found amid line asked is-ask) next

    -- an answer more
    collect-step : collected_by is.start i ≡ length (asks_by is.start i) → (reply : Reply) → IsStep old (CollectsOrNot i (Ok (collected.Ready reply))) new → IsMaking kept_of first i done (answers ++ kept_of reply ∷ []) new
    collect-step all reply next =
        let m : Mark = mark.Collect i in
        let own = own-step i is.now m (CollectsOrNot i (Ok (collected.Ready reply))) old new is.number is.seen next (λ found after call. call.collected.5) in
        let amid : IsAmid kept_of is.start i done answers own.found = amid-found is own.found own.goes in
        let same : reply ≡ answer_to is.start.portfolio.contracts is.start.portfolio.names (entries_of own.found) own.call.collected.1 =
        own.call.collected.4 ∙ ap (λ (of : Accepted). answer_to of.contracts of.names (entries_of own.found) own.call.collected.1) amid.portfolio in
        let steps : filter_map item_of (is.marks ++ m ∷ []) ≡ map (item_by i) done = filter_map-append item_of is.marks (m ∷ []) ∙ (append-nil (filter_map item_of is.marks) ∙ is.steps) in
        let one = count-yes (is_collect_by i) is.marks m (eq-eqb i i refl) in
        let had = is.collects in
        let longer = length-append answers (kept_of reply ∷ []) in
        making-mark m (CollectsOrNot i (Ok (collected.Ready reply))) done (answers ++ kept_of reply ∷ []) own refl
        (subst (λ (r : Reply). IsAmid kept_of is.start i done (answers ++ kept_of r ∷ []) (and_then own.found m)) (sym same) (amid-collect is.start i done answers own.found amid all own.call.collected.1 own.call.collected.2))
        steps (omega (arith, one, had, longer)) refl

  -- an answer more, where the caller has watched before
  module _ {lines done : List Line} {answers now-answers : List A} {old new : Standing Entry} (is : IsMaking kept_of first i done answers old) (may : HasSeen first (λ h. MayMake h i lines)) where
    pub making-collect : HasCollected kept_of old i answers new now-answers → IsMaking kept_of first i done now-answers new
    making-collect got =
        let watched = making-watched is got.1.watched in
        making-as refl got.2 refl (collect-step watched (all-collected watched may) got.0 got.1.step)

-- ---- the end

module _ {A : Type 0} {kept_of : Reply → A} {first : Standing Entry} {i : ℕ} {lines : List Line} {answers : List A} {old new : Standing Entry} where
  -- all is made, and the caller leaves
  pub made : IsMaking kept_of first i lines answers old → length answers ≡ count_by asks lines → IsStep old (Leaves i) new → HasMade kept_of first i lines answers new
  made is all next =
      let m : Mark = mark.Leave i in
      let own = own-step i is.now m (Leaves i) old new is.number is.seen next (λ found after call. call) in
      let amid : IsAmid kept_of is.start i lines answers own.found = amid-found is own.found own.goes in
      let same : entries_of own.after ≡ entries_of own.found = ap entries_of own.after_is ∙ entries-same own.found m refl in
      let of : own.after.portfolio ≡ is.start.portfolio = ap (λ (h : History). h.portfolio) own.after_is ∙ amid.portfolio in
      let whole : take (length answers) amid.made ≡ amid.made = let count = amid.count in take_all (length answers) amid.made (omega (arith, all, count)) in
      record {
        begins = prefix-trans first.seen old.seen new.seen is.begins own.moves.begins;
        marks = is.marks;
        own = own-more is m (Leaves i) refl own;
        steps = is.steps;
        collects = is.collects ∙ all;
        stays = is.stays;
        before = is.start;
        had = is.had;
        history = own.after;
        seen = own.moves.seen;
        made = amid.made;
        count = amid.count;
        asked = ap (λ (h : History). asks_by h i) own.after_is ∙ (asks-same i own.found m refl ∙ amid.asked);
        versions = subst (λ (n : ℕ). All (λ (ask : Asking). ask.version ≤ n) amid.made) (sym (ap length same)) amid.versions;
        told =
            amid.told
            ∙ ap (map kept_of)
            (ap (λ (asks : List Asking). map (answer_to is.start.portfolio.contracts is.start.portfolio.names (entries_of own.found)) asks) whole
            ∙ (ap (λ (book : List Obs). map (answer_to is.start.portfolio.contracts is.start.portfolio.names book) amid.made) (sym same)
            ∙ ap (λ (p : Accepted). map (answer_to p.contracts p.names (entries_of own.after)) amid.made) (sym of)));
      }

  -- memory runs out, and the caller leaves
  pub stopped : {mid : Standing Entry} (done : ℕ) → IsMaking kept_of first i (take done lines) answers old → HasWatched old mid → IsStep mid (Leaves i) new → HasStopped first i lines new
  stopped {mid} done is watched next =
      let later = making-watched is watched in
      record {
        done = done;
        marks = later.marks;
        own = own-more later (mark.Leave i) (Leaves i) refl (own-step i later.now (mark.Leave i) (Leaves i) mid new later.number later.seen next (λ found after call. call));
        steps = later.steps;
        stays = later.stays;
      }
