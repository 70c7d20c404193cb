-- Several calls in one turn: what they add to a history, and what a pass knows then.
use Rattle.std.proofs.Common.{◌≡◌, ◌⊎◌, ℕ, ◌+◌, false, List, [], ◌∷◌, ◌++◌, map, take, Option, Some, None, Result, Ok, Err, inr, refl, sym, ap, subst, ◌∙◌, append-nil, append_assoc}
use Rattle.std.specs.List.{All}
use Rattle.std.proofs.lemmas.List.{append_cancel_right, map-append}
use Rattle.std.proofs.lemmas.List.Elements.{All-append, All-cons, All-head, All-nil, All-tail, filter-append}
use mathlib.Core.List.{IsPrefix}
use Rattle.act_num.specs.declared.NoMemory.{NoMemory}
use Rattle.act_portfolio.specs.Reading.{Accepted}
use Rattle.act_turn.specs.Journal.{GoesOn, entries_of, is_by}
use Rattle.act_turn.specs.Standing.{Standing, own_entries}
use Rattle.act_board.specs.Calls.{IsOf}
use Rattle.act_board.specs.Entries.{author_of, caller_of, list_of}
use Rattle.act_board.specs.declared.history.Entry.{Entry}
use Rattle.act_board.specs.declared.history.Entry.TheVariants as entry
use Rattle.act_history.specs.History.{History}
use Rattle.act_history.specs.declared.mark.Mark.{Mark}
use Rattle.act_history.specs.declared.mark.Mark.TheVariants as mark
use Rattle.act_history.proofs.Going.{entries-same}
use Rattle.act_keeping.specs.Work.{Work, version}
use Rattle.act_desk.specs.Calls.{Finishes}
use Rattle.act_desk.specs.Making.{HasWatched, IsOver}
use Rattle.act_desk.specs.Step.{HasSeen, and_maybe}
use Rattle.act_desk.specs.Turns.{ClaimsSome, FinishesAndClaims, FromLast, HandsOut, InOrder, IsTurn, and_all}
use Rattle.act_desk.specs.declared.outcome.Claimed.{Claimed}
use Rattle.act_desk.specs.declared.outcome.Claimed.TheVariants as claimed
use Rattle.act_board.specs.declared.outcome.Claim.TheVariants as claim
use Rattle.act_desk.proofs.Adds.{AddsNobodys, IsNobodys, adds-claim, adds-finish}
use Rattle.act_desk.proofs.Goes.{GoesOnBeside, NoneBy, going-on, same-history}
use Rattle.act_desk.proofs.Taken.{Adds, IsOwn, step-made}
use Rattle.act_desk.proofs.Taken as taken
use Rattle.act_desk.proofs.Stays.{work-stays}
use Rattle.act_desk.proofs.Watching.{beside-watched, watched-beside, watched-trans}

-- ---- calls, one after another

module _ {X : Type 0} (Call : X → History → History → Type 0) where
  -- a call more
  pub in-order-next : (xs : List X) (x : X) (one two three : History) → InOrder Call xs one two → Call x two three → InOrder Call (xs ++ x ∷ []) one three
  in-order-next [] x one two three same call = (three, subst (λ (h : History). Call x h three) same call, refl)
  in-order-next (y ∷ xs) x one two three calls call = (calls.0, calls.1, in-order-next xs x calls.0 two three calls.2 call)

-- ---- what they add

-- a mark is of the caller k or of nobody
abbrev pub IsOwnMark : ℕ → Mark → Type 0
IsOwnMark k m = (caller_of m ≡ Some k) ⊎ (caller_of m ≡ None)

-- a mark is of nobody
abbrev pub IsNobodysMark : Mark → Type 0
IsNobodysMark m = caller_of m ≡ None

-- a history goes on with marks of a sort
pub record AddsAll (P : Mark → Type 0) (before after : History) : Type 0 where
  pub marks : List Mark
  pub after_is : after ≡ and_all before marks
  pub all : All P marks

module _ (P : Mark → Type 0) where
  pub adds-same : (before after : History) → after ≡ before → AddsAll P before after
  adds-same before after same = record {
    marks = [];
    after_is = same ∙ ap (λ (ms : List Mark). record { portfolio = before.portfolio; quotas = before.quotas; marks = ms }) (sym (append-nil before.marks));
    all = All-nil P;
  }

  pub adds-then : (one two three : History) → AddsAll P one two → AddsAll P two three → AddsAll P one three
  adds-then one two three first second = record {
    marks = first.marks ++ second.marks;
    after_is =
        second.after_is
        ∙ (ap (λ (h : History). and_all h second.marks) first.after_is
        ∙ ap (λ (ms : List Mark). record { portfolio = one.portfolio; quotas = one.quotas; marks = ms }) (append_assoc one.marks first.marks second.marks));
    all = All-append P first.marks second.marks first.all second.all;
  }

  module _ {X : Type 0} (Call : X → History → History → Type 0) (each : (x : X) (before after : History) → Call x before after → AddsAll P before after) where
    pub in-order-adds : (xs : List X) (before after : History) → InOrder Call xs before after → AddsAll P before after
    in-order-adds [] before after same = adds-same before after same
    in-order-adds (x ∷ xs) before after calls = adds-then before calls.0 after (each x before calls.0 calls.1) (in-order-adds xs calls.0 after calls.2)

    pub from-last-adds : (xs : List X) (before after : History) → FromLast Call xs before after → AddsAll P before after
    from-last-adds [] before after same = adds-same before after same
    from-last-adds (x ∷ xs) before after calls = adds-then before calls.0 after (from-last-adds xs before calls.0 calls.1) (each x calls.0 after calls.2)

-- a mark of nobody, or none
pub adds-nobodys-one : (before after : History) → AddsNobodys before after → AddsAll IsNobodysMark before after
adds-nobodys-one before after is = by is.mark is.after_is is.nobodys
  where
    by : (m : Option Mark) → after ≡ and_maybe before m → IsNobodys m → AddsAll IsNobodysMark before after
    by None same nobodys = adds-same IsNobodysMark before after same
    by (Some m) same nobodys = record { marks = m ∷ []; after_is = same; all = All-cons IsNobodysMark m [] nobodys (All-nil IsNobodysMark) }

-- a mark of the caller k or of nobody, or none
pub adds-own-one : (k : ℕ) (before after : History) → Adds k before after → AddsAll (IsOwnMark k) before after
adds-own-one k before after is = by is.mark is.after_is is.own
  where
    by : (m : Option Mark) → after ≡ and_maybe before m → IsOwn k m → AddsAll (IsOwnMark k) before after
    by None same own = adds-same (IsOwnMark k) before after same
    by (Some m) same own = record { marks = m ∷ []; after_is = same; all = All-cons (IsOwnMark k) m [] own (All-nil (IsOwnMark k)) }

-- what is nobody's may stand beside what is the caller's
pub nobodys-own : (k : ℕ) (before after : History) → AddsAll IsNobodysMark before after → AddsAll (IsOwnMark k) before after
nobodys-own k before after is = record { marks = is.marks; after_is = is.after_is; all = each is.marks is.all }
  where
    each : (ms : List Mark) → All IsNobodysMark ms → All (IsOwnMark k) ms
    each [] all = All-nil (IsOwnMark k)
    each (m ∷ ms) all = All-cons (IsOwnMark k) m ms (inr (All-head IsNobodysMark m ms all)) (each ms (All-tail IsNobodysMark m ms all))

-- the list of a history with marks more
pub list-all : (history : History) (marks : List Mark) → list_of (and_all history marks) ≡ list_of history ++ map entry.Mark marks
list-all history marks = ap (λ (es : List Entry). entry.Opening history.portfolio history.quotas ∷ es) (map-append entry.Mark history.marks marks)

-- ---- a turn

pub goes-on-all : (k : ℕ) (before after : History) → AddsAll (IsOwnMark k) before after → GoesOn author_of k (list_of before) (list_of after)
goes-on-all k before after adds = (map entry.Mark adds.marks, ap list_of adds.after_is ∙ list-all before adds.marks, each adds.marks adds.all)
  where
    P : Entry → Type 0
    P e = (author_of e ≡ Some k) ⊎ (author_of e ≡ None)

    each : (ms : List Mark) → All (IsOwnMark k) ms → All (λ (e : Entry). (author_of e ≡ Some k) ⊎ (author_of e ≡ None)) (map entry.Mark ms)
    each [] all = All-nil (λ (e : Entry). (author_of e ≡ Some k) ⊎ (author_of e ≡ None))
    each (m ∷ ms) all =
        All-cons (λ (e : Entry). (author_of e ≡ Some k) ⊎ (author_of e ≡ None)) (entry.Mark m) (map entry.Mark ms) (All-head (IsOwnMark k) m ms all) (each ms (All-tail (IsOwnMark k) m ms all))

turn-made : (Calls : History → History → Type 0) (old new : Standing Entry) (found after : History)
    → old.holds ≡ false → IsPrefix old.seen (list_of found) → entries_of author_of old.number (list_of found) ≡ own_entries author_of old
    → new ≡ record old { seen = list_of after; came = list_of found; turns = old.turns + 1; holds = false }
    → AddsAll (IsOwnMark old.number) found after → Calls found after → IsTurn old Calls new
turn-made Calls old new found after free begins own is adds calls =
    let seen : list_of after ≡ list_of found ++ map entry.Mark adds.marks = ap list_of adds.after_is ∙ list-all found adds.marks in
    let pass : new ≡ record old { seen = list_of found ++ map entry.Mark adds.marks; came = list_of found; turns = old.turns + 1 } =
    is ∙ (ap (λ (xs : List Entry). record old { seen = xs; came = list_of found; turns = old.turns + 1; holds = false }) seen
    ∙ ap (λ b. record old { seen = list_of found ++ map entry.Mark adds.marks; came = list_of found; turns = old.turns + 1; holds = b }) (sym free)) in
    record {
      found = found;
      marks = adds.marks;
      begins = begins;
      calls = subst (λ (h : History). Calls found h) adds.after_is calls;
      pass = pass;
      own =
          ap (own_entries author_of) pass
          ∙ (filter-append (λ (e : Entry). is_by old.number (author_of e)) (list_of found) (map entry.Mark adds.marks) ∙ ap (λ (xs : List Entry). xs ++ entries_of author_of old.number (map entry.Mark adds.marks)) own);
    }

module _ {old held : Standing Entry} {found lent : History} (is : taken.IsTurn old held found lent) {after : History} (adds : AddsAll (IsOwnMark old.number) lent after) where
  -- what was taken may be given back
  pub may-give-all : GoesOn author_of held.number held.seen (list_of after)
  may-give-all =
      subst (λ (pass : Standing Entry). GoesOn author_of pass.number pass.seen (list_of after)) (sym is.pass)
      (goes-on-all old.number found after (subst (λ (h : History). AddsAll (IsOwnMark old.number) h after) is.value adds))

  -- and the calls are steps in one turn
  pub is-turn : {Calls : History → History → Type 0} {new : Standing Entry} → new ≡ record held { seen = list_of after; holds = false } → Calls lent after → IsTurn old Calls new
  is-turn {Calls} {new} given calls =
      turn-made Calls old new found after is.free is.begins is.own
      (given ∙ ap (λ (pass : Standing Entry). record pass { seen = list_of after; holds = false }) is.pass)
      (subst (λ (h : History). AddsAll (IsOwnMark old.number) h after) is.value adds) (subst (λ (h : History). Calls h after) is.value calls)

-- ---- what a pass knows then

-- its turn comes, which it watches, and then the calls are made
pub record Enters (old : Standing Entry) (Calls : History → History → Type 0) (new : Standing Entry) : Type 0 where
  pub first : Standing Entry
  pub watched : HasWatched old first
  pub found : History
  pub after : History
  pub had : first.seen ≡ list_of found
  pub calls : Calls found after
  pub seen : new.seen ≡ list_of after
  pub turn : new.turn ≡ first.turn
  pub number : new.number ≡ first.number
  pub holds : new.holds ≡ first.holds

pub enters : (Calls : History → History → Type 0) (old new : Standing Entry) → IsTurn old Calls new → Enters old Calls new
enters Calls old new is =
    let more : List Entry = map entry.Mark is.marks in
    let whole : own_entries author_of new ≡ entries_of author_of old.number (list_of is.found) ++ entries_of author_of old.number more =
    ap (own_entries author_of) is.pass ∙ filter-append (λ (e : Entry). is_by old.number (author_of e)) (list_of is.found) more in
    let own : entries_of author_of old.number (list_of is.found) ≡ own_entries author_of old =
    append_cancel_right (entries_of author_of old.number (list_of is.found)) (own_entries author_of old) (entries_of author_of old.number more) (sym whole ∙ is.own) in
    record {
      first = record old { seen = list_of is.found; came = list_of is.found; turns = old.turns + 1 };
      watched = record { turn = refl; number = refl; holds = refl; begins = is.begins; own = own; history = is.found; seen = refl };
      found = is.found;
      after = and_all is.found is.marks;
      had = refl;
      calls = is.calls;
      seen = ap (λ (p : Standing Entry). p.seen) is.pass ∙ sym (list-all is.found is.marks);
      turn = ap (λ (p : Standing Entry). p.turn) is.pass;
      number = ap (λ (p : Standing Entry). p.number) is.pass;
      holds = ap (λ (p : Standing Entry). p.holds) is.pass;
    }

-- marks of nobody aren't the caller's own
none-own : (k : ℕ) (ms : List Mark) → All IsNobodysMark ms → NoneBy k ms
none-own k [] all = refl
none-own k (m ∷ ms) all = let nobody = All-head IsNobodysMark m ms all in let rest = none-own k ms (All-tail IsNobodysMark m ms all) in rw nobody rest

beside-all : (k : ℕ) (found after : History) → AddsAll IsNobodysMark found after → GoesOnBeside k found after
beside-all k found after adds = record { marks = adds.marks; found_is = adds.after_is ∙ sym (going-on found adds.marks); others = none-own k adds.marks adds.all }

-- a turn in which nothing of the pass's own is added
pub watched-turn : (Calls : History → History → Type 0) (old new : Standing Entry) → ((found after : History) → Calls found after → AddsAll IsNobodysMark found after) → IsTurn old Calls new → HasWatched old new
watched-turn Calls old new adds is =
    let e = enters Calls old new is in
    watched-trans e.watched
    (beside-watched e.first new e.first.number refl e.found e.had e.after e.turn e.number e.holds e.seen (beside-all e.first.number e.found e.after (adds e.found e.after e.calls)))

-- ---- evaluations

pub finishes-adds : (works : List Work) (before after : History) → FromLast Finishes works before after → AddsAll IsNobodysMark before after
finishes-adds = from-last-adds IsNobodysMark Finishes (λ work before after is. adds-nobodys-one before after (adds-finish before after work is))

hands-out-adds : (works : List Work) (before after : History) → InOrder HandsOut works before after → AddsAll IsNobodysMark before after
hands-out-adds = in-order-adds IsNobodysMark HandsOut (λ work before after is. adds-nobodys-one before after (adds-claim before after (Ok (claim.Task work)) (record { claimed = is; memory = tt; unchanged = tt })))

pub claims-adds : (works : List Work) (answer : Result Claimed NoMemory) (before after : History) → ClaimsSome works answer before after → AddsAll IsNobodysMark before after
claims-adds works (Ok claimed.Tasks) before after is = hands-out-adds works before after is.1
claims-adds works (Ok claimed.Idle) before after is = adds-same IsNobodysMark before after is.1.3
claims-adds works (Ok claimed.Ended) before after is = adds-same IsNobodysMark before after is.1.2
claims-adds works (Ok claimed.GivenUp) before after is = adds-same IsNobodysMark before after is.1.1
claims-adds works (Err fault) before after is = adds-same IsNobodysMark before after is.1.unchanged

pub both-add : (dones works : List Work) (answer : Result Claimed NoMemory) (before after : History) → FinishesAndClaims dones works answer before after → AddsAll IsNobodysMark before after
both-add dones works answer before after is =
    adds-then IsNobodysMark before is.0 after (finishes-adds dones before is.0 is.1) (claims-adds works answer is.0 after is.2)

-- what is of a history is of it as others are handed out
of-next : (work other : Work) (before after : History) → HandsOut other before after → IsOf before work → IsOf after work
of-next work other before after is of =
    subst (λ (h : History). IsOf h work) (sym is.3)
    (record { portfolio = of.portfolio; entries = of.entries ∙ sym (ap (take (version work)) (entries-same before (mark.Claim other.contract (version other)) refl)) })

of-later : (work : Work) (others : List Work) (before after : History) → InOrder HandsOut others before after → IsOf before work → IsOf after work
of-later work [] before after same of = subst (λ (h : History). IsOf h work) (sym same) of
of-later work (other ∷ others) before after is of = of-later work others is.0 after is.2 (of-next work other before is.0 is.1 of)

pub all-of : (works : List Work) (before after : History) → InOrder HandsOut works before after → All (IsOf after) works
all-of [] before after same = All-nil (IsOf after)
all-of (work ∷ works) before after is =
    All-cons (IsOf after) work works (of-later work works is.0 after is.2 (of-next work work before is.0 is.1 is.1.1)) (all-of works is.0 after is.2)

-- work that is of a history is of it as work comes back
of-finished : (work other : Work) (before after : History) → Finishes other before after → IsOf before work → IsOf after work
of-finished work other before after is of =
    work-stays 0 before after (beside-all 0 before after (adds-nobodys-one before after (adds-finish before after other is))) work of

pub all-stay : (works : List Work) (other : Work) (before after : History) → Finishes other before after → All (IsOf before) works → All (IsOf after) works
all-stay [] other before after is all = All-nil (IsOf after)
all-stay (work ∷ works) other before after is all =
    All-cons (IsOf after) work works (of-finished work other before after is (All-head (IsOf before) work works all)) (all-stay works other before after is (All-tail (IsOf before) work works all))

-- and as others go on
pub all-found : (k : ℕ) (works : List Work) (history found : History) → GoesOnBeside k history found → All (IsOf history) works → All (IsOf found) works
all-found k [] history found goes all = All-nil (IsOf found)
all-found k (work ∷ works) history found goes all =
    All-cons (IsOf found) work works (work-stays k history found goes work (All-head (IsOf history) work works all)) (all-found k works history found goes (All-tail (IsOf history) work works all))

-- what was handed out is of the history that the pass has then seen
pub handed-out : (dones works : List Work) (old new : Standing Entry) → IsTurn old (FinishesAndClaims dones works (Ok claimed.Tasks)) new → HasSeen new (λ history. All (IsOf history) works)
handed-out dones works old new is =
    let e = enters (FinishesAndClaims dones works (Ok claimed.Tasks)) old new is in
    record { history = e.after; seen = e.seen; holds = all-of works e.calls.0 e.after e.calls.2.1 }

-- nothing more will come
pub ended-over : (dones works : List Work) (old new : Standing Entry) → IsTurn old (FinishesAndClaims dones works (Ok claimed.Ended)) new → HasSeen new IsOver
ended-over dones works old new is =
    let e = enters (FinishesAndClaims dones works (Ok claimed.Ended)) old new is in
    let ended = e.calls.2.1 in
    record { history = e.after; seen = e.seen; holds = subst IsOver (sym ended.2) (record { going = ended.0; ended = ended.1 }) }

pub watched-both : (dones works : List Work) (answer : Result Claimed NoMemory) (old new : Standing Entry) → IsTurn old (FinishesAndClaims dones works answer) new → HasWatched old new
watched-both dones works answer old new = watched-turn (FinishesAndClaims dones works answer) old new (both-add dones works answer)

pub watched-finishes : (dones : List Work) (old new : Standing Entry) → IsTurn old (FromLast Finishes dones) new → HasWatched old new
watched-finishes dones old new = watched-turn (FromLast Finishes dones) old new (finishes-adds dones)

-- work of a portfolio that a pass has seen
pub all-portfolio : (works : List Work) (of : Accepted) (pass : Standing Entry) → HasSeen pass (λ history. All (IsOf history) works) → HasSeen pass (λ history. history.portfolio ≡ of) → All (λ (work : Work). of ≡ work.portfolio) works
all-portfolio works of pass are seen = each works are.holds
  where
    same : are.history ≡ seen.history
    same = same-history are.history seen.history (sym are.seen ∙ seen.seen)

    each : (ws : List Work) → All (IsOf are.history) ws → All (λ (work : Work). of ≡ work.portfolio) ws
    each [] all = All-nil (λ (work : Work). of ≡ work.portfolio)
    each (w ∷ ws) all =
        let one = All-head (IsOf are.history) w ws all in
        All-cons (λ (work : Work). of ≡ work.portfolio) w ws (sym (one.portfolio ∙ (ap (λ (h : History). h.portfolio) same ∙ seen.holds))) (each ws (All-tail (IsOf are.history) w ws all))

-- what is of a history that the pass has seen is of the one that it sees later
pub watched-all : {old new : Standing Entry} (works : List Work) → HasWatched old new → HasSeen old (λ history. All (IsOf history) works) → HasSeen new (λ history. All (IsOf history) works)
watched-all {old} {new} works is had = record {
  history = is.history;
  seen = is.seen;
  holds = all-found old.number works had.history is.history (watched-beside old new old.number refl had.history had.seen is) had.holds;
}
