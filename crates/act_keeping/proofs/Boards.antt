-- What a board keeps, after each of its calls.
use Rattle.std.proofs.Common.{◌≡◌, ℕ, suc, ◌+◌, ◌-◌, ◌<◌, ◌≤◌, cond, Bool, true, false, List, [], ◌∷◌, ◌++◌, length, take, Some, None, refl, sym, ap, subst, ◌∙◌, arith, sum_by}
use Rattle.std.specs.List.{slice_get}
use Rattle.std.proofs.lemmas.List.{length_push, take-append-le}
use Rattle.std.proofs.lemmas.Option.{slice_get_within}
use Rattle.act_model.specs.declared.asks.Asking.{Asking}
use Rattle.act_model.specs.declared.journal.Item.{Item}
use Rattle.act_model.specs.declared.journal.Step.TheVariants as step
use Rattle.act_model.specs.declared.observed.Obs.{Obs}
use Rattle.act_history.specs.History.{History, and_then, entries_of, is_collect_by, is_give_up, is_given_up, item_of, open_asks, version_of}
use Rattle.act_keeping.specs.Keeping.{AreCallers, IsBoard, IsCaller, IsUntouched, Keeping, Leaves, Spends, owed_by, owed_for}
use Rattle.act_history.specs.Legal.{IsLegal}
use Rattle.act_keeping.specs.declared.caller.Caller.{Caller}
use Rattle.act_history.specs.declared.mark.Mark.{Mark}
use Rattle.act_history.specs.declared.mark.Mark.TheVariants as mark
use Rattle.act_keeping.proofs.Callers.{caller-at, caller-appended, caller-left, callers-next, callers-same, callers-spared, spares-append, spares-give_up, spares-leave, sum-written}
use Rattle.act_history.proofs.Going.{any-not, any-yes, asks-append, asks-same, entries-more, entries-same, journal-more, journal-same, open-same, sound-next}
use Rattle.act_keeping.proofs.Pairs.{Stay, pairs-quiet}

-- ---- marks without a step

module _ (history : History) (m : Mark) (none : item_of m ≡ None) where
  pub stay-none : Stay history m
  stay-none v le = ap (λ (entries : List Obs). take v entries) (entries-same history m none)

  pub same-none : version_of (and_then history m) ≡ version_of history
  same-none = ap length (entries-same history m none)

  pub open-none : (i : ℕ) → is_collect_by i m ≡ false → open_asks (and_then history m) i ≡ open_asks history i
  open-none i not = open-same i history m (asks-same i history m none) not

-- ---- what stays

module _ (history : History) (kept : Keeping) (b : IsBoard history kept) where
  -- the caller of a number
  pub caller-told : (i : ℕ) (caller : Caller) → 1 ≤ i → slice_get kept.callers (i - 1) ≡ Some caller → (quota : ℕ) × (slice_get history.quotas (i - 1) ≡ Some quota) × IsCaller history i quota caller
  caller-told i caller from at = caller-at history kept.callers i (i - 1) caller b.callers (omega arith) at

  -- more room
  pub board-room : (more : ℕ) → kept.capacity ≤ more → IsBoard history (record kept { capacity = more })
  board-room more le = record {
    ordered = b.ordered;
    count = b.count;
    numbered = b.numbered;
    sound = b.sound;
    items = b.items;
    entries = b.entries;
    given_up = b.given_up;
    callers = b.callers;
    pairs = b.pairs;
    front = b.front;
    owing = b.owing;
    room = omega (arith, b.room);
    fits = b.fits;
  }

  -- a caller that is written as it was
  pub board-untouched : (place : ℕ) (written : List Caller) → IsUntouched kept.callers place written → IsBoard history (record kept { callers = written })
  board-untouched place written same = record {
    ordered = b.ordered;
    count = b.count;
    numbered = b.numbered;
    sound = b.sound;
    items = b.items;
    entries = b.entries;
    given_up = b.given_up;
    callers = subst (AreCallers history) (sym same.is) (callers-same history kept.callers place same.before same.after same.was same.left same.remaining same.asked same.asks b.callers);
    pairs = b.pairs;
    front = b.front;
    owing = b.owing ∙ ap (λ (n : ℕ). n + sum_by owed_for kept.pairs + cond kept.given_up 0 1) (sym owed-same);
    room = b.room;
    fits = omega (arith, b.fits, ap (sum_by (λ (caller : Caller). caller.remaining)) same.is, sum-written (λ (caller : Caller). caller.remaining) kept.callers place same.before same.after same.was, same.remaining);
  }
    where
      owes-same : owed_by same.after ≡ owed_by same.before
      owes-same = ap (λ (asks : List Asking). length asks + cond same.after.left 0 1) same.asks ∙ ap (λ (left : Bool). length same.before.open_asks.items + cond left 0 1) same.left

      owed-same : sum_by owed_by written ≡ sum_by owed_by kept.callers
      owed-same = omega (arith, ap (sum_by owed_by) same.is, sum-written owed_by kept.callers place same.before same.after same.was, owes-same)

  -- ---- append

  pub board-appended : (i : ℕ) (entry : Obs) (marks : List Mark) (more : ℕ) (steps' : List Item) (book' : List Obs) (all' : List Caller)
      → IsLegal history (mark.Append i entry) → marks ≡ history.marks ++ mark.Append i entry ∷ [] → length history.marks + (kept.owing + 1) ≤ more
      → steps' ≡ kept.items ++ record { caller = i; step = step.Append entry } ∷ [] → book' ≡ kept.book ++ entry ∷ [] → Spends kept.callers (i - 1) all' → ((one : Caller) → slice_get kept.callers (i - 1) ≡ Some one → 0 < one.remaining)
      → IsBoard (record { portfolio = history.portfolio; quotas = history.quotas; marks = marks }) (record kept { capacity = more; items = steps'; book = book'; callers = all' })
  board-appended i entry marks more steps' book' all' legal marked room stepped booked spends some = subst (λ (ms : List Mark). IsBoard (record { portfolio = history.portfolio; quotas = history.quotas; marks = ms }) (record kept { capacity = more; items = steps'; book = book'; callers = all' })) (sym marked) after
    where
      m : Mark
      m = mark.Append i entry

      item : Item
      item = record { caller = i; step = step.Append entry }

      entries : entries_of (and_then history m) ≡ entries_of history ++ entry ∷ []
      entries = entries-more history m item entry refl refl

      grows : version_of history ≤ version_of (and_then history m)
      grows = omega (arith, ap length entries, length_push (entries_of history) entry)

      stay : Stay history m
      stay v le = ap (λ (xs : List Obs). take v xs) entries ∙ take-append-le v (entries_of history) (entry ∷ []) le

      going : is_given_up (and_then history m) ≡ is_given_up history
      going = any-not is_give_up history.marks m refl

      own : suc (i - 1) ≡ i
      own = omega (arith, legal.0.from)

      callers : AreCallers (and_then history m) all'
      callers = subst (AreCallers (and_then history m)) (sym spends.is) (callers-next history m kept.callers (i - 1) spends.after (slice_get_within kept.callers (i - 1) spends.before spends.was) grows (λ is. sym going ∙ is)
          (λ k other. spares-append history i (suc k) entry (λ same. other (omega (arith, same))))
          (λ quota at. subst (λ (n : ℕ). IsCaller (and_then history m) n quota spends.after) (sym own)
          (caller-appended history i quota spends.before spends.after (subst (λ (n : ℕ). IsCaller history n quota spends.before) own (b.callers.each (i - 1) quota spends.before at spends.was)) entry grows (some spends.before spends.was) spends.left spends.remaining spends.asked spends.asks))
          b.callers)

      owes-same : owed_by spends.after ≡ owed_by spends.before
      owes-same = ap (λ (asks : List Asking). length asks + cond spends.after.left 0 1) spends.asks ∙ ap (λ (left : Bool). length spends.before.open_asks.items + cond left 0 1) spends.left

      owed-same : sum_by owed_by all' ≡ sum_by owed_by kept.callers
      owed-same = omega (arith, ap (sum_by owed_by) spends.is, sum-written owed_by kept.callers (i - 1) spends.before spends.after spends.was, owes-same)

      after : IsBoard (and_then history m) (record kept { capacity = more; items = steps'; book = book'; callers = all' })
      after = record {
        ordered = b.ordered;
        count = b.count;
        numbered = b.numbered;
        sound = sound-next history m b.sound legal;
        items = stepped ∙ (ap (λ (xs : List Item). xs ++ item ∷ []) b.items ∙ sym (journal-more history m item refl));
        entries = booked ∙ (ap (λ (xs : List Obs). xs ++ entry ∷ []) b.entries ∙ sym entries);
        given_up = b.given_up ∙ sym going;
        callers = callers;
        pairs = pairs-quiet history m kept.pairs stay grows (λ c v. refl) (λ c v. refl) (λ k. open-same k history m (asks-append k history m item entry refl refl) refl) (λ is. sym going ∙ is) b.pairs;
        front = b.front;
        owing = b.owing ∙ ap (λ (n : ℕ). n + sum_by owed_for kept.pairs + cond kept.given_up 0 1) (sym owed-same);
        room = omega (arith, room, length_push history.marks m);
        fits = omega (
          arith,
          b.fits,
          ap length booked,
          length_push kept.book entry,
          ap (sum_by (λ (caller : Caller). caller.remaining)) spends.is,
          sum-written (λ (caller : Caller). caller.remaining) kept.callers (i - 1) spends.before spends.after spends.was,
          spends.remaining,
          some spends.before spends.was,
        );
      }

  -- ---- leave

  pub board-left : (i : ℕ) (marks : List Mark) (more : ℕ) (all' : List Caller) → IsLegal history (mark.Leave i) → marks ≡ history.marks ++ mark.Leave i ∷ [] → kept.capacity ≤ more → Leaves kept.callers (i - 1) all'
      → (1 ≤ kept.owing) × IsBoard (record { portfolio = history.portfolio; quotas = history.quotas; marks = marks }) (record kept { capacity = more; callers = all'; owing = kept.owing - 1 })
  board-left i marks more all' legal marked room leaves = (
    omega (arith, b.owing, owed-less),
    subst (λ (ms : List Mark). IsBoard (record { portfolio = history.portfolio; quotas = history.quotas; marks = ms }) (record kept { capacity = more; callers = all'; owing = kept.owing - 1 })) (sym marked) after,
  )
    where
      m : Mark
      m = mark.Leave i

      grows : version_of history ≤ version_of (and_then history m)
      grows = omega (arith, same-none history m refl)

      going : is_given_up (and_then history m) ≡ is_given_up history
      going = any-not is_give_up history.marks m refl

      own : suc (i - 1) ≡ i
      own = omega (arith, legal.0.from)

      told : (quota : ℕ) × (slice_get history.quotas (i - 1) ≡ Some quota) × IsCaller history i quota leaves.before
      told = caller-told i leaves.before legal.0.from leaves.was

      here : leaves.before.left ≡ false
      here = told.2.left ∙ legal.0.here

      callers : AreCallers (and_then history m) all'
      callers = subst (AreCallers (and_then history m)) (sym leaves.is) (callers-next history m kept.callers (i - 1) leaves.after (slice_get_within kept.callers (i - 1) leaves.before leaves.was) grows (λ is. sym going ∙ is)
          (λ k other. spares-leave history i (suc k) (λ same. other (omega (arith, same))))
          (λ quota at. subst (λ (n : ℕ). IsCaller (and_then history m) n quota leaves.after) (sym own)
          (caller-left history i quota leaves.before leaves.after (subst (λ (n : ℕ). IsCaller history n quota leaves.before) own (b.callers.each (i - 1) quota leaves.before at leaves.was)) grows legal.1 leaves.left leaves.remaining leaves.asked leaves.asks))
          b.callers)

      owes-more : owed_by leaves.before ≡ owed_by leaves.after + 1
      owes-more =
          let before : owed_by leaves.before ≡ length leaves.before.open_asks.items + 1 = ap (λ (left : Bool). length leaves.before.open_asks.items + cond left 0 1) here in
          let after : owed_by leaves.after ≡ length leaves.after.open_asks.items + 0 = ap (λ (left : Bool). length leaves.after.open_asks.items + cond left 0 1) leaves.left in
          omega (arith, before, after, ap length leaves.asks)

      owed-less : sum_by owed_by all' + 1 ≡ sum_by owed_by kept.callers
      owed-less = omega (arith, ap (sum_by owed_by) leaves.is, sum-written owed_by kept.callers (i - 1) leaves.before leaves.after leaves.was, owes-more)

      after : IsBoard (and_then history m) (record kept { capacity = more; callers = all'; owing = kept.owing - 1 })
      after = record {
        ordered = b.ordered;
        count = b.count;
        numbered = b.numbered;
        sound = sound-next history m b.sound legal;
        items = b.items ∙ sym (journal-same history m refl);
        entries = b.entries ∙ sym (entries-same history m refl);
        given_up = b.given_up ∙ sym going;
        callers = callers;
        pairs = pairs-quiet history m kept.pairs (stay-none history m refl) grows (λ c v. refl) (λ c v. refl) (λ k. open-none history m refl k refl) (λ is. sym going ∙ is) b.pairs;
        front = b.front;
        owing = omega (arith, b.owing, owed-less);
        room = omega (arith, room, b.room, length_push history.marks m, b.owing, owed-less);
        fits = omega (arith, b.fits, ap (sum_by (λ (caller : Caller). caller.remaining)) leaves.is, sum-written (λ (caller : Caller). caller.remaining) kept.callers (i - 1) leaves.before leaves.after leaves.was, leaves.remaining);
      }

  -- ---- give up

  pub board-given_up : (marks : List Mark) (more : ℕ) → kept.given_up ≡ false → marks ≡ history.marks ++ mark.GiveUp ∷ [] → kept.capacity ≤ more
      → IsBoard (record { portfolio = history.portfolio; quotas = history.quotas; marks = marks }) (record kept { capacity = more; owing = kept.owing - 1; given_up = true })
  board-given_up marks more going marked room = subst (λ (ms : List Mark). IsBoard (record { portfolio = history.portfolio; quotas = history.quotas; marks = ms }) (record kept { capacity = more; owing = kept.owing - 1; given_up = true })) (sym marked) after
    where
      m : Mark
      m = mark.GiveUp

      grows : version_of history ≤ version_of (and_then history m)
      grows = omega (arith, same-none history m refl)

      over : is_given_up (and_then history m) ≡ true
      over = any-yes is_give_up history.marks m refl

      never : is_given_up (and_then history m) ≡ false → is_given_up history ≡ false
      never is = absurd (let so = sym over ∙ is in cc)

      owes-is : kept.owing ≡ sum_by owed_by kept.callers + sum_by owed_for kept.pairs + 1
      owes-is = b.owing ∙ ap (λ (over : Bool). sum_by owed_by kept.callers + sum_by owed_for kept.pairs + cond over 0 1) going

      after : IsBoard (and_then history m) (record kept { capacity = more; owing = kept.owing - 1; given_up = true })
      after = record {
        ordered = b.ordered;
        count = b.count;
        numbered = b.numbered;
        sound = sound-next history m b.sound (sym b.given_up ∙ going);
        items = b.items ∙ sym (journal-same history m refl);
        entries = b.entries ∙ sym (entries-same history m refl);
        given_up = sym over;
        callers = callers-spared history m kept.callers grows never (spares-give_up history) b.callers;
        pairs = pairs-quiet history m kept.pairs (stay-none history m refl) grows (λ c v. refl) (λ c v. refl) (λ k. open-none history m refl k refl) never b.pairs;
        front = b.front;
        owing = omega (arith, owes-is);
        room = omega (arith, room, b.room, length_push history.marks m, owes-is);
        fits = b.fits;
      }
