-- What is kept of callers, as a history goes on.
use Rattle.std.proofs.Common.{◌≡◌, ◌≢◌, ◌⊎◌, ℕ, suc, ◌+◌, ◌-◌, ◌<◌, ◌≤◌, ◌==◌, true, false, List, [], ◌∷◌, ◌++◌, length, drop, set, get_or, Some, inl, inr, refl, sym, ap, subst, ◌∙◌, arith, sum_by, eq-eqb}
use Rattle.std.specs.List.{All, slice_get}
use Rattle.std.proofs.lemmas.Bool.{ne_eqb}
use Rattle.std.proofs.lemmas.List.{length-append, length-drop, length-set}
use Rattle.std.proofs.lemmas.List.Elements.{All-drop, All-push, All-weaker}
use Rattle.std.proofs.lemmas.List.Sums.{sum_by-set}
use Rattle.std.proofs.lemmas.Option.{get_or_from_slice_get, slice_get-get_or, slice_get_within}
use Rattle.act_model.specs.Journal.{is_known}
use Rattle.act_model.specs.declared.asks.Asking.{Asking}
use Rattle.act_model.specs.declared.journal.Asked.{Asked}
use Rattle.act_model.specs.declared.journal.Step.TheVariants as step
use Rattle.act_model.specs.declared.observed.Obs.{Obs}
use Rattle.act_history.specs.History.{History, and_then, appended_by, asks_by, collected_by, has_left, is_append_by, is_collect_by, is_give_up, is_given_up, is_leave_by, open_asks, version_of}
use Rattle.act_keeping.specs.Keeping.{AreCallers, IsAsk, IsCaller}
use Rattle.act_keeping.specs.declared.caller.Caller.{Caller}
use Rattle.act_history.specs.declared.mark.Mark.{Mark}
use Rattle.act_history.specs.declared.mark.Mark.TheVariants as mark
use Rattle.act_history.proofs.Going.{any-not, any-yes, asks-append, asks-other, asks-own, asks-same, count-not, count-yes, open-less, open-more, open-same}
use Rattle.act_history.proofs.Places.{get-set_cases}

-- ---- a caller whom a mark isn't of

pub record Spares (history : History) (m : Mark) (i : ℕ) : Type 0 where
  pub append : is_append_by i m ≡ false
  pub collect : is_collect_by i m ≡ false
  pub leave : is_leave_by i m ≡ false
  pub asks : asks_by (and_then history m) i ≡ asks_by history i

-- a mark of another
other : (i j : ℕ) → j ≢ i → (j == i) ≡ false
other i j apart = ne_eqb j i apart

pub spares-append : (history : History) (j i : ℕ) (entry : Obs) → j ≢ i → Spares history (mark.Append j entry) i
spares-append history j i entry apart = record {
  append = other i j apart;
  collect = refl;
  leave = refl;
  asks = asks-append i history (mark.Append j entry) (record { caller = j; step = step.Append entry }) entry refl refl;
}

pub spares-ask : (history : History) (j i : ℕ) (asked : Asked) → j ≢ i → Spares history (mark.Ask j asked) i
spares-ask history j i asked apart = record {
  append = refl;
  collect = refl;
  leave = refl;
  asks = asks-other i history (mark.Ask j asked) (record { caller = j; step = step.Ask asked }) asked refl refl (other i j apart);
}

pub spares-collect : (history : History) (j i : ℕ) → j ≢ i → Spares history (mark.Collect j) i
spares-collect history j i apart = record { append = refl; collect = other i j apart; leave = refl; asks = asks-same i history (mark.Collect j) refl }

pub spares-leave : (history : History) (j i : ℕ) → j ≢ i → Spares history (mark.Leave j) i
spares-leave history j i apart = record { append = refl; collect = refl; leave = other i j apart; asks = asks-same i history (mark.Leave j) refl }

pub spares-claim : (history : History) (c v i : ℕ) → Spares history (mark.Claim c v) i
spares-claim history c v i = record { append = refl; collect = refl; leave = refl; asks = asks-same i history (mark.Claim c v) refl }

pub spares-finish : (history : History) (c v i : ℕ) → Spares history (mark.Finish c v) i
spares-finish history c v i = record { append = refl; collect = refl; leave = refl; asks = asks-same i history (mark.Finish c v) refl }

pub spares-give_up : (history : History) (i : ℕ) → Spares history mark.GiveUp i
spares-give_up history i = record { append = refl; collect = refl; leave = refl; asks = asks-same i history mark.GiveUp refl }

-- ---- one caller

module _ (history : History) (m : Mark) (grows : version_of history ≤ version_of (and_then history m)) where
  pub ask-still : (ask : Asking) → IsAsk history ask → IsAsk (and_then history m) ask
  ask-still ask is = record { known = is.known; version = omega (arith, is.version, grows) }

  module _ (back : is_given_up (and_then history m) ≡ false → is_given_up history ≡ false) (i limit : ℕ) (caller : Caller) (is : IsCaller history i limit caller) where
    pub caller-spared : Spares history m i → IsCaller (and_then history m) i limit caller
    caller-spared spares = record {
      left = is.left ∙ sym (any-not (is_leave_by i) history.marks m spares.leave);
      quota = ap (λ (n : ℕ). caller.remaining + n) (count-not (is_append_by i) history.marks m spares.append) ∙ is.quota;
      asked = is.asked ∙ sym (ap length spares.asks);
      still_open = is.still_open ∙ sym (open-same i history m spares.asks spares.collect);
      few_asked = is.few_asked;
      few_open = is.few_open;
      collected = omega (arith, is.collected, count-not (is_collect_by i) history.marks m spares.collect, ap length spares.asks);
      asks = All-weaker (IsAsk history) (IsAsk (and_then history m)) ask-still caller.open_asks.items is.asks;
      gone = λ left going. is.gone left (back going);
    }

-- ---- the caller whom a mark is of

same-caller : (i : ℕ) → (i == i) ≡ true
same-caller i = eq-eqb i i refl

-- what nobody's giving up changes
pub going-on : (history : History) (m : Mark) → is_give_up m ≡ false → is_given_up (and_then history m) ≡ is_given_up history
going-on history m not = any-not is_give_up history.marks m not

module _ (history : History) (i limit : ℕ) (before after : Caller) (is : IsCaller history i limit before) where
  -- it is written as it was
  pub caller-same : after.left ≡ before.left → after.remaining ≡ before.remaining → after.asked ≡ before.asked → after.open_asks.items ≡ before.open_asks.items → IsCaller history i limit after
  caller-same left remaining asked asks = record {
    left = left ∙ is.left;
    quota = ap (λ (n : ℕ). n + appended_by history i) remaining ∙ is.quota;
    asked = asked ∙ is.asked;
    still_open = asks ∙ is.still_open;
    few_asked = omega (arith, is.few_asked, asked);
    few_open = omega (arith, is.few_open, ap length asks);
    collected = is.collected;
    asks = subst (All (IsAsk history)) (sym asks) is.asks;
    gone = λ gone going. asks ∙ is.gone (sym left ∙ gone) going;
  }

  -- it has appended an entry
  pub caller-appended : (entry : Obs) → version_of history ≤ version_of (and_then history (mark.Append i entry)) → 0 < before.remaining
      → after.left ≡ before.left → after.remaining ≡ before.remaining - 1 → after.asked ≡ before.asked → after.open_asks.items ≡ before.open_asks.items → IsCaller (and_then history (mark.Append i entry)) i limit after
  caller-appended entry grows some left remaining asked asks =
      let m = mark.Append i entry in
      let same : asks_by (and_then history m) i ≡ asks_by history i = asks-append i history m (record { caller = i; step = step.Append entry }) entry refl refl in
      record {
        left = left ∙ (is.left ∙ sym (any-not (is_leave_by i) history.marks m refl));
        quota = omega (arith, remaining, some, is.quota, count-yes (is_append_by i) history.marks m (same-caller i));
        asked = asked ∙ (is.asked ∙ sym (ap length same));
        still_open = asks ∙ (is.still_open ∙ sym (open-same i history m same refl));
        few_asked = omega (arith, is.few_asked, asked);
        few_open = omega (arith, is.few_open, ap length asks);
        collected = omega (arith, is.collected, count-not (is_collect_by i) history.marks m refl, ap length same);
        asks = subst (All (IsAsk (and_then history m))) (sym asks) (All-weaker (IsAsk history) (IsAsk (and_then history m)) (ask-still history m grows) before.open_asks.items is.asks);
        gone = λ gone going. asks ∙ is.gone (sym left ∙ gone) (sym (going-on history m refl) ∙ going);
      }

  -- it has asked
  pub caller-asked : (asked : Asked) → version_of history ≤ version_of (and_then history (mark.Ask i asked)) → has_left history i ≡ false
      → is_known history.portfolio.names (step.Ask asked) ≡ true → length (open_asks history i) < 256 → length (asks_by history i) < 4_194_304
      → after.left ≡ before.left → after.remaining ≡ before.remaining → after.asked ≡ before.asked + 1
      → after.open_asks.items ≡ before.open_asks.items ++ record { caller = i; number = before.asked + 1; version = version_of history; asked = asked } ∷ [] → IsCaller (and_then history (mark.Ask i asked)) i limit after
  caller-asked asked grows here known few_open few_asked left remaining number asks =
      let m = mark.Ask i asked in
      let ask : Asking = record { caller = i; number = 1 + length (asks_by history i); version = version_of history; asked = asked } in
      let numbered : before.asked + 1 ≡ 1 + length (asks_by history i) = omega (arith, is.asked) in
      let opened : after.open_asks.items ≡ before.open_asks.items ++ ask ∷ [] =
      asks ∙ ap (λ (n : ℕ). before.open_asks.items ++ record { caller = i; number = n; version = version_of history; asked = asked } ∷ []) numbered in
      let more : asks_by (and_then history m) i ≡ asks_by history i ++ ask ∷ [] = asks-own i history m (record { caller = i; step = step.Ask asked }) asked refl refl (same-caller i) in
      record {
        left = left ∙ (is.left ∙ sym (any-not (is_leave_by i) history.marks m refl));
        quota = omega (arith, remaining, is.quota, count-not (is_append_by i) history.marks m refl);
        asked = omega (arith, number, is.asked, ap length more, length-append (asks_by history i) (ask ∷ []));
        still_open = opened ∙ (ap (λ (xs : List Asking). xs ++ ask ∷ []) is.still_open ∙ sym (open-more i history m ask more refl is.collected));
        few_asked = omega (arith, number, is.asked, few_asked);
        few_open = omega (arith, ap length opened, length-append before.open_asks.items (ask ∷ []), ap length is.still_open, few_open);
        collected = omega (arith, is.collected, count-not (is_collect_by i) history.marks m refl, ap length more, length-append (asks_by history i) (ask ∷ []));
        asks = subst (All (IsAsk (and_then history m))) (sym opened)
            (All-push (IsAsk (and_then history m)) before.open_asks.items ask (All-weaker (IsAsk history) (IsAsk (and_then history m)) (ask-still history m grows) before.open_asks.items is.asks)
            (record { known = known; version = grows }));
        gone = λ gone going. absurd (let stays = sym (sym left ∙ gone) ∙ (is.left ∙ here) in cc);
      }

  -- it has collected
  pub caller-collected : version_of history ≤ version_of (and_then history (mark.Collect i)) → 0 < length before.open_asks.items
      → after.left ≡ before.left → after.remaining ≡ before.remaining → after.asked ≡ before.asked → after.open_asks.items ≡ drop 1 before.open_asks.items → IsCaller (and_then history (mark.Collect i)) i limit after
  caller-collected grows some left remaining asked asks =
      let m : Mark = mark.Collect i in
      let same : asks_by (and_then history m) i ≡ asks_by history i = asks-same i history m refl in
      let long : length (open_asks history i) ≡ length (asks_by history i) - collected_by history i = length-drop (collected_by history i) (asks_by history i) in
      record {
        left = left ∙ (is.left ∙ sym (any-not (is_leave_by i) history.marks m refl));
        quota = omega (arith, remaining, is.quota, count-not (is_append_by i) history.marks m refl);
        asked = asked ∙ (is.asked ∙ sym (ap length same));
        still_open = asks ∙ (ap (λ (xs : List Asking). drop 1 xs) is.still_open ∙ sym (open-less i history m same (same-caller i)));
        few_asked = omega (arith, is.few_asked, asked);
        few_open = omega (arith, is.few_open, ap length asks, length-drop 1 before.open_asks.items);
        collected = omega (arith, is.collected, some, ap length is.still_open, long, count-yes (is_collect_by i) history.marks m (same-caller i), ap length same);
        asks = subst (All (IsAsk (and_then history m))) (sym asks)
            (All-drop (IsAsk (and_then history m)) 1 before.open_asks.items (All-weaker (IsAsk history) (IsAsk (and_then history m)) (ask-still history m grows) before.open_asks.items is.asks));
        gone = λ gone going. asks ∙ ap (λ (xs : List Asking). drop 1 xs) (is.gone (sym left ∙ gone) (sym (going-on history m refl) ∙ going));
      }

  -- it has left
  pub caller-left : version_of history ≤ version_of (and_then history (mark.Leave i)) → (open_asks history i ≡ []) ⊎ (is_given_up history ≡ true)
      → after.left ≡ true → after.remaining ≡ before.remaining → after.asked ≡ before.asked → after.open_asks.items ≡ before.open_asks.items → IsCaller (and_then history (mark.Leave i)) i limit after
  caller-left grows done left remaining asked asks =
      let m : Mark = mark.Leave i in
      let same : asks_by (and_then history m) i ≡ asks_by history i = asks-same i history m refl in
      record {
        left = left ∙ sym (any-yes (is_leave_by i) history.marks m (same-caller i));
        quota = omega (arith, remaining, is.quota, count-not (is_append_by i) history.marks m refl);
        asked = asked ∙ (is.asked ∙ sym (ap length same));
        still_open = asks ∙ (is.still_open ∙ sym (open-same i history m same refl));
        few_asked = omega (arith, is.few_asked, asked);
        few_open = omega (arith, is.few_open, ap length asks);
        collected = omega (arith, is.collected, count-not (is_collect_by i) history.marks m refl, ap length same);
        asks = subst (All (IsAsk (and_then history m))) (sym asks) (All-weaker (IsAsk history) (IsAsk (and_then history m)) (ask-still history m grows) before.open_asks.items is.asks);
        gone = λ gone going. asks ∙ elim done [
          | inl none ↦ is.still_open ∙ none
          | inr over ↦ absurd (let not : is_given_up history ≡ false = sym (going-on history m refl) ∙ going in cc)
        ];
      }

-- ---- all callers

-- the caller of a number
pub caller-at : (history : History) (callers : List Caller) (i place : ℕ) (caller : Caller) → AreCallers history callers → i ≡ suc place → slice_get callers place ≡ Some caller
    → (quota : ℕ) × (slice_get history.quotas place ≡ Some quota) × IsCaller history i quota caller
caller-at history callers i place caller are is at =
    let within : place < length history.quotas = omega (arith, slice_get_within callers place caller at, are.count) in
    let quota = slice_get-get_or history.quotas place 0 within in
    (get_or history.quotas place 0, quota, subst (λ (n : ℕ). IsCaller history n (get_or history.quotas place 0) caller) (sym is) (are.each place (get_or history.quotas place 0) caller quota at))

-- nobody is touched
pub callers-spared : (history : History) (m : Mark) (callers : List Caller) → version_of history ≤ version_of (and_then history m) → (is_given_up (and_then history m) ≡ false → is_given_up history ≡ false)
    → ((i : ℕ) → Spares history m i) → AreCallers history callers → AreCallers (and_then history m) callers
callers-spared history m callers grows back spares are = record {
  count = are.count;
  few = are.few;
  each = λ k quota caller at_quota at. caller-spared history m grows back (suc k) quota caller (are.each k quota caller at_quota at) (spares (suc k));
}

-- one is written
pub callers-next : (history : History) (m : Mark) (callers : List Caller) (place : ℕ) (after : Caller) → place < length callers → version_of history ≤ version_of (and_then history m)
    → (is_given_up (and_then history m) ≡ false → is_given_up history ≡ false) → ((k : ℕ) → k ≢ place → Spares history m (suc k))
    → ((quota : ℕ) → slice_get history.quotas place ≡ Some quota → IsCaller (and_then history m) (suc place) quota after) → AreCallers history callers → AreCallers (and_then history m) (set callers place after)
callers-next history m callers place after within grows back spares here are = record {
  count = length-set callers place after ∙ are.count;
  few = omega (arith, length-set callers place after, are.few);
  each = λ k quota caller at_quota at. elim (get-set_cases callers place k after caller within at) [
    | inl new ↦
        subst (λ (one : Caller). IsCaller (and_then history m) (suc k) quota one) new.1
        (subst (λ (n : ℕ). IsCaller (and_then history m) (suc n) quota after) (sym new.0) (here quota (ap (λ (n : ℕ). slice_get history.quotas n) (sym new.0) ∙ at_quota)))
    | inr old ↦ caller-spared history m grows back (suc k) quota caller (are.each k quota caller at_quota old.1) (spares k old.0)
  ];
}

-- one is written as it was
pub callers-same : (history : History) (callers : List Caller) (place : ℕ) (before after : Caller) → slice_get callers place ≡ Some before
    → after.left ≡ before.left → after.remaining ≡ before.remaining → after.asked ≡ before.asked → after.open_asks.items ≡ before.open_asks.items → AreCallers history callers → AreCallers history (set callers place after)
callers-same history callers place before after at_before left remaining asked asks are = record {
  count = length-set callers place after ∙ are.count;
  few = omega (arith, length-set callers place after, are.few);
  each = λ k quota caller at_quota at. elim (get-set_cases callers place k after caller (slice_get_within callers place before at_before) at) [
    | inl new ↦
        subst (λ (one : Caller). IsCaller history (suc k) quota one) new.1
        (caller-same history (suc k) quota before after (are.each k quota before at_quota (ap (λ (n : ℕ). slice_get callers n) new.0 ∙ at_before)) left remaining asked asks)
    | inr old ↦ are.each k quota caller at_quota old.1
  ];
}

-- a sum over callers after one is written
pub sum-written : (f : Caller → ℕ) (callers : List Caller) (place : ℕ) (before after : Caller) → slice_get callers place ≡ Some before → sum_by f (set callers place after) + f before ≡ sum_by f callers + f after
sum-written f callers place before after at =
    ap (λ (one : Caller). sum_by f (set callers place after) + f one) (sym (get_or_from_slice_get callers place before before at))
    ∙ sum_by-set f callers place after before (slice_get_within callers place before at)
