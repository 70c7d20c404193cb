-- When an ask is ready, and what a board keeps after an answer.
use Rattle.std.proofs.Common.{◌≡◌, ◌≢◌, ℕ, suc, ◌+◌, ◌-◌, ◌<◌, ◌≤◌, ◌==◌, cond, Bool, true, false, List, [], ◌∷◌, ◌++◌, length, drop, get_or, Some, inl, inr, refl, sym, ap, subst, ◌∙◌, arith, sum_by, eq-eqb}
use Rattle.std.specs.List.{All, Contains, range_with_len, slice_get}
use Rattle.std.proofs.lemmas.Bool.{eqb-true, ne_eqb, or_cases}
use Rattle.std.proofs.lemmas.List.{length-drop, length_push}
use Rattle.std.proofs.lemmas.List.Elements.{All-contains}
use Rattle.std.proofs.lemmas.List.FromFn.{get_or-range_with_len, length-range_with_len}
use Rattle.std.proofs.lemmas.Option.{same_Some, slice_get_within}
use Rattle.act_model.specs.Journal.{contracts_of}
use Rattle.act_model.specs.declared.asks.Asking.{Asking}
use Rattle.act_profile.specs.Reads.{is_in}
use Rattle.act_history.specs.History.{History, IsWanted, and_then, has_result, is_give_up, is_given_up, open_asks, version_of}
use Rattle.act_keeping.specs.Keeping.{AreCallers, ClosesOldest, IsAsk, IsBoard, IsCaller, Keeping, owed_by}
use Rattle.act_history.specs.Legal.{IsLegal, IsOldest, IsReady}
use Rattle.act_keeping.specs.declared.caller.Caller.{Caller}
use Rattle.act_history.specs.declared.mark.Mark.{Mark}
use Rattle.act_history.specs.declared.mark.Mark.TheVariants as mark
use Rattle.act_keeping.proofs.Boards.{caller-told, open-none, same-none, stay-none}
use Rattle.act_keeping.proofs.Callers.{caller-collected, callers-next, spares-collect, sum-written}
use Rattle.act_history.proofs.Going.{any-not, asks-same, entries-same, journal-same, open-less, sound-next}
use Rattle.act_keeping.proofs.Quotas.{some-at}
use Rattle.act_keeping.proofs.Moves.{wanted-before, wanted-by-another}
use Rattle.act_keeping.proofs.Between.{in-range}
use Rattle.act_keeping.proofs.Pairs.{pairs-stay}
use Rattle.act_history.proofs.Reaching.{reached-self}

-- what is in a list
pub contains-so : (xs : List ℕ) (a : ℕ) → is_in xs a ≡ true → Contains xs a
contains-so [] a is = absurd (cc)
contains-so (x ∷ xs) a is = elim (or_cases (x == a) (is_in xs a) is) [
  | inl here ↦ (0, omega arith, eqb-true x a here)
  | inr later ↦ let rest = contains-so xs a later in (suc rest.0, omega (arith, rest.1), rest.2)
]

-- ---- the contracts asked for, as a range

module _ (history : History) (ask : Asking) (first end : ℕ) (order : first ≤ end) (numbers : contracts_of history.portfolio.names ask.asked ≡ range_with_len first (end - first)) where
  pub ready-so : ((c : ℕ) → first ≤ c → c < end → has_result history c ask.version ≡ true) → IsReady history ask
  ready-so each = subst (All (λ c. has_result history c ask.version ≡ true)) (sym numbers) (λ k d within.
      let lt : k < end - first = omega (arith, within, length-range_with_len first (end - first)) in
      ap (λ (c : ℕ). has_result history c ask.version) (get_or-range_with_len first (end - first) k d lt) ∙ each (first + k) (omega arith) (omega (arith, lt)))

  pub not-ready : (c : ℕ) → first ≤ c → c < end → has_result history c ask.version ≡ false → ¬ (IsReady history ask)
  not-ready c from to none ready =
      let lt : c - first < length (range_with_len first (end - first)) = omega (arith, length-range_with_len first (end - first)) in
      let inside : c - first < end - first = omega arith in
      let at : first + (c - first) ≡ c = omega arith in
      let each = subst (All (λ d. has_result history d ask.version ≡ true)) numbers ready (c - first) 0 lt in
      let so : has_result history c ask.version ≡ true = ap (λ (d : ℕ). has_result history d ask.version) (sym at ∙ sym (get_or-range_with_len first (end - first) (c - first) 0 inside)) ∙ each in
      absurd (cc)

  pub each-so : IsReady history ask → (c : ℕ) → first ≤ c → c < end → has_result history c ask.version ≡ true
  each-so ready c from to =
      let lt : c - first < length (range_with_len first (end - first)) = omega (arith, length-range_with_len first (end - first)) in
      let inside : c - first < end - first = omega arith in
      let at : first + (c - first) ≡ c = omega arith in
      ap (λ (d : ℕ). has_result history d ask.version) (sym at ∙ sym (get_or-range_with_len first (end - first) (c - first) 0 inside))
      ∙ subst (All (λ d. has_result history d ask.version ≡ true)) numbers ready (c - first) 0 lt

-- what the oldest open ask of a caller asks for is wanted
pub asked-wanted : (history : History) (ask : Asking) (i first end d : ℕ) → 1 ≤ i → i ≤ length history.quotas → IsOldest history i ask → first ≤ end → contracts_of history.portfolio.names ask.asked ≡ range_with_len first (end - first)
    → end ≤ length history.portfolio.contracts.terms → first ≤ d → d < end → IsWanted history d ask.version
asked-wanted history ask i first end d from to oldest order numbers exist above below = record {
  caller = i;
  from = from;
  to = to;
  ask = ask;
  still_open = (0, slice_get_within (open_asks history i) 0 ask oldest, first-of (open_asks history i) ask oldest);
  contract = omega arith;
  version = refl;
  reached = reached-self history.portfolio.contracts (contracts_of history.portfolio.names ask.asked) d (ap (λ (ks : List ℕ). is_in ks d) numbers ∙ in-range first (end - first) d above (omega arith));
}
  where
    first-of : (asks : List Asking) (a : Asking) → slice_get asks 0 ≡ Some a → get_or asks 0 a ≡ a
    first-of [] a is = absurd (cc)
    first-of (x ∷ xs) a is = same_Some x a is

-- ---- an answer

module _ (history : History) (kept : Keeping) (b : IsBoard history kept) (i : ℕ) (from : 1 ≤ i) where
  -- the oldest open ask of a caller
  pub oldest-told : (caller : Caller) (ask : Asking) → slice_get kept.callers (i - 1) ≡ Some caller → slice_get caller.open_asks.items 0 ≡ Some ask → IsOldest history i ask × IsAsk history ask
  oldest-told caller ask at first =
      let is = (caller-told history kept b i caller from at).2 in (
        subst (λ (asks : List Asking). slice_get asks 0 ≡ Some ask) is.still_open first,
        All-contains (IsAsk history) caller.open_asks.items ask is.asks (0, slice_get_within caller.open_asks.items 0 ask first, first-read caller.open_asks.items ask first),
      )
    where
      first-read : (asks : List Asking) (a : Asking) → slice_get asks 0 ≡ Some a → get_or asks 0 a ≡ a
      first-read [] a is = absurd (cc)
      first-read (x ∷ xs) a is = same_Some x a is

  -- the same, as it is read
  pub oldest-by : (read : List Caller) (ask : Asking) → read ≡ kept.callers → i ≤ length history.quotas → ((one : Caller) → slice_get read (i - 1) ≡ Some one → slice_get one.open_asks.items 0 ≡ Some ask) → IsOldest history i ask × IsAsk history ask
  oldest-by read ask same to first =
      let one = some-at kept.callers (i - 1) (omega (arith, from, to, b.callers.count)) in
      oldest-told one.0 ask one.1 (first one.0 (ap (λ (xs : List Caller). slice_get xs (i - 1)) same ∙ one.1))

  module _ (to : i ≤ length history.quotas) (ask : Asking) (marks : List Mark) (more : ℕ) (all' : List Caller) (legal : IsLegal history (mark.Collect i)) (oldest : IsOldest history i ask) (ready : IsReady history ask)
      (marked : marks ≡ history.marks ++ mark.Collect i ∷ []) (room : kept.capacity ≤ more) (closes : ClosesOldest kept.callers (i - 1) all') where
    abbrev m : Mark
    m = mark.Collect i

    told : (quota : ℕ) × (slice_get history.quotas (i - 1) ≡ Some quota) × IsCaller history i quota closes.before
    told = caller-told history kept b i closes.before from closes.was

    some : 0 < length closes.before.open_asks.items
    some = slice_get_within closes.before.open_asks.items 0 ask (subst (λ (asks : List Asking). slice_get asks 0 ≡ Some ask) (sym told.2.still_open) oldest)

    grows : version_of history ≤ version_of (and_then history m)
    grows = omega (arith, same-none history m refl)

    going : is_given_up (and_then history m) ≡ is_given_up history
    going = any-not is_give_up history.marks m refl

    own : suc (i - 1) ≡ i
    own = omega arith

    others : (k : ℕ) → k ≢ i → open_asks (and_then history m) k ≡ open_asks history k
    others k other = open-none history m refl k (ne_eqb i k (λ is. other (sym is)))

    closed : open_asks (and_then history m) i ≡ drop 1 (open_asks history i)
    closed = open-less i history m (asks-same i history m refl) (eq-eqb i i refl)

    callers : AreCallers (and_then history m) all'
    callers = subst (AreCallers (and_then history m)) (sym closes.is) (callers-next history m kept.callers (i - 1) closes.after (slice_get_within kept.callers (i - 1) closes.before closes.was) grows (λ is. sym going ∙ is)
        (λ k other. spares-collect history i (suc k) (λ is. other (omega (arith, is))))
        (λ quota at. subst (λ (n : ℕ). IsCaller (and_then history m) n quota closes.after) (sym own)
        (caller-collected history i quota closes.before closes.after (subst (λ (n : ℕ). IsCaller history n quota closes.before) own (b.callers.each (i - 1) quota closes.before at closes.was)) grows some
        closes.left closes.remaining closes.asked closes.asks))
        b.callers)

    owes-less : owed_by closes.after + 1 ≡ owed_by closes.before
    owes-less =
        let after : owed_by closes.after ≡ length closes.after.open_asks.items + cond closes.before.left 0 1 = ap (λ (left : Bool). length closes.after.open_asks.items + cond left 0 1) closes.left in
        omega (arith, after, some, ap length closes.asks, length-drop 1 closes.before.open_asks.items)

    owed-less : sum_by owed_by all' + 1 ≡ sum_by owed_by kept.callers
    owed-less = omega (arith, ap (sum_by owed_by) closes.is, sum-written owed_by kept.callers (i - 1) closes.before closes.after closes.was, owes-less)

    pub owes-answer : 1 ≤ kept.owing
    owes-answer = omega (arith, b.owing, owed-less)

    after : IsBoard (and_then history m) (record kept { capacity = more; callers = all'; owing = kept.owing - 1 })
    after = record {
      ordered = b.ordered;
      count = b.count;
      numbered = b.numbered;
      sound = sound-next history m b.sound legal;
      items = b.items ∙ sym (journal-same history m refl);
      entries = b.entries ∙ sym (entries-same history m refl);
      given_up = b.given_up ∙ sym going;
      callers = callers;
      pairs = pairs-stay history m kept.pairs (stay-none history m refl) grows (λ c v. refl) (λ c v. refl)
          (wanted-before history i kept.pairs b.ordered (stay-none history m refl) grows others closed ask oldest ready contains-so b.pairs)
          (wanted-by-another history i kept.pairs b.ordered (stay-none history m refl) grows others closed ask oldest ready contains-so b.pairs) b.pairs;
      front = b.front;
      owing = omega (arith, b.owing, owed-less);
      room = omega (arith, room, b.room, length_push history.marks m, b.owing, owed-less);
      fits = omega (arith, b.fits, ap (sum_by (λ (caller : Caller). caller.remaining)) closes.is, sum-written (λ (caller : Caller). caller.remaining) kept.callers (i - 1) closes.before closes.after closes.was, closes.remaining);
    }

    pub board-collected : IsBoard (record { portfolio = history.portfolio; quotas = history.quotas; marks = marks }) (record kept { capacity = more; callers = all'; owing = kept.owing - 1 })
    board-collected = subst (λ (ms : List Mark). IsBoard (record { portfolio = history.portfolio; quotas = history.quotas; marks = ms }) (record kept { capacity = more; callers = all'; owing = kept.owing - 1 })) (sym marked) after
