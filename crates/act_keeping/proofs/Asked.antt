-- What a board keeps after an ask.
use Rattle.std.proofs.Common.{◌≡◌, ◌≢◌, ℕ, suc, ◌+◌, ◌-◌, ◌≤◌, cond, Bool, true, List, [], ◌∷◌, ◌++◌, length, take, Some, refl, sym, ap, subst, ◌∙◌, arith, sum_by, eq-eqb, slice_index_or}
use Rattle.std.specs.List.{range_with_len, slice_get}
use Rattle.std.proofs.lemmas.Bool.{ne_eqb}
use Rattle.std.proofs.lemmas.List.{length-append, length_push}
use Rattle.std.proofs.lemmas.Option.{slice_get_within}
use Rattle.act_model.specs.Journal.{contracts_of, is_known}
use Rattle.act_model.specs.declared.asks.Asking.{Asking}
use Rattle.act_model.specs.declared.journal.Asked.{Asked}
use Rattle.act_model.specs.declared.journal.Item.{Item}
use Rattle.act_model.specs.declared.journal.Step.TheVariants as step
use Rattle.act_model.specs.declared.observed.Obs.{Obs}
use Rattle.act_history.specs.History.{History, and_then, asks_by, entries_of, is_give_up, is_given_up, open_asks, version_of}
use Rattle.act_keeping.specs.Keeping.{AreCallers, IsBoard, IsCaller, IsPast, Keeping, OpensAsk, contract_at, owed_by}
use Rattle.act_history.specs.Legal.{IsLegal}
use Rattle.act_accepted.specs.Accepted.{Accepted}
use Rattle.act_history.specs.Reached.{AreBelow, is_reached}
use Rattle.act_keeping.specs.Wanting.{IsExtended, is_asked}
use Rattle.act_keeping.specs.declared.caller.Caller.{Caller}
use Rattle.act_history.specs.declared.mark.Mark.{Mark}
use Rattle.act_history.specs.declared.mark.Mark.TheVariants as mark
use Rattle.act_keeping.specs.declared.pair.Pair.{Pair}
use Rattle.act_keeping.proofs.Boards.{caller-told}
use Rattle.act_keeping.proofs.Callers.{caller-asked, callers-next, spares-ask, sum-written}
use Rattle.act_history.proofs.Going.{any-not, asks-other, asks-own, entries-ask, journal-more, open-more, open-same, sound-next}
use Rattle.act_keeping.proofs.Moves.{pairs-asked}
use Rattle.act_keeping.proofs.Pairs.{Stay}

module _ (history : History) (kept : Keeping) (b : IsBoard history kept)
    (i : ℕ) (asked : Asked) (all' : List Caller) (version number : ℕ) (legal : IsLegal history (mark.Ask i asked)) (known : is_known history.portfolio.names (step.Ask asked) ≡ true)
    (is-version : version ≡ length kept.book) (opens : OpensAsk kept.callers (i - 1) (record { caller = i; number = number; version = version; asked = asked }) all') where
  abbrev m : Mark
  m = mark.Ask i asked

  abbrev item : Item
  item = record { caller = i; step = step.Ask asked }

  told : (quota : ℕ) × (slice_get history.quotas (i - 1) ≡ Some quota) × IsCaller history i quota opens.before
  told = caller-told history kept b i opens.before legal.0.from opens.was

  entries : entries_of (and_then history m) ≡ entries_of history
  entries = entries-ask history m item refl refl

  abbrev ask : Asking
  ask = record { caller = i; number = 1 + length (asks_by history i); version = version_of history; asked = asked }

  more-asks : asks_by (and_then history m) i ≡ asks_by history i ++ ask ∷ []
  more-asks = asks-own i history m item asked refl refl (eq-eqb i i refl)

  -- the ask's number
  pub asked-number : number ≡ length (asks_by (and_then history (mark.Ask i asked)) i)
  asked-number = omega (arith, opens.number, told.2.asked, ap length more-asks, length-append (asks_by history i) (ask ∷ []))

  is-now : version ≡ version_of history
  is-now = is-version ∙ ap length b.entries

  module _ (marks : List Mark) (more : ℕ) (steps' : List Item) (pairs' : List Pair) (start next : ℕ) (wanted : ℕ → Bool)
      (marked : marks ≡ history.marks ++ mark.Ask i asked ∷ []) (room : length history.marks + (kept.owing + 2) ≤ more) (stepped : steps' ≡ kept.items ++ record { caller = i; step = step.Ask asked } ∷ [])
      (extended : IsExtended kept.pairs version wanted start (length history.portfolio.order) pairs')
      (reached : (r : ℕ) → wanted r ≡ is_reached history.portfolio.contracts (contracts_of history.portfolio.names asked) (contract_at history r))
      (not-behind : next ≤ kept.front) (not-past : next ≤ start) where
    same : version_of (and_then history m) ≡ version_of history
    same = ap length entries

    grows : version_of history ≤ version_of (and_then history m)
    grows = omega (arith, same)

    stay : Stay history m
    stay v le = ap (λ (xs : List Obs). take v xs) entries

    going : is_given_up (and_then history m) ≡ is_given_up history
    going = any-not is_give_up history.marks m refl

    own : suc (i - 1) ≡ i
    own = omega (arith, legal.0.from)

    others : (k : ℕ) → k ≢ i → open_asks (and_then history m) k ≡ open_asks history k
    others k other = open-same k history m (asks-other k history m item asked refl refl (ne_eqb i k (λ is. other (sym is)))) refl

    opened : open_asks (and_then history m) i ≡ open_asks history i ++ ask ∷ []
    opened = open-more i history m ask more-asks refl told.2.collected

    written-asks : opens.after.open_asks.items ≡ opens.before.open_asks.items ++ record { caller = i; number = opens.before.asked + 1; version = version_of history; asked = asked } ∷ []
    written-asks =
        opens.asks
        ∙ (ap (λ (n : ℕ). opens.before.open_asks.items ++ record { caller = i; number = n; version = version; asked = asked } ∷ []) opens.number
        ∙ ap (λ (v : ℕ). opens.before.open_asks.items ++ record { caller = i; number = opens.before.asked + 1; version = v; asked = asked } ∷ []) is-now)

    callers : AreCallers (and_then history m) all'
    callers = subst (AreCallers (and_then history m)) (sym opens.is) (callers-next history m kept.callers (i - 1) opens.after (slice_get_within kept.callers (i - 1) opens.before opens.was) grows (λ is. sym going ∙ is)
        (λ k other. spares-ask history i (suc k) asked (λ is. other (omega (arith, is))))
        (λ quota at. subst (λ (n : ℕ). IsCaller (and_then history m) n quota opens.after) (sym own)
        (caller-asked history i quota opens.before opens.after (subst (λ (n : ℕ). IsCaller history n quota opens.before) own (b.callers.each (i - 1) quota opens.before at opens.was)) asked grows legal.0.here known legal.2 legal.3
        opens.left opens.remaining opens.asked written-asks))
        b.callers)

    owes-more : owed_by opens.after ≡ owed_by opens.before + 1
    owes-more =
        let after : owed_by opens.after ≡ length opens.after.open_asks.items + cond opens.before.left 0 1 = ap (λ (left : Bool). length opens.after.open_asks.items + cond left 0 1) opens.left in
        omega (arith, after, ap length opens.asks, length-append opens.before.open_asks.items (record { caller = i; number = number; version = version; asked = asked } ∷ []))

    owed-more : sum_by owed_by all' ≡ sum_by owed_by kept.callers + 1
    owed-more = omega (arith, ap (sum_by owed_by) opens.is, sum-written owed_by kept.callers (i - 1) opens.before opens.after opens.was, owes-more)

    extended-now : IsExtended kept.pairs (version_of history) wanted start (length history.portfolio.order) pairs'
    extended-now = subst (λ (v : ℕ). IsExtended kept.pairs v wanted start (length history.portfolio.order) pairs') is-now extended

    past : IsPast pairs' next
    past k pair lt at = b.front k pair (omega (arith, lt, not-behind)) (sym (extended.same k (omega (arith, lt, not-past))) ∙ at)

    after : IsBoard (and_then history m) (record kept { capacity = more; items = steps'; callers = all'; pairs = pairs'; front = next; owing = kept.owing + 1 })
    after = record {
      ordered = b.ordered;
      count = b.count;
      numbered = b.numbered;
      sound = sound-next history m b.sound legal;
      items = stepped ∙ (ap (λ (xs : List Item). xs ++ item ∷ []) b.items ∙ sym (journal-more history m item refl));
      entries = b.entries ∙ sym entries;
      given_up = b.given_up ∙ sym going;
      callers = callers;
      pairs = pairs-asked history i asked kept.pairs pairs' wanted start stay same extended-now reached others ask opened refl refl legal.0.from legal.0.to b.numbered b.pairs;
      front = past;
      owing = omega (arith, b.owing, owed-more, extended.owed);
      room = omega (arith, room, length_push history.marks m);
      fits = omega (arith, b.fits, ap (sum_by (λ (caller : Caller). caller.remaining)) opens.is, sum-written (λ (caller : Caller). caller.remaining) kept.callers (i - 1) opens.before opens.after opens.was, opens.remaining);
    }

    pub board-asked : IsBoard (record { portfolio = history.portfolio; quotas = history.quotas; marks = marks }) (record kept { capacity = more; items = steps'; callers = all'; pairs = pairs'; front = next; owing = kept.owing + 1 })
    board-asked = subst (λ (ms : List Mark). IsBoard (record { portfolio = history.portfolio; quotas = history.quotas; marks = ms }) (record kept { capacity = more; items = steps'; callers = all'; pairs = pairs'; front = next; owing = kept.owing + 1 })) (sym marked) after

-- what is marked is what the ask reaches
pub reached-by : (portfolio named marked ordered : Accepted) → named ≡ portfolio → marked ≡ portfolio → ordered ≡ portfolio → (first end : ℕ) (below read : List Bool) → read ≡ below → (asked : Asked)
    → contracts_of named.names asked ≡ range_with_len first (end - first) → AreBelow marked.contracts (range_with_len first (end - first)) below
    → (r : ℕ) → is_asked ordered.order first end read r ≡ is_reached portfolio.contracts (contracts_of portfolio.names asked) (slice_index_or portfolio.order r 0)
reached-by portfolio named marked ordered of-names of-marks of-order first end below read same asked numbers are r =
    let c : ℕ = slice_index_or portfolio.order r 0 in
    let here : AreBelow portfolio.contracts (range_with_len first (end - first)) below = subst (λ (p : Accepted). AreBelow p.contracts (range_with_len first (end - first)) below) of-marks are in
    let range : contracts_of portfolio.names asked ≡ range_with_len first (end - first) = ap (λ (p : Accepted). contracts_of p.names asked) (sym of-names) ∙ numbers in
    ap (λ (p : Accepted). is_asked p.order first end read r) of-order
    ∙ (ap (λ (xs : List Bool). is_asked portfolio.order first end xs r) same
    ∙ (sym (here.reached c) ∙ ap (λ (xs : List ℕ). is_reached portfolio.contracts xs c) (sym range)))
