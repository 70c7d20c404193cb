-- A board on which nothing has happened.
use Rattle.std.proofs.Common.{◌≡◌, ℕ, suc, ◌+◌, ◌<◌, ◌≤◌, Bool, false, cond, List, [], ◌∷◌, length, Ok, refl, sym, ap, subst, ◌∙◌, arith, sum, sum_by}
use Rattle.std.specs.List.{All}
use Rattle.std.proofs.lemmas.List.Elements.{All-nil}
use Rattle.std.proofs.lemmas.List.Sums.{sum_by-cons}
use Rattle.act_model.specs.declared.asks.Asking.{Asking}
use Rattle.act_accepted.specs.Accepted.{Accepted}
use Rattle.act_refs.specs.Ordered.{order_of}
use Rattle.act_history.specs.History.{History}
use Rattle.act_keeping.specs.Keeping.{AreCallers, AreNewcomers, ArePairs, IsAsk, IsBoard, owed_by}
use Rattle.act_keeping.specs.declared.caller.Caller.{Caller}

-- newcomers owe that they leave, and may append as many entries as the quotas say
owed-first : (quotas : List ℕ) (callers : List Caller) → AreNewcomers quotas callers → sum_by owed_by callers ≡ length quotas
owed-first [] [] are = refl
owed-first [] (x ∷ xs) are = absurd (omega (arith, are.count))
owed-first (q ∷ qs) [] are = absurd (omega (arith, are.count))
owed-first (q ∷ qs) (x ∷ xs) are =
    let one = are.each 0 q x refl refl in
    let first : owed_by x ≡ 1 = ap (λ (asks : List Asking). length asks + cond x.left 0 1) one.none ∙ ap (λ (left : Bool). 0 + cond left 0 1) one.here in
    omega (arith, sum_by-cons owed_by x xs, first, owed-first qs xs (record { count = omega (arith, are.count); each = λ k quota caller at_quota at. are.each (suc k) quota caller at_quota at }))

remaining-first : (quotas : List ℕ) (callers : List Caller) → AreNewcomers quotas callers → sum_by (λ (caller : Caller). caller.remaining) callers ≡ sum quotas
remaining-first [] [] are = refl
remaining-first [] (x ∷ xs) are = absurd (omega (arith, are.count))
remaining-first (q ∷ qs) [] are = absurd (omega (arith, are.count))
remaining-first (q ∷ qs) (x ∷ xs) are =
    let one = are.each 0 q x refl refl in
    omega (
      arith,
      sum_by-cons (λ (caller : Caller). caller.remaining) x xs,
      sum_by-cons (λ (n : ℕ). n) q qs,
      one.whole,
      remaining-first qs xs (record { count = omega (arith, are.count); each = λ k quota caller at_quota at. are.each (suc k) quota caller at_quota at }),
    )

module _ (portfolio : Accepted) (quotas : List ℕ) (capacity : ℕ) (callers : List Caller) (ordered : order_of portfolio.contracts.children ≡ Ok portfolio.order) (count : length portfolio.contracts.children ≡ length portfolio.contracts.terms)
    (numbered : All (λ contract. contract < length portfolio.contracts.terms) portfolio.order) (are : AreNewcomers quotas callers) (few : length quotas ≤ 16) (room : length quotas + 1 ≤ capacity) (fits : sum quotas ≤ 1_048_576) where
  abbrev fresh : History
  fresh = record { portfolio = portfolio; quotas = quotas; marks = [] }

  all : AreCallers fresh callers
  all = record {
    count = are.count;
    few = omega (arith, are.count);
    each = λ k quota caller at_quota at.
        let one = are.each k quota caller at_quota at in
        record {
          left = one.here;
          quota = omega (arith, one.whole);
          asked = one.silent;
          still_open = one.none;
          few_asked = omega (arith, one.silent);
          few_open = omega (arith, ap length one.none);
          collected = omega arith;
          asks = subst (All (IsAsk fresh)) (sym one.none) (All-nil (IsAsk fresh));
          gone = λ left going. one.none;
        };
  }

  none : ArePairs fresh []
  none = record {
    sorted = λ i j a b lt at_a at_b. absurd (cc);
    each = λ pair has. absurd (let at = has.1 in cc);
    children = λ pair has. absurd (let at = has.1 in cc);
    waiting = λ going pair has. absurd (let at = has.1 in cc);
    wanted = λ v r within is. absurd (omega (arith, is.still_open.1));
    claimed = λ v r within is. absurd (cc);
    done = λ v r within is. absurd (cc);
  }

  pub board-fresh : IsBoard (record { portfolio = portfolio; quotas = quotas; marks = [] }) (record { capacity = capacity; items = []; book = []; callers = callers; pairs = []; front = 0; owing = length quotas + 1; given_up = false })
  board-fresh = record {
    ordered = ordered;
    count = count;
    numbered = numbered;
    sound = λ place m at. absurd (cc);
    items = refl;
    entries = refl;
    given_up = refl;
    callers = all;
    pairs = none;
    front = λ k pair lt at. absurd (cc);
    owing = omega (arith, owed-first quotas callers are);
    room = omega (arith, room);
    fits = omega (arith, fits, remaining-first quotas callers are);
  }
