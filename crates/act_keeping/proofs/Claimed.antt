-- What may be claimed of a board, and what it keeps after a claim and after what comes back.
use Rattle.std.proofs.Common.{◌≡◌, ℕ, zero, suc, ◌+◌, ◌-◌, ◌<◌, ◌≤◌, cond, not, Bool, true, false, List, [], ◌∷◌, ◌++◌, length, Option, Some, None, inl, inr, refl, sym, ap, subst, ◌∙◌, arith, sum_by}
use Rattle.std.specs.Arc.{arc_value}
use Rattle.std.specs.List.{Contains, list_all, slice_get}
use Rattle.std.proofs.lemmas.Bool.{and_parts, cases_Bool, cases_lt, cases_order}
use Rattle.std.proofs.lemmas.List.{length_push}
use Rattle.std.proofs.lemmas.Option.{get_or_from_slice_get, same_Some, slice_get-get_or, slice_get_within}
use Rattle.act_refs.specs.Path.{IsChild}
use Rattle.act_refs.proofs.Depths.{place}
use Rattle.act_refs.proofs.Ordering.{order_of-reference}
use Rattle.act_history.specs.History.{History, IsWanted, and_then, has_left, has_result, is_claimed, is_give_up, is_given_up, open_asks, version_of, was_claimed}
use Rattle.act_keeping.specs.Keeping.{HaveResults, IsAt, IsBoard, IsFreeAt, IsPast, IsPut, IsResult, IsUnderWay, Keeping, NoneIsFree, contract_at, is_under_way, is_waiting, owed_for}
use Rattle.act_history.specs.Legal.{HasEnded, IsClaimable, IsLegal, IsNext, NoneIsClaimable}
use Rattle.act_keeping.specs.declared.caller.Caller.{Caller}
use Rattle.act_history.specs.declared.mark.Mark.{Mark}
use Rattle.act_history.specs.declared.mark.Mark.TheVariants as mark
use Rattle.act_keeping.specs.declared.pair.Pair.{Pair}
use Rattle.act_keeping.specs.declared.pair.Progress.{Progress}
use Rattle.act_keeping.specs.declared.pair.Progress.TheVariants.{Waiting, Claimed, Done, Dropped}
use Rattle.act_keeping.proofs.Boards.{open-none, same-none, stay-none}
use Rattle.act_keeping.proofs.Callers.{callers-spared, spares-claim, spares-finish}
use Rattle.act_history.proofs.Going.{any-not, entries-same, journal-same, sound-next}
use Rattle.act_keeping.proofs.Moves.{pairs-claimed, pairs-finished}
use Rattle.act_keeping.proofs.Ordered.{before-is, same-pair}
use Rattle.act_keeping.proofs.Pairs.{put-cases, put-owed, wanted-same, wanted-still}

-- ---- how far a pair is

-- what isn't claimed and has no result waits
waits-so : (history : History) (c v : ℕ) (p : Progress) → IsAt history c v p → is_claimed history c v ≡ false → has_result history c v ≡ false → is_waiting p ≡ true
waits-so history c v Waiting at free none = refl
waits-so history c v Claimed at free none = absurd (let so : is_claimed history c v ≡ true = rw (at.0, at.1) refl in cc)
waits-so history c v (Done run) at free none = absurd (let so = at.0 in cc)
waits-so history c v Dropped at free none = absurd (let so = at.0 in cc)

free-so : (history : History) (c v : ℕ) (p : Progress) → IsAt history c v p → is_waiting p ≡ true → (is_claimed history c v ≡ false) × (has_result history c v ≡ false)
free-so history c v Waiting at is = (rw at.0 refl, at.1)
free-so history c v Claimed at is = absurd (cc)
free-so history c v (Done run) at is = absurd (cc)
free-so history c v Dropped at is = absurd (cc)

claimed-so : (history : History) (c v : ℕ) (p : Progress) → IsAt history c v p → is_under_way p ≡ true → (is_claimed history c v ≡ true) × (is_waiting p ≡ false)
claimed-so history c v Waiting at is = absurd (cc)
claimed-so history c v Claimed at is = (rw (at.0, at.1) refl, refl)
claimed-so history c v (Done run) at is = absurd (cc)
claimed-so history c v Dropped at is = absurd (cc)

under-way-so : (history : History) (c v : ℕ) (p : Progress) → IsAt history c v p → is_claimed history c v ≡ true → is_under_way p ≡ true
under-way-so history c v Waiting at is = absurd (let not_so : is_claimed history c v ≡ false = rw at.0 refl in cc)
under-way-so history c v Claimed at is = refl
under-way-so history c v (Done run) at is = absurd (let parts = and_parts (was_claimed history c v) (not (has_result history c v)) is in let off : not (has_result history c v) ≡ false = rw at.0 refl in let on = parts.1 in cc)
under-way-so history c v Dropped at is = absurd (let parts = and_parts (was_claimed history c v) (not (has_result history c v)) is in let off : not (has_result history c v) ≡ false = rw at.0 refl in let on = parts.1 in cc)

owes-waiting : (p : Progress) → is_waiting p ≡ true → ◌≡◌ {A = ℕ} (cond (is_under_way p) 1 0) 0
owes-waiting Waiting is = refl
owes-waiting Claimed is = absurd (cc)
owes-waiting (Done run) is = absurd (cc)
owes-waiting Dropped is = absurd (cc)

-- a list has an element at each of its places
pub some-within : {X : Type 0} (xs : List X) (k : ℕ) → k < length xs → slice_get xs k ≡ None → ⊥
some-within [] k lt none = omega arith
some-within (x ∷ xs) zero lt none = cc
some-within (x ∷ xs) (suc k) lt none = some-within xs k (omega arith) none

-- ---- tests of all callers

pub all-so : {X : Type 0} (p : X → Bool) (xs : List X) → list_all p xs ≡ true → (k : ℕ) (x : X) → slice_get xs k ≡ Some x → p x ≡ true
all-so p [] is k x at = absurd (cc)
all-so p (y ∷ ys) is zero x at = ap p (sym (same_Some y x at)) ∙ (and_parts (p y) (list_all p ys) is).0
all-so p (y ∷ ys) is (suc k) x at = all-so p ys (and_parts (p y) (list_all p ys) is).1 k x at

pub so-all : {X : Type 0} (p : X → Bool) (xs : List X) → ((k : ℕ) (x : X) → slice_get xs k ≡ Some x → p x ≡ true) → list_all p xs ≡ true
so-all p [] each = refl
so-all p (y ∷ ys) each = rw (each 0 y refl, so-all p ys (λ k x at. each (suc k) x at)) refl

-- ---- what may be claimed

module _ (history : History) (kept : Keeping) (b : IsBoard history kept) where
  -- what is claimable stands at a place, waits, and its children have results
  pub claimable-place : (d w r : ℕ) → IsClaimable history d w → slice_get history.portfolio.order r ≡ Some d
      → (k : ℕ) × (pair : Pair) × (slice_get kept.pairs k ≡ Some pair) × (pair.version ≡ w) × (pair.rank ≡ r) × (is_waiting pair.progress ≡ true) × (contract_at history pair.rank ≡ d)
  claimable-place d w r is ranked =
      let at : contract_at history r ≡ d = get_or_from_slice_get history.portfolio.order r d 0 ranked in
      let listed = b.pairs.wanted w r (slice_get_within history.portfolio.order r d ranked) (subst (λ (c : ℕ). IsWanted history c w) (sym at) is.wanted) in
      let pair = listed.0 in
      let here : contract_at history pair.rank ≡ d = ap (contract_at history) listed.3 ∙ at in
      let far = subst (λ (v : ℕ). IsAt history d v pair.progress) listed.2 (subst (λ (c : ℕ). IsAt history c pair.version pair.progress) here (b.pairs.each pair listed.1).at) in
      (listed.1.0, pair, listed.1.1, listed.2, listed.3, waits-so history d w pair.progress far is.free is.no_result, here)

  -- none is free before a place, so that none that is claimable stands there
  no-earlier : (place d w k : ℕ) (pair : Pair) → NoneIsFree history kept.pairs kept.front place → IsClaimable history d w → slice_get kept.pairs k ≡ Some pair → pair.version ≡ w → is_waiting pair.progress ≡ true → contract_at history pair.rank ≡ d → place ≤ k
  no-earlier place d w k pair none is at version waits here = elim (cases_lt k place) [
    | inr le ↦ le
    | inl lt ↦ elim (cases_lt k kept.front) [
      | inl past ↦ absurd (let not_so = b.front k pair past at in cc)
      | inr from ↦
          let lacks = none k pair from lt at waits in
          let has = is.children lacks.0 (subst (λ (c : ℕ). IsChild history.portfolio.contracts.children c lacks.0) here lacks.1) in
          absurd (let so : has_result history lacks.0 pair.version ≡ true = ap (has_result history lacks.0) version ∙ has in let no_one = lacks.2 in cc)
    ]
  ]

  pub claim-next : (place : ℕ) (pair : Pair) → slice_get kept.pairs place ≡ Some pair → kept.given_up ≡ false → IsFreeAt history kept.pairs place → NoneIsFree history kept.pairs kept.front place → IsNext history (contract_at history pair.rank) pair.version
  claim-next place pair at going free none = record {
    claimable = record {
      wanted = b.pairs.waiting (sym b.given_up ∙ going) pair (place, at) waits;
      no_result = (free-so history (contract_at history pair.rank) pair.version pair.progress far waits).1;
      free = (free-so history (contract_at history pair.rank) pair.version pair.progress far waits).0;
      children = subst (λ (p : Pair). HaveResults history (contract_at history p.rank) p.version) same free.3;
    };
    rank = pair.rank;
    ranked = slice_get-get_or history.portfolio.order pair.rank 0 (b.pairs.each pair (place, at)).rank;
    least = λ d w r is ranked.
        let other = claimable-place d w r is ranked in
        let behind = no-earlier place d w other.0 other.1 none is other.2 other.3 other.5 other.6 in
        elim (cases_order place other.0) [
          | inl here ↦
              let one : pair ≡ other.1 = same_Some pair other.1 (sym at ∙ (ap (λ (k : ℕ). slice_get kept.pairs k) here ∙ other.2)) in
              inr (ap (λ (p : Pair). p.version) one ∙ other.3, omega (arith, ap (λ (p : Pair). p.rank) one, other.4))
          | inr apart ↦ elim apart [
            | inl lt ↦ elim (before-is pair other.1.version other.1.rank (b.pairs.sorted place other.0 pair other.1 lt at other.2)) [
              | inl less ↦ inl (omega (arith, less, other.3))
              | inr tie ↦ inr (tie.0 ∙ other.3, omega (arith, tie.1, other.4))
            ]
            | inr gt ↦ absurd (omega (arith, behind))
          ]
        ];
  }
    where
      same : free.0 ≡ pair
      same = same_Some free.0 pair (sym free.1 ∙ at)

      waits : is_waiting pair.progress ≡ true
      waits = ap (λ (p : Pair). is_waiting p.progress) (sym same) ∙ free.2

      far : IsAt history (contract_at history pair.rank) pair.version pair.progress
      far = (b.pairs.each pair (place, at)).at

  pub claim-none : NoneIsFree history kept.pairs kept.front (length kept.pairs) → NoneIsClaimable history
  claim-none none d w is =
      let rank = place history.portfolio.contracts.children history.portfolio.order (order_of-reference history.portfolio.contracts.children history.portfolio.order b.ordered) d (omega (arith, is.wanted.contract, b.count)) in
      let ranked : slice_get history.portfolio.order rank.0 ≡ Some d = slice_get-get_or history.portfolio.order rank.0 0 rank.1 ∙ ap Some rank.2 in
      let there = claimable-place d w rank.0 is ranked in
      let behind = no-earlier (length kept.pairs) d w there.0 there.1 none is there.2 there.3 there.5 there.6 in
      absurd (omega (arith, behind, slice_get_within kept.pairs there.0 there.1 there.2))

  -- what is next is a contract, and as many entries stand in the book
  pub next-within : (d w : ℕ) → IsNext history d w → (d < length history.portfolio.contracts.terms) × (w ≤ version_of history)
  next-within d w is =
      let there = claimable-place d w is.rank is.claimable is.ranked in
      (is.claimable.wanted.contract, omega (arith, (b.pairs.each there.1 (there.0, there.2)).version, there.3))

  -- ---- the end

  none-open : (i : ℕ) → 1 ≤ i → i ≤ length history.quotas → has_left history i ≡ true → kept.given_up ≡ false → open_asks history i ≡ []
  none-open i from to left going =
      let within : i - 1 < length kept.callers = omega (arith, b.callers.count) in
      by (slice_get kept.callers (i - 1)) refl within
    where
      by : (o : Option Caller) → slice_get kept.callers (i - 1) ≡ o → i - 1 < length kept.callers → open_asks history i ≡ []
      by None at within = absurd (some-within kept.callers (i - 1) within at)
      by (Some caller) at within =
          let quota = slice_get-get_or history.quotas (i - 1) 0 (omega (arith, b.callers.count)) in
          let is = b.callers.each (i - 1) _ caller quota at in
          let own : suc (i - 1) ≡ i = omega arith in
          sym (ap (open_asks history) own) ∙ (sym is.still_open ∙ is.gone (is.left ∙ (ap (has_left history) own ∙ left)) (sym b.given_up ∙ going))

  pub has-ended : list_all (λ (caller : Caller). caller.left) kept.callers ≡ true → kept.given_up ≡ false → HasEnded history
  has-ended left going = record {
    left = gone;
    done = λ c v wanted.
        let none = none-open wanted.caller wanted.from wanted.to (gone wanted.caller wanted.from wanted.to) going in
        absurd (let has = subst (λ asks. Contains asks wanted.ask) none wanted.still_open in omega (arith, has.1));
  }
    where
      gone : (i : ℕ) → 1 ≤ i → i ≤ length history.quotas → has_left history i ≡ true
      gone i from to = by (slice_get kept.callers (i - 1)) refl
        where
          by : (o : Option Caller) → slice_get kept.callers (i - 1) ≡ o → has_left history i ≡ true
          by None at = absurd (some-within kept.callers (i - 1) (omega (arith, b.callers.count)) at)
          by (Some caller) at =
              let quota = slice_get-get_or history.quotas (i - 1) 0 (omega (arith, b.callers.count)) in
              let is = b.callers.each (i - 1) _ caller quota at in
              let own : suc (i - 1) ≡ i = omega arith in
              sym (ap (has_left history) own) ∙ (sym is.left ∙ all-so (λ (one : Caller). one.left) kept.callers left (i - 1) caller at)

  pub not-ended : list_all (λ (caller : Caller). caller.left) kept.callers ≡ false → ¬ (HasEnded history)
  not-ended left ended =
      let each : list_all (λ (caller : Caller). caller.left) kept.callers ≡ true = so-all (λ (caller : Caller). caller.left) kept.callers (λ k caller at.
      let within = slice_get_within kept.callers k caller at in
      let quota = slice_get-get_or history.quotas k 0 (omega (arith, within, b.callers.count)) in
      let is = b.callers.each k _ caller quota at in
      is.left ∙ ended.left (suc k) (omega arith) (omega (arith, within, b.callers.count))) in
      absurd (cc)

  -- ---- a claim

  module _ (v r : ℕ) (pairs' : List Pair) (marks : List Mark) (more : ℕ) (put : IsPut kept.pairs v r Claimed pairs') (legal : IsLegal history (mark.Claim (contract_at history r) v)) (within : r < length history.portfolio.order)
      (marked : marks ≡ history.marks ++ mark.Claim (contract_at history r) v ∷ []) (room : length history.marks + (kept.owing + 2) ≤ more) where
    abbrev m : Mark
    m = mark.Claim (contract_at history r) v

    claim-at : IsAt history (contract_at history r) v put.pair.progress
    claim-at = subst (λ (w : ℕ). IsAt history (contract_at history r) w put.pair.progress) put.same_version
        (subst (λ (s : ℕ). IsAt history (contract_at history s) put.pair.version put.pair.progress) put.same_rank (b.pairs.each put.pair (put.place, put.was)).at)

    waited : is_waiting put.pair.progress ≡ true
    waited = waits-so history (contract_at history r) v put.pair.progress claim-at legal.1.claimable.free legal.1.claimable.no_result

    grows : version_of history ≤ version_of (and_then history m)
    grows = omega (arith, same-none history m refl)

    going : is_given_up (and_then history m) ≡ is_given_up history
    going = any-not is_give_up history.marks m refl

    past : IsPast pairs' kept.front
    past k pair lt at = elim (put-cases kept.pairs pairs' v r Claimed b.pairs.sorted put k pair at) [
      | inl here ↦ ap (λ (p : Pair). is_waiting p.progress) (sym here.1)
      | inr other ↦ b.front k pair lt other.1
    ]

    owed-more : sum_by owed_for pairs' ≡ sum_by owed_for kept.pairs + 1
    owed-more = omega (arith, put-owed kept.pairs pairs' v r Claimed b.pairs.sorted put, owes-waiting put.pair.progress waited)

    after : IsBoard (and_then history m) (record kept { capacity = more; pairs = pairs'; owing = kept.owing + 1 })
    after = record {
      ordered = b.ordered;
      count = b.count;
      numbered = b.numbered;
      sound = sound-next history m b.sound legal;
      items = b.items ∙ sym (journal-same history m refl);
      entries = b.entries ∙ sym (entries-same history m refl);
      given_up = b.given_up ∙ sym going;
      callers = callers-spared history m kept.callers grows (λ is. sym going ∙ is) (spares-claim history (contract_at history r) v) b.callers;
      pairs = pairs-claimed history b.ordered kept.pairs pairs' v r Claimed within put b.pairs (stay-none history m refl) grows (λ i. open-none history m refl i refl) refl legal.1.claimable.no_result legal.1.claimable.children
          (wanted-same history m (λ i. open-none history m refl i refl)) (wanted-still history m (λ i. open-none history m refl i refl));
      front = past;
      owing = omega (arith, b.owing, owed-more);
      room = omega (arith, room, length_push history.marks m);
      fits = b.fits;
    }

    pub board-claimed : IsBoard (record { portfolio = history.portfolio; quotas = history.quotas; marks = marks }) (record kept { capacity = more; pairs = pairs'; owing = kept.owing + 1 })
    board-claimed = subst (λ (ms : List Mark). IsBoard (record { portfolio = history.portfolio; quotas = history.quotas; marks = ms }) (record kept { capacity = more; pairs = pairs'; owing = kept.owing + 1 })) (sym marked) after

  -- ---- what comes back

  pub claimed-told : (v r : ℕ) → IsUnderWay kept.pairs v r → is_claimed history (contract_at history r) v ≡ true
  claimed-told v r is =
      let far = subst (λ (w : ℕ). IsAt history (contract_at history r) w is.0.progress) is.2 (subst (λ (s : ℕ). IsAt history (contract_at history s) is.0.version is.0.progress) is.3 (b.pairs.each is.0 is.1).at) in
      (claimed-so history (contract_at history r) v is.0.progress far is.4).0

  pub unclaimed-told : (v r : ℕ) → r < length history.portfolio.order → ¬ (IsUnderWay kept.pairs v r) → is_claimed history (contract_at history r) v ≡ false
  unclaimed-told v r within none = elim (cases_Bool (is_claimed history (contract_at history r) v)) [
    | inr free ↦ free
    | inl is ↦
        let was = (and_parts (was_claimed history (contract_at history r) v) (not (has_result history (contract_at history r) v)) is).0 in
        let listed = b.pairs.claimed v r within was in
        let far = subst (λ (w : ℕ). IsAt history (contract_at history r) w listed.0.progress) listed.2 (subst (λ (s : ℕ). IsAt history (contract_at history s) listed.0.version listed.0.progress) listed.3 (b.pairs.each listed.0 listed.1).at) in
        absurd (none (listed.0, listed.1, listed.2, listed.3, under-way-so history (contract_at history r) v listed.0.progress far is))
  ]

  -- what comes back is owed a mark
  module _ (v r : ℕ) (run : _) (pairs' : List Pair) (put : IsPut kept.pairs v r (Done run) pairs') (claimed : IsUnderWay kept.pairs v r) where
    was-pair : claimed.0 ≡ put.pair
    was-pair = same-pair kept.pairs b.pairs.sorted claimed.1.0 put.place claimed.0 put.pair claimed.1.1 put.was (claimed.2 ∙ sym put.same_version) (claimed.3 ∙ sym put.same_rank)

    under-way : is_under_way put.pair.progress ≡ true
    under-way = ap (λ (p : Pair). is_under_way p.progress) (sym was-pair) ∙ claimed.4

    owed-less : sum_by owed_for pairs' + 1 ≡ sum_by owed_for kept.pairs
    owed-less =
        let one : owed_for put.pair ≡ 1 = ap (λ (so : Bool). cond so 1 0) under-way in
        omega (arith, put-owed kept.pairs pairs' v r (Done run) b.pairs.sorted put, one)

    pub owed-one : 1 ≤ kept.owing
    owed-one = omega (arith, b.owing, owed-less)

  module _ (v r : ℕ) (run : _) (pairs' : List Pair) (marks : List Mark) (more : ℕ) (put : IsPut kept.pairs v r (Done run) pairs') (claimed : IsUnderWay kept.pairs v r) (within : r < length history.portfolio.order)
      (result : IsResult history (contract_at history r) v (arc_value run)) (marked : marks ≡ history.marks ++ mark.Finish (contract_at history r) v ∷ []) (room : kept.capacity ≤ more) where
    abbrev n : Mark
    n = mark.Finish (contract_at history r) v

    begun-at : IsAt history (contract_at history put.pair.rank) put.pair.version put.pair.progress
    begun-at = (b.pairs.each put.pair (put.place, put.was)).at

    begun : is_waiting put.pair.progress ≡ false
    begun = (claimed-so history (contract_at history put.pair.rank) put.pair.version put.pair.progress begun-at (under-way v r run pairs' put claimed)).1

    grows-back : version_of history ≤ version_of (and_then history n)
    grows-back = omega (arith, same-none history n refl)

    going-back : is_given_up (and_then history n) ≡ is_given_up history
    going-back = any-not is_give_up history.marks n refl

    past-back : IsPast pairs' kept.front
    past-back k pair lt at = elim (put-cases kept.pairs pairs' v r (Done run) b.pairs.sorted put k pair at) [
      | inl here ↦ ap (λ (p : Pair). is_waiting p.progress) (sym here.1)
      | inr other ↦ b.front k pair lt other.1
    ]

    after-back : IsBoard (and_then history n) (record kept { capacity = more; pairs = pairs'; owing = kept.owing - 1 })
    after-back = record {
      ordered = b.ordered;
      count = b.count;
      numbered = b.numbered;
      sound = sound-next history n b.sound (claimed-told v r claimed);
      items = b.items ∙ sym (journal-same history n refl);
      entries = b.entries ∙ sym (entries-same history n refl);
      given_up = b.given_up ∙ sym going-back;
      callers = callers-spared history n kept.callers grows-back (λ is. sym going-back ∙ is) (spares-finish history (contract_at history r) v) b.callers;
      pairs = pairs-finished history b.ordered kept.pairs pairs' v r (Done run) within put b.pairs (stay-none history n refl) grows-back run refl result begun
          (wanted-same history n (λ i. open-none history n refl i refl)) (wanted-still history n (λ i. open-none history n refl i refl));
      front = past-back;
      owing = omega (arith, b.owing, owed-less v r run pairs' put claimed);
      room = omega (arith, room, b.room, length_push history.marks n, b.owing, owed-less v r run pairs' put claimed);
      fits = b.fits;
    }

    pub board-finished : IsBoard (record { portfolio = history.portfolio; quotas = history.quotas; marks = marks }) (record kept { capacity = more; pairs = pairs'; owing = kept.owing - 1 })
    board-finished = subst (λ (ms : List Mark). IsBoard (record { portfolio = history.portfolio; quotas = history.quotas; marks = ms }) (record kept { capacity = more; pairs = pairs'; owing = kept.owing - 1 })) (sym marked) after-back
