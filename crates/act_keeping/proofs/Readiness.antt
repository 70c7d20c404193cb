-- What may be claimed, as a history goes on.
use Rattle.std.proofs.Common.{◌≡◌, ◌≢◌, ◌⊎◌, ℕ, zero, suc, ◌+◌, ◌-◌, ◌<◌, ◌≤◌, ◌==◌, ◌&&◌, not, cond, Bool, true, false, List, [], ◌∷◌, ◌++◌, length, take, get_or, Some, None, inl, inr, refl, sym, ap, subst, ◌∙◌, arith, eq-eqb, slice_index_or, Vec, Global}
use Rattle.std.specs.List.{Contains, count_by, slice_get}
use Rattle.std.proofs.lemmas.Bool.{and_from, and_parts, cases_Bool, cases_eq, cases_lt, eqb-true, ne_eqb}
use Rattle.std.proofs.lemmas.List.{length-set, length-take-le}
use Rattle.std.proofs.lemmas.List.Sums.{get_or-le-sum_by, sum_by-cons, sum_by-le-sum_by}
use Rattle.std.proofs.lemmas.Option.{get_or_from_slice_get, same_Some, slice_get-get_or, slice_get_cases, slice_get_past, slice_get_within}
use Rattle.act_accepted.specs.Accepted.{Accepted}
use Rattle.act_refs.specs.Path.{child_lists, children_of}
use Rattle.act_keeping.specs.Dropping.{Drops}
use Rattle.act_history.specs.History.{History, and_then, has_result, is_claimed, is_finish_of, was_claimed}
use Rattle.act_keeping.specs.Keeping.{AreSorted, Has, HaveResults, IsBoard, IsFreeAt, IsPut, IsUnderWay, Keeping, LacksResult, NoneIsFree, contract_at, is_under_way, is_waiting}
use Rattle.act_history.specs.Legal.{IsNext, NoneIsClaimable}
use Rattle.act_keeping.specs.Ready.{AreFree, AreParents, AreSettled, IsFree, AreReadyLists, Lacks, blocked, due, lacking_of, times}
use Rattle.act_keeping.specs.Wanting.{IsExtended}
use Rattle.act_keeping.specs.declared.caller.Caller.{Caller}
use Rattle.act_history.specs.declared.mark.Mark.{Mark}
use Rattle.act_history.specs.declared.mark.Mark.TheVariants as mark
use Rattle.act_keeping.specs.declared.pair.Pair.{Pair}
use Rattle.act_keeping.specs.declared.pair.Progress.{Progress}
use Rattle.act_keeping.specs.declared.pair.Progress.TheVariants.{Waiting, Claimed, Done, Dropped}
use Rattle.act_keeping.proofs.Claimed.{claim-next, claim-none, claimable-place, some-within}
use Rattle.act_keeping.proofs.Dropped.{same-waiting}
use Rattle.act_keeping.proofs.Ordered.{one-only, same-pair}
use Rattle.act_history.proofs.Going.{any-yes}
use Rattle.act_keeping.proofs.Pairs.{put-cases, ranks-apart, result-same}
use Rattle.act_history.proofs.Places.{get-set_other, get-take}

-- ---- counts

count-same : (p q : ℕ → Bool) (xs : List ℕ) → ((x : ℕ) → p x ≡ q x) → count_by p xs ≡ count_by q xs
count-same p q [] each = refl
count-same p q (x ∷ xs) each =
    let here : ◌≡◌ {A = ℕ} (cond (p x) 1 0) (cond (q x) 1 0) = ap (λ (b : Bool). cond {A = ℕ} b 1 0) (each x) in
    omega (arith, sum_by-cons (λ (y : ℕ). cond {A = ℕ} (p y) 1 0) x xs, sum_by-cons (λ (y : ℕ). cond {A = ℕ} (q y) 1 0) x xs, here, count-same p q xs each)

count-none : (p : ℕ → Bool) (xs : List ℕ) → count_by p xs ≡ 0 → (x : ℕ) → Contains xs x → p x ≡ false
count-none p xs none x has = elim (cases_Bool (p x)) [
  | inr not ↦ not
  | inl so ↦
      let one : ◌≡◌ {A = ℕ} (cond (p (get_or xs has.0 x)) 1 0) 1 = ap (λ (b : Bool). cond {A = ℕ} b 1 0) (ap p has.2 ∙ so) in
      absurd (omega (arith, none, one, get_or-le-sum_by (λ (y : ℕ). cond {A = ℕ} (p y) 1 0) xs has.0 x has.1))
]

count-some : (p : ℕ → Bool) (xs : List ℕ) → 0 < count_by p xs → (x : ℕ) × Contains xs x × (p x ≡ true)
count-some p [] some = absurd (omega (arith, some))
count-some p (y ∷ ys) some = elim (cases_Bool (p y)) [
  | inl so ↦ (y, (0, omega arith, refl), so)
  | inr not ↦
      let none : ◌≡◌ {A = ℕ} (cond (p y) 1 0) 0 = ap (λ (b : Bool). cond {A = ℕ} b 1 0) not in
      let rest = count-some p ys (omega (arith, some, sum_by-cons (λ (z : ℕ). cond {A = ℕ} (p z) 1 0) y ys, none)) in
      (rest.0, (suc rest.1.0, omega (arith, rest.1.1), rest.1.2), rest.2)
]

not-true : (b : Bool) → not b ≡ true → b ≡ false
not-true true is = absurd (cc)
not-true false is = refl

not-false : (b : Bool) → not b ≡ false → b ≡ true
not-false true is = refl
not-false false is = absurd (cc)

module _ (history : History) (c v : ℕ) where
  pub lacking-none : lacking_of history c v ≡ 0 → HaveResults history c v
  lacking-none none child refers =
      not-false (has_result history child v) (count-none (λ (d : ℕ). not (has_result history d v)) (children_of history.portfolio.contracts.children c) none child refers)

  pub lacking-some : 0 < lacking_of history c v → LacksResult history c v
  lacking-some some =
      let one = count-some (λ (d : ℕ). not (has_result history d v)) (children_of history.portfolio.contracts.children c) some in
      (one.0, one.1, not-true (has_result history one.0 v) one.2)

  pub lacking-zero : HaveResults history c v → lacking_of history c v ≡ 0
  lacking-zero have = elim (cases_eq (lacking_of history c v) 0) [
    | inl none ↦ none
    | inr some ↦ absurd (let one = lacking-some (omega (arith, some)) in let has = have one.0 one.1 in let no = one.2 in cc)
  ]

-- ---- marks that finish nothing

module _ (history : History) (pairs : List Pair) (lacking places : List ℕ) (capacity : ℕ) (parents : List (Vec ℕ Global)) (is : AreReadyLists history pairs lacking places capacity parents) (m : Mark) (marks : List Mark) (marked : marks ≡ history.marks ++ m ∷ []) (none : (c v : ℕ) → is_finish_of c v m ≡ false) where
  pub lacking-same : (c v : ℕ) → lacking_of (and_then history m) c v ≡ lacking_of history c v
  lacking-same c v = count-same (λ (d : ℕ). not (has_result (and_then history m) d v)) (λ (d : ℕ). not (has_result history d v)) (children_of history.portfolio.contracts.children c) (λ d. ap not (result-same history m d v (none d v)))

  pub ready-quiet : AreReadyLists (record { portfolio = history.portfolio; quotas = history.quotas; marks = marks }) pairs lacking places capacity parents
  ready-quiet = subst (λ (ms : List Mark). AreReadyLists (record { portfolio = history.portfolio; quotas = history.quotas; marks = ms }) pairs lacking places capacity parents) (sym marked) (record {
    turned = is.turned;
    count = is.count;
    counted = λ k n pair at here waits. is.counted k n pair at here waits ∙ sym (lacking-same (contract_at history pair.rank) pair.version);
    free = is.free;
    room = is.room;
  })

-- ---- pairs that wait as before

-- a place is free of the one where it is of the other
module _ (old new : List Pair) (lacking places : List ℕ)
    (to : (k : ℕ) (pair : Pair) → slice_get new k ≡ Some pair → is_waiting pair.progress ≡ true → (before : Pair) × (slice_get old k ≡ Some before) × (is_waiting before.progress ≡ true))
    (from : (k : ℕ) (pair : Pair) → slice_get old k ≡ Some pair → is_waiting pair.progress ≡ true → (after : Pair) × (slice_get new k ≡ Some after) × (is_waiting after.progress ≡ true)) where
  pub free-same : AreFree old lacking places → AreFree new lacking places
  free-same are = record {
    descending = are.descending;
    free = λ i k at. let is = are.free i k at in let other = from k is.0 is.1 is.2 in (other.0, other.1, other.2, is.3);
    all = λ k is. let other = to k is.0 is.1 is.2 in are.all k (other.0, other.1, other.2, is.3);
  }

-- ---- the next

module _ (history : History) (pairs : List Pair) (lacking places : List ℕ) (capacity : ℕ) (parents : List (Vec ℕ Global)) (is : AreReadyLists history pairs lacking places capacity parents) where
  -- what isn't free waits for a result
  not-free : (k : ℕ) (pair : Pair) → slice_get pairs k ≡ Some pair → is_waiting pair.progress ≡ true → ¬ (IsFree pairs lacking k) → LacksResult history (contract_at history pair.rank) pair.version
  not-free k pair at waits not =
      let there : slice_get lacking k ≡ Some (get_or lacking k 0) = slice_get-get_or lacking k 0 (omega (arith, is.count, slice_get_within pairs k pair at)) in
      let counted = is.counted k (get_or lacking k 0) pair at there waits in
      lacking-some history (contract_at history pair.rank) pair.version (elim (cases_eq (get_or lacking k 0) 0) [
        | inl none ↦ absurd (not (pair, at, waits, there ∙ ap Some none))
        | inr some ↦ omega (arith, counted, some)
      ])

  pub free-at : (place : ℕ) → IsFree pairs lacking place → IsFreeAt history pairs place
  free-at place free =
      (free.0, free.1, free.2, lacking-none history (contract_at history free.0.rank) free.0.version (sym (is.counted place 0 free.0 free.1 free.3 free.2)))

  -- none is free before the last
  pub none-before : (place from : ℕ) → slice_get places (length places - 1) ≡ Some place → NoneIsFree history pairs from place
  none-before place from last k pair le lt at waits = not-free k pair at waits (λ free.
      let there = is.free.all k free in
      let inside = slice_get_within places there.0 k there.1 in
      elim (cases_eq there.0 (length places - 1)) [
        | inl same ↦ let this : k ≡ place = same_Some k place (sym there.1 ∙ (ap (λ (i : ℕ). slice_get places i) same ∙ last)) in omega (arith, this, lt)
        | inr other ↦ let less = is.free.descending there.0 (length places - 1) k place (omega (arith, inside, other)) there.1 last in omega (arith, less, lt)
      ])

  pub none-at-all : (from : ℕ) → length places ≡ 0 → NoneIsFree history pairs from (length pairs)
  none-at-all from none k pair le lt at waits = not-free k pair at waits (λ free.
      let there = is.free.all k free in
      omega (arith, none, slice_get_within places there.0 k there.1))

  pub last-free : (place : ℕ) → slice_get places (length places - 1) ≡ Some place → IsFree pairs lacking place
  last-free place last = is.free.free (length places - 1) place last

-- ---- an ask

module _ (history : History) (pairs : List Pair) (lacking places : List ℕ) (capacity : ℕ) (parents : List (Vec ℕ Global)) (is : AreReadyLists history pairs lacking places capacity parents) (m : Mark) (marks : List Mark) (marked : marks ≡ history.marks ++ m ∷ []) (none : (c v : ℕ) → is_finish_of c v m ≡ false)
    (pairs' : List Pair) (lacking' places' : List ℕ) (capacity' start : ℕ) (count : length lacking' ≡ length pairs')
    (pairs-same : (k : ℕ) → k < start → slice_get pairs' k ≡ slice_get pairs k) (same : (k : ℕ) → k < start → slice_get lacking' k ≡ slice_get lacking k)
    (free : AreFree pairs' lacking' places') (room : length places' + blocked lacking' ≤ capacity') where
  abbrev next : History
  next = record { portfolio = history.portfolio; quotas = history.quotas; marks = marks }

  pub ready-asked : ((k : ℕ) (pair : Pair) → start ≤ k → slice_get pairs' k ≡ Some pair → slice_get lacking' k ≡ Some (lacking_of next (contract_at next pair.rank) pair.version)) → AreReadyLists next pairs' lacking' places' capacity' parents
  ready-asked counted = record {
    turned = is.turned;
    count = count;
    counted = λ k n pair at here waits. elim (cases_lt k start) [
      | inl lt ↦
          let old = is.counted k n pair (sym (pairs-same k lt) ∙ at) (sym (same k lt) ∙ here) waits in
          old ∙ (sym (lacking-same history pairs lacking places capacity parents is m marks marked none (contract_at history pair.rank) pair.version)
          ∙ ap (λ (ms : List Mark). lacking_of (record { portfolio = history.portfolio; quotas = history.quotas; marks = ms }) (contract_at history pair.rank) pair.version) (sym marked))
      | inr from ↦ same_Some n (lacking_of next (contract_at next pair.rank) pair.version) (sym here ∙ counted k pair from at)
    ];
    free = free;
    room = room;
  }

-- ---- a claim

take-get : (xs : List ℕ) (n k x : ℕ) → slice_get (take n xs) k ≡ Some x → (k < n) × (slice_get xs k ≡ Some x)
take-get [] zero k x is = absurd (cc)
take-get [] (suc n) k x is = absurd (cc)
take-get (y ∷ ys) zero k x is = absurd (cc)
take-get (y ∷ ys) (suc n) zero x is = (omega arith, is)
take-get (y ∷ ys) (suc n) (suc k) x is = let rest = take-get ys n k x is in (omega (arith, rest.0), rest.1)

module _ (pairs pairs' : List Pair) (v r : ℕ) (p : Progress) (sorted : AreSorted pairs) (put : IsPut pairs v r p pairs') where
  put-elsewhere : (k : ℕ) → k ≢ put.place → slice_get pairs' k ≡ slice_get pairs k
  put-elsewhere k other = ap (λ (xs : List Pair). slice_get xs k) put.is ∙ get-set_other pairs put.place k (record { version = v; rank = r; progress = p }) other

  -- a pair that waits is none that was written so that it doesn't
  put-waits : is_waiting p ≡ false → (k : ℕ) (pair : Pair) → slice_get pairs' k ≡ Some pair → is_waiting pair.progress ≡ true → (k ≢ put.place) × (slice_get pairs k ≡ Some pair)
  put-waits not k pair at waits = elim (put-cases pairs pairs' v r p sorted put k pair at) [
    | inl here ↦ absurd (let so : is_waiting pair.progress ≡ false = ap (λ (one : Pair). is_waiting one.progress) (sym here.1) ∙ not in cc)
    | inr other ↦ (other.0, other.1)
  ]

module _ (history : History) (pairs : List Pair) (lacking places : List ℕ) (capacity : ℕ) (parents : List (Vec ℕ Global)) (is : AreReadyLists history pairs lacking places capacity parents)
    (v r : ℕ) (p : Progress) (ended : is_waiting p ≡ false) (pairs' : List Pair) (sorted : AreSorted pairs) (put : IsPut pairs v r p pairs') where
  put-length : length pairs' ≡ length pairs
  put-length = ap length put.is ∙ length-set pairs put.place (record { version = v; rank = r; progress = p })

  put-counted : (k n : ℕ) (pair : Pair) → slice_get pairs' k ≡ Some pair → slice_get lacking k ≡ Some n → is_waiting pair.progress ≡ true → n ≡ lacking_of history (contract_at history pair.rank) pair.version
  put-counted k n pair at here waits = is.counted k n pair (put-waits pairs pairs' v r p sorted put ended k pair at waits).1 here waits

  -- the last was taken
  module _ (places' : List ℕ) (last : slice_get places (length places - 1) ≡ Some put.place) (taken : places' ≡ take (length places - 1) places) where
    taken-free : AreFree pairs' lacking (take (length places - 1) places)
    taken-free = record {
      descending = λ i j a b lt at_i at_j. is.free.descending i j a b lt (take-get places (length places - 1) i a at_i).1 (take-get places (length places - 1) j b at_j).1;
      free = λ i k at.
          let old = take-get places (length places - 1) i k at in
          let free = is.free.free i k old.1 in
          let above = is.free.descending i (length places - 1) k put.place old.0 old.1 last in
          (free.0, put-elsewhere pairs pairs' v r p sorted put k (λ same. omega (arith, same, above)) ∙ free.1, free.2, free.3);
      all = λ k free.
          let old = put-waits pairs pairs' v r p sorted put ended k free.0 free.1 free.2 in
          let there = is.free.all k (free.0, old.1, free.2, free.3) in
          let inside = slice_get_within places there.0 k there.1 in
          elim (cases_eq there.0 (length places - 1)) [
            | inl same ↦ absurd (old.0 (same_Some k put.place (sym there.1 ∙ (ap (λ (i : ℕ). slice_get places i) same ∙ last))))
            | inr other ↦ (there.0, get-take places (length places - 1) there.0 (omega (arith, inside, other)) ∙ there.1)
          ];
    }

    ready-taken : AreReadyLists history pairs' lacking places' capacity parents
    ready-taken = record {
      turned = is.turned;
      count = is.count ∙ sym put-length;
      counted = put-counted;
      free = subst (AreFree pairs' lacking) (sym taken) taken-free;
      room = omega (arith, is.room, ap length taken, length-take-le (length places - 1) places (omega arith));
    }

    pub ready-claimed : (m : Mark) (marks : List Mark) → marks ≡ history.marks ++ m ∷ [] → ((d w : ℕ) → is_finish_of d w m ≡ false) → AreReadyLists (record { portfolio = history.portfolio; quotas = history.quotas; marks = marks }) pairs' lacking places' capacity parents
    ready-claimed m marks marked none = ready-quiet history pairs' lacking places' capacity parents ready-taken m marks marked none

  -- ---- what comes back

  module _ (begun : is_waiting put.pair.progress ≡ false) where
    pub put-free : AreFree pairs' lacking places
    put-free = free-same pairs pairs' lacking places
        (λ k pair at waits. let old = put-waits pairs pairs' v r p sorted put ended k pair at waits in (pair, old.1, waits))
        (λ k pair at waits. elim (cases_eq k put.place) [
          | inl same ↦ absurd (let this : pair ≡ put.pair = same_Some pair put.pair (sym at ∙ (ap (λ (i : ℕ). slice_get pairs i) same ∙ put.was)) in let so : is_waiting pair.progress ≡ false = ap (λ (one : Pair). is_waiting one.progress) this ∙ begun in cc)
          | inr other ↦ (pair, put-elsewhere pairs pairs' v r p sorted put k other ∙ at, waits)
        ]) is.free

    module _ (c : ℕ) (within : c < length history.portfolio.contracts.children) (lacks : has_result history c v ≡ false) where
      abbrev listed : List ℕ
      listed = children_of (child_lists parents) c

      -- a contract that lacks a result is counted as often as it stands there
      times-lack : (xs : List ℕ) → times c xs ≤ count_by (λ (d : ℕ). not (has_result history d v)) xs
      times-lack xs = sum_by-le-sum_by (λ (d : ℕ). cond {A = ℕ} (d == c) 1 0) (λ (d : ℕ). cond {A = ℕ} (not (has_result history d v)) 1 0) xs one
        where
          one : (d : ℕ) → ◌≤◌ (cond {A = ℕ} (d == c) 1 0) (cond {A = ℕ} (not (has_result history d v)) 1 0)
          one d = elim (cases_Bool (d == c)) [
            | inl is_it ↦
                let same : d ≡ c = eqb-true d c is_it in
                let left : ◌≡◌ {A = ℕ} (cond (d == c) 1 0) 1 = ap (λ (b : Bool). cond {A = ℕ} b 1 0) is_it in
                let right : ◌≡◌ {A = ℕ} (cond (not (has_result history d v)) 1 0) 1 = ap (λ (b : Bool). cond {A = ℕ} (not b) 1 0) (ap (λ (e : ℕ). has_result history e v) same ∙ lacks) in
                omega (arith, left, right)
            | inr other ↦
                let left : ◌≡◌ {A = ℕ} (cond (d == c) 1 0) 0 = ap (λ (b : Bool). cond {A = ℕ} b 1 0) other in
                omega (arith, left)
          ]

      pub put-lack : Lacks history.portfolio.order listed v pairs' lacking
      put-lack k n pair at here = elim (cases_Bool ((pair.version == v) && is_waiting pair.progress)) [
        | inl both ↦
            let parts = and_parts (pair.version == v) (is_waiting pair.progress) both in
            let version : pair.version ≡ v = eqb-true pair.version v parts.0 in
            let d : ℕ = contract_at history pair.rank in
            let owed : due history.portfolio.order listed v pair ≡ times d listed = ap (λ (b : Bool). cond b (times d listed) 0) both in
            let counted : n ≡ lacking_of history d v = put-counted k n pair at here parts.1 ∙ ap (lacking_of history d) version in
            omega (arith, owed, counted, is.turned.times c d within, times-lack (children_of history.portfolio.contracts.children d))
        | inr not_so ↦
            let owed : due history.portfolio.order listed v pair ≡ 0 = ap (λ (b : Bool). cond b (times (contract_at history pair.rank) listed) 0) not_so in
            omega (arith, owed)
      ]

      abbrev done : History
      done = and_then history (mark.Finish c v)

      result-now : has_result done c v ≡ true
      result-now = any-yes (is_finish_of c v) history.marks (mark.Finish c v) (and_from (c == c) (v == v) (eq-eqb c c refl) (eq-eqb v v refl))

      result-else : (d w : ℕ) → ((c == d) && (v == w)) ≡ false → has_result done d w ≡ has_result history d w
      result-else d w not_it = result-same history (mark.Finish c v) d w not_it

      count-split : (p q s : ℕ → Bool) (xs : List ℕ) → ((x : ℕ) → cond {A = ℕ} (p x) 1 0 ≡ cond {A = ℕ} (q x) 1 0 + cond {A = ℕ} (s x) 1 0) → count_by p xs ≡ count_by q xs + count_by s xs
      count-split p q s [] each = refl
      count-split p q s (x ∷ xs) each =
          omega (arith, each x, sum_by-cons (λ (y : ℕ). cond {A = ℕ} (p y) 1 0) x xs, sum_by-cons (λ (y : ℕ). cond {A = ℕ} (q y) 1 0) x xs, sum_by-cons (λ (y : ℕ). cond {A = ℕ} (s y) 1 0) x xs, count-split p q s xs each)

      lacking-here : (d : ℕ) → lacking_of history d v ≡ lacking_of done d v + times c (children_of history.portfolio.contracts.children d)
      lacking-here d = count-split (λ (e : ℕ). not (has_result history e v)) (λ (e : ℕ). not (has_result done e v)) (λ (e : ℕ). e == c) (children_of history.portfolio.contracts.children d) one
        where
          one : (e : ℕ) → cond {A = ℕ} (not (has_result history e v)) 1 0 ≡ cond {A = ℕ} (not (has_result done e v)) 1 0 + cond {A = ℕ} (e == c) 1 0
          one e = elim (cases_Bool (e == c)) [
            | inl is_it ↦
                let same : e ≡ c = eqb-true e c is_it in
                let before : ◌≡◌ {A = ℕ} (cond (not (has_result history e v)) 1 0) 1 = ap (λ (b : Bool). cond {A = ℕ} (not b) 1 0) (ap (λ (x : ℕ). has_result history x v) same ∙ lacks) in
                let after : ◌≡◌ {A = ℕ} (cond (not (has_result done e v)) 1 0) 0 = ap (λ (b : Bool). cond {A = ℕ} (not b) 1 0) (ap (λ (x : ℕ). has_result done x v) same ∙ result-now) in
                let bit : ◌≡◌ {A = ℕ} (cond (e == c) 1 0) 1 = ap (λ (b : Bool). cond {A = ℕ} b 1 0) is_it in
                omega (arith, before, after, bit)
            | inr other ↦
                let apart : (c == e) ≡ false = ne_eqb c e (λ so. let yes = eq-eqb e c (sym so) in cc) in
                let kept : ◌≡◌ {A = ℕ} (cond (not (has_result done e v)) 1 0) (cond (not (has_result history e v)) 1 0) = ap (λ (b : Bool). cond {A = ℕ} (not b) 1 0) (result-else e v (ap (λ (b : Bool). b && (v == v)) apart)) in
                let bit : ◌≡◌ {A = ℕ} (cond (e == c) 1 0) 0 = ap (λ (b : Bool). cond {A = ℕ} b 1 0) other in
                omega (arith, kept, bit)
          ]

      lacking-else : (d w : ℕ) → w ≢ v → lacking_of history d w ≡ lacking_of done d w
      lacking-else d w other = count-same (λ (e : ℕ). not (has_result history e w)) (λ (e : ℕ). not (has_result done e w)) (children_of history.portfolio.contracts.children d)
          (λ e. sym (ap not (result-else e w (and-false (c == e) (v == w) (ne_eqb v w (λ so. other (sym so)))))))
        where
          and-false : (a b : Bool) → b ≡ false → (a && b) ≡ false
          and-false true b is_so = is_so
          and-false false b is_so = refl

      module _ (lacking' places' : List ℕ) (capacity' : ℕ) (marks : List Mark) (marked : marks ≡ history.marks ++ mark.Finish c v ∷ []) (count : length lacking' ≡ length pairs') (free : AreFree pairs' lacking' places')
          (settled : AreSettled history.portfolio.order listed v pairs' lacking lacking') (room : length places' + blocked lacking' ≤ capacity') where
        after-counted : (k n : ℕ) (pair : Pair) → slice_get pairs' k ≡ Some pair → slice_get lacking' k ≡ Some n → is_waiting pair.progress ≡ true → n ≡ lacking_of done (contract_at history pair.rank) pair.version
        after-counted k n pair at here waits =
            let d : ℕ = contract_at history pair.rank in
            let m : ℕ = get_or lacking k 0 in
            let before : slice_get lacking k ≡ Some m = slice_get-get_or lacking k 0 (omega (arith, is.count, put-length, slice_get_within pairs' k pair at)) in
            let sum = settled k m n pair at before here in
            let was = put-counted k m pair at before waits in
            elim (cases_Bool (pair.version == v)) [
              | inl this ↦
                  let version : pair.version ≡ v = eqb-true pair.version v this in
                  let owed : due history.portfolio.order listed v pair ≡ times d listed = ap (λ (b : Bool). cond b (times d listed) 0) (and_from (pair.version == v) (is_waiting pair.progress) this waits) in
                  omega (arith, sum, was, owed, is.turned.times c d within, lacking-here d, ap (lacking_of history d) version, ap (lacking_of done d) version)
              | inr not_so ↦
                  let owed : due history.portfolio.order listed v pair ≡ 0 = ap (λ (b : Bool). cond (b && is_waiting pair.progress) (times d listed) 0) not_so in
                  let other : pair.version ≢ v = λ so. let yes = eq-eqb pair.version v so in cc in
                  omega (arith, sum, was, owed, lacking-else d pair.version other)
            ]

        pub ready-finished : AreReadyLists (record { portfolio = history.portfolio; quotas = history.quotas; marks = marks }) pairs' lacking' places' capacity' parents
        ready-finished = subst (λ (ms : List Mark). AreReadyLists (record { portfolio = history.portfolio; quotas = history.quotas; marks = ms }) pairs' lacking' places' capacity' parents) (sym marked) (record {
          turned = is.turned;
          count = count;
          counted = after-counted;
          free = free;
          room = room;
        })

-- ---- what is next is the last

module _ (history : History) (kept : Keeping) (b : IsBoard history kept)
    (lacking places : List ℕ) (capacity : ℕ) (parents : List (Vec ℕ Global)) (is : AreReadyLists history kept.pairs lacking places capacity parents) (going : kept.given_up ≡ false) where
  pub last-next : (c v r place : ℕ) (pair : Pair) → IsNext history c v → slice_get history.portfolio.order r ≡ Some c → slice_get kept.pairs place ≡ Some pair → pair.version ≡ v → pair.rank ≡ r → slice_get places (length places - 1) ≡ Some place
  last-next c v r place pair next ranked at version rank =
      elim (cases_eq listed.0 last) [
        | inl same ↦ ap (λ (i : ℕ). slice_get places i) (sym same) ∙ listed.1
        | inr other ↦ absurd (omega (arith, is.free.descending listed.0 last place place-last (omega (arith, inside, other)) listed.1 at-last, same-place))
      ]
    where
      there : (k : ℕ) × (one : Pair) × (slice_get kept.pairs k ≡ Some one) × (one.version ≡ v) × (one.rank ≡ r) × (is_waiting one.progress ≡ true) × (contract_at history one.rank ≡ c)
      there = claimable-place history kept b c v r next.claimable ranked

      here : there.1 ≡ pair
      here = same-pair kept.pairs b.pairs.sorted there.0 place there.1 pair there.2 at (there.3 ∙ sym version) (there.4 ∙ sym rank)

      waits : is_waiting pair.progress ≡ true
      waits = ap (λ (p : Pair). is_waiting p.progress) (sym here) ∙ there.5

      contract : contract_at history pair.rank ≡ c
      contract = ap (λ (p : Pair). contract_at history p.rank) (sym here) ∙ there.6

      count : slice_get lacking place ≡ Some (get_or lacking place 0)
      count = slice_get-get_or lacking place 0 (omega (arith, is.count, slice_get_within kept.pairs place pair at))

      none : get_or lacking place 0 ≡ 0
      none = is.counted place (get_or lacking place 0) pair at count waits ∙ (ap (λ (d : ℕ). lacking_of history d pair.version) contract ∙ (ap (lacking_of history c) version ∙ lacking-zero history c v next.claimable.children))

      listed : (i : ℕ) × (slice_get places i ≡ Some place)
      listed = is.free.all place (pair, at, waits, count ∙ ap Some none)

      inside : listed.0 < length places
      inside = slice_get_within places listed.0 place listed.1

      last : ℕ
      last = length places - 1

      place-last : ℕ
      place-last = get_or places last 0

      at-last : slice_get places last ≡ Some place-last
      at-last = slice_get-get_or places last 0 (omega (arith, inside))

      least : IsFree kept.pairs lacking place-last
      least = is.free.free last place-last at-last

      least-next : IsNext history (contract_at history least.0.rank) least.0.version
      least-next = claim-next history kept b place-last least.0 least.1 going (free-at history kept.pairs lacking places capacity parents is place-last least) (none-before history kept.pairs lacking places capacity parents is place-last kept.front at-last)

      one : (v < least.0.version) ⊎ ((v ≡ least.0.version) × (next.rank ≤ least.0.rank))
      one = next.least (contract_at history least.0.rank) least.0.version least.0.rank least-next.claimable (slice_get-get_or history.portfolio.order least.0.rank 0 (b.pairs.each least.0 (place-last, least.1)).rank)

      two : (least.0.version < v) ⊎ ((least.0.version ≡ v) × (least-next.rank ≤ r))
      two = least-next.least c v r next.claimable ranked

      rank-is : (s t d : ℕ) → slice_get history.portfolio.order s ≡ Some d → slice_get history.portfolio.order t ≡ Some d → s ≡ t
      rank-is s t d at_s at_t = ranks-apart history b.ordered s t (slice_get_within history.portfolio.order s d at_s) (slice_get_within history.portfolio.order t d at_t) (get_or_from_slice_get history.portfolio.order s d 0 at_s ∙ sym (get_or_from_slice_get history.portfolio.order t d 0 at_t))

      rank-one : next.rank ≡ r
      rank-one = rank-is next.rank r c next.ranked ranked

      rank-two : least-next.rank ≡ least.0.rank
      rank-two = rank-is least-next.rank least.0.rank (contract_at history least.0.rank) least-next.ranked (slice_get-get_or history.portfolio.order least.0.rank 0 (b.pairs.each least.0 (place-last, least.1)).rank)

      same : (least.0.version ≡ v) × (least.0.rank ≡ r)
      same = elim one [
        | inl lt ↦ elim two [ inl gt ↦ absurd (omega (arith, lt, gt)) | inr tie ↦ absurd (omega (arith, lt, tie.0)) ]
        | inr tie ↦ elim two [
          | inl gt ↦ absurd (omega (arith, gt, tie.0))
          | inr tie2 ↦ (tie2.0, omega (arith, tie.1, tie2.1, rank-one, rank-two))
        ]
      ]

      same-place : place-last ≡ place
      same-place = one-only kept.pairs b.pairs.sorted place-last place least.0 pair least.1 at (same.0 ∙ sym version) (same.1 ∙ sym rank)

-- ---- runs that are dropped

module _ (history : History) (pairs : List Pair) (lacking places : List ℕ) (capacity : ℕ) (parents : List (Vec ℕ Global)) (is : AreReadyLists history pairs lacking places capacity parents)
    (callers : List Caller) (version : ℕ) (new : List Pair) (drops : Drops pairs callers version new) where
  pub ready-dropped : AreReadyLists history new lacking places capacity parents
  ready-dropped = record {
    turned = is.turned;
    count = is.count ∙ sym drops.count;
    counted = λ k n pair at here waits.
        let one = drops.each k pair at in
        is.counted k n one.0 one.1 here (sym (same-waiting one.0 pair one.2) ∙ waits)
        ∙ (ap (λ (r : ℕ). lacking_of history (contract_at history r) one.0.version) (sym one.2.rank) ∙ ap (lacking_of history (contract_at history pair.rank)) (sym one.2.version));
    free = free-same pairs new lacking places
        (λ k pair at waits. let one = drops.each k pair at in (one.0, one.1, sym (same-waiting one.0 pair one.2) ∙ waits))
        (λ k pair at waits.
        let there : slice_get new k ≡ Some (get_or new k pair) = slice_get-get_or new k pair (omega (arith, drops.count, slice_get_within pairs k pair at)) in
        let one = drops.each k (get_or new k pair) there in
        let same : one.0 ≡ pair = same_Some one.0 pair (sym one.1 ∙ at) in
        (get_or new k pair, there, same-waiting one.0 (get_or new k pair) one.2 ∙ (ap (λ (p : Pair). is_waiting p.progress) same ∙ waits)))
        is.free;
    room = is.room;
  }

-- ---- nothing yet

pub ready-fresh : (portfolio : Accepted) (quotas : List ℕ) (capacity : ℕ) (parents : List (Vec ℕ Global)) → AreParents portfolio.contracts.children (child_lists parents)
    → AreReadyLists (record { portfolio = portfolio; quotas = quotas; marks = [] }) [] [] [] capacity parents
ready-fresh portfolio quotas capacity parents turned = record {
  turned = turned;
  count = refl;
  counted = λ k n pair at here waits. absurd (cc);
  free = record { descending = λ i j a b lt at_i at_j. absurd (cc); free = λ i place at. absurd (cc); all = λ place is. absurd (let one = is.1 in cc) };
  room = let none : blocked [] ≡ 0 = refl in omega (arith, none);
}

-- ---- more room

pub ready-room : (history : History) (pairs : List Pair) (lacking places : List ℕ) (capacity : ℕ) (parents : List (Vec ℕ Global)) (is : AreReadyLists history pairs lacking places capacity parents) (more : ℕ) → capacity ≤ more → AreReadyLists history pairs lacking places more parents
ready-room history pairs lacking places capacity parents is more le = record {
  turned = is.turned;
  count = is.count;
  counted = is.counted;
  free = is.free;
  room = omega (arith, is.room, le);
}

-- ---- as it is read

module _ (history : History) (kept : Keeping) (b : IsBoard history kept)
    (lacking places : List ℕ) (capacity : ℕ) (parents : List (Vec ℕ Global)) (is : AreReadyLists history kept.pairs lacking places capacity parents) where
  pub next-told : (read ranks : List ℕ) (place : ℕ) (pair : Pair) → read ≡ places → Some place ≡ slice_get read (length read - 1) → slice_get kept.pairs place ≡ Some pair → ranks ≡ history.portfolio.order → kept.given_up ≡ false → IsNext history (slice_index_or ranks pair.rank 0) pair.version
  next-told read ranks place pair same last at ordered going =
      let here : slice_get places (length places - 1) ≡ Some place = subst (λ (xs : List ℕ). slice_get xs (length xs - 1) ≡ Some place) same (sym last) in
      subst (λ (xs : List ℕ). IsNext history (slice_index_or xs pair.rank 0) pair.version) (sym ordered)
      (claim-next history kept b place pair at going
      (free-at history kept.pairs lacking places capacity parents is place (last-free history kept.pairs lacking places capacity parents is place here)) (none-before history kept.pairs lacking places capacity parents is place kept.front here))

  pub place-told : (read : List ℕ) (place : ℕ) → read ≡ places → Some place ≡ slice_get read (length read - 1) → place < length kept.pairs
  place-told read place same last =
      let here : slice_get places (length places - 1) ≡ Some place = subst (λ (xs : List ℕ). slice_get xs (length xs - 1) ≡ Some place) same (sym last) in
      let free = last-free history kept.pairs lacking places capacity parents is place here in
      slice_get_within kept.pairs place free.0 free.1

  pub none-told : (read : List ℕ) → read ≡ places → None ≡ slice_get read (length read - 1) → NoneIsClaimable history
  none-told read same none =
      let gone : slice_get places (length places - 1) ≡ None = subst (λ (xs : List ℕ). slice_get xs (length xs - 1) ≡ None) same (sym none) in
      let empty : length places ≡ 0 = elim (cases_eq (length places) 0) [
        | inl is_empty ↦ is_empty
        | inr some ↦ absurd (some-within places (length places - 1) (omega (arith, some)) gone)
      ] in
      claim-none history kept b (none-at-all history kept.pairs lacking places capacity parents is kept.front empty)

-- ---- what was claimed

under-way-begun : (p : Progress) → is_under_way p ≡ true → is_waiting p ≡ false
under-way-begun Waiting is = absurd (cc)
under-way-begun Claimed is = refl
under-way-begun (Done run) is = refl
under-way-begun Dropped is = refl

pub begun-told : (pairs pairs' : List Pair) (v r : ℕ) (p : Progress) → AreSorted pairs → (put : IsPut pairs v r p pairs') → IsUnderWay pairs v r → is_waiting put.pair.progress ≡ false
begun-told pairs pairs' v r p sorted put claimed =
    let same : claimed.0 ≡ put.pair = same-pair pairs sorted claimed.1.0 put.place claimed.0 put.pair claimed.1.1 put.was (claimed.2 ∙ sym put.same_version) (claimed.3 ∙ sym put.same_rank) in
    under-way-begun put.pair.progress (ap (λ (one : Pair). is_under_way one.progress) (sym same) ∙ claimed.4)

pub lacks-told : (history : History) (c v : ℕ) → is_claimed history c v ≡ true → has_result history c v ≡ false
lacks-told history c v is = not-true (has_result history c v) (and_parts (was_claimed history c v) (not (has_result history c v)) is).1

pub put-ranks : (pairs pairs' : List Pair) (v r n : ℕ) (p : Progress) → AreSorted pairs → IsPut pairs v r p pairs' → ((pair : Pair) → Has pairs pair → pair.rank < n) → (k : ℕ) (pair : Pair) → slice_get pairs' k ≡ Some pair → pair.rank < n
put-ranks pairs pairs' v r n p sorted put each k pair at = elim (put-cases pairs pairs' v r p sorted put k pair at) [
  | inl here ↦ omega (arith, each put.pair (put.place, put.was), put.same_rank, ap (λ (one : Pair). one.rank) here.1)
  | inr other ↦ each pair (k, other.1)
]

-- ---- what was asked for

pub asked-ranks : (old new : List Pair) (v begin n : ℕ) (asked : ℕ → Bool) → IsExtended old v asked begin n new → ((pair : Pair) → Has old pair → pair.rank < n) → (k : ℕ) (pair : Pair) → slice_get new k ≡ Some pair → pair.rank < n
asked-ranks old new v begin n asked extended each k pair at = elim (extended.only pair (k, at)) [
  | inl there ↦ each pair there
  | inr one ↦ one.within
]

pub asked-start : (old new : List Pair) (v begin n : ℕ) (asked : ℕ → Bool) → IsExtended old v asked begin n new → begin ≤ length old
asked-start old new v begin n asked extended = elim (cases_lt (length old) begin) [
  | inr le ↦ le
  | inl lt ↦ elim (slice_get_cases new (length old)).1 [
    | inl found ↦ absurd (let one = found.2 in let two = extended.same (length old) lt in let three = slice_get_past old (length old) (omega arith) in cc)
    | inr past ↦ absurd (omega (arith, past.0, lt, extended.start))
  ]
]
