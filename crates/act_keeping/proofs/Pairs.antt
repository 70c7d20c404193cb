-- What is kept of contracts at versions, as a history goes on.
use Rattle.std.proofs.Common.{◌≡◌, ◌≢◌, ◌⊎◌, ℕ, zero, suc, ◌+◌, ◌<◌, ◌≤◌, true, false, List, length, take, set, get_or, Some, Ok, inl, inr, refl, sym, ap, subst, ◌∙◌, arith, sum_by}
use Rattle.std.specs.List.{Contains, slice_get}
use Rattle.std.proofs.lemmas.Bool.{cases_Bool, cases_order}
use Rattle.std.proofs.lemmas.List.Elements.{All-contains}
use Rattle.std.proofs.lemmas.List.Sums.{sum_by-set}
use Rattle.std.proofs.lemmas.Option.{get_or_from_slice_get, same_Some, slice_get_within}
use Rattle.act_model.specs.declared.asks.Asking.{Asking}
use Rattle.act_model.specs.declared.observed.Obs.{Obs}
use Rattle.act_profile.specs.Reads.{is_in}
use Rattle.act_profile.specs.Run.{run_of}
use Rattle.act_refs.specs.Order.{IsReferenceOrder}
use Rattle.act_refs.specs.Ordered.{order_of}
use Rattle.act_refs.specs.Path.{HasPath, IsChild}
use Rattle.act_refs.proofs.Depths.{apart, place}
use Rattle.act_refs.proofs.Ordering.{order_of-reference}
use Rattle.act_refs.proofs.Paths.{HasPath-first, HasPath-nowhere, IsChild-within}
use Rattle.act_model.specs.Journal.{contracts_of}
use Rattle.act_history.specs.History.{History, IsWanted, and_then, entries_of, has_result, is_claim_of, is_finish_of, is_given_up, open_asks, version_of, was_claimed}
use Rattle.act_keeping.specs.Keeping.{ArePairs, AreSorted, Has, IsAt, IsListed, IsUnwanted, IsPair, IsPut, contract_at, is_before, is_waiting, owed_for}
use Rattle.act_history.specs.Legal.{IsReady}
use Rattle.act_history.specs.Reached.{is_reached}
use Rattle.act_history.specs.declared.mark.Mark.{Mark}
use Rattle.act_keeping.specs.declared.pair.Pair.{Pair}
use Rattle.act_keeping.specs.declared.pair.Progress.{Progress}
use Rattle.act_keeping.specs.declared.pair.Progress.TheVariants.{Waiting, Claimed, Done, Dropped}
use Rattle.act_history.proofs.Going.{any-not, any-yes}
use Rattle.act_keeping.proofs.Ordered.{one-only}
use Rattle.act_history.proofs.Places.{get-set, get-set_cases, get-set_other}
use Rattle.act_history.proofs.Reaching.{path-reached}

-- ---- what a mark changes

module _ (history : History) (m : Mark) where
  abbrev after : History
  after = and_then history m

  pub claimed-same : (c v : ℕ) → is_claim_of c v m ≡ false → was_claimed after c v ≡ was_claimed history c v
  claimed-same c v not = any-not (is_claim_of c v) history.marks m not

  pub result-same : (c v : ℕ) → is_finish_of c v m ≡ false → has_result after c v ≡ has_result history c v
  result-same c v not = any-not (is_finish_of c v) history.marks m not

  -- a result stays
  pub result-stays : (c v : ℕ) → has_result history c v ≡ true → has_result after c v ≡ true
  result-stays c v is = elim (cases_Bool (is_finish_of c v m)) [
    | inl new ↦ any-yes (is_finish_of c v) history.marks m new
    | inr old ↦ result-same c v old ∙ is
  ]

  -- entries that stay
  abbrev pub Stay : Type 0
  Stay = (v : ℕ) → v ≤ version_of history → take v (entries_of after) ≡ take v (entries_of history)

  -- nothing can be asked for that couldn't
  pub over-back : version_of history ≤ version_of after → ((c v : ℕ) → IsWanted after c v → IsWanted history c v) → (v : ℕ) → IsUnwanted history v → IsUnwanted after v
  over-back grows back v over = (omega (arith, over.0, grows), λ c wanted. over.1 c (back c v wanted))

  at-same : (c v : ℕ) (p : Progress) → Stay → v ≤ version_of history → is_claim_of c v m ≡ false → is_finish_of c v m ≡ false → (IsUnwanted history v → IsUnwanted after v) → IsAt history c v p → IsAt after c v p
  at-same c v Waiting stay within no_claim no_finish over at = (claimed-same c v no_claim ∙ at.0, result-same c v no_finish ∙ at.1)
  at-same c v Claimed stay within no_claim no_finish over at = (claimed-same c v no_claim ∙ at.0, result-same c v no_finish ∙ at.1)
  at-same c v Dropped stay within no_claim no_finish over at = (result-same c v no_finish ∙ at.0, over at.1)
  at-same c v (Done run) stay within no_claim no_finish over at =
      (result-same c v no_finish ∙ at.0, (at.1.0 ∙ ap (λ (entries : List Obs). run_of history.portfolio.contracts entries c) (sym (stay v within)), at.1.1))

  -- a pair of which nothing is said stays as it is
  pub pair-same : (pair : Pair) → Stay → version_of history ≤ version_of after → is_claim_of (contract_at history pair.rank) pair.version m ≡ false → is_finish_of (contract_at history pair.rank) pair.version m ≡ false
      → (IsUnwanted history pair.version → IsUnwanted after pair.version) → IsPair history pair → IsPair after pair
  pair-same pair stay grows no_claim no_finish over is = record {
    version = omega (arith, is.version, grows);
    rank = is.rank;
    at = at-same (contract_at history pair.rank) pair.version pair.progress stay is.version no_claim no_finish over is.at;
  }

  -- ---- marks that claim and finish nothing

  pub pairs-stay : (pairs : List Pair) → Stay → version_of history ≤ version_of after → ((c v : ℕ) → is_claim_of c v m ≡ false) → ((c v : ℕ) → is_finish_of c v m ≡ false)
      → ((c v : ℕ) → IsWanted after c v → IsWanted history c v)
      → (is_given_up after ≡ false → (pair : Pair) → Has pairs pair → is_waiting pair.progress ≡ true → IsWanted after (contract_at history pair.rank) pair.version)
      → ArePairs history pairs → ArePairs after pairs
  pairs-stay pairs stay grows no_claim no_finish back waits are = record {
    sorted = are.sorted;
    each = λ pair has. pair-same pair stay grows (no_claim _ _) (no_finish _ _) (over-back grows back pair.version) (are.each pair has);
    children = λ pair has begun child refers. result-stays child pair.version (are.children pair has begun child refers);
    waiting = waits;
    wanted = λ v r within is. are.wanted v r within (back (contract_at history r) v is);
    claimed = λ v r within is. are.claimed v r within (sym (claimed-same (contract_at history r) v (no_claim _ _)) ∙ is);
    done = λ v r within is. are.done v r within (sym (result-same (contract_at history r) v (no_finish _ _)) ∙ is);
  }

  -- what is wanted, where the open asks are as they were
  pub wanted-same : ((i : ℕ) → open_asks after i ≡ open_asks history i) → (c v : ℕ) → IsWanted after c v → IsWanted history c v
  wanted-same same c v is = record {
    caller = is.caller;
    from = is.from;
    to = is.to;
    ask = is.ask;
    still_open = subst (λ (asks : List Asking). Contains asks is.ask) (same is.caller) is.still_open;
    contract = is.contract;
    version = is.version;
    reached = is.reached;
  }

  pub wanted-still : ((i : ℕ) → open_asks after i ≡ open_asks history i) → (c v : ℕ) → IsWanted history c v → IsWanted after c v
  wanted-still same c v is = record {
    caller = is.caller;
    from = is.from;
    to = is.to;
    ask = is.ask;
    still_open = subst (λ (asks : List Asking). Contains asks is.ask) (sym (same is.caller)) is.still_open;
    contract = is.contract;
    version = is.version;
    reached = is.reached;
  }

  -- marks after which the same is wanted
  pub pairs-quiet : (pairs : List Pair) → Stay → version_of history ≤ version_of after → ((c v : ℕ) → is_claim_of c v m ≡ false) → ((c v : ℕ) → is_finish_of c v m ≡ false)
      → ((i : ℕ) → open_asks after i ≡ open_asks history i) → (is_given_up after ≡ false → is_given_up history ≡ false) → ArePairs history pairs → ArePairs after pairs
  pairs-quiet pairs stay grows no_claim no_finish same back are =
      pairs-stay pairs stay grows no_claim no_finish (wanted-same same) (λ going pair has waits. wanted-still same (contract_at history pair.rank) pair.version (are.waiting (back going) pair has waits)) are

-- ---- the contracts of ranks

module _ (history : History) (ordered : order_of history.portfolio.contracts.children ≡ Ok history.portfolio.order) where
  abbrev order : List ℕ
  order = history.portfolio.order

  reference : IsReferenceOrder history.portfolio.contracts.children order
  reference = order_of-reference history.portfolio.contracts.children order ordered

  -- contracts of two ranks differ
  pub ranks-apart : (r s : ℕ) → r < length order → s < length order → contract_at history r ≡ contract_at history s → r ≡ s
  ranks-apart r s within_r within_s same = elim (cases_order r s) [
    | inl is ↦ is
    | inr differ ↦ elim differ [
      | inl lt ↦ absurd (apart history.portfolio.contracts.children (get_or order r 0) (get_or order s 0) (reference.sorted r s 0 lt within_s) same)
      | inr gt ↦ absurd (apart history.portfolio.contracts.children (get_or order s 0) (get_or order r 0) (reference.sorted s r 0 gt within_r) (sym same))
    ]
  ]

  -- a contract that refers to another has a rank
  pub rank-of : (c child : ℕ) → IsChild history.portfolio.contracts.children c child → (r : ℕ) × (r < length order) × (contract_at history r ≡ c)
  rank-of c child refers = place history.portfolio.contracts.children order reference c (IsChild-within history.portfolio.contracts.children c child refers)

-- ---- what is done is done with all that it reaches

module _ (history : History) (pairs : List Pair) (ordered : order_of history.portfolio.contracts.children ≡ Ok history.portfolio.order) (are : ArePairs history pairs) where
  not-waiting : (c v : ℕ) (p : Progress) → IsAt history c v p → has_result history c v ≡ true → is_waiting p ≡ false
  not-waiting c v Waiting at is = absurd (let none = at.1 in cc)
  not-waiting c v Claimed at is = refl
  not-waiting c v (Done run) at is = refl
  not-waiting c v Dropped at is = refl

  child-done : (c v child : ℕ) → has_result history c v ≡ true → IsChild history.portfolio.contracts.children c child → has_result history child v ≡ true
  child-done c v child is refers =
      let rank = rank-of history ordered c child refers in
      let listed = are.done v rank.0 rank.1 (ap (λ (d : ℕ). has_result history d v) rank.2 ∙ is) in
      let pair = listed.0 in
      let here : contract_at history pair.rank ≡ c = ap (contract_at history) listed.3 ∙ rank.2 in
      let at = subst (λ (w : ℕ). IsAt history c w pair.progress) listed.2 (subst (λ (d : ℕ). IsAt history d pair.version pair.progress) here (are.each pair listed.1).at) in
      ap (has_result history child) (sym listed.2)
      ∙ are.children pair listed.1 (not-waiting c v pair.progress at is) child (subst (λ (d : ℕ). IsChild history.portfolio.contracts.children d child) (sym here) refers)

  path-done : (k a c v : ℕ) → HasPath history.portfolio.contracts.children k a c → has_result history a v ≡ true → has_result history c v ≡ true
  path-done zero a c v path is = subst (λ (d : ℕ). has_result history d v ≡ true) (HasPath-nowhere history.portfolio.contracts.children a c path) is
  path-done (suc k) a c v path is =
      let step = HasPath-first history.portfolio.contracts.children k a c path in
      path-done k step.0 c v step.2 (child-done a v step.0 is step.1)

  -- all that an ask reaches has results where the contracts that it asks for have
  pub reached-done : (ask : Asking) (c : ℕ) → IsReady history ask → ((contracts : List ℕ) (a : ℕ) → is_in contracts a ≡ true → Contains contracts a)
      → is_reached history.portfolio.contracts (contracts_of history.portfolio.names ask.asked) c ≡ true → has_result history c ask.version ≡ true
  reached-done ask c ready contains is =
      let path = path-reached history.portfolio.contracts (contracts_of history.portfolio.names ask.asked) c is in
      path-done path.2 path.0 c ask.version path.4
      (All-contains (λ (d : ℕ). has_result history d ask.version ≡ true) (contracts_of history.portfolio.names ask.asked) path.0 ready (contains (contracts_of history.portfolio.names ask.asked) path.0 path.1))

-- ---- how far a pair is, written

module _ (old new : List Pair) (v r : ℕ) (p : Progress) (sorted : AreSorted old) (put : IsPut old v r p new) where
  abbrev written : Pair
  written = record { version = v; rank = r; progress = p }

  within : put.place < length old
  within = slice_get_within old put.place put.pair put.was

  pub put-cases : (k : ℕ) (pair : Pair) → slice_get new k ≡ Some pair → ((k ≡ put.place) × (written ≡ pair)) ⊎ ((k ≢ put.place) × (slice_get old k ≡ Some pair))
  put-cases k pair is = get-set_cases old put.place k written pair within (ap (λ (xs : List Pair). slice_get xs k) (sym put.is) ∙ is)

  pub put-has : Has new written
  put-has = (put.place, ap (λ (xs : List Pair). slice_get xs put.place) put.is ∙ get-set old put.place written within)

  -- the pair of a place before, of the same version and rank
  before-put : (k : ℕ) (pair : Pair) → slice_get new k ≡ Some pair → (one : Pair) × (slice_get old k ≡ Some one) × (one.version ≡ pair.version) × (one.rank ≡ pair.rank)
  before-put k pair is = elim (put-cases k pair is) [
    | inl here ↦
        (put.pair, ap (λ (n : ℕ). slice_get old n) here.0 ∙ put.was, put.same_version ∙ ap (λ (one : Pair). one.version) here.1, put.same_rank ∙ ap (λ (one : Pair). one.rank) here.1)
    | inr other ↦ (pair, other.1, refl, refl)
  ]

  before-same : (a b c d : Pair) → a.version ≡ c.version → a.rank ≡ c.rank → b.version ≡ d.version → b.rank ≡ d.rank → is_before a b.version b.rank ≡ true → is_before c d.version d.rank ≡ true
  before-same a b c d av ar bv br is = rw (sym av, sym ar, sym bv, sym br) is

  pub put-sorted : AreSorted new
  put-sorted i j a b lt at_a at_b =
      let one = before-put i a at_a in
      let two = before-put j b at_b in
      before-same one.0 two.0 a b one.2 one.3 two.2 two.3 (sorted i j one.0 two.0 lt one.1 two.1)

  -- what was listed is
  pub put-listed : (w s : ℕ) → IsListed old w s → IsListed new w s
  put-listed w s listed = elim (cases_order listed.1.0 put.place) [
    | inl same ↦
        let is : listed.0 ≡ put.pair = same_Some listed.0 put.pair (sym listed.1.1 ∙ (ap (λ (n : ℕ). slice_get old n) same ∙ put.was)) in
        (written, put-has, sym put.same_version ∙ (ap (λ (one : Pair). one.version) (sym is) ∙ listed.2), sym put.same_rank ∙ (ap (λ (one : Pair). one.rank) (sym is) ∙ listed.3))
    | inr differ ↦
        let other : listed.1.0 ≢ put.place = λ same. elim differ [ inl lt ↦ absurd (omega arith) | inr gt ↦ absurd (omega arith) ] in
        (listed.0, (listed.1.0, ap (λ (xs : List Pair). slice_get xs listed.1.0) put.is ∙ (get-set_other old put.place listed.1.0 written other ∙ listed.1.1)), listed.2, listed.3)
  ]

  -- another pair is of another version or rank
  pub put-other : (k : ℕ) (pair : Pair) → k ≢ put.place → slice_get old k ≡ Some pair → pair.version ≡ v → pair.rank ≡ r → ⊥
  put-other k pair other at version rank = other (one-only old sorted k put.place pair put.pair at put.was (version ∙ sym put.same_version) (rank ∙ sym put.same_rank))

  pub put-owed : sum_by owed_for new + owed_for put.pair ≡ sum_by owed_for old + owed_for written
  put-owed =
      ap (λ (xs : List Pair). sum_by owed_for xs + owed_for put.pair) put.is
      ∙ (ap (λ (one : Pair). sum_by owed_for (set old put.place written) + owed_for one) (sym (get_or_from_slice_get old put.place put.pair put.pair put.was))
      ∙ sum_by-set owed_for old put.place written put.pair within)
