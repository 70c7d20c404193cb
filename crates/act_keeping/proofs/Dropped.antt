-- A board whose runs are dropped that nobody can ask for any more.
use Rattle.std.proofs.Common.{◌≡◌, ◌⊎◌, ℕ, zero, suc, ◌-◌, ◌<◌, cond, Bool, true, false, List, [], ◌∷◌, length, Some, inl, inr, refl, sym, ap, subst, ◌∙◌, arith, sum_by}
use Rattle.std.specs.List.{Contains, slice_get}
use Rattle.std.proofs.lemmas.List.Sums.{sum_by-cons}
use Rattle.std.proofs.lemmas.Option.{same_Some, slice_get-get_or, slice_get_within}
use Rattle.act_model.specs.declared.asks.Asking.{Asking}
use Rattle.act_refs.specs.Path.{IsChild}
use Rattle.act_keeping.specs.Dropping.{Drops, IsDropped, IsUnasked}
use Rattle.act_history.specs.History.{History, IsWanted, has_result}
use Rattle.act_keeping.specs.Keeping.{ArePairs, Has, IsAt, IsBoard, IsListed, IsUnwanted, IsPair, Keeping, contract_at, is_done, is_under_way, is_waiting, owed_for}
use Rattle.act_keeping.specs.declared.pair.Pair.{Pair}
use Rattle.act_keeping.specs.declared.pair.Progress.{Progress}
use Rattle.act_keeping.specs.declared.pair.Progress.TheVariants.{Waiting, Claimed, Done, Dropped}
use Rattle.act_keeping.proofs.Boards.{caller-told}
use Rattle.act_keeping.proofs.Ordered.{before-is, before-so}

-- a done pair is neither waiting nor under way
done-not-waiting : (p : Progress) → is_done p ≡ true → is_waiting p ≡ false
done-not-waiting Waiting is = absurd (cc)
done-not-waiting Claimed is = absurd (cc)
done-not-waiting (Done run) is = refl
done-not-waiting Dropped is = refl

done-not-under-way : (p : Progress) → is_done p ≡ true → is_under_way p ≡ false
done-not-under-way Waiting is = absurd (cc)
done-not-under-way Claimed is = absurd (cc)
done-not-under-way (Done run) is = refl
done-not-under-way Dropped is = refl

-- it has a result
done-result : (history : History) (c v : ℕ) (p : Progress) → is_done p ≡ true → IsAt history c v p → has_result history c v ≡ true
done-result history c v Waiting is at = absurd (cc)
done-result history c v Claimed is at = absurd (cc)
done-result history c v (Done run) is at = at.0
done-result history c v Dropped is at = at.0

-- a dropped pair waits, and is under way, where it did before
pub same-waiting : (old new : Pair) → IsDropped old new → is_waiting new.progress ≡ is_waiting old.progress
same-waiting old new is = elim is.progress [
  | inl same ↦ ap is_waiting same
  | inr gone ↦ ap is_waiting gone.0 ∙ sym (done-not-waiting old.progress gone.1)
]

same-under-way : (old new : Pair) → IsDropped old new → is_under_way new.progress ≡ is_under_way old.progress
same-under-way old new is = elim is.progress [
  | inl same ↦ ap is_under_way same
  | inr gone ↦ ap is_under_way gone.0 ∙ sym (done-not-under-way old.progress gone.1)
]

sum-by-places : (f : Pair → ℕ) (old new : List Pair) → length new ≡ length old → ((k : ℕ) (a : Pair) → slice_get new k ≡ Some a → (b : Pair) × (slice_get old k ≡ Some b) × (f a ≡ f b)) → sum_by f new ≡ sum_by f old
sum-by-places f [] [] count each = refl
sum-by-places f [] (x ∷ xs) count each = absurd (omega (arith, count))
sum-by-places f (x ∷ xs) [] count each = absurd (omega (arith, count))
sum-by-places f (x ∷ xs) (y ∷ ys) count each =
    let first = each 0 y refl in
    let here : f y ≡ f x = first.2 ∙ ap f (sym (same_Some x first.0 first.1)) in
    omega (arith, sum_by-cons f y ys, sum_by-cons f x xs, here, sum-by-places f xs ys (omega (arith, count)) (λ k a at. each (suc k) a at))

some-there : {X : Type 0} (xs : List X) (k : ℕ) → k < length xs → (x : X) × (slice_get xs k ≡ Some x)
some-there [] k lt = absurd (omega arith)
some-there (x ∷ xs) zero lt = (x, refl)
some-there (x ∷ xs) (suc k) lt = some-there xs k (omega arith)

module _ (history : History) (kept : Keeping) (b : IsBoard history kept)
    (new : List Pair) (drops : Drops kept.pairs kept.callers (length kept.book) new) where
  -- a version that no open ask is of is over
  over : (v : ℕ) → IsUnasked kept.callers (length kept.book) v → IsUnwanted history v
  over v unasked = (omega (arith, unasked.0, ap length b.entries), λ c wanted. none c wanted)
    where
      none : (c : ℕ) → ¬ (IsWanted history c v)
      none c wanted =
          let one = some-there kept.callers (wanted.caller - 1) (omega (arith, wanted.from, wanted.to, b.callers.count)) in
          let told = caller-told history kept b wanted.caller one.0 wanted.from one.1 in
          let there : Contains one.0.open_asks.items wanted.ask = subst (λ (asks : List Asking). Contains asks wanted.ask) (sym told.2.still_open) wanted.still_open in
          let at : slice_get one.0.open_asks.items there.0 ≡ Some wanted.ask = slice_get-get_or one.0.open_asks.items there.0 wanted.ask there.1 ∙ ap Some there.2 in
          unasked.1 (wanted.caller - 1) one.0 one.1 there.0 wanted.ask at wanted.version

  kept-at : (before after : Pair) → IsDropped before after → (after ≡ before) ⊎ IsUnasked kept.callers (length kept.book) before.version → IsPair history before → IsPair history after
  kept-at before after is (inl same) pair = subst (IsPair history) (sym same) pair
  kept-at before after is (inr unasked) pair = record {
    version = omega (arith, pair.version, is.version);
    rank = omega (arith, pair.rank, is.rank);
    at = subst (λ (v : ℕ). IsAt history (contract_at history after.rank) v after.progress) (sym is.version)
        (subst (λ (r : ℕ). IsAt history (contract_at history r) before.version after.progress) (sym is.rank) (elim is.progress [
          | inl same ↦ subst (IsAt history (contract_at history before.rank) before.version) (sym same) pair.at
          | inr gone ↦ subst (IsAt history (contract_at history before.rank) before.version) (sym gone.0) (done-result history (contract_at history before.rank) before.version before.progress gone.1 pair.at, over before.version unasked)
        ]));
  }

  -- the pair that was there
  was : (pair : Pair) → Has new pair → (before : Pair) × Has kept.pairs before × IsDropped before pair × ((pair ≡ before) ⊎ IsUnasked kept.callers (length kept.book) before.version)
  was pair has = let one = drops.each has.0 pair has.1 in (one.0, (has.0, one.1), one.2, one.3)

  listed : (v r : ℕ) → IsListed kept.pairs v r → IsListed new v r
  listed v r is =
      let place = is.1.0 in
      let within = slice_get_within kept.pairs place is.0 is.1.1 in
      let now = some-there new place (omega (arith, within, drops.count)) in
      let one = drops.each place now.0 now.1 in
      let same : one.0 ≡ is.0 = same_Some one.0 is.0 (sym one.1 ∙ is.1.1) in
      (now.0, (place, now.1), one.2.version ∙ (ap (λ (p : Pair). p.version) same ∙ is.2), one.2.rank ∙ (ap (λ (p : Pair). p.rank) same ∙ is.3))

  dropped-pairs : ArePairs history new
  dropped-pairs = record {
    sorted = λ i j x y lt at_x at_y.
        let old_x = drops.each i x at_x in
        let old_y = drops.each j y at_y in
        let before = b.pairs.sorted i j old_x.0 old_y.0 lt old_x.1 old_y.1 in
        before-so x y.version y.rank (elim (before-is old_x.0 old_y.0.version old_y.0.rank before) [
          | inl less ↦ inl (omega (arith, less, old_x.2.version, old_y.2.version))
          | inr tie ↦ inr (omega (arith, tie.0, old_x.2.version, old_y.2.version), omega (arith, tie.1, old_x.2.rank, old_y.2.rank))
        ]);
    each = λ pair has. let one = was pair has in kept-at one.0 pair one.2 one.3 (b.pairs.each one.0 one.1);
    children = λ pair has begun child refers.
        let one = was pair has in
        ap (has_result history child) one.2.version
        ∙ b.pairs.children one.0 one.1 (sym (same-waiting one.0 pair one.2) ∙ begun) child (subst (λ (r : ℕ). IsChild history.portfolio.contracts.children (contract_at history r) child) one.2.rank refers);
    waiting = λ going pair has waits.
        let one = was pair has in
        subst (λ (v : ℕ). IsWanted history (contract_at history pair.rank) v) (sym one.2.version)
        (subst (λ (r : ℕ). IsWanted history (contract_at history r) one.0.version) (sym one.2.rank) (b.pairs.waiting going one.0 one.1 (sym (same-waiting one.0 pair one.2) ∙ waits)));
    wanted = λ v r within is. listed v r (b.pairs.wanted v r within is);
    claimed = λ v r within is. listed v r (b.pairs.claimed v r within is);
    done = λ v r within is. listed v r (b.pairs.done v r within is);
  }

  same-owed : sum_by owed_for new ≡ sum_by owed_for kept.pairs
  same-owed = sum-by-places owed_for kept.pairs new drops.count (λ k a at.
      let one = drops.each k a at in
      (one.0, one.1, ap {B = ℕ} (λ (b : Bool). cond b 1 0) (same-under-way one.0 a one.2)))

  pub board-dropped : IsBoard history (record kept { pairs = new })
  board-dropped = record {
    ordered = b.ordered;
    count = b.count;
    numbered = b.numbered;
    sound = b.sound;
    items = b.items;
    entries = b.entries;
    given_up = b.given_up;
    callers = b.callers;
    pairs = dropped-pairs;
    front = λ k pair lt at. let one = drops.each k pair at in same-waiting one.0 pair one.2 ∙ b.front k one.0 lt one.1;
    owing = omega (arith, b.owing, same-owed);
    room = b.room;
    fits = b.fits;
  }
