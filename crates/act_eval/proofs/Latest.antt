-- The cached version of a contract, mark by mark.
use Rattle.std.proofs.Common.{◌≡◌, ℕ, ◌≤◌, ◌==◌, max, Bool, true, false, List, [], ◌∷◌, ◌++◌, fold, Option, Some, None, refl, ap, subst, ◌∙◌, arith, inl, inr, eq-eqb, append-nil}
use Rattle.std.specs.List.{filter_map, list_any, reduce}
use Rattle.std.proofs.lemmas.Bool.{and_from, cases_order, eqb-true}
use Rattle.std.proofs.lemmas.List.Elements.{filter_map-append}
use Rattle.std.proofs.lemmas.List.Sums.{fold-append}
use Rattle.std.proofs.lemmas.Option.{same_Some}
use Rattle.act_history.specs.History.{History, and_then, has_result, is_finish_of}
use Rattle.act_keeping.specs.Latest.{cached_version, finished_version}
use Rattle.act_history.specs.declared.mark.Mark.{Mark}
use Rattle.act_history.specs.declared.mark.Mark.TheVariants as mark
use Rattle.act_history.proofs.Reaching.{either, left-so, right-so}

-- ---- the greatest of some numbers

-- one more that is as great
greatest-push : (xs : List ℕ) (v : ℕ) → ((u : ℕ) → reduce max xs ≡ Some u → u ≤ v) → reduce max (xs ++ v ∷ []) ≡ Some v
greatest-push [] v least = refl
greatest-push (x ∷ xs) v least =
    let below : fold max x xs ≤ v = least (fold max x xs) refl in
    let top : max (fold max x xs) v ≡ v = omega (arith, below) in
    ap {B = Option ℕ} (λ (n : ℕ). Some n) (fold-append max x xs (v ∷ []) ∙ top)

-- it is one of them
abbrev is-one : ℕ → List ℕ → Bool
is-one u xs = list_any (λ w. w == u) xs

fold-is-one : (x : ℕ) (xs : List ℕ) → is-one (fold max x xs) (x ∷ xs) ≡ true
fold-is-one x [] = left-so (x == x) false (eq-eqb x x refl)
fold-is-one x (y ∷ ys) = by (fold max (max x y) ys) (fold-is-one (max x y) ys)
  where
    first : (u : ℕ) → max x y ≡ u → is-one u (x ∷ y ∷ ys) ≡ true
    first u is = elim (cases_order x y) [
      | inl same ↦ left-so (x == u) (is-one u (y ∷ ys)) (eq-eqb x u (omega (arith, same, is)))
      | inr apart ↦ elim apart [
        | inl lt ↦ right-so (x == u) (is-one u (y ∷ ys)) (left-so (y == u) (is-one u ys) (eq-eqb y u (omega (arith, lt, is))))
        | inr gt ↦ left-so (x == u) (is-one u (y ∷ ys)) (eq-eqb x u (omega (arith, gt, is)))
      ]
    ]

    by : (u : ℕ) → is-one u (max x y ∷ ys) ≡ true → is-one u (x ∷ y ∷ ys) ≡ true
    by u is = elim (either (max x y == u) (is-one u ys) is) [
      | inl here ↦ first u (eqb-true (max x y) u here)
      | inr behind ↦ right-so (x == u) (is-one u (y ∷ ys)) (right-so (y == u) (is-one u ys) behind)
    ]

greatest-is-one : (xs : List ℕ) (u : ℕ) → reduce max xs ≡ Some u → is-one u xs ≡ true
greatest-is-one [] u is = absurd (cc)
greatest-is-one (x ∷ xs) u is = subst (λ (w : ℕ). is-one w (x ∷ xs) ≡ true) (same_Some (fold max x xs) u is) (fold-is-one x xs)

-- ---- the marks of a contract

module _ (c : ℕ) where
  -- the versions at which it has results
  abbrev versions : List Mark → List ℕ
  versions marks = filter_map (finished_version c) marks

  -- a version among them is of a Finish mark
  mark-of : (u : ℕ) (marks : List Mark) → is-one u (versions marks) ≡ true → list_any (is_finish_of c u) marks ≡ true
  mark-of u [] is = absurd (cc)
  mark-of u (mark.Append i e ∷ marks) is = mark-of u marks is
  mark-of u (mark.Ask i a ∷ marks) is = mark-of u marks is
  mark-of u (mark.Claim d w ∷ marks) is = mark-of u marks is
  mark-of u (mark.Collect i ∷ marks) is = mark-of u marks is
  mark-of u (mark.Leave i ∷ marks) is = mark-of u marks is
  mark-of u (mark.GiveUp ∷ marks) is = mark-of u marks is
  mark-of u (mark.Finish d w ∷ marks) is = by (d == c) refl (mark-of u marks)
    where
      by : (mine : Bool) → (d == c) ≡ mine → (is-one u (versions marks) ≡ true → list_any (is_finish_of c u) marks ≡ true) → list_any (is_finish_of c u) (mark.Finish d w ∷ marks) ≡ true
      by true mine rest = elim (either (w == u) (is-one u (versions marks)) (rw mine at is)) [
        | inl here ↦ left-so (is_finish_of c u (mark.Finish d w)) (list_any (is_finish_of c u) marks) (and_from (d == c) (w == u) mine here)
        | inr behind ↦ right-so (is_finish_of c u (mark.Finish d w)) (list_any (is_finish_of c u) marks) (rest behind)
      ]
      by false other rest = right-so (is_finish_of c u (mark.Finish d w)) (list_any (is_finish_of c u) marks) (rest (rw other at is))

  pub cached-has : (history : History) (u : ℕ) → cached_version history c ≡ Some u → has_result history c u ≡ true
  cached-has history u is = mark-of u history.marks (greatest-is-one (versions history.marks) u is)

  -- a mark that gives it no result
  pub cached-same : (history : History) (m : Mark) → finished_version c m ≡ None → cached_version (and_then history m) c ≡ cached_version history c
  cached-same history m none =
      ap (reduce max) (filter_map-append (finished_version c) history.marks (m ∷ []) ∙ rw none (append-nil (versions history.marks)))

  -- a result of another one
  pub cached-other : (history : History) (d v : ℕ) → (d == c) ≡ false → cached_version (and_then history (mark.Finish d v)) c ≡ cached_version history c
  cached-other history d v other = cached-same history (mark.Finish d v) (rw other refl)

  -- a result at a version that no earlier one is behind
  pub cached-finished : (history : History) (v : ℕ) → ((u : ℕ) → has_result history c u ≡ true → u ≤ v) → cached_version (and_then history (mark.Finish c v)) c ≡ Some v
  cached-finished history v past =
      ap (reduce max) (filter_map-append (finished_version c) history.marks (mark.Finish c v ∷ []) ∙ rw (eq-eqb c c refl) refl)
      ∙ greatest-push (versions history.marks) v (λ u is. past u (cached-has history u is))
