-- How the tickets change.
use Rattle.std.proofs.Common.{◌≡◌, ◌≢◌, ℕ, ◌+◌, ◌%◌, ◌^◌, ◌<◌, List, [], ◌∷◌, ◌++◌, length, get_or, set, sym, ap, ◌∙◌, subst, ⊎_elim, arith, Option, Some, None, is_some, cond}
use Rattle.std.specs.List.{count_by}
use Rattle.std.proofs.Math.Nat.{mod-add-mod}
use Rattle.std.proofs.lemmas.List.Sums.{sum_by-set, sum_by-append, count_by-le-length}
use mathlib.Core.Logic.{dite}
use mathlib.Core.Option.{some, some-injective}
use native.Mathlib.Decide.{ℕ_discrete}
use lib.ListN.{get_elem?}
use Rattle.atomic_table.proofs.Lists.{at_set, at_snoc, at_longer, set_here, set_else, one_turn}
use Rattle.act_turn.specs.Turn.{IsQueue}
use Rattle.act_turn.proofs.Places.{inside, get_or_is}

abbrev weight : Option ℕ → ℕ
weight x = cond (is_some x) 1 0

-- the number of tickets after one view's changes
counted : (ts : List (Option ℕ)) (i : ℕ) (a b : Option ℕ) → get_elem? ts i ≡ some a → count_by is_some (set ts i b) + weight a ≡ count_by is_some ts + weight b
counted ts i a b at = subst (λ (z : Option ℕ). count_by is_some (set ts i b) + weight z ≡ count_by is_some ts + weight b) (get_or_is ts i a b at) (sum_by-set weight ts i b b (inside ts i a at))

module _ (served drawn : ℕ) (words : List ℕ) (ts : List (Option ℕ)) (r : IsQueue served drawn words ts) where
  -- two views that hold different tickets are two
  apart : (i j : ℕ) (a b : Option ℕ) → get_elem? ts i ≡ some a → get_elem? ts j ≡ some b → a ≢ b → j ≢ i
  apart i j a b p q other e = other (some-injective a b (sym p ∙ (ap (get_elem? ts) (sym e) ∙ q)))

  -- the view i draws a ticket
  pub draw : (i : ℕ) → get_elem? ts i ≡ some None → IsQueue served (drawn + 1) (set words 0 ((get_or words 0 0 + 1) % 2 ^ 64)) (set ts i (Some drawn))
  draw i at = record {
    words_are = ap (λ (ws : List ℕ). set ws 0 ((get_or ws 0 0 + 1) % 2 ^ 64)) r.words_are ∙ ap (λ (n : ℕ). n ∷ served % 2 ^ 64 ∷ []) (mod-add-mod drawn (2 ^ 64) 1);
    within = λ j t e. ⊎_elim (λ (h : (j ≡ i) × (◌≡◌ {A = Option ℕ} (Some drawn) (Some t))). let d : drawn ≡ t = cc (h.1) in let m = r.as_many in (omega arith, omega arith))
        (λ (h : (j ≢ i) × (get_elem? ts j ≡ some (Some t))). let k = r.within j t h.1 in (k.0, omega arith)) (at_set ts i j (Some drawn) (Some t) e);
    each_held = λ t le lt. dite (ℕ_discrete t drawn) (λ (d : t ≡ drawn). (i, set_here ts i (Some drawn) (inside ts i None at) ∙ ap (λ (n : ℕ). some (Some n)) (sym d)))
        (λ (d : t ≢ drawn). let h = r.each_held t le (omega arith) in (h.0, set_else ts i h.0 (Some drawn) (apart i h.0 None (Some t) at h.1 (λ e. cc e)) ∙ h.1));
    by_one = λ a b t e f. ⊎_elim
        (λ (h : (a ≡ i) × (◌≡◌ {A = Option ℕ} (Some drawn) (Some t))). ⊎_elim (λ (k : (b ≡ i) × (◌≡◌ {A = Option ℕ} (Some drawn) (Some t))). h.0 ∙ sym k.0)
        (λ (k : (b ≢ i) × (get_elem? ts b ≡ some (Some t))). let d : drawn ≡ t = cc (h.1) in let w = r.within b t k.1 in absurd (omega arith)) (at_set ts i b (Some drawn) (Some t) f))
        (λ (h : (a ≢ i) × (get_elem? ts a ≡ some (Some t))). ⊎_elim (λ (k : (b ≡ i) × (◌≡◌ {A = Option ℕ} (Some drawn) (Some t))). let d : drawn ≡ t = cc (k.1) in let w = r.within a t h.1 in absurd (omega arith))
        (λ (k : (b ≢ i) × (get_elem? ts b ≡ some (Some t))). r.by_one a b t h.1 k.1) (at_set ts i b (Some drawn) (Some t) f))
        (at_set ts i a (Some drawn) (Some t) e);
    as_many = let c = counted ts i None (Some drawn) at in let m = r.as_many in omega arith;
  }

  -- the view i, whose ticket is served, passes on
  pub pass_on : (i : ℕ) → get_elem? ts i ≡ some (Some served) → IsQueue (served + 1) drawn (set words 1 ((get_or words 1 0 + 1) % 2 ^ 64)) (set ts i None)
  pass_on i at = record {
    words_are = ap (λ (ws : List ℕ). set ws 1 ((get_or ws 1 0 + 1) % 2 ^ 64)) r.words_are ∙ ap (λ (n : ℕ). drawn % 2 ^ 64 ∷ n ∷ []) (mod-add-mod served (2 ^ 64) 1);
    within = λ j t e. let h = others j t e in let k = r.within j t h.1 in let n : t ≢ served = λ d. h.0 (r.by_one j i served (h.1 ∙ ap (λ (n : ℕ). some (Some n)) d) at) in (omega arith, k.1);
    each_held = λ t le lt. let h = r.each_held t (omega arith) lt in (h.0, set_else ts i h.0 None (apart i h.0 (Some served) (Some t) at h.1 (λ e. let d : served ≡ t = cc e in omega arith)) ∙ h.1);
    by_one = λ a b t e f. r.by_one a b t (others a t e).1 (others b t f).1;
    as_many = let c = counted ts i (Some served) None at in let m = r.as_many in omega arith;
  }
    where
      others : (j t : ℕ) → get_elem? (set ts i None) j ≡ some (Some t) → (j ≢ i) × (get_elem? ts j ≡ some (Some t))
      others j t e = ⊎_elim (λ (h : (j ≡ i) × (◌≡◌ {A = Option ℕ} None (Some t))). absurd (cc (h.1))) (λ h. h) (at_set ts i j None (Some t) e)

  -- among fewer than 2 ^ 64 views, the low part tells which ticket is served
  pub is_served : (i t n : ℕ) → length ts < 2 ^ 64 → get_elem? ts i ≡ some (Some t) → n ≡ get_or words 1 0 → n ≡ t % 2 ^ 64 → served ≡ t
  is_served i t n few at found same = let k = r.within i t at in let m = r.as_many in let c = count_by-le-length is_some ts in
      one_turn served t (2 ^ 64) k.0 (omega arith) (sym (found ∙ ap (λ (ws : List ℕ). get_or ws 1 0) r.words_are) ∙ same)

  pub low_is : get_or words 0 0 ≡ drawn % 2 ^ 64
  low_is = ap (λ (ws : List ℕ). get_or ws 0 0) r.words_are

  -- a view without a ticket comes
  pub enters : IsQueue served drawn words (ts ++ None ∷ [])
  enters = record {
    words_are = r.words_are;
    within = λ j t e. r.within j t (others j t e);
    each_held = λ t le lt. let h = r.each_held t le lt in (h.0, at_longer ts (None ∷ []) h.0 (Some t) h.1);
    by_one = λ a b t e f. r.by_one a b t (others a t e) (others b t f);
    as_many = ap (λ (n : ℕ). served + n) (sum_by-append weight ts (None ∷ [])) ∙ (let m = r.as_many in omega arith);
  }
    where
      others : (j t : ℕ) → get_elem? (ts ++ None ∷ []) j ≡ some (Some t) → get_elem? ts j ≡ some (Some t)
      others j t e = ⊎_elim (λ (h : get_elem? ts j ≡ some (Some t)). h) (λ (h : None ≡ Some t). absurd (cc h)) (at_snoc ts None (Some t) j e)
