-- Passes over the periods from the last one back.
use Rattle.std.proofs.Common.{◌≡◌, ℕ, ◌+◌, ◌<◌, List, [], ◌∷◌, ◌++◌, length, get_or, take, drop, reverse, ℤ, Option, Some, None, option_map, option_and_then, refl, sym, ap, ◌∙◌}
use Rattle.act_date.specs.Fraction.{Fraction}
use Rattle.act_annuity.specs.Payment.{factor_of, factors_of, products_at, products_of, with_product}
use Rattle.std.proofs.lemmas.List.{reverse-append, reverse-reverse, take-append-drop, take_more}
use Rattle.std.proofs.lemmas.Option.{some_pair_parts}
use Rattle.act_annuity.specs.Passes.{changed, first_and_passed, first_of, pass_over, passed, product_from, product_with}
use Rattle.act_annuity.specs.declared.annuity.Change.{Change}

-- ---- the products of one period more

with_first : (f : ℤ) (qs : List ℤ) → with_product f qs ≡ option_map (λ q. q ∷ qs) (product_with (first_of qs) f)
with_first f [] = refl
with_first f (q ∷ qs) = refl

more_of : (f : ℤ) (o : Option (List ℤ)) → option_and_then (with_product f) o ≡ option_and_then (λ qs. option_map (λ q. q ∷ qs) (product_with (first_of qs) f)) o
more_of f None = refl
more_of f (Some qs) = with_first f qs

more_by : (f : Option ℤ) (fs : Option (List ℤ)) → option_and_then products_of (option_and_then (λ x. option_map (λ xs. x ∷ xs) fs) f) ≡ option_and_then (λ qs. option_map (λ q. q ∷ qs) (option_and_then (product_with (first_of qs)) f)) (option_and_then products_of fs)
unfolding products_of
more_by None None = refl
more_by (Some f) None = refl
more_by (Some f) (Some fs) = more_of f (products_of fs)
more_by None (Some fs) = elim (products_of fs) as (λ o. None ≡ option_and_then (λ qs. option_map (λ q. q ∷ qs) (option_and_then (product_with (first_of qs)) None)) o) [ None ↦ refl | Some qs ↦ refl ]

products_more : (rate : ℤ) (period : Fraction) (later : List Fraction) → products_at rate (period ∷ later) ≡ option_and_then (λ qs. option_map (λ q. q ∷ qs) (product_from rate period (first_of qs))) (products_at rate later)
unfolding factors_of
products_more rate period later = more_by (factor_of rate period) (factors_of rate later)

-- ---- a pass over one period more

-- what a pass found
pub record Found (change : Change) (start : ℤ) (products : Option (List ℤ)) (product : Option ℤ) (z : ℤ) : Type 0 where
  pub qs : List ℤ
  pub are : products ≡ Some qs
  pub first : first_of qs ≡ product
  pub pass : pass_over change start qs ≡ Some z

pub paired : (qs : List ℤ) (o : Option ℤ) (product : Option ℤ) (z : ℤ) → option_map {U = Option ℤ × ℤ} (λ y. (first_of qs, y)) o ≡ Some (product, z) → (first_of qs ≡ product) × (o ≡ Some z)
paired qs None product z e = absurd (cc)
paired qs (Some y) product z e = let p = some_pair_parts (first_of qs) product y z e in (p.0, ap Some p.1)

pub found : (change : Change) (start : ℤ) (products : Option (List ℤ)) (product : Option ℤ) (z : ℤ) → option_and_then (first_and_passed change start) products ≡ Some (product, z) → Found change start products product z
found change start None product z e = absurd (cc)
found change start (Some qs) product z e =
    let p = paired qs (pass_over change start qs) product z e in
    record { qs = qs; are = refl; first = p.0; pass = p.1 }

-- the next product, and what the pass makes of it
abbrev pub next_pass : Change → ℤ → Option ℤ → Option (Option ℤ × ℤ)
next_pass change z None = None
next_pass change z (Some q) = option_map (λ y. (Some q, y)) (changed change z q)

next_by : (change : Change) (start : ℤ) (qs : List ℤ) (z : ℤ) (q : Option ℤ) → pass_over change start qs ≡ Some z → option_and_then (first_and_passed change start) (option_map (λ q. q ∷ qs) q) ≡ next_pass change z q
unfolding pass_over
next_by change start qs z None e = refl
next_by change start qs z (Some q) e = rw e refl

pub passed_more : (change : Change) (start rate : ℤ) (period : Fraction) (later : List Fraction) (product : Option ℤ) (z : ℤ) → passed change start rate later ≡ Some (product, z) → passed change start rate (period ∷ later) ≡ next_pass change z (product_from rate period product)
passed_more change start rate period later product z h =
    let f = found change start (products_at rate later) product z h in
    rw (products_more rate period later, f.are, f.first) (next_by change start f.qs z (product_from rate period product) f.pass)

pub passed_nothing : (change : Change) (start rate : ℤ) → passed change start rate [] ≡ Some (None, start)
unfolding factors_of products_of pass_over
passed_nothing change start rate = refl

-- ---- what stops a pass stops each longer one

pub unpaired : (qs : List ℤ) (o : Option ℤ) → option_map {U = Option ℤ × ℤ} (λ y. (first_of qs, y)) o ≡ None → o ≡ None
unpaired qs None e = refl
unpaired qs (Some y) e = absurd (cc)

none_by : (change : Change) (start : ℤ) (qs : List ℤ) (q : Option ℤ) → pass_over change start qs ≡ None → option_and_then (first_and_passed change start) (option_map (λ q. q ∷ qs) q) ≡ None
unfolding pass_over
none_by change start qs None e = refl
none_by change start qs (Some q) e = rw e refl

none_before : (change : Change) (start rate : ℤ) (period : Fraction) (o : Option (List ℤ)) → option_and_then (first_and_passed change start) o ≡ None → option_and_then (first_and_passed change start) (option_and_then (λ qs. option_map (λ q. q ∷ qs) (product_from rate period (first_of qs))) o) ≡ None
none_before change start rate period None e = refl
none_before change start rate period (Some qs) e =
    none_by change start qs (product_from rate period (first_of qs)) (unpaired qs (pass_over change start qs) e)

passed_none : (change : Change) (start rate : ℤ) (front later : List Fraction) → passed change start rate later ≡ None → passed change start rate (front ++ later) ≡ None
passed_none change start rate [] later e = e
passed_none change start rate (period ∷ front) later e =
    rw (products_more rate period (front ++ later)) (none_before change start rate period (products_at rate (front ++ later)) (passed_none change start rate front later e))

-- ---- the turns of a pass

-- the last k periods
abbrev last : List Fraction → ℕ → List Fraction
last periods k = reverse (take k (reverse periods))

last_more : (periods : List Fraction) (k : ℕ) (period : Fraction) → (k < length (reverse periods)) × (period ≡ get_or (reverse periods) k period) → last periods (k + 1) ≡ period ∷ last periods k
last_more periods k period h =
    ap reverse (take_more (reverse periods) k period h.0) ∙ reverse-append (take k (reverse periods)) (get_or (reverse periods) k period ∷ []) ∙ ap (λ x. x ∷ last periods k) (sym h.1)

front_and_last : (periods : List Fraction) (k : ℕ) → reverse (drop k (reverse periods)) ++ last periods k ≡ periods
front_and_last periods k =
    sym (reverse-append (take k (reverse periods)) (drop k (reverse periods))) ∙ ap reverse (take-append-drop k (reverse periods)) ∙ reverse-reverse periods

module _ (change : Change) (start rate : ℤ) (periods : List Fraction) (k : ℕ) (period : Fraction) (at : (k < length (reverse periods)) × (period ≡ get_or (reverse periods) k period)) (product : Option ℤ) (z : ℤ) (so_far : passed change start rate (last periods k) ≡ Some (product, z)) where
  pub turn : passed change start rate (last periods (k + 1)) ≡ next_pass change z (product_from rate period product)
  turn =
      ap (passed change start rate) (last_more periods k period at) ∙ passed_more change start rate period (last periods k) product z so_far

  pub stop : next_pass change z (product_from rate period product) ≡ None → passed change start rate periods ≡ None
  stop e =
      ap (passed change start rate) (sym (front_and_last periods (k + 1))) ∙ passed_none change start rate (reverse (drop (k + 1) (reverse periods))) (last periods (k + 1)) (turn ∙ e)

-- a step that the code makes, by the units u of the product q
pub next_some : (change : Change) (z q u next : ℤ) → u ≡ q → changed change z u ≡ Some next → next_pass change z (Some q) ≡ Some (Some q, next)
next_some change z q u next e some = rw (← e, some) refl

pub next_none : (change : Change) (z q u : ℤ) → u ≡ q → changed change z u ≡ None → next_pass change z (Some q) ≡ None
next_none change z q u e none = rw (← e, none) refl
