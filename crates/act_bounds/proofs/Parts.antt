-- What is true of each part of a list, a value or an outcome stays true of what is made of it.
use Rattle.std.proofs.Common.{◌≡◌, ℕ, zero, suc, List, [], ◌∷◌, map, Option, Some, None, IfSome, IfOk, refl}
use Rattle.std.specs.List.{AllByRecursion, cons_option, filter_map, flat_map, slice_get}
use Rattle.std.specs.Option.{ok_or}
use Rattle.std.specs.Prelude.{option_and_then, option_map}
use Rattle.act_causality.proofs.EventFacts.{all-append}

module _ {A B : Type 0} (P : A → Type 0) (Q : B → Type 0) where
  pub all-map : (f : A → B) → ((x : A) → P x → Q (f x)) → (xs : List A) → AllByRecursion P xs → AllByRecursion Q (map f xs)
  all-map f makes [] all = tt
  all-map f makes (x ∷ xs) all = (makes x all.0, all-map f makes xs all.1)

  pub all-flat_map : (f : A → List B) → ((x : A) → P x → AllByRecursion Q (f x)) → (xs : List A) → AllByRecursion P xs → AllByRecursion Q (flat_map f xs)
  all-flat_map f makes [] all = tt
  all-flat_map f makes (x ∷ xs) all = all-append Q (f x) (flat_map f xs) (makes x all.0) (all-flat_map f makes xs all.1)

  all-cons : (x : Option B) (xs : List B) → IfSome x Q → AllByRecursion Q xs → AllByRecursion Q (cons_option x xs)
  all-cons None xs is all = all
  all-cons (Some x) xs is all = (is, all)

  pub all-filter_map : (f : A → Option B) → ((x : A) → P x → IfSome (f x) Q) → (xs : List A) → AllByRecursion P xs → AllByRecursion Q (filter_map f xs)
  all-filter_map f makes [] all = tt
  all-filter_map f makes (x ∷ xs) all = all-cons (f x) (filter_map f xs) (makes x all.0) (all-filter_map f makes xs all.1)

  pub some-map : (f : A → B) → ((x : A) → P x → Q (f x)) → (value : Option A) → IfSome value P → IfSome (option_map f value) Q
  some-map f makes None is = tt
  some-map f makes (Some x) is = makes x is

module _ {A : Type 0} (P : A → Type 0) where
  pub some-get : (xs : List A) (n : ℕ) → AllByRecursion P xs → IfSome (slice_get xs n) P
  some-get [] n all = tt
  some-get (x ∷ xs) zero all = all.0
  some-get (x ∷ xs) (suc n) all = some-get xs n all.1

  pub some-then : {B : Type 0} (f : B → Option A) → ((y : B) → IfSome (f y) P) → (value : Option B) → IfSome (option_and_then f value) P
  some-then f makes None = tt
  some-then f makes (Some y) = makes y

  pub some-of : (value : Option A) → ((x : A) → value ≡ Some x → P x) → IfSome value P
  some-of None is = tt
  some-of (Some x) is = is x refl

  pub ok-or : {E : Type 0} (fault : E) (value : Option A) → IfSome value P → IfOk (ok_or value fault) P
  ok-or fault None is = tt
  ok-or fault (Some x) is = is
