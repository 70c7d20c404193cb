-- The names of currencies are names, and so is the code of the rate between two of them.
use Rattle.std.proofs.Common.{◌≡◌, ℕ, ◌+◌, ◌≤◌, ◌&&◌, Bool, true, false, List, ◌++◌, length, codes, refl, arith}
use Rattle.std.specs.List.{list_all}
use Rattle.std.proofs.lemmas.Bool.{le-leb, leb-true}
use Rattle.std.proofs.lemmas.List.{length-append}
use Rattle.std.proofs.lemmas.List.Folds.{list_all-append}
use Rattle.act_model.specs.Name.{has_form, is_currency, is_graphic, is_name}
use Rattle.act_terms.specs.Names.{pair_name}

-- what the form of a name says
record HasForm (most : ℕ) (text : List ℕ) : Type 0 where
  least : 1 ≤ length text
  within : length text ≤ most
  graphic : list_all is_graphic text ≡ true

both : (a b : Bool) → (a && b) ≡ true → (a ≡ true) × (b ≡ true)
both true true e = (refl, refl)
both true false e = absurd (cc)
both false b e = absurd (cc)

HasForm-from_test : (most : ℕ) (text : List ℕ) → has_form most text ≡ true → HasForm most text
unfolding has_form
HasForm-from_test most text e =
    let outer = both _ _ e in
    let bounds = both _ _ outer.0 in
    record { least = leb-true 1 (length text) bounds.0; within = leb-true (length text) most bounds.1; graphic = outer.1 }

test_from_HasForm : (most : ℕ) (text : List ℕ) → HasForm most text → has_form most text ≡ true
unfolding has_form
test_from_HasForm most text h = rw (le-leb 1 (length text) h.least, le-leb (length text) most h.within, h.graphic) refl

-- at most 16 characters are at most 64
pub currency_is_name : (text : List ℕ) → is_currency text ≡ true → is_name text ≡ true
currency_is_name text e =
    let h = HasForm-from_test 16 text e in
    test_from_HasForm 64 text (record { least = h.least; within = omega arith; graphic = h.graphic })

-- two currencies with a slash between them have at most 33 characters
pub pair_is_name : (currency other : List ℕ) → is_currency currency ≡ true → is_currency other ≡ true → is_name (pair_name currency other) ≡ true
pair_is_name currency other is_one is_other =
    let one = HasForm-from_test 16 currency is_one in
    let two = HasForm-from_test 16 other is_other in
    let n : length (pair_name currency other) ≡ length currency + 1 + length other = rw (length-append, length-append) refl in
    let all : list_all is_graphic (pair_name currency other) ≡ true =
    rw (list_all-append is_graphic (currency ++ codes "/") other, list_all-append is_graphic currency (codes "/"), one.graphic, two.graphic) refl in
    test_from_HasForm 64 (pair_name currency other) (record { least = omega arith; within = omega arith; graphic = all })
