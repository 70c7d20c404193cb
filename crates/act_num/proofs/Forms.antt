-- The digits that a text begins with or consists of.
use Rattle.std.proofs.Common.{◌≡◌, ℕ, ◌+◌, ◌-◌, ◌*◌, ◌<◌, ◌≤◌, ◌&&◌, true, false, List, [], ◌∷◌, length, take, get_or, refl, ◌∙◌, ap, arith, Some, None, sym}
use Rattle.std.specs.Char.{digit_value, is_ascii_digit}
use Rattle.std.specs.List.{list_all, take_while}
use Rattle.std.specs.Str.{all_ascii_digits}
use Rattle.std.specs.Str.Parse.{AllDigits, digits_value}
use Rattle.act_num.specs.Parts.{short_number}
use Rattle.std.proofs.lemmas.Bool.{and_from, cond-true, cond_both, le-leb}
use Rattle.std.proofs.lemmas.List.{take_all}
use Rattle.std.proofs.lemmas.Str.Parse.{numerals_by_value, tells_all_ascii_digits}
use Rattle.std.proofs.lemmas.Bool.Decides.{nat_tests}
use Rattle.std.proofs.lemmas.Int.Digits.{digits_more, digits_value_more}
use Rattle.std.proofs.lemmas.List.Folds.{list_all_at}
use Rattle.std.proofs.lemmas.List.Sums.{prefix_len-le-length, take_while-cons}

digit_value_below : (c : ℕ) → is_ascii_digit c ≡ true → digit_value c < 10
digit_value_below c h = grind (arith, nat_tests)

digit_value_is : (c : ℕ) → is_ascii_digit c ≡ true → digit_value c ≡ c - 48
digit_value_is c h = grind (arith, nat_tests)

pub front_digits : (text : List ℕ) → AllDigits 10 (take_while is_ascii_digit text)
front_digits [] = tt
front_digits (c ∷ cs) =
    rw (take_while-cons is_ascii_digit c cs)
    (cond_both (is_ascii_digit c) (c ∷ take_while is_ascii_digit cs) [] (AllDigits 10) (λ e. (digit_value_below c e, front_digits cs)) (λ _. tt))

all_ascii_digits_is : (text : List ℕ) → all_ascii_digits text ≡ list_all is_ascii_digit text
all_ascii_digits_is [] = refl
all_ascii_digits_is (c ∷ cs) = ap (λ b. is_ascii_digit c && b) (all_ascii_digits_is cs)

-- a byte that is no digit
pub not_all_digits : (text : List ℕ) (i : ℕ) → i < length text → is_ascii_digit (get_or text i 0) ≡ false → all_ascii_digits text ≡ false
not_all_digits text i h e = all_ascii_digits_is text ∙ list_all_at is_ascii_digit text i 0 h e

-- one more byte that is a digit
pub record OneMore (text : List ℕ) (i : ℕ) : Type 0 where
  pub value : digits_value 10 (take (i + 1) text) ≡ 10 * digits_value 10 (take i text) + (get_or text i 0 - 48)
  pub digits : AllDigits 10 (take (i + 1) text)

pub one_more : (text : List ℕ) (i : ℕ) → i < length text → AllDigits 10 (take i text) → is_ascii_digit (get_or text i 0) ≡ true → OneMore text i
one_more text i h all d =
    let value = digits_value_more 10 text i h in
    record {
      value = omega (arith, value, digit_value_is (get_or text i 0) d);
      digits = digits_more 10 text i h all (digit_value_below (get_or text i 0) d);
    }

-- all bytes of a short text are digits
pub short_is : (text : List ℕ) (i v : ℕ) → length text ≤ i → 1 ≤ length text → length text ≤ 3 → v ≡ digits_value 10 (take i text) → AllDigits 10 (take i text) → Some v ≡ short_number text
short_is text i v end some short e all =
    let whole = take_all i text end in
    let digits = rw whole at all in
    ap Some (e ∙ ap (digits_value 10) whole)
    ∙ sym (cond-true _ _ None (and_from _ _ (and_from _ _ ((numerals_by_value _ tells_all_ascii_digits).from text digits) (le-leb 1 _ some)) (le-leb _ 3 short)))

pub ruleset front_steps = (front_digits, prefix_len-le-length)
