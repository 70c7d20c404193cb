-- The digits that a text begins with.
use Rattle.std.proofs.Common.{◌≡◌, ℕ, true, List, [], ◌∷◌, take, refl}
use Rattle.std.specs.Char.{is_ascii_digit}
use Rattle.std.specs.List.{list_all, prefix_len, take_while}
use Rattle.std.proofs.lemmas.Bool.{cond_both}
use Rattle.std.proofs.lemmas.List.Sums.{prefix_len-le-length, take_while-cons}

-- each of them is a digit
pub first_are_digits : (text : List ℕ) → list_all is_ascii_digit (take (prefix_len is_ascii_digit text) text) ≡ true
first_are_digits [] = refl
first_are_digits (c ∷ cs) =
    rw (take_while-cons is_ascii_digit c cs)
    (cond_both (is_ascii_digit c) (c ∷ take_while is_ascii_digit cs) [] (λ ds. list_all is_ascii_digit ds ≡ true) (λ e. rw e (first_are_digits cs)) (λ _. refl))

pub ruleset first_digit_steps = (prefix_len-le-length, first_are_digits)
