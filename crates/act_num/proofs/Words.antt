-- Division by words.
use Rattle.std.proofs.Common.{◌≡◌, ℕ, ◌+◌, ◌*◌, ◌/◌, ◌%◌, ◌<◌, ◌≤◌, Bool, sym, ◌∙◌, ap, arith}
use Rattle.std.proofs.lemmas.Nat.{div-add-mod', mod_below}
use mir.Val.{bool_byte}
use Rattle.act_num.specs.Number.{nearest_number, rounds_up, one}
use Rattle.act_num.proofs.Nearest.{more_is, nearest_split}

-- so many ones and a rest, where the ones are q times den and m
in_ones : (q m r den : ℕ) → (q * den + m) * one + r ≡ q * (den * one) + (m * one + r)
in_ones q m r den = omega arith

rest_below : (m r den : ℕ) → m < den → r < one → m * one + r < den * one
rest_below m r den h g = omega arith

-- the quotient by den ones is that of the ones by den
pub nearest_of_ones : (n den ones rest : ℕ) (up : Bool) → 1 ≤ den → ones ≡ n / one → rest ≡ n % one → up ≡ rounds_up (ones / den) (ones % den * one + rest) (den * one) → ones / den + bool_byte up ≡ nearest_number n (den * one)
nearest_of_ones n den ones rest up h e f g =
    let m = mod_below ones den h in
    let parts = in_ones (ones / den) (ones % den) rest den in
    let whole : n ≡ (ones / den * den + ones % den) * one + rest = rw (div-add-mod' ones den) (omega (arith, e, f)) in
    ap (λ b. ones / den + bool_byte b) g
    ∙ more_is _ (ones / den)
    ∙ sym (ap (λ k. nearest_number k (den * one)) (whole ∙ parts) ∙ nearest_split (ones / den) (ones % den * one + rest) (den * one) (rest_below (ones % den) rest den m (omega (arith, f))))
