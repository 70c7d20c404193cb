-- How a decimal text falls into its parts.
use Rattle.std.proofs.Common.{◌≡◌, ℕ, ◌+◌, ◌<◌, ◌≤◌, ◌||◌, ◌==◌, Bool, true, false, cond, ℤ, List, [], ◌++◌, length, drop, Option, None, option_map, length-take, length-drop, length-append, sym, ◌∙◌, ap, ap₂, arith}
use Rattle.std.proofs.lemmas.Bool.{cond_both, cond-true, cond-false, lt-ltb, le-ltb, or_from, or_left, or_right}
use Rattle.act_num.specs.Decimal.{DecimalParts, decimal_parts, begins_with, begins_with_minus, behind_digits, behind_fraction, behind_sign, exponent_of, first_digits, fraction_of, lacks_fraction}

stopped : (b : Bool) (other : Option DecimalParts) → b ≡ true → None ≡ cond b None other
stopped b other e = sym (cond-true b None other e)

pub too_long : (text : List ℕ) → 64 < length text → None ≡ decimal_parts text
unfolding decimal_parts
too_long text h = stopped _ _ (or_left _ _ (or_left _ _ (lt-ltb 64 (length text) h)))

pub no_digits : {unsigned digits : List ℕ} (text : List ℕ) → unsigned ≡ behind_sign text → digits ≡ first_digits unsigned → true ≡ (length digits == 0) → None ≡ decimal_parts text
unfolding decimal_parts
no_digits text sign front e =
    stopped _ _ (or_left _ _ (or_right _ _ (sym (e ∙ ap (λ ds. length ds == 0) (front ∙ ap first_digits sign)))))

pub no_fraction : {unsigned rest : List ℕ} (text : List ℕ) → unsigned ≡ behind_sign text → rest ≡ behind_digits unsigned → true ≡ lacks_fraction rest → None ≡ decimal_parts text
unfolding decimal_parts
no_fraction text sign behind e =
    stopped _ _ (or_right _ _ (sym (e ∙ ap lacks_fraction (behind ∙ ap behind_digits sign))))

-- the parts with an exponent
abbrev pub with_exponent : Bool → List ℕ → List ℕ → Option ℤ → Option DecimalParts
with_exponent negative whole fraction exponent =
    option_map (λ e. record { negative = negative; whole = whole; fraction = fraction; exponent = e }) exponent

parts_at : (text : List ℕ) → length text ≤ 64 → (length (first_digits (behind_sign text)) == 0) ≡ false → lacks_fraction (behind_digits (behind_sign text)) ≡ false → decimal_parts text ≡ with_exponent (begins_with_minus text) (first_digits (behind_sign text)) (fraction_of (behind_digits (behind_sign text))) (exponent_of (behind_fraction (behind_digits (behind_sign text))))
unfolding decimal_parts
parts_at text short some fraction =
    cond-false _ None _ (or_from _ _ (or_from _ _ (le-ltb 64 (length text) short) some) fraction)

parts_are : {unsigned digits rest : List ℕ} (text : List ℕ) → length text ≤ 64 → unsigned ≡ behind_sign text → digits ≡ first_digits unsigned → rest ≡ behind_digits unsigned → false ≡ (length digits == 0) → false ≡ lacks_fraction rest → decimal_parts text ≡ with_exponent (begins_with_minus text) digits (fraction_of rest) (exponent_of (behind_fraction rest))
parts_are text short sign front behind some fraction =
    let digits_are = front ∙ ap first_digits sign in
    let rest_is = behind ∙ ap behind_digits sign in
    parts_at text short (sym (some ∙ ap (λ ds. length ds == 0) digits_are)) (sym (fraction ∙ ap lacks_fraction rest_is))
    ∙ ap₂ (λ ds r. with_exponent (begins_with_minus text) ds (fraction_of r) (exponent_of (behind_fraction r))) (sym digits_are) (sym rest_is)

pub parts_read : {unsigned digits rest fraction after : List ℕ} (text : List ℕ) → length text ≤ 64 → unsigned ≡ behind_sign text → digits ≡ first_digits unsigned → rest ≡ behind_digits unsigned → false ≡ (length digits == 0) → false ≡ lacks_fraction rest → fraction ≡ fraction_of rest → after ≡ behind_fraction rest → (negative : Bool) → negative ≡ begins_with_minus text → (e : Option ℤ) → e ≡ exponent_of after → with_exponent negative digits fraction e ≡ decimal_parts text
parts_read text short sign front behind some point fraction_is after_is negative minus e power =
    let parts = parts_are text short sign front behind some point in
    rw (minus, fraction_is, power, after_is) (sym parts)

fraction_short : (rest : List ℕ) → length (fraction_of rest) ≤ length rest
fraction_short rest =
    cond_both (begins_with 46 rest) (first_digits (drop 1 rest)) [] (λ xs. length xs ≤ length rest) (λ _. omega (arith, length-take {A = ℕ}, length-drop {A = ℕ})) (λ _. omega arith)

sign_short : (text : List ℕ) → length (behind_sign text) ≤ length text
sign_short text =
    cond_both (begins_with 45 text || begins_with 43 text) (drop 1 text) text (λ xs. length xs ≤ length text) (λ _. omega (arith, length-drop {A = ℕ})) (λ _. omega arith)

front_and_rest : (unsigned : List ℕ) → length (first_digits unsigned) + length (behind_digits unsigned) ≡ length unsigned
front_and_rest unsigned = omega (arith, length-take {A = ℕ}, length-drop {A = ℕ})

pub parts_short : {unsigned digits rest fraction : List ℕ} (text : List ℕ) → length text ≤ 64 → unsigned ≡ behind_sign text → digits ≡ first_digits unsigned → rest ≡ behind_digits unsigned → fraction ≡ fraction_of rest → length (digits ++ fraction) ≤ 64
parts_short {unsigned} {digits} {rest} {fraction} text short sign front behind fraction_is =
    omega (arith, length-append digits fraction, sign_short text, fraction_short rest, front_and_rest unsigned, ap length sign, ap length front, ap length behind, ap length fraction_is)
