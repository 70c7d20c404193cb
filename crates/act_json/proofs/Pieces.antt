-- Quoting a text piece by piece.
use Rattle.std.proofs.Common.{◌≡◌, ℕ, zero, suc, ◌+◌, ◌-◌, ◌≤◌, ◌<◌, nat_eq, true, false, List, [], ◌∷◌, ◌++◌, length, get_or, take, drop, drop-cons, append-nil, length-drop, refl, sym, ◌∙◌, ap, subst, ⊎_elim, arith, append_assoc}
use Rattle.std.specs.List.{flat_map, prefix_len}
use Rattle.std.proofs.lemmas.List.{drop-drop, take_all}
use Rattle.std.proofs.Math.Seq.{take-add, take-nil}
use Rattle.std.proofs.lemmas.Bool.{cases_Bool, eqb-true}
use Rattle.act_json.specs.Quoting.{starts_number, is_number_byte, string_len, piece_len, pieces, quoted_piece, quoted}

-- a byte that starts a number is one that numbers are written with
number_byte : (b : ℕ) → starts_number b ≡ true → is_number_byte b ≡ true
unfolding is_number_byte
number_byte b starts = rw starts refl

-- a quote starts no number
starts_no_string : (b : ℕ) → starts_number b ≡ true → nat_eq b 34 ≡ false
unfolding starts_number
starts_no_string b starts =
    ⊎_elim (λ (quote : nat_eq b 34 ≡ true). let is_34 : b ≡ 34 = eqb-true b 34 quote in let never : false ≡ true = rw is_34 at starts in cc)
    (λ (other : nat_eq b 34 ≡ false). other)
    (cases_Bool (nat_eq b 34))

-- no piece is empty
piece_some : (b : ℕ) (rest : List ℕ) → 1 ≤ piece_len (b ∷ rest)
unfolding piece_len
piece_some b rest =
    ⊎_elim (λ (quote : nat_eq b 34 ≡ true). simp quote (omega arith))
    (λ (other : nat_eq b 34 ≡ false).
    ⊎_elim (λ (run : is_number_byte b ≡ true). simp (other, run) (omega arith)) (λ (none : is_number_byte b ≡ false). simp (other, none) (omega arith)) (cases_Bool (is_number_byte b)))
    (cases_Bool (nat_eq b 34))

-- so many pieces as there are bytes are enough
pieces-enough : (n m : ℕ) (text : List ℕ) → length text ≤ n → length text ≤ m → pieces n text ≡ pieces m text
unfolding pieces
pieces-enough zero zero text few enough = refl
pieces-enough zero (suc m) [] few enough = refl
pieces-enough zero (suc m) (b ∷ rest) few enough = absurd (omega arith)
pieces-enough (suc n) zero [] few enough = refl
pieces-enough (suc n) zero (b ∷ rest) few enough = absurd (omega arith)
pieces-enough (suc n) (suc m) [] few enough = refl
pieces-enough (suc n) (suc m) (b ∷ rest) few enough =
    let some = piece_some b rest in
    let left = length-drop (piece_len (b ∷ rest)) (b ∷ rest) in
    ap (λ (more : List (List ℕ)). take (piece_len (b ∷ rest)) (b ∷ rest) ∷ more)
    (pieces-enough n m (drop (piece_len (b ∷ rest)) (b ∷ rest)) (omega arith) (omega arith))

-- a text without bytes has no piece
nothing : piece_len [] ≡ 0
unfolding piece_len
nothing = refl

-- a text is its first piece and what stands behind that
quoted-first : (text : List ℕ) → quoted text ≡ quoted_piece (take (piece_len text) text) ++ quoted (drop (piece_len text) text)
unfolding quoted pieces
quoted-first [] = rw nothing refl
quoted-first (b ∷ rest) =
    let some = piece_some b rest in
    let left = length-drop (piece_len (b ∷ rest)) (b ∷ rest) in
    ap (λ (more : List (List ℕ)). quoted_piece (take (piece_len (b ∷ rest)) (b ∷ rest)) ++ flat_map quoted_piece more)
    (pieces-enough (length rest) (length (drop (piece_len (b ∷ rest)) (b ∷ rest))) (drop (piece_len (b ∷ rest)) (b ∷ rest)) (omega arith) (omega arith))

-- the length of the first piece by the first byte
pub piece_len-nothing : (text : List ℕ) → length text < 1 → piece_len text ≡ 0
piece_len-nothing [] none = nothing
piece_len-nothing (b ∷ rest) none = absurd (omega arith)

pub piece_len-string : (text : List ℕ) (n : ℕ) → 1 ≤ length text → get_or text 0 0 ≡ 34 → n ≡ string_len (drop 1 text) → 1 + n ≡ piece_len text
unfolding piece_len
piece_len-string [] n some quote is = absurd (omega arith)
piece_len-string (b ∷ rest) n some quote is = rw (quote, is) refl

pub piece_len-run : (text : List ℕ) → 1 ≤ length text → nat_eq (get_or text 0 0) 34 ≡ false → is_number_byte (get_or text 0 0) ≡ true → prefix_len is_number_byte text ≡ piece_len text
unfolding piece_len
piece_len-run [] some plain run = absurd (omega arith)
piece_len-run (b ∷ rest) some plain run = simp (plain, run)

pub piece_len-other : (text : List ℕ) → 1 ≤ length text → nat_eq (get_or text 0 0) 34 ≡ false → is_number_byte (get_or text 0 0) ≡ false → 1 ≡ piece_len text
unfolding piece_len
piece_len-other [] some plain none = absurd (omega arith)
piece_len-other (b ∷ rest) some plain none = simp (plain, none)

-- a byte that begins no string and no number is a piece
pub alone : (text : List ℕ) (len : ℕ) → len < length text → nat_eq (get_or text len 0) 34 ≡ false → is_number_byte (get_or text len 0) ≡ false → 1 ≡ piece_len (drop len text)
alone text len more plain none =
    rw (drop-cons text len 0 more) (piece_len-other (get_or text len 0 ∷ drop (suc len) text) (omega arith) plain none)

-- a string is a piece
pub string : (text : List ℕ) (len n : ℕ) → len < length text → get_or text len 0 ≡ 34 → n ≡ string_len (drop (len + 1) text) → 1 + n ≡ piece_len (drop len text)
string text len n more quote is =
    let here : get_or (drop len text) 0 0 ≡ get_or text len 0 = rw (drop-cons text len 0 more) refl in
    piece_len-string (drop len text) n (omega (arith, length-drop len text)) (here ∙ quote) (is ∙ ap string_len (sym (drop-drop 1 len text)))

-- a slice from its second byte on
pub rest_is : (text : List ℕ) → take (length text - 1) (drop 1 text) ≡ drop 1 text
rest_is text = take_all _ _ (omega (arith, length-drop 1 text))

-- a piece that starts no number is copied
copied_piece : (text : List ℕ) (n : ℕ) → starts_number (get_or text 0 0) ≡ false → quoted_piece (take n text) ≡ take n text
copied_piece [] n plain = rw (take-nil n) refl
copied_piece (b ∷ rest) zero plain = refl
copied_piece (b ∷ rest) (suc n) plain = simp plain

-- a piece that starts no number goes to what has been passed
pub passes : (text : List ℕ) (len n : ℕ) → len < length text → starts_number (get_or text len 0) ≡ false → n ≡ piece_len (drop len text)
    → quoted text ≡ take len text ++ quoted (drop len text) → quoted text ≡ take (len + n) text ++ quoted (drop (len + n) text)
passes text len n more plain is copied =
    let here : get_or (drop len text) 0 0 ≡ get_or text len 0 = rw (drop-cons text len 0 more) refl in
    let first : quoted (drop len text) ≡ quoted_piece (take n (drop len text)) ++ quoted (drop n (drop len text)) = rw is (quoted-first (drop len text)) in
    let piece : quoted_piece (take n (drop len text)) ≡ take n (drop len text) = copied_piece (drop len text) n (rw here plain) in
    copied ∙ rw (first, piece, drop-drop n len text, take-add len n text) (sym (append_assoc (take len text) (take n (drop len text)) (quoted (drop (len + n) text))))

-- a text starts as a number does, if it has a byte
abbrev pub BeginsNumber : List ℕ → Type 0
BeginsNumber text = 0 < length text → starts_number (get_or text 0 0) ≡ true

-- a run of the bytes of numbers that starts as a number does is one piece
number_first : (text : List ℕ) → BeginsNumber text
    → quoted text ≡ quoted_piece (take (prefix_len is_number_byte text) text) ++ quoted (drop (prefix_len is_number_byte text) text)
number_first [] starts = refl
number_first (b ∷ rest) starts =
    let start = starts (omega arith) in
    rw (piece_len-run (b ∷ rest) (omega arith) (starts_no_string b start) (number_byte b start)) (quoted-first (b ∷ rest))

-- what stands before a number, and the number, go to what has been written
pub stretch_passes : (done rest all between behind number left new newer : List ℕ) (k m : ℕ) → done ++ quoted rest ≡ all
    → quoted rest ≡ take k rest ++ quoted (drop k rest) → BeginsNumber (drop k rest)
    → between ≡ take k rest → behind ≡ drop k rest → m ≡ prefix_len is_number_byte behind → number ≡ take m behind → left ≡ drop m behind
    → new ≡ done ++ between → newer ≡ new ++ quoted_piece number → newer ++ quoted left ≡ all
stretch_passes done rest all between behind number left new newer k m whole copied starts between_is behind_is run number_is left_is new_is newer_is =
    let begins : BeginsNumber behind = rw behind_is starts in
    let first : quoted behind ≡ quoted_piece number ++ quoted left = rw (number_is, left_is, run) (number_first behind begins) in
    let both : between ++ (quoted_piece number ++ quoted left) ≡ quoted rest = rw (sym first, between_is, behind_is) (sym copied) in
    ap (λ (text : List ℕ). text ++ quoted left) (newer_is ∙ ap (λ (text : List ℕ). text ++ quoted_piece number) new_is)
    ∙ append_assoc (done ++ between) (quoted_piece number) (quoted left)
    ∙ append_assoc done between (quoted_piece number ++ quoted left)
    ∙ ap (λ (text : List ℕ). done ++ text) both
    ∙ whole

-- a text that starts as a number does begins with a byte of numbers
number_some : (text : List ℕ) → 0 < length text → BeginsNumber text → 1 ≤ prefix_len is_number_byte text
number_some [] some starts = absurd (omega arith)
number_some (b ∷ rest) some starts = rw (number_byte b (starts some)) (omega arith)

-- less is left behind them
pub stretch_shortens : (rest behind left : List ℕ) (k m : ℕ) → 0 < length rest → BeginsNumber (drop k rest)
    → behind ≡ drop k rest → m ≡ prefix_len is_number_byte behind → left ≡ drop m behind → length left < length rest
stretch_shortens rest [] left k m some starts behind_is run left_is = rw left_is (omega (arith, length-drop {A = ℕ} m []))
stretch_shortens rest (b ∷ more) left k m some starts behind_is run left_is =
    let begins = subst BeginsNumber (sym behind_is) starts in
    let one = number_some (b ∷ more) (omega arith) begins in
    let shorter : length (b ∷ more) ≡ length (drop k rest) = ap length behind_is in
    rw left_is (omega (arith, length-drop m (b ∷ more), length-drop k rest))

-- nothing is left to quote
pub nothing_left : (done rest all : List ℕ) → length rest ≡ 0 → done ++ quoted rest ≡ all → done ≡ all
unfolding quoted pieces
nothing_left done [] all none whole = sym (append-nil done) ∙ whole
nothing_left done (b ∷ rest) all none whole = absurd (omega arith)
