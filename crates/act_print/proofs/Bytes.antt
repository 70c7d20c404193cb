-- Texts as bytes and as lines.
use Rattle.std.proofs.Common.{◌≡◌, ℕ, ◌+◌, ◌-◌, ◌<◌, ◌≤◌, ◌==◌, Bool, true, false, not, cond, List, [], ◌∷◌, ◌++◌, length, take, refl, sym, ◌∙◌, ap, append_assoc, append-nil, length-append, arith}
use Rattle.std.specs.List.{AllByRecursion, flat_map, list_all}
use Rattle.std.specs.Prelude.{codes}
use Rattle.std.proofs.lemmas.Bool.{and_parts, eqb-true}
use Rattle.std.proofs.lemmas.Bool.Decides.{Decides-eqb, nat_tests}
use Rattle.std.proofs.lemmas.Slice.Eq.{ends_is}
use Rattle.act_print.specs.Faults.{lines_of, with_byte}
use Rattle.act_print.specs.Giving.{is_ended}
use Rattle.act_print.specs.Reading.{Lines}
use Rattle.act_print.proofs.LineLaws.{is_plain}

-- lines with a line feed behind each
abbrev pub unlines : Lines → List ℕ
unlines lines = flat_map (λ line. line ++ codes "\n") lines

abbrev pub ArePlain : Lines → Type 0
ArePlain lines = AllByRecursion (λ line. list_all is_plain line ≡ true) lines

-- ---- lines of bytes that were put together

not_feed : (byte : ℕ) → is_plain byte ≡ true → (byte == 10) ≡ false
not_feed byte e = grind (arith, nat_tests)

line_in_front : (line : List ℕ) (bytes : List ℕ) → list_all is_plain line ≡ true → lines_of (line ++ (10 ∷ bytes)) ≡ line ∷ lines_of bytes
line_in_front [] bytes plain = refl
line_in_front (byte ∷ line) bytes plain =
    let parts = and_parts _ _ plain in
    ap (λ (b : Bool). cond b ([] ∷ lines_of (line ++ (10 ∷ bytes))) (with_byte byte (lines_of (line ++ (10 ∷ bytes))))) (not_feed byte parts.0)
    ∙ ap (with_byte byte) (line_in_front line bytes parts.1)

pub lines_again : (lines : Lines) → ArePlain lines → lines_of (unlines lines) ≡ lines
lines_again [] plain = refl
lines_again (line ∷ lines) plain =
    ap lines_of (append_assoc line (codes "\n") (unlines lines)) ∙ line_in_front line (unlines lines) plain.0 ∙ ap (λ (t : Lines). line ∷ t) (lines_again lines plain.1)

-- ---- bytes of lines

in_front : (byte : ℕ) (lines : Lines) → 0 < length (unlines lines) → unlines (with_byte byte lines) ≡ byte ∷ unlines lines
in_front byte [] some = absurd (omega arith)
in_front byte (line ∷ lines) some = refl

back_by : (byte : ℕ) (rest : List ℕ) (feed : Bool) → (byte == 10) ≡ feed → 0 < length rest → unlines (lines_of rest) ≡ rest → unlines (cond feed ([] ∷ lines_of rest) (with_byte byte (lines_of rest))) ≡ byte ∷ rest
back_by byte rest true is some back =
    let feed : byte ≡ 10 = eqb-true _ _ is in
    rw (feed, back) refl
back_by byte rest false not some back = in_front byte (lines_of rest) (omega (arith, ap length back)) ∙ ap (λ (bs : List ℕ). byte ∷ bs) back

ended_back : (front : List ℕ) → unlines (lines_of (front ++ (10 ∷ []))) ≡ front ++ (10 ∷ [])
ended_back [] = refl
ended_back (byte ∷ front) = back_by byte (front ++ (10 ∷ [])) (byte == 10) refl (omega (arith, length-append front (10 ∷ []))) (ended_back front)

pub bytes_again : (bytes : List ℕ) → is_ended bytes ≡ true → unlines (lines_of bytes) ≡ bytes
bytes_again bytes ended =
    let split = (ends_is Decides-eqb bytes (codes "\n") (is_ended bytes) refl).0 ended in
    ap (λ (bs : List ℕ). unlines (lines_of bs)) split ∙ ended_back (take (length bytes - 1) bytes) ∙ sym split

-- ---- ended

feed_last : (line : List ℕ) (lines : Lines) → (front : List ℕ) × (unlines (line ∷ lines) ≡ front ++ codes "\n")
feed_last line [] = (line, append-nil (line ++ codes "\n"))
feed_last line (next ∷ lines) =
    let later = feed_last next lines in
    ((line ++ codes "\n") ++ later.0, ap (λ (bs : List ℕ). (line ++ codes "\n") ++ bs) later.1 ∙ sym (append_assoc (line ++ codes "\n") later.0 (codes "\n")))

pub unlines_ended : (line : List ℕ) (lines : Lines) → is_ended (unlines (line ∷ lines)) ≡ true
unlines_ended line lines =
    let last = feed_last line lines in
    (ends_is Decides-eqb (unlines (line ∷ lines)) (codes "\n") (is_ended (unlines (line ∷ lines))) refl).1 last.0 last.1

-- ---- how many lines there are

more_by : (byte count : ℕ) (lines : Lines) → length lines ≤ count → length (with_byte byte lines) ≤ count + 1
more_by byte count [] few = omega arith
more_by byte count (line ∷ lines) few = omega arith

few_by : (byte count : ℕ) (lines : Lines) (feed : Bool) → length lines ≤ count → length (cond feed ([] ∷ lines) (with_byte byte lines)) ≤ count + 1
few_by byte count lines true few = omega arith
few_by byte count lines false few = more_by byte count lines few

-- there are no more lines than bytes
pub few_lines : (bytes : List ℕ) → length (lines_of bytes) ≤ length bytes
few_lines [] = omega arith
few_lines (byte ∷ bytes) =
    let more = few_by byte (length bytes) (lines_of bytes) (byte == 10) (few_lines bytes) in
    omega arith
