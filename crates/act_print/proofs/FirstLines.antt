-- Bytes, cut at the first line feed.
use Rattle.std.proofs.Common.{◌≡◌, ℕ, suc, ◌+◌, ◌-◌, ◌<◌, ◌≤◌, ◌==◌, nat_lt, Bool, true, false, not, cond, List, [], ◌∷◌, ◌++◌, length, take, drop, Some, None, refl, sym, ◌∙◌, ap, arith, length-drop}
use Rattle.std.specs.Prelude.{codes}
use Rattle.std.specs.Str.{bytes_eq}
use Rattle.std.specs.List.{position, position_or_len}
use Rattle.std.proofs.lemmas.Bool.{ltb-true}
use Rattle.std.proofs.lemmas.Bool.Decides.{nat_tests}
use Rattle.std.proofs.lemmas.List.{take_all}
use Rattle.act_print.specs.Faults.{lines_of, with_byte}
use Rattle.act_print.proofs.LineLaws.{without_feed}
use Rattle.act_print.proofs.WordLaws.{bytes_same, if_some, same_bytes, some_is}

-- the place of the first line feed, or the length
abbrev feed_in : List ℕ → ℕ
feed_in bytes = position_or_len (λ byte. byte == 10) bytes

cut_by : (byte : ℕ) (bytes : List ℕ) (end : ℕ) (feed : Bool) → (byte == 10) ≡ feed → cond (not feed) (1 + feed_in bytes) 0 ≡ end → end < length bytes + 1
    → ((later : ℕ) → feed_in bytes ≡ later → later < length bytes → lines_of bytes ≡ take later bytes ∷ lines_of (drop (suc later) bytes))
    → cond feed ([] ∷ lines_of bytes) (with_byte byte (lines_of bytes)) ≡ take end (byte ∷ bytes) ∷ lines_of (drop (suc end) (byte ∷ bytes))
cut_by byte bytes end true is at within rest = rw (sym at) refl
cut_by byte bytes end false is at within rest =
    let next : end ≡ suc (feed_in bytes) = omega arith in
    rw (next, rest (feed_in bytes) refl (omega arith)) refl

cut_first : (bytes : List ℕ) (end : ℕ) → feed_in bytes ≡ end → end < length bytes → lines_of bytes ≡ take end bytes ∷ lines_of (drop (suc end) bytes)
cut_first [] end at within = absurd (omega arith)
cut_first (byte ∷ bytes) end at within = cut_by byte bytes end (byte == 10) refl at (omega arith) (cut_first bytes)

-- the first line ends at the first line feed
pub cut_at : (bytes : List ℕ) (end : ℕ) → Some end ≡ position (λ byte. byte == 10) bytes → lines_of bytes ≡ take end bytes ∷ lines_of (take (length bytes - (end + 1)) (drop (end + 1) bytes))
cut_at bytes end at =
    let both = if_some (nat_lt (feed_in bytes) (length bytes)) (Some (feed_in bytes)) end (sym at) in
    let same : feed_in bytes ≡ end = some_is (feed_in bytes) end both.1 in
    let within = ltb-true (feed_in bytes) (length bytes) both.0 in
    let next : end + 1 ≡ suc end = omega arith in
    let all = take_all (length bytes - (end + 1)) (drop (end + 1) bytes) (omega (arith, length-drop (end + 1) bytes)) in
    cut_first bytes end same (omega arith) ∙ ap (λ (bs : List ℕ). take end bytes ∷ lines_of bs) (ap (λ (k : ℕ). drop k bytes) (sym next) ∙ sym all)

alone_by : (byte : ℕ) (bytes : List ℕ) (feed : Bool) → (byte == 10) ≡ feed → length bytes + 1 ≤ cond (not feed) (1 + feed_in bytes) 0
    → (0 < length bytes → length bytes ≤ feed_in bytes → lines_of bytes ≡ bytes ∷ []) → cond feed ([] ∷ lines_of bytes) (with_byte byte (lines_of bytes)) ≡ (byte ∷ bytes) ∷ []
alone_by byte bytes true is far rest = absurd (omega arith)
alone_by byte [] false is far rest = refl
alone_by byte (next ∷ bytes) false is far rest = rw (rest (omega arith) (omega arith)) refl

alone : (bytes : List ℕ) → 0 < length bytes → length bytes ≤ feed_in bytes → lines_of bytes ≡ bytes ∷ []
alone [] some far = absurd (omega arith)
alone (byte ∷ bytes) some far = alone_by byte bytes (byte == 10) refl (omega arith) (alone bytes)

-- without a line feed there is one line
pub one_line : (bytes : List ℕ) → 0 < length bytes → None ≡ position (λ byte. byte == 10) bytes → lines_of bytes ≡ bytes ∷ []
one_line bytes some none = alone bytes some (grind (arith, nat_tests))

-- ---- lines with a line feed behind each

same_by : (xs ys : List ℕ) (same : Bool) → bytes_eq xs ys ≡ same → same ≡ bytes_eq (xs ++ codes "\n") (ys ++ codes "\n")
same_by xs ys true is = sym (bytes_same (xs ++ codes "\n") (ys ++ codes "\n") (ap (λ (t : List ℕ). t ++ codes "\n") (same_bytes xs ys is)))
same_by xs ys false not = by (bytes_eq (xs ++ codes "\n") (ys ++ codes "\n")) refl where
  by : (b : Bool) → bytes_eq (xs ++ codes "\n") (ys ++ codes "\n") ≡ b → false ≡ b
  by false e = refl
  by true e =
      let yes : bytes_eq xs ys ≡ true = bytes_same xs ys (without_feed xs ys (same_bytes (xs ++ codes "\n") (ys ++ codes "\n") e)) in
      absurd (cc)

pub same_lines : (xs ys : List ℕ) → bytes_eq xs ys ≡ bytes_eq (xs ++ codes "\n") (ys ++ codes "\n")
same_lines xs ys = same_by xs ys (bytes_eq xs ys) refl
