-- The words of a command.
use Rattle.std.proofs.Common.{◌≡◌, ℕ, zero, suc, ◌+◌, ◌-◌, ◌<◌, ◌≤◌, Bool, true, false, List, [], ◌∷◌, length, map, string_bytes, bytes_eq, decimal, take, drop, get_or, find, Option, None, Some, unwrap_or, refl, ap, arith}
use Rattle.std.specs.Prelude.{◌==◌}
use Rattle.std.specs.List.{range_with_len}
use Rattle.std.specs.declared.alloc.Global.{Global}
use Rattle.std.specs.declared.string.String.{String}
use Rattle.std.proofs.Math.Seq.{take-length}
use Rattle.std.proofs.lemmas.Bool.{le-leb}
use Rattle.act_model.specs.Limits.{most_callers, most_workers}
use Rattle.act_top.specs.Words.{Threaded, Big, Desk, big_of, desk_of, is_script_count, most_size, number_of_word}
use Rattle.act_top.proofs.Numbers.{range-next}

-- ---- a number

-- a number that isn't the word's is passed over
pub number-next : (word : List ℕ) (most number : ℕ) → number < most + 1 → bytes_eq word (decimal number) ≡ false
    → find (λ n. bytes_eq word (decimal n)) (range_with_len (number + 1) (most + 1 - (number + 1))) ≡ find (λ n. bytes_eq word (decimal n)) (range_with_len number (most + 1 - number))
number-next word most number below other = rw (range-next number (most + 1) below, other) refl

-- what is found among numbers is one of them
found-within : (test : ℕ → Bool) (a m n : ℕ) → find test (range_with_len a m) ≡ Some n → (a ≤ n) × (n < a + m)
found-within test a zero n is = absurd (cc)
found-within test a (suc m) n is = by (test a) refl (λ rest. found-within test (a + 1) m n rest)
  where
    by : (passes : Bool) → test a ≡ passes → (find test (range_with_len (a + 1) m) ≡ Some n → (a + 1 ≤ n) × (n < a + 1 + m)) → (a ≤ n) × (n < a + suc m)
    by true here rest =
        let same : a ≡ n = ap (λ (o : Option ℕ). unwrap_or o 0) (rw here at is) in
        (omega (arith, same), omega (arith, same))
    by false here rest = let within = rest (rw here at is) in (omega (arith, within.0), omega (arith, within.1))

pub number-within : (word : List ℕ) (most number : ℕ) → number_of_word most word ≡ Some number → (1 ≤ number) × (number ≤ most)
number-within word most number is = let within = found-within (λ n. bytes_eq word (decimal n)) 1 most number is in (within.0, omega (arith, within.1))

-- ---- at the desk

-- two words and those behind them
pub split-words : (words : List (String Global)) (workers portfolio : String Global) → 2 ≤ length words → workers ≡ get_or words 0 workers → portfolio ≡ get_or words 1 portfolio
    → map string_bytes words ≡ string_bytes workers ∷ string_bytes portfolio ∷ map string_bytes (take (length words - 2) (drop 2 words))
split-words [] workers portfolio many first second = absurd (omega (arith, many))
split-words (a ∷ []) workers portfolio many first second = absurd (omega (arith, many))
split-words (a ∷ b ∷ rest) workers portfolio many first second =
    let count : length (a ∷ b ∷ rest) - 2 ≡ length rest = omega arith in
    rw (first, second, count, take-length rest) refl

-- fewer words are of no form
pub few-words : (words : List (String Global)) → length words < 2 → desk_of (map string_bytes words) ≡ None
few-words [] few = refl
few-words (a ∷ []) few = refl
few-words (a ∷ b ∷ rest) few = absurd (omega (arith, few))

-- nor are those with another word in place of a number
pub no-number : (workers portfolio : List ℕ) (scripts : List (List ℕ)) → number_of_word most_workers workers ≡ None → desk_of (workers ∷ portfolio ∷ scripts) ≡ None
no-number workers portfolio scripts none = by (is_script_count (length scripts)) refl
  where
    by : (form : Bool) → is_script_count (length scripts) ≡ form → desk_of (workers ∷ portfolio ∷ scripts) ≡ None
    by true form = rw (form, none) refl
    by false form = rw form refl

pub not-empty : (count : ℕ) (test : Bool) → test ≡ (count == 0) → test ≡ false → 1 ≤ count
not-empty zero test is fails = absurd (cc)
not-empty (suc count) test is fails = omega arith

-- as many scripts as there may be
pub script-count : (count : ℕ) → 1 ≤ count → count ≤ most_callers → is_script_count count ≡ true
script-count count some few = rw (le-leb 1 count some, le-leb count most_callers few) refl

-- the words of a command
pub some-words : (workers portfolio : List ℕ) (scripts : List (List ℕ)) (number : ℕ) → is_script_count (length scripts) ≡ true → number_of_word most_workers workers ≡ Some number → desk_of (workers ∷ portfolio ∷ scripts) ≡ Some (Threaded (Desk number portfolio scripts))
some-words workers portfolio scripts number count is = rw (count, is) refl

-- ---- the large run

-- two words
pub two-words : (words : List (String Global)) (size workers : String Global) → length words ≡ 2 → size ≡ get_or words 0 size → workers ≡ get_or words 1 workers → map string_bytes words ≡ string_bytes size ∷ string_bytes workers ∷ []
two-words [] size workers many first second = absurd (omega (arith, many))
two-words (a ∷ []) size workers many first second = absurd (omega (arith, many))
two-words (a ∷ b ∷ []) size workers many first second = rw (first, second) refl
two-words (a ∷ b ∷ c ∷ rest) size workers many first second = absurd (omega (arith, many))

-- fewer or more are of another form
pub fewer-words : (words : List (String Global)) → length words < 2 → big_of (map string_bytes words) ≡ None
fewer-words [] few = refl
fewer-words (a ∷ []) few = refl
fewer-words (a ∷ b ∷ rest) few = absurd (omega (arith, few))

pub more-words : (words : List (String Global)) → 2 < length words → big_of (map string_bytes words) ≡ None
more-words [] many = absurd (omega (arith, many))
more-words (a ∷ []) many = absurd (omega (arith, many))
more-words (a ∷ b ∷ []) many = absurd (omega (arith, many))
more-words (a ∷ b ∷ c ∷ rest) many = refl

-- another word in place of the number
pub no-size : (size workers : List ℕ) → number_of_word most_size size ≡ None → big_of (size ∷ workers ∷ []) ≡ None
no-size size workers none = rw none refl

-- and in place of the count of workers
pub no-workers : (size workers : List ℕ) → number_of_word most_workers workers ≡ None → big_of (size ∷ workers ∷ []) ≡ None
no-workers size workers none = by (number_of_word most_size size) refl
  where
    by : (n : Option ℕ) → number_of_word most_size size ≡ n → big_of (size ∷ workers ∷ []) ≡ None
    by None is = rw is refl
    by (Some n) is = rw (is, none) refl

-- the words of a command
pub some-big : (size workers : List ℕ) (n w : ℕ) → number_of_word most_size size ≡ Some n → number_of_word most_workers workers ≡ Some w → big_of (size ∷ workers ∷ []) ≡ Some (Threaded (Big n w))
some-big size workers n w first second = rw (first, second) refl
