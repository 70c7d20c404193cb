-- Words with spaces between them.
use Rattle.std.proofs.Common.{◌≡◌, ℕ, suc, ◌+◌, ◌==◌, nat_lt, Bool, true, false, not, cond, List, [], ◌∷◌, ◌++◌, length, get_or, take, drop, Option, Some, None, refl, sym, ◌∙◌, ap, subst, append_assoc, length-append, arith}
use Rattle.std.specs.List.{list_all, position, position_or_len}
use Rattle.std.specs.Option.{option_and_then, option_map}
use Rattle.std.specs.Prelude.{codes}
use Rattle.std.proofs.lemmas.Bool.{and_parts, eqb-true, lt-ltb, ltb-true}
use Rattle.std.proofs.lemmas.Bool.Decides.{nat_tests}
use Rattle.std.proofs.lemmas.List.{take_at}
use Rattle.std.proofs.lemmas.List.Quantifiers.{position-Some}
use Rattle.std.proofs.lemmas.List.Sums.{split_at_first}
use Rattle.act_model.specs.Name.{is_graphic}
use Rattle.act_text.specs.Lines.{line_of}
use Rattle.act_print.specs.Words.{value_at, word_at}
use Rattle.act_print.proofs.WordLaws.{ReadsWord, bind_some, if_some, some_is}

-- words with a space before each but the first
abbrev pub spaced : List ℕ → List (List ℕ) → List ℕ
spaced word [] = word
spaced word (next ∷ words) = word ++ (32 ∷ spaced next words)

-- a line is its words and a line feed
pub line_is : (word : List ℕ) (words : List (List ℕ)) → line_of word words ≡ spaced word words ++ codes "\n"
line_is word [] = refl
line_is word (next ∷ words) =
    ap (λ (text : List ℕ). word ++ (32 ∷ text)) (line_is next words) ∙ sym (append_assoc word (32 ∷ spaced next words) (codes "\n"))

-- ---- the first word

is_no_space : (byte : ℕ) → is_graphic byte ≡ true → (byte == 32) ≡ false
is_no_space byte e = grind (arith, nat_tests)

first_space : (word rest : List ℕ) → list_all is_graphic word ≡ true → position_or_len (λ byte. byte == 32) (word ++ (32 ∷ rest)) ≡ length word
first_space [] rest all = refl
first_space (byte ∷ word) rest all =
    let parts = and_parts _ _ all in
    ap (λ (b : Bool). cond (not b) (1 + position_or_len (λ byte. byte == 32) (word ++ (32 ∷ rest))) 0) (is_no_space byte parts.0) ∙ omega (arith, first_space word rest parts.1)

behind_byte : (word rest : List ℕ) (byte k : ℕ) → k ≡ suc (length word) → drop k (word ++ (byte ∷ rest)) ≡ rest
behind_byte [] rest byte k e = rw e refl
behind_byte (first ∷ word) rest byte k e = rw e (behind_byte word rest byte (suc (length word)) refl)

pub word_again : (word rest : List ℕ) → list_all is_graphic word ≡ true → word_at (word ++ (32 ∷ rest)) ≡ Some (word, rest)
unfolding word_at
word_again word rest all =
    let end = first_space word rest all in
    let within : nat_lt (length word) (length (word ++ (32 ∷ rest))) ≡ true = lt-ltb _ _ (omega (arith, length-append word (32 ∷ rest))) in
    rw (end, within, take_at word (32 ∷ rest) (length word) refl, behind_byte word rest 32 (length word + 1) (omega arith)) refl

pub word_takes : (text word rest : List ℕ) → word_at text ≡ Some (word, rest) → text ≡ word ++ (32 ∷ rest)
unfolding word_at
word_takes text word rest e = by (position (λ byte. byte == 32) text) refl e where
  by : (end : Option ℕ) → position (λ byte. byte == 32) text ≡ end → option_map {U = List ℕ × List ℕ} (λ k. (take k text, drop (k + 1) text)) end ≡ Some (word, rest) → text ≡ word ++ (32 ∷ rest)
  by None at e = absurd (cc)
  by (Some end) at e =
      let parts = some_is (take end text, drop (end + 1) text) (word, rest) e in
      let found = position-Some (λ byte. byte == 32) text end 0 at in
      let both = if_some (nat_lt (position_or_len (λ byte. byte == 32) text) (length text)) (Some (position_or_len (λ byte. byte == 32) text)) end at in
      let same : position_or_len (λ byte. byte == 32) text ≡ end = some_is _ _ both.1 in
      let split = rw same at (split_at_first (λ byte. byte == 32) text 0 (ltb-true _ _ both.0)) in
      let space : get_or text end 0 ≡ 32 = eqb-true _ _ found.1 in
      let front : take end text ≡ word = ap (λ (p : List ℕ × List ℕ). p.0) parts in
      let behind : drop (end + 1) text ≡ rest = ap (λ (p : List ℕ × List ℕ). p.1) parts in
      split ∙ rw (space, front, behind) refl

-- ---- a value in front

module _ {A : Type 0} {read : List ℕ → Option A} {text : A → List ℕ} {Fits : A → Type 0} (reads : ReadsWord read text Fits) where
  pub at_again : (x : A) (rest : List ℕ) → Fits x → value_at read (text x ++ (32 ∷ rest)) ≡ Some (x, rest)
  unfolding value_at
  at_again x rest fits = rw (word_again (text x) rest (reads.graphic x fits), reads.again x fits) refl

  pub at_takes : (line : List ℕ) (x : A) (rest : List ℕ) → value_at read line ≡ Some (x, rest) → (line ≡ text x ++ (32 ∷ rest)) × Fits x
  unfolding value_at
  at_takes line x rest e =
      let first = bind_some (word_at line) (λ word. option_and_then (λ value. Some (value, word.1)) (read word.0)) (x, rest) e in
      let second = bind_some (read first.0.0) (λ value. Some (value, first.0.1)) (x, rest) first.2 in
      let parts = some_is (second.0, first.0.1) (x, rest) second.2 in
      let same : second.0 ≡ x = ap (λ (p : A × List ℕ). p.0) parts in
      let behind : first.0.1 ≡ rest = ap (λ (p : A × List ℕ). p.1) parts in
      let taken = reads.takes first.0.0 second.0 second.1 in
      (word_takes line first.0.0 first.0.1 first.1 ∙ rw (taken.0, same, behind) refl, subst Fits same taken.1)
