-- Words that are read by way of a text.
use Rattle.std.proofs.Common.{◌≡◌, ℕ, suc, zero, ◌^◌, ◌<◌, Bool, true, false, cond, List, [], ◌∷◌, Option, Some, None, Result, Ok, Err, Bor, decimal, refl, sym, ◌∙◌, ap, subst, arith}
use Rattle.std.specs.Bool.{then_some}
use Rattle.std.specs.List.{list_all}
use Rattle.std.specs.Option.{IfSome}
use Rattle.std.specs.Result.{MatchResult, result_ok}
use Rattle.std.specs.Str.{IsAscii, IsUtf8, bytes_eq}
use Rattle.std.specs.Str.Parse.{ParsesUnsigned}
use Rattle.std.proofs.lemmas.Str.{IsUtf8-from_ascii}
use Rattle.std.proofs.lemmas.Bool.{and_parts}
use Rattle.std.proofs.lemmas.Bool.Decides.{nat_tests}
use Rattle.std.proofs.lemmas.Fmt.{IsAscii-decimal, parse-decimal}
use Rattle.act_model.specs.Name.{is_graphic, is_name}
use Rattle.act_print.specs.Words.{count_word}
use Rattle.act_print.proofs.WordLaws.{bytes_same, count_reads, name_is_graphic, same_bytes}

-- ---- names

graphic_ascii : (byte : ℕ) → is_graphic byte ≡ true → byte < 128
graphic_ascii byte e = grind (arith, nat_tests)

all_ascii : (word : List ℕ) → list_all is_graphic word ≡ true → IsAscii word
all_ascii [] e i = omega arith
all_ascii (byte ∷ word) e zero = graphic_ascii byte (and_parts _ _ e).0
all_ascii (byte ∷ word) e (suc i) = all_ascii word (and_parts _ _ e).1 i

named_text : (word : List ℕ) → is_name word ≡ true → IsUtf8 word
named_text word e = IsUtf8-from_ascii word (all_ascii word (name_is_graphic word e))

by_name : {A : Type 0} (b : Bool) (x : A) → (b ≡ true → ⊥) → None ≡ cond b (Some x) None
by_name true x h = absurd (h refl)
by_name false x h = refl

module _ {E : Type 0} (word : List ℕ) (Q : E → Type 0) (r : Result (Bor (List ℕ)) E) (cases : MatchResult r (λ s. (s.now ≡ word) × IsUtf8 word) (λ e. ¬ (IsUtf8 word) × Q e)) where
  no_text : None ≡ result_ok r → ¬ (IsUtf8 word)
  no_text none = by r cases none where
    by : (r : Result (Bor (List ℕ)) E) → MatchResult r (λ s. (s.now ≡ word) × IsUtf8 word) (λ e. ¬ (IsUtf8 word) × Q e) → None ≡ result_ok r → ¬ (IsUtf8 word)
    by (Ok s) cases none = absurd (cc)
    by (Err e) cases none = cases.0

  is_text : (r : Result (Bor (List ℕ)) E) (text : Bor (List ℕ)) → MatchResult r (λ s. (s.now ≡ word) × IsUtf8 word) (λ e. ¬ (IsUtf8 word) × Q e) → Some text ≡ result_ok r → text.now ≡ word
  is_text (Ok s) text cases e = let same : text ≡ s = cc in rw same cases.0
  is_text (Err f) text cases e = absurd (cc)

  -- the text of the word
  pub text_is : (text : Bor (List ℕ)) → Some text ≡ result_ok r → text.now ≡ word
  text_is text e = is_text r text cases e

  -- what is no text is no name
  pub not_named : None ≡ result_ok r → None ≡ cond (is_name word) (Some word) None
  not_named none = by_name (is_name word) word (λ e. no_text none (named_text word e))

  -- ---- counts

  -- what is no text writes no count
  pub not_counted : None ≡ result_ok r → (count : ℕ) → count < 2 ^ 64 → decimal count ≡ word → None ≡ Some count
  not_counted none count small e = absurd (no_text none (subst IsUtf8 e (IsUtf8-from_ascii (decimal count) (IsAscii-decimal count small))))

-- the count is parsed from the text that writes it
pub parsed : {E : Type 0} (word text : List ℕ) (r : Result ℕ E) → text ≡ word → ParsesUnsigned 64 10 text r → (count : ℕ) → count < 2 ^ 64 → decimal count ≡ word → result_ok r ≡ Some count
parsed word text r same parses count small e =
    ap result_ok (parse-decimal 64 count text r small small (same ∙ sym e) parses)

pub parsed_bound : {E : Type 0} (text : List ℕ) (r : Result ℕ E) → ParsesUnsigned 64 10 text r → IfSome (result_ok r) (λ count. count < 2 ^ 64)
parsed_bound text (Ok n) parses = subst (λ (k : ℕ). k < 2 ^ 64) (sym parses.1) parses.0.1
parsed_bound text (Err e) parses = tt

module _ (word : List ℕ) (r : Option ℕ) (gives : (count : ℕ) → count < 2 ^ 64 → decimal count ≡ word → r ≡ Some count) where
  no_count : (o : Option ℕ) → count_word word ≡ o → r ≡ None → None ≡ o
  no_count None is none = refl
  no_count (Some value) is none =
      let taken = count_reads.takes word value is in
      let given = gives value taken.1 (sym taken.0) in
      absurd (cc)

  -- no count is written
  pub uncounted : r ≡ None → None ≡ count_word word
  uncounted none = no_count (count_word word) refl none

  other_count : (count : ℕ) (o : Option ℕ) → count_word word ≡ o → r ≡ Some count → bytes_eq (decimal count) word ≡ false → None ≡ o
  other_count count None is e other = refl
  other_count count (Some value) is e other =
      let taken = count_reads.takes word value is in
      let given = gives value taken.1 (sym taken.0) in
      let same : value ≡ count = cc in
      let written : bytes_eq (decimal count) word ≡ true = bytes_same (decimal count) word (ap decimal (sym same) ∙ sym taken.0) in
      absurd (cc)

  -- the count that was parsed, where the word writes it
  pub counted : (count : ℕ) → r ≡ Some count → count < 2 ^ 64 → then_some (bytes_eq (decimal count) word) count ≡ count_word word
  counted count e small = by (bytes_eq (decimal count) word) refl where
    by : (b : Bool) → bytes_eq (decimal count) word ≡ b → then_some b count ≡ count_word word
    by true same = sym (ap count_word (sym (same_bytes (decimal count) word same)) ∙ count_reads.again count small)
    by false other = other_count count (count_word word) refl e other
