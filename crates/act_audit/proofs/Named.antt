-- The names that the text of a journal is read with.
use Rattle.std.proofs.Common.{◌≡◌, ℕ, suc, ◌<◌, ◌+◌, nat_lt, Bool, true, false, cond, List, [], ◌∷◌, ◌++◌, length, Option, Some, None, decimal, not, refl, sym, ap, subst, ◌∙◌, append-nil, append_assoc, arith}
use Rattle.std.specs.List.{AllByRecursion, flat_map, list_all, position_or_len, starts_with, take_while}
use Rattle.std.specs.Option.{is_some}
use Rattle.std.specs.Prelude.{codes, nat_eq, ◌&&◌, if◌then◌else◌}
use Rattle.std.specs.Str.{bytes_eq}
use Rattle.std.proofs.lemmas.Bool.{and_parts, lt-ltb, ltb-true}
use Rattle.std.proofs.lemmas.List.Folds.{list_all-append}
use Rattle.std.proofs.lemmas.List.Sums.{take_while-cons}
use Rattle.act_model.specs.Journal.{is_known}
use Rattle.act_model.specs.Name.{is_graphic, is_name}
use Rattle.act_model.specs.Names.{NameLists, place_of, with_name}
use Rattle.act_model.specs.declared.journal.Item.{Item}
use Rattle.act_model.specs.declared.journal.Step.{Step}
use Rattle.act_model.specs.declared.journal.Step.TheVariants.{Append, Ask}
use Rattle.act_model.specs.declared.observed.Obs.TheVariants.{Rate, Event}
use Rattle.act_print.specs.Conditions.{IsItem, IsStep}
use Rattle.act_print.specs.Faults.{lines_of}
use Rattle.act_print.specs.Printed.{Response}
use Rattle.act_print.specs.Reading.{Lines}
use Rattle.act_print.specs.Text.{answer_text, answers_head_text, item_text, journal_head_text, step_words, text_of}
use Rattle.act_print.specs.Words.{◌>>=◌, word_at}
use Rattle.act_print.proofs.ItemLaws.{item_content, item_text_is}
use Rattle.act_print.proofs.LineLaws.{count_content, count_line_reads, count_text_is, plain_spaced, without_feed}
use Rattle.act_print.proofs.Spaces.{line_is, spaced, word_again, word_takes}
use Rattle.act_print.proofs.TranscriptLaws.{items_lines, journal_lines as transcript_lines}
use Rattle.act_print.proofs.WordLaws.{IsCount, caller_reads, count_reads, if_some, name_reads, some_is}
use Rattle.act_text.specs.Lines.{name_of}
use Rattle.act_audit.specs.Text.{code_in_line, journal_lines, names_for, with_code, with_codes}
use Rattle.act_print.proofs.Fronts.{begins, items-plain, line-front, lines-front}

-- ---- names that grow

-- names with codes behind theirs
abbrev Extends : NameLists → NameLists → Type 0
Extends names more = (extra : List (List ℕ)) × (more ≡ record names { codes = names.codes ++ extra })

with-code : (names : NameLists) (found : Option (List ℕ)) → Extends names (with_code names found)
with-code names None = ([], ap (λ (cs : List (List ℕ)). record names { codes = cs }) (sym (append-nil names.codes)))
with-code names (Some code) = by (is_some (place_of code names.codes))
  where
    by : (there : Bool) → (extra : List (List ℕ)) × (◌≡◌ {A = NameLists} (record names { codes = if there then names.codes else names.codes ++ code ∷ [] }) (record names { codes = names.codes ++ extra }))
    by true = ([], ap (λ (cs : List (List ℕ)). record names { codes = cs }) (sym (append-nil names.codes)))
    by false = (code ∷ [], refl)

with-codes : (names : NameLists) (lines : Lines) → Extends names (with_codes names lines)
with-codes names [] = with-code names None
with-codes names (line ∷ lines) =
    let first = with-code names (code_in_line line) in
    let others = with-codes (with_code names (code_in_line line)) lines in
    (first.0 ++ others.0, others.1 ∙ (ap (λ (n : NameLists). record n { codes = n.codes ++ others.0 }) first.1 ∙ ap (λ (cs : List (List ℕ)). record names { codes = cs }) (append_assoc names.codes first.0 others.0)))

-- lines that add none
abbrev AddsNone : NameLists → List ℕ → Type 0
AddsNone names line = with_code names (code_in_line line) ≡ names

none-added : (names : NameLists) (lines : Lines) → AllByRecursion (AddsNone names) lines → with_codes names lines ≡ names
none-added names [] all = refl
none-added names (line ∷ lines) all = ap (λ (n : NameLists). with_codes n lines) all.0 ∙ none-added names lines all.1

-- ---- the lines of a journal

while-all : {X : Type 0} (P : X → Type 0) (test : X → Bool) (xs : List X) (end : X) (others : List X) → test end ≡ false → AllByRecursion P xs → AllByRecursion P (take_while test (xs ++ end ∷ others))
while-all P test [] end others stops all = rw stops tt
while-all P test (x ∷ xs) end others stops all =
    subst (AllByRecursion P) (sym (take_while-cons test x (xs ++ end ∷ others))) (by (test x) (while-all P test xs end others stops all.1))
  where
    by : (b : Bool) → AllByRecursion P (take_while test (xs ++ end ∷ others)) → AllByRecursion P (cond b (x ∷ take_while test (xs ++ end ∷ others)) [])
    by true rest = (all.0, rest)
    by false rest = tt

-- ---- codes that are there

front-place : {X : Type 0} (test : X → Bool) (xs ys : List X) → position_or_len test (xs ++ ys) < length xs → position_or_len test xs < length xs
front-place test [] ys less = omega (arith, less)
front-place test (x ∷ xs) ys less = by (test x) (front-place test xs ys) less
  where
    by : (b : Bool) → (position_or_len test (xs ++ ys) < length xs → position_or_len test xs < length xs)
        → cond (not b) (1 + position_or_len test (xs ++ ys)) 0 < suc (length xs) → cond (not b) (1 + position_or_len test xs) 0 < suc (length xs)
    by true rest within = omega arith
    by false rest within = omega (arith, rest (omega (arith, within)))

there : (name : List ℕ) (names extra : List (List ℕ)) (code : ℕ) → place_of name (names ++ extra) ≡ Some code → code < length names → with_name name names ≡ names
there name names extra code place within =
    let test = bytes_eq name in
    let both = if_some (nat_lt (position_or_len test (names ++ extra)) (length (names ++ extra))) (Some (position_or_len test (names ++ extra))) code place in
    let at : position_or_len test (names ++ extra) ≡ code = some_is _ _ both.1 in
    rw (lt-ltb _ _ (front-place test names extra (omega (arith, at, within)))) refl

-- ---- what lines name

none-of : (b : Bool) (found : Option (List ℕ × List ℕ)) → b ≡ false → (found >>= λ code. if b && is_name code.0 then Some code.0 else None) ≡ None
none-of b None isnt = refl
none-of b (Some code) isnt = rw isnt refl

rate-line : (caller name rest : List ℕ) → list_all is_graphic caller ≡ true → list_all is_graphic name ≡ true → is_name name ≡ true
    → code_in_line (caller ++ (32 ∷ codes "rate" ++ (32 ∷ name ++ (32 ∷ rest)))) ≡ Some name
unfolding code_in_line
rate-line caller name rest plain graphic is =
    rw (word_again caller (codes "rate" ++ (32 ∷ name ++ (32 ∷ rest))) plain, word_again (codes "rate") (name ++ (32 ∷ rest)) refl, word_again name rest graphic, is) refl

other-line : (caller verb rest : List ℕ) → list_all is_graphic caller ≡ true → list_all is_graphic verb ≡ true → bytes_eq verb (codes "rate") ≡ false
    → code_in_line (caller ++ (32 ∷ verb ++ (32 ∷ rest))) ≡ None
unfolding code_in_line
other-line caller verb rest plain graphic isnt =
    rw (word_again caller (verb ++ (32 ∷ rest)) plain, word_again verb rest graphic) (none-of (bytes_eq verb (codes "rate")) (word_at rest) isnt)

-- the first word of one without a space isn't there
no-space : (word : List ℕ) → list_all is_graphic word ≡ true → word_at word ≡ None
no-space word graphic = by (word_at word) refl
  where
    by : (found : Option (List ℕ × List ℕ)) → word_at word ≡ found → found ≡ None
    by None is = refl
    by (Some both) is =
        let split = word_takes word both.0 both.1 is in
        let parts = sym (list_all-append is_graphic both.0 (32 ∷ both.1)) ∙ (ap (list_all is_graphic) (sym split) ∙ graphic) in
        absurd (no-graphic-space both.1 (and_parts _ _ parts).1)
      where
        no-graphic-space : (rest : List ℕ) → list_all is_graphic (32 ∷ rest) ≡ true → ⊥
        no-graphic-space rest is = absurd (cc)

count-is : (count : ℕ) → count_content count ≡ codes "journal" ++ (32 ∷ decimal count)
unfolding journal_head_text
count-is count = without_feed _ _ (sym (count_text_is count) ∙ line_is (codes "journal") (decimal count ∷ []))

head-line : (count : ℕ) → IsCount count → code_in_line (count_content count) ≡ None
unfolding code_in_line
head-line count is = ap code_in_line (count-is count) ∙ rw (word_again (codes "journal") (decimal count) refl, no-space (decimal count) (count_reads.graphic count is)) refl

module _ (names : NameLists) (extra : List (List ℕ)) where
  abbrev more : NameLists
  more = record names { codes = names.codes ++ extra }

  content-is : (item : Item) → item_content more item ≡ spaced (decimal item.caller) (step_words more item.step)
  unfolding item_text
  content-is item = without_feed _ _ (sym (item_text_is more item) ∙ line_is (decimal item.caller) (step_words more item.step))

  step-line : (caller : List ℕ) (step : Step) → list_all is_graphic caller ≡ true → is_known names step ≡ true → IsStep more step → AddsNone names (spaced caller (step_words more step))
  step-line caller (Append (Rate code day value)) plain known is =
      let name = name_of more.codes code in
      ap (with_code names) (rate-line caller name _ plain ((name_reads more.codes).graphic code is.0) is.0.name)
      ∙ ap (λ (cs : List (List ℕ)). record names { codes = cs }) (there name names.codes extra code is.0.place (ltb-true _ _ known))
  step-line caller (Append (Event contract kind day value)) plain known is = ap (with_code names) (other-line caller (codes "event") _ plain refl refl)
  step-line caller (Ask asked) plain known is = ap (with_code names) (other-line caller (codes "ask") _ plain refl refl)

  items-add-none : (items : List Item) → AllByRecursion (IsItem more) items → AllByRecursion (λ (item : Item). is_known names item.step ≡ true) items → AllByRecursion (AddsNone names) (items_lines more items)
  items-add-none [] are known = tt
  items-add-none (item ∷ items) are known =
      let one = step-line (decimal item.caller) item.step (caller_reads.graphic item.caller (are.0.caller_from, are.0.caller_to)) known.0 are.0.step in
      (subst (AddsNone names) (sym (content-is item)) one, items-add-none items are.1 known.1)

  end-is : (answers : List Response) (tail : List ℕ) → (answers_head_text (length answers) ++ flat_map (answer_text more) answers) ++ tail
      ≡ spaced (codes "answers") (decimal (length answers) ∷ []) ++ (10 ∷ flat_map (answer_text more) answers ++ tail)
  unfolding answers_head_text
  end-is answers tail =
      let count = spaced (codes "answers") (decimal (length answers) ∷ []) in
      let body = flat_map (answer_text more) answers in
      ap (λ (head : List ℕ). (head ++ body) ++ tail) (line_is (codes "answers") (decimal (length answers) ∷ []))
      ∙ (ap (λ (bs : List ℕ). bs ++ tail) (append_assoc count (codes "\n") body) ∙ append_assoc count (codes "\n" ++ body) tail)

  -- the lines of the journal of a text
  lines-add-none : (items : List Item) (answers : List Response) (tail bytes : List ℕ) → IsCount (length items) → IsCount (length answers) → AllByRecursion (IsItem more) items
      → AllByRecursion (λ (item : Item). is_known names item.step ≡ true) items → text_of more items answers ++ tail ≡ bytes → AllByRecursion (AddsNone names) (journal_lines bytes)
  lines-add-none items answers tail bytes few few_answers are known same =
      let count = spaced (codes "answers") (decimal (length answers) ∷ []) in
      let behind = flat_map (answer_text more) answers ++ tail in
      let end : lines_of ((answers_head_text (length answers) ++ flat_map (answer_text more) answers) ++ tail) ≡ count ∷ lines_of behind =
      ap lines_of (end-is answers tail) ∙ line-front count behind (plain_spaced (codes "answers") (decimal (length answers) ∷ []) refl (count_reads.graphic (length answers) few_answers, tt)) in
      let all : lines_of bytes ≡ transcript_lines more items ++ count ∷ lines_of behind =
      ap lines_of (sym same ∙ begins more items answers tail)
      ∙ (lines-front (transcript_lines more items) _ (count_line_reads.plain (length items) few, items-plain more items are) ∙ ap (λ (ls : Lines). transcript_lines more items ++ ls) end) in
      let front : AllByRecursion (AddsNone names) (transcript_lines more items) = (ap (with_code names) (head-line (length items) few), items-add-none items are known) in
      subst (λ (ls : Lines). AllByRecursion (AddsNone names) (take_while (λ line. not (starts_with nat_eq line (codes "answers"))) ls)) (sym all)
      (while-all (AddsNone names) (λ line. not (starts_with nat_eq line (codes "answers"))) (transcript_lines more items) count (lines_of behind) refl front)

-- the names are those that a text was printed with, where these are known
pub names-stay : (names : NameLists) (items : List Item) (answers : List Response) (tail bytes : List ℕ) → IsCount (length items) → IsCount (length answers) → AllByRecursion (IsItem (names_for names bytes)) items
    → AllByRecursion (λ (item : Item). is_known names item.step ≡ true) items → text_of (names_for names bytes) items answers ++ tail ≡ bytes → names_for names bytes ≡ names
names-stay names items answers tail bytes few few_answers are known same =
    let grown = with-codes names (journal_lines bytes) in
    none-added names (journal_lines bytes)
    (lines-add-none names grown.0 items answers tail bytes few few_answers (subst (λ (n : NameLists). AllByRecursion (IsItem n) items) grown.1 are) known
    (ap (λ (n : NameLists). text_of n items answers ++ tail) (sym grown.1) ∙ same))
