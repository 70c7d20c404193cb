-- The lines of the journal with which a text begins.
use Rattle.std.proofs.Common.{◌≡◌, ℕ, ◌==◌, Bool, true, false, cond, List, [], ◌∷◌, ◌++◌, length, refl, ap, ◌∙◌, append_assoc, arith}
use Rattle.std.specs.List.{AllByRecursion, flat_map, list_all}
use Rattle.std.specs.Prelude.{codes}
use Rattle.std.proofs.lemmas.Bool.{and_parts}
use Rattle.std.proofs.lemmas.Bool.Decides.{nat_tests}
use Rattle.act_model.specs.Names.{NameLists}
use Rattle.act_model.specs.declared.journal.Item.{Item}
use Rattle.act_print.specs.Conditions.{IsItem}
use Rattle.act_print.specs.Faults.{lines_of, with_byte}
use Rattle.act_print.specs.Printed.{Response}
use Rattle.act_print.specs.Reading.{Lines}
use Rattle.act_print.specs.Text.{answer_text, answers_head_text, item_text, journal_head_text, text_of}
use Rattle.act_print.proofs.Bytes.{ArePlain, unlines}
use Rattle.act_print.proofs.ItemLaws.{item_reads, item_text_is}
use Rattle.act_print.proofs.LineLaws.{count_text_is, is_plain}
use Rattle.act_print.proofs.TranscriptLaws.{items_lines, journal_lines}

-- ---- lines in front of others

not-feed : (byte : ℕ) → is_plain byte ≡ true → (byte == 10) ≡ false
not-feed byte e = grind (arith, nat_tests)

pub line-front : (line bytes : List ℕ) → list_all is_plain line ≡ true → lines_of (line ++ (10 ∷ bytes)) ≡ line ∷ lines_of bytes
line-front [] bytes plain = refl
line-front (byte ∷ line) bytes plain =
    let parts = and_parts _ _ plain in
    ap (λ (b : Bool). cond b ([] ∷ lines_of (line ++ (10 ∷ bytes))) (with_byte byte (lines_of (line ++ (10 ∷ bytes))))) (not-feed byte parts.0)
    ∙ ap (with_byte byte) (line-front line bytes parts.1)

pub lines-front : (lines : Lines) (bytes : List ℕ) → ArePlain lines → lines_of (unlines lines ++ bytes) ≡ lines ++ lines_of bytes
lines-front [] bytes plain = refl
lines-front (line ∷ lines) bytes plain =
    ap lines_of (append_assoc (line ++ codes "\n") (unlines lines) bytes ∙ append_assoc line (codes "\n") (unlines lines ++ bytes))
    ∙ (line-front line (unlines lines ++ bytes) plain.0 ∙ ap (λ (ls : Lines). line ∷ ls) (lines-front lines bytes plain.1))

module _ (names : NameLists) where
  -- ---- the lines of a journal

  pub items-plain : (items : List Item) → AllByRecursion (IsItem names) items → ArePlain (items_lines names items)
  items-plain [] are = tt
  items-plain (item ∷ items) are = ((item_reads names).plain item are.0, items-plain items are.1)

  items-bytes : (items : List Item) → flat_map (item_text names) items ≡ unlines (items_lines names items)
  items-bytes [] = refl
  items-bytes (item ∷ items) = rw (item_text_is names item, items-bytes items) refl

  -- a text begins with the lines of its journal
  pub begins : (items : List Item) (answers : List Response) (more : List ℕ) → text_of names items answers ++ more
      ≡ unlines (journal_lines names items) ++ ((answers_head_text (length answers) ++ flat_map (answer_text names) answers) ++ more)
  unfolding text_of
  begins items answers more =
      let rest = answers_head_text (length answers) ++ flat_map (answer_text names) answers in
      let head = journal_head_text (length items) in
      let body = flat_map (item_text names) items in
      let front : head ++ body ≡ unlines (journal_lines names items) = rw (count_text_is (length items), items-bytes items) refl in
      ap (λ (bs : List ℕ). bs ++ more) (append_assoc (head ++ body) (answers_head_text (length answers)) (flat_map (answer_text names) answers))
      ∙ (append_assoc (head ++ body) rest more ∙ ap (λ (bs : List ℕ). bs ++ (rest ++ more)) front)
