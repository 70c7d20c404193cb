-- The journal with which bytes begin.
use Rattle.std.proofs.Common.{◌≡◌, ℕ, List, ◌++◌, length, Ok, refl, sym, ap, ◌∙◌}
use Rattle.std.specs.List.{flat_map}
use Rattle.act_model.specs.Names.{NameLists}
use Rattle.act_model.specs.declared.journal.Item.{Item}
use Rattle.act_print.specs.Conditions.{IsJournal}
use Rattle.act_print.specs.Faults.{lines_of}
use Rattle.act_print.specs.Laws.{OneJournal}
use Rattle.act_print.specs.Printed.{Response}
use Rattle.act_print.specs.Reading.{Lines, journal_at}
use Rattle.act_print.specs.Text.{answer_text, answers_head_text, text_of}
use Rattle.act_print.proofs.Bytes.{ArePlain}
use Rattle.act_print.proofs.Fronts.{begins, items-plain, lines-front}
use Rattle.act_print.proofs.LineLaws.{count_line_reads}
use Rattle.act_print.proofs.Readers.{ok_is}
use Rattle.act_print.proofs.TranscriptLaws.{journal_lines, journal_reads}

module _ (names : NameLists) where
  -- it is read from any bytes that begin with a text of it
  pub journal-is : (items : List Item) (answers : List Response) (more bytes : List ℕ) → IsJournal names items → text_of names items answers ++ more ≡ bytes → (rest : Lines) × (journal_at names (lines_of bytes) ≡ Ok (items, rest))
  journal-is items answers more bytes is same =
      let rest = (answers_head_text (length answers) ++ flat_map (answer_text names) answers) ++ more in
      let plain : ArePlain (journal_lines names items) = (count_line_reads.plain (length items) is.few, items-plain names items is.each) in (
        lines_of rest,
        ap (λ (bs : List ℕ). journal_at names (lines_of bs)) (sym same ∙ begins names items answers more)
            ∙ (ap (journal_at names) (lines-front (journal_lines names items) rest plain) ∙ (journal_reads names).again items (is.few, is.each) (lines_of rest)),
      )

  -- and what is read is a journal
  pub read-journal : (bytes : List ℕ) (items : List Item) (rest : Lines) → journal_at names (lines_of bytes) ≡ Ok (items, rest) → IsJournal names items
  read-journal bytes items rest e = let taken = (journal_reads names).takes (lines_of bytes) items rest e in record { few = taken.1.0; each = taken.1.1 }

-- lines begin with one journal
pub one-read : (names : NameLists) (lines : Lines) (items others : List Item) (rest more : Lines) → journal_at names lines ≡ Ok (items, rest) → journal_at names lines ≡ Ok (others, more) → items ≡ others
one-read names lines items others rest more is also = ap (λ (p : List Item × Lines). p.0) (ok_is (items, rest) (others, more) (sym is ∙ also))

-- so journals whose texts begin the same bytes are one
pub one-journal : OneJournal
one-journal names one other replies others behind more is also same =
    let bytes = text_of names one replies ++ behind in
    let first = journal-is names one replies behind bytes is refl in
    let second = journal-is names other others more bytes also (sym same) in
    one-read names (lines_of bytes) one other first.0 second.0 first.1 second.1
