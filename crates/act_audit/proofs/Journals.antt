-- The journal with which a text begins.
use Rattle.std.proofs.Common.{◌≡◌, ℕ, ◌<◌, ◌≤◌, ◌&&◌, nat_lt, Bool, true, false, inl, inr, List, [], ◌∷◌, ◌++◌, drop, length, length-append, map, take, if◌then◌else◌, Ok, refl, sym, ap, subst, ◌∙◌, append-nil, arith}
use Rattle.std.specs.List.{All, AllByRecursion}
use Rattle.std.specs.Str.{bytes_eq}
use Rattle.std.proofs.lemmas.Bool.{cases_Bool, ltb-false}
use Rattle.std.proofs.lemmas.List.{length-map, take-append-drop}
use Rattle.std.proofs.lemmas.List.Elements.{All-cons, All-nil}
use Rattle.std.proofs.lemmas.List.Quantifiers.{position-Some}
use Rattle.act_audit.specs.Journal.{IsTextOfJournal, is_of_one_caller, right_text}
use Rattle.act_audit.specs.Judging.{AreItems}
use Rattle.act_audit.specs.Text.{has_work_line, last_line_at, most_text, text_in}
use Rattle.act_model.specs.Journal.{appends_entry, is_known}
use Rattle.act_model.specs.Names.{NameLists}
use Rattle.act_model.specs.declared.journal.Asked.TheVariants.{All as AskAll, One}
use Rattle.act_model.specs.declared.journal.Item.{Item}
use Rattle.act_model.specs.declared.journal.Step.{Step}
use Rattle.act_model.specs.declared.journal.Step.TheVariants.{Append, Ask}
use Rattle.act_model.specs.declared.observed.Obs.TheVariants.{Rate, Event}
use Rattle.act_portfolio.specs.Reading.{Accepted}
use Rattle.act_print.specs.Conditions.{IsItem, IsJournal, IsNumberOf, IsStep}
use Rattle.act_print.specs.Faults.{lines_of}
use Rattle.act_print.specs.Printed.{printed_answer}
use Rattle.act_print.specs.Reading.{Lines, journal_at}
use Rattle.act_print.proofs.Bytes.{few_lines}
use Rattle.act_print.proofs.ItemLaws.{item_content}
use Rattle.act_print.proofs.Journals.{journal-is}
use Rattle.act_print.proofs.TranscriptLaws.{journal_lines, journal_reads}
use Rattle.act_profile.specs.Answers.{answers_of}
use Rattle.act_eval.specs.Evaluation.{eval_text, work_line}
use Rattle.act_transcript.specs.Text.{output_of}
use Rattle.act_eval.specs.Work.{work_of}

module _ (names : NameLists) where
  -- ---- its items

  all-items : (P : Item → Type 0) → ((item : Item) → IsItem names item → P item) → (items : List Item) → AllByRecursion (IsItem names) items → All P items
  all-items P each [] are = All-nil P
  all-items P each (item ∷ items) are = All-cons P item items (each item are.0) (all-items P each items are.1)

  is-less : (a b : ℕ) → a < b → nat_lt a b ≡ true
  is-less a b less = elim (cases_Bool (nat_lt a b)) [
    | inl is ↦ is
    | inr none ↦ absurd (omega (arith, ltb-false a b none, less))
  ]

  below : (all : List (List ℕ)) (number : ℕ) → IsNumberOf all number → nat_lt number (length all) ≡ true
  below all number is = is-less number (length all) (position-Some (bytes_eq _) all number [] is.place).0

  step-known : (step : Step) → IsStep names step → is_known names step ≡ true
  step-known (Append (Rate code day value)) is = below names.codes code is.0
  step-known (Append (Event contract kind day value)) is = below names.contracts contract is.0
  step-known (Ask AskAll) is = refl
  step-known (Ask (One contract)) is = below names.contracts contract is.0

  step-appends : (step : Step) → IsStep names step → appends_entry step ≡ true
  step-appends (Append (Rate code day value)) is = refl
  step-appends (Append (Event contract kind day value)) is = is.3
  step-appends (Ask asked) is = refl

  pub read-items : (bytes : List ℕ) (items : List Item) (rest : Lines) → length bytes ≤ most_text → journal_at names (lines_of bytes) ≡ Ok (items, rest) → AreItems names items
  read-items bytes items rest within e =
      let taken = (journal_reads names).takes (lines_of bytes) items rest e in
      record {
        from_one = all-items (λ item. 1 ≤ item.caller) (λ item is. is.caller_from) items taken.1.1;
        to_most = all-items (λ item. item.caller ≤ 16) (λ item is. is.caller_to) items taken.1.1;
        known = all-items (λ item. is_known names item.step ≡ true) (λ item is. step-known item.step is.step) items taken.1.1;
        entries = all-items (λ item. appends_entry item.step ≡ true) (λ item is. step-appends item.step is.step) items taken.1.1;
        few = omega (arith, ap length taken.0, length-append (journal_lines names items) rest, length-map items (item_content names), few_lines bytes, within);
      }

  -- ---- texts of it

  -- what stands in front of the line of work, and that line
  work-cut : (bytes : List ℕ) → (more : List ℕ) × (text_in bytes ++ more ≡ bytes)
  work-cut bytes = by (has_work_line bytes)
    where
      by : (b : Bool) → (more : List ℕ) × ((if b then take (last_line_at bytes) bytes else bytes) ++ more ≡ bytes)
      by true = (drop (last_line_at bytes) bytes, take-append-drop (last_line_at bytes) bytes)
      by false = ([], append-nil bytes)

  -- the text of a journal with whatever answers
  pub text-begins : (bytes : List ℕ) (items : List Item) → IsTextOfJournal names (text_in bytes) items → (rest : Lines) × (journal_at names (lines_of bytes) ≡ Ok (items, rest))
  text-begins bytes items is =
      let cut = work-cut bytes in
      let journal : IsJournal names is.printed.items = record { few = is.text.conditions.few; each = is.text.conditions.items } in
      subst (λ (is : List Item). (rest : Lines) × (journal_at names (lines_of bytes) ≡ Ok (is, rest))) is.journal
      (journal-is names is.printed.items is.printed.answers cut.0 bytes journal (ap (λ (bs : List ℕ). bs ++ cut.0) is.text.text ∙ cut.1))

  -- the right text
  pub right-begins : (portfolio : Accepted) (items : List Item) (has_work : Bool) (bytes : List ℕ) → IsJournal names items → bytes ≡ right_text portfolio names items has_work → (rest : Lines) × (journal_at names (lines_of bytes) ≡ Ok (items, rest))
  right-begins portfolio items has_work bytes journal is =
      let cut = by (has_work && is_of_one_caller items) in
      journal-is names items (map printed_answer (answers_of portfolio.contracts names items)) cut.0 bytes journal (cut.1 ∙ sym is)
    where
      by : (b : Bool) → (more : List ℕ) × (output_of portfolio names items ++ more ≡ (if b then eval_text portfolio names items else output_of portfolio names items))
      by true = (work_line (work_of portfolio items), refl)
      by false = ([], append-nil (output_of portfolio names items))
