-- What is said of a text.
use Rattle.std.proofs.Common.{◌≡◌, ◌≢◌, ◌⊎◌, ℕ, ◌+◌, ◌≤◌, arith, inl, inr, List, [], ◌∷◌, length, None, Some, Ok, Err, refl, sym, ap, subst, ◌∙◌}
use Rattle.act_audit.specs.Audit.{rows_for, rows_of_text, rows_within}
use Rattle.act_audit.specs.Journal.{IsTextOfJournal, as_one_caller, first_past, right_text}
use Rattle.act_audit.specs.Judging.{IsOrdered, IsRightText, IsVerdictFor}
use Rattle.act_audit.specs.Laws.{RightTextsCountAsEval}
use Rattle.act_audit.specs.Order.{IsFirstDisorder, IsOfScripts}
use Rattle.act_audit.proofs.Orders.{no-disorder}
use Rattle.act_session.specs.Interleaving.{IsInterleaving}
use Rattle.act_audit.specs.Text.{code_in_line, first_difference, has_work_line, names_for, text_in, with_code, with_codes}
use Rattle.act_audit.specs.Verdict.{AuditJob, IsOutOfOrder, IsRight, IsRightFor, IsVerdictOn, IsWrong, RightTextsHaveOneJournal, names_of}
use Rattle.act_audit.specs.declared.verdict.Verdict.{Verdict}
use Rattle.act_audit.specs.declared.verdict.Verdict.TheVariants.{Right, Wrong, Disorder}
use Rattle.act_audit.proofs.Journals.{right-begins, text-begins}
use Rattle.act_model.specs.Names.{NameLists}
use Rattle.act_model.specs.declared.journal.Item.{Item}
use Rattle.act_model.specs.declared.journal.Line.{Line}
use Rattle.act_portfolio.specs.Reading.{Accepted}
use Rattle.act_print.specs.Faults.{IsFirstFault, IsTextOf, lines_of}
use Rattle.act_print.specs.Printed.{Transcript}
use Rattle.act_print.specs.Reading.{Lines, Reading, journal_at}
use Rattle.act_print.proofs.Journals.{one-read, read-journal}
use Rattle.act_job.specs.Scripts.{Scripts}
use Rattle.act_eval.specs.Work.{work_of}

-- the contracts of names with more codes
pub same-contracts : (names : NameLists) (lines : List (List ℕ)) → (with_codes names lines).contracts ≡ names.contracts
same-contracts names [] = refl
same-contracts names (line ∷ lines) = same-contracts (with_code names (code_in_line line)) lines ∙ by (code_in_line line)
  where
    by : (code : _) → (with_code names code).contracts ≡ names.contracts
    by None = refl
    by (Some code) = refl

-- a text whose journal is too much isn't right: it is no text, or it is too much in that line
pub past-verdict : (portfolio : Accepted) (names : NameLists) (text : List ℕ) (scripts : List (List Line)) (items : List Item) (line : ℕ) → first_past portfolio items ≡ Some line → (verdict : Verdict)
    → (here : ℕ) × (verdict ≡ Wrong here) × (IsFirstFault names (text_in text) here ⊎ (((printed : Transcript) × IsTextOf names (text_in text) printed) × (here ≡ line)))
    → IsVerdictFor portfolio names text scripts items verdict
past-verdict portfolio names text scripts items line past verdict told =
    subst (IsVerdictFor portfolio names text scripts items) (sym told.1) (
      (λ right. absurd (let never = sym past ∙ right.within in cc)),
      elim told.2 [
        | inl fault ↦ inl fault
        | inr text-is ↦ inr (text-is.0, inl (past ∙ ap Some (sym text-is.1)))
      ],
    )

-- the parts of what is to be judged, and the names that its text is read with
pub record IsOf (job : AuditJob) (portfolio : Accepted) (names : NameLists) (text : List ℕ) (lists : List (List Line)) : Type 0 where
  pub portfolio_is : portfolio ≡ job.portfolio
  pub names_are : names ≡ names_of job
  pub text_is : text ≡ job.text
  pub lists_are : lists ≡ job.scripts.lists

pub parts-of : (job : AuditJob) (portfolio : Accepted) (scripts : Scripts) (lists : List (List Line)) (names more : NameLists) (entries : ℕ) (text read : List ℕ) → ◌≡◌ {A = AuditJob} (record { portfolio = portfolio; text = text; scripts = scripts }) job
    → ◌≡◌ {A = Scripts} (record { lists = lists; names = names; entries = entries }) scripts → more ≡ names_for names read → read ≡ text → IsOf job portfolio more text lists
parts-of job portfolio scripts lists names more entries text read is scripts-are more-are read-is = record {
  portfolio_is = ap (λ (j : AuditJob). j.portfolio) is;
  names_are = more-are ∙ (ap (names_for names) read-is ∙ (ap (λ (s : Scripts). names_for s.names text) scripts-are ∙ ap (λ (j : AuditJob). names_for j.scripts.names j.text) is));
  text_is = ap (λ (j : AuditJob). j.text) is;
  lists_are = ap (λ (s : Scripts). s.lists) scripts-are ∙ ap (λ (j : AuditJob). j.scripts.lists) is;
}

not-read : (names : NameLists) (lines left : Lines) (others : List Item) (more : Lines) → journal_at names lines ≡ Err left → journal_at names lines ≡ Ok (others, more) → ⊥
not-read names lines left others more is also = let h = sym is ∙ also in absurd (cc)

module _ (job : AuditJob) where
  abbrev pub lines : Lines
  lines = lines_of job.text

  abbrev pub reads : List Item → Type 0
  reads items = (rest : Lines) × (journal_at (names_of job) lines ≡ Ok (items, rest))

  -- a right text begins with its journal
  pub right-reads : (items : List Item) → IsRightFor job items → reads items
  right-reads items right = right-begins (names_of job) job.portfolio items (has_work_line job.text) job.text right.journal right.same

  -- a text that begins with no journal
  pub none-right : (left : Lines) → journal_at (names_of job) lines ≡ Err left → (line : ℕ) → IsFirstFault (names_of job) (text_in job.text) line → IsWrong job line
  none-right left is line fault = record {
    not_right = λ items right. let read = right-reads items right in not-read (names_of job) lines left items read.0 is read.1;
    here = inl fault;
  }

  module _ (items : List Item) (rest : Lines) (is : journal_at (names_of job) lines ≡ Ok (items, rest)) where
    right-for : IsRightText job.portfolio (names_of job) job.text items → IsRightFor job items
    right-for right = record { journal = read-journal (names_of job) job.text items rest is; within = right.within; same = right.same }

    pub the-same : (others : List Item) → reads others → others ≡ items
    the-same others read = sym (one-read (names_of job) lines items others rest read.0 is read.1)

    -- what is said of a text that begins with a journal is so
    pub so-said : (verdict : Verdict) → IsVerdictFor job.portfolio (names_of job) job.text job.scripts.lists items verdict → IsVerdictOn job verdict
    so-said (Right answers) said = record { items = items; right = right-for said.0; of_scripts = said.1.0; count = said.1.1 }
    so-said (Disorder line caller) said = record { given = said.1.0; items = items; right = right-for said.0; disorder = said.1.1 }
    so-said (Wrong line) said = record {
      not_right = λ others right.
          let same = the-same others (right-reads others right) in
          said.0 (subst (λ (is : List Item). IsRightText job.portfolio (names_of job) job.text is) same (record { within = right.within; same = right.same }));
      here = elim said.1 [
        | inl fault ↦ inl fault
        | inr differs ↦
            let printed = differs.0.0 in
            let mine : IsTextOfJournal (names_of job) (text_in job.text) printed.items = record { printed = printed; text = differs.0.1; journal = refl } in
            inr (record { items = items; journal = record { printed = printed; text = differs.0.1; journal = the-same printed.items (text-begins (names_of job) job.text printed.items mine) }; here = differs.1 })
      ];
    }

-- a right text of scripts isn't out of order
of-given : (scripts : List (List Line)) (items : List Item) → 1 ≤ length scripts → IsOfScripts scripts items → IsInterleaving scripts items
of-given [] items given of = absurd (omega (arith, given))
of-given (script ∷ scripts) items given of = of

pub right-in-order : (job : AuditJob) (answers line caller : ℕ) → IsRight job answers → IsOutOfOrder job line caller → ⊥
right-in-order job answers line caller right out =
    let read = right-reads job right.items right.right in
    let same : out.items ≡ right.items = the-same job right.items read.0 read.1 out.items (right-reads job out.items out.right) in
    no-disorder job.scripts.lists right.items (of-given job.scripts.lists right.items out.given right.of_scripts) line caller (subst (λ (is : List Item). IsFirstDisorder job.scripts.lists is line caller) same out.disorder)

-- ---- the same of the parts

module _ (job : AuditJob) (portfolio : Accepted) (names : NameLists) (text : List ℕ) (lists : List (List Line)) (of : IsOf job portfolio names text lists) where
  read-of : (bytes : List ℕ) (r : Reading (List Item)) → bytes ≡ text → journal_at names (lines_of bytes) ≡ r → journal_at (names_of job) (lines_of job.text) ≡ r
  read-of bytes r same is = ap (λ (n : NameLists). journal_at n (lines_of job.text)) (sym of.names_are) ∙ (ap (λ (bs : List ℕ). journal_at names (lines_of bs)) (sym (same ∙ of.text_is)) ∙ is)

  verdict-of : (bytes : List ℕ) (read : List (List Line)) (items : List Item) (verdict : Verdict) → bytes ≡ text → read ≡ lists → IsVerdictFor portfolio names bytes read items verdict
      → IsVerdictFor job.portfolio (names_of job) job.text job.scripts.lists items verdict
  verdict-of bytes read items verdict same lists-are said =
      let one = subst (λ (p : Accepted). IsVerdictFor p names bytes read items verdict) of.portfolio_is said in
      let two = subst (λ (n : NameLists). IsVerdictFor job.portfolio n bytes read items verdict) of.names_are one in
      let three = subst (λ (bs : List ℕ). IsVerdictFor job.portfolio (names_of job) bs read items verdict) (same ∙ of.text_is) two in
      subst (λ (ls : List (List Line)). IsVerdictFor job.portfolio (names_of job) job.text ls items verdict) (lists-are ∙ of.lists_are) three

  pub said-of : (found bytes : List ℕ) (read : List (List Line)) (items : List Item) (rest : Lines) (verdict : Verdict) → found ≡ text → journal_at names (lines_of found) ≡ Ok (items, rest) → bytes ≡ text → read ≡ lists
      → IsVerdictFor portfolio names bytes read items verdict → IsVerdictOn job verdict
  said-of found bytes read items rest verdict found-is is same lists-are said = so-said job items rest (read-of found (Ok (items, rest)) found-is is) verdict (verdict-of bytes read items verdict same lists-are said)

  -- so many rows are computed as the journal that is read takes
  pub counted-of : (found : List ℕ) (items : List Item) (rest : Lines) → found ≡ text → journal_at names (lines_of found) ≡ Ok (items, rest)
      → rows_within portfolio items (first_past portfolio items) ≡ rows_of_text job
  counted-of found items rest found-is is =
      ap (λ (p : Accepted). rows_within p items (first_past p items)) of.portfolio_is ∙ sym (ap (rows_for job.portfolio) (read-of found (Ok (items, rest)) found-is is))

  -- and none where none is read
  pub none-counted : (found : List ℕ) (left : Lines) → found ≡ text → journal_at names (lines_of found) ≡ Err left → rows_of_text job ≡ 0
  none-counted found left found-is is = ap (rows_for job.portfolio) (read-of found (Err left) found-is is)

  pub none-of : (found bytes : List ℕ) (left : Lines) (verdict : Verdict) → found ≡ text → journal_at names (lines_of found) ≡ Err left → bytes ≡ text
      → (line : ℕ) × (verdict ≡ Wrong line) × IsFirstFault names (text_in bytes) line → IsVerdictOn job verdict
  none-of found bytes left verdict found-is is same said =
      let fault = subst (λ (n : NameLists). IsFirstFault n (text_in job.text) said.0) of.names_are (subst (λ (bs : List ℕ). IsFirstFault names (text_in bs) said.0) (same ∙ of.text_is) said.2) in
      subst (λ (v : Verdict). IsVerdictOn job v) (sym said.1) (none-right job left (read-of found (Err left) found-is is) said.0 fault)

-- no text of a journal
pub no-text-of : (names : NameLists) (found bytes : List ℕ) (left : Lines) → found ≡ bytes → journal_at names (lines_of found) ≡ Err left → (items : List Item) → IsTextOfJournal names (text_in bytes) items → ⊥
no-text-of names found bytes left same is items text =
    let read = text-begins names bytes items text in
    not-read names (lines_of bytes) left items read.0 (ap (λ (bs : List ℕ). journal_at names (lines_of bs)) (sym same) ∙ is) read.1

-- no rows are computed where a journal is too much
pub past-counted : (portfolio : Accepted) (items : List Item) (line before : ℕ) → first_past portfolio items ≡ Some line → before ≡ before + rows_within portfolio items (first_past portfolio items)
past-counted portfolio items line before past = rw past (omega arith)

-- else those of its steps, made by one caller
pub within-counted : (portfolio : Accepted) (items : List Item) (before now : ℕ) → first_past portfolio items ≡ None → now ≡ before + work_of portfolio (as_one_caller items) → now ≡ before + rows_within portfolio items (first_past portfolio items)
within-counted portfolio items before now within ticked = rw within ticked

-- ---- laws

-- right texts of one job have one journal
pub right-texts-have-one-journal : RightTextsHaveOneJournal
right-texts-have-one-journal job items others is also = let read = right-reads job others also in the-same job others read.0 read.1 items (right-reads job items is)

-- so many rows are computed for a right text as `eval` computes
pub right-texts-count-as-eval : RightTextsCountAsEval
right-texts-count-as-eval job items is =
    let read = right-reads job items is in
    ap (rows_for job.portfolio) read.1 ∙ ap (rows_within job.portfolio items) is.within

-- ---- the verdict on a text that begins with a journal

module _ (portfolio : Accepted) (names : NameLists) (text : List ℕ) (scripts : List (List Line)) (items : List Item) (within : first_past portfolio items ≡ None) where
  abbrev wanted : List ℕ
  wanted = right_text portfolio names items (has_work_line text)

  -- one that differs from the right one isn't right
  pub differs-verdict : (line : ℕ) → (text ≢ wanted) × (line ≡ first_difference text wanted) → (verdict : Verdict)
      → (here : ℕ) × (verdict ≡ Wrong here) × (IsFirstFault names (text_in text) here ⊎ (((printed : Transcript) × IsTextOf names (text_in text) printed) × (here ≡ line)))
      → IsVerdictFor portfolio names text scripts items verdict
  differs-verdict line unlike verdict told =
      subst (IsVerdictFor portfolio names text scripts items) (sym told.1) (
        (λ right. unlike.0 right.same),
        elim told.2 [
          | inl fault ↦ inl fault
          | inr text-is ↦ inr (text-is.0, inr (within, text-is.1 ∙ unlike.1))
        ],
      )

  -- of the right one the order is told
  pub ordered-verdict : (verdict : Verdict) → text ≡ wanted → IsOrdered scripts items verdict → IsVerdictFor portfolio names text scripts items verdict
  ordered-verdict (Right answers) same ordered = (record { within = within; same = same }, ordered)
  ordered-verdict (Wrong line) same ordered = absurd ordered
  ordered-verdict (Disorder line caller) same ordered = (record { within = within; same = same }, ordered)
