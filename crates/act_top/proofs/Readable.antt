-- What commands write can be read back.
use Rattle.std.proofs.Common.{◌≡◌, ℕ, zero, suc, ◌+◌, ◌-◌, ◌*◌, ◌<◌, ◌≤◌, Bool, true, false, not, inl, inr, List, [], ◌∷◌, ◌++◌, length, get_or, map, count_by, codes, refl, sym, ap, subst, ◌∙◌, arith}
use Rattle.std.specs.Prelude.{◌==◌}
use Rattle.std.specs.List.{All, filter}
use Rattle.std.specs.Str.{bytes_eq}
use Rattle.std.proofs.lemmas.Bool.{cases_Bool, ltb-true}
use Rattle.std.proofs.lemmas.Bool.Decides.{nat_tests}
use Rattle.std.proofs.lemmas.List.{length-map}
use Rattle.std.proofs.lemmas.List.Elements.{All-filter, filter_passes, recursion_from_All}
use Rattle.std.proofs.lemmas.List.Filters.{length-filter_both}
use Rattle.std.proofs.lemmas.List.Sums.{get_or-le-sum_by, length-filter}
use Rattle.std.proofs.lemmas.Option.{slice_get-get_or}
use Rattle.act_eval.proofs.Asks.{appends, asks}
use Rattle.act_eval.proofs.Light.{few-in-each}
use Rattle.act_history.specs.History.{journal_of}
use Rattle.act_job.specs.Job.{IsRunnable, Job}
use Rattle.act_job.specs.Scripts.{Scripts}
use Rattle.act_model.specs.Bounds.{StepIsBounded}
use Rattle.act_model.specs.Journal.{appends_entry, is_known}
use Rattle.act_model.specs.Names.{AreNames, NameLists}
use Rattle.act_model.specs.declared.journal.Asked.TheVariants.{All as EachOne, One}
use Rattle.act_model.specs.declared.journal.Item.{Item}
use Rattle.act_model.specs.declared.journal.Line.{Line}
use Rattle.act_model.specs.declared.journal.Step.{Step}
use Rattle.act_model.specs.declared.journal.Step.TheVariants.{Append, Ask}
use Rattle.act_model.specs.declared.observed.Obs.TheVariants.{Event, Rate}
use Rattle.act_portfolio.specs.Reading.{Accepted}
use Rattle.act_print.specs.Conditions.{ContractsNamed, IsItem, IsJournal, IsStep}
use Rattle.act_print.specs.Faults.{IsOnlyTextOf, IsTextOf}
use Rattle.act_print.specs.Printed.{printed_answer}
use Rattle.act_print.proofs.Journals.{one-journal}
use Rattle.act_print.proofs.Whole.{one_text}
use Rattle.act_profile.specs.Answers.{answers_of}
use Rattle.act_session.specs.Interleaving.{IsInterleaving, items_by, steps_by, steps_of}
use Rattle.act_session.proofs.Interleaved.{interleaved-all}
use Rattle.act_transcript.specs.Text.{items_of, output_of, transcript_of}
use Rattle.act_transcript.proofs.Readable.{number-of, transcript-is}
use Rattle.act_top.specs.Laws.{DeskIsReadBack, EvalIsReadBack, TextsHaveOneJournal}
use Rattle.act_top.proofs.Interleavings.{in-turn-of-one}

-- ---- how many items there are

abbrev mine : ℕ → Item → Bool
mine caller item = item.caller == caller

fewer : (p q : Item → Bool) (items : List Item) → length (filter p (filter q items)) ≤ length (filter p items)
fewer p q [] = omega arith
fewer p q (item ∷ items) =
    let rest = fewer p q items in
    elim (cases_Bool (q item)) [
      | inl is ↦ rw is (elim (cases_Bool (p item)) [ inl one ↦ rw one (omega (arith, rest)) | inr none ↦ rw none rest ])
      | inr isnt ↦ rw isnt (elim (cases_Bool (p item)) [ inl one ↦ rw one (omega (arith, rest)) | inr none ↦ rw none rest ])
    ]

below-last : (caller n : ℕ) → not (caller == suc n) ≡ true → caller ≤ suc n → caller ≤ n
below-last caller n apart to = grind (arith, nat_tests)

-- callers are numbered from 1 up to a number
abbrev AreUpTo : ℕ → List Item → Type 0
AreUpTo n items = All (λ (item : Item). (1 ≤ item.caller) × (item.caller ≤ n)) items

others-up-to : (n : ℕ) (items : List Item) → AreUpTo (suc n) items → AreUpTo n (filter (λ (item : Item). not (mine (suc n) item)) items)
others-up-to n items all k d within =
    let other = λ (item : Item). not (mine (suc n) item) in
    let is = All-filter other (λ (item : Item). (1 ≤ item.caller) × (item.caller ≤ suc n)) items all k d within in
    (is.0, below-last _ n (filter_passes other items k d within) is.1)

-- where each of n callers has at most so many items, there are at most n times as many
spread : (most n : ℕ) (items : List Item) → AreUpTo n items → ((caller : ℕ) → 1 ≤ caller → caller ≤ n → length (filter (mine caller) items) ≤ most) → length items ≤ n * most
spread most zero [] all each = omega arith
spread most zero (item ∷ items) all each = let is = all 0 item (omega arith) in absurd (omega (arith, is.0, is.1))
spread most (suc n) items all each =
    let other = λ (item : Item). not (mine (suc n) item) in
    let split = length-filter_both (mine (suc n)) other (λ item. refl) items in
    let rest = spread most n (filter other items) (others-up-to n items all)
    (λ caller from to. omega (arith, fewer (mine caller) other items, each caller from (omega (arith, to)))) in
    omega (arith, split, rest, each (suc n) (omega arith) (omega arith))

module _ (portfolio : Accepted) (scripts : Scripts) (workers : ℕ) (ready : IsRunnable portfolio scripts workers) where
  -- a script has few lines
  few-lines : (k : ℕ) → k < length scripts.lists → length (get_or scripts.lists k []) ≤ 5_242_880
  few-lines k within =
      let lines = get_or scripts.lists k [] in
      let split = length-filter_both appends asks (λ line. refl) lines in
      omega (
        arith,
        split,
        length-filter appends lines,
        length-filter asks lines,
        few-in-each portfolio scripts.lists ready.light k [] within,
        get_or-le-sum_by (count_by appends) scripts.lists k [] within,
        ready.lines.counted,
        ready.lines.few,
      )

  module _ (items : List Item) (of : IsInterleaving scripts.lists items) where
    few-of : (caller : ℕ) → 1 ≤ caller → caller ≤ length scripts.lists → length (items_by caller items) ≤ 5_242_880
    few-of caller from to =
        let place = caller - 1 in
        let there : place < length scripts.lists = omega (arith, from, to) in
        let lines = get_or scripts.lists place [] in
        let number : place + 1 ≡ caller = omega (arith, from) in
        let steps : steps_by items caller ≡ steps_of lines = subst (λ (c : ℕ). steps_by items c ≡ steps_of lines) number (of.steps place lines (slice_get-get_or scripts.lists place [] there)) in
        omega (arith, few-lines place there, ap length steps, length-map (items_by caller items) (λ (item : Item). item.step), length-map lines (λ (line : Line). line.step))

    few-items : length items ≤ length scripts.lists * 5_242_880
    few-items = spread 5_242_880 (length scripts.lists) items of.callers few-of

-- ---- journals

module _ (names : NameLists) (contracts : AreNames names.contracts) (market : AreNames names.codes) (no_star : All (λ (name : List ℕ). bytes_eq name (codes "*") ≡ false) names.contracts) where
  -- a step that names what there is, with a day and a number, can be printed
  step-is : (step : Step) → is_known names step ≡ true → appends_entry step ≡ true → StepIsBounded step → IsStep names step
  step-is (Append (Rate code day value)) known entry bounded = (number-of names.codes code market (ltb-true code (length names.codes) known), bounded.0, bounded.1)
  step-is (Append (Event contract kind day value)) known entry bounded =
      (number-of names.contracts contract contracts (ltb-true contract (length names.contracts) known), bounded.0, bounded.1, entry)
  step-is (Ask EachOne) known entry bounded = tt
  step-is (Ask (One contract)) known entry bounded =
      let below = ltb-true contract (length names.contracts) known in
      (number-of names.contracts contract contracts below, rw (slice_get-get_or names.contracts contract [] below) (no_star contract [] below))

-- the journal of a job that can be run can be printed
pub journal-can : (portfolio : Accepted) (scripts : Scripts) (workers : ℕ) (items : List Item) → IsRunnable portfolio scripts workers → IsInterleaving scripts.lists items → IsJournal scripts.names items
journal-can portfolio scripts workers items ready of =
    let names = scripts.names in
    let readable = ready.readable in
    record {
      few = omega (arith, few-items portfolio scripts workers ready items of, ready.few_scripts);
      each = recursion_from_All (IsItem names) items (λ k d within. record {
        caller_from = (of.callers k d within).0;
        caller_to = omega (arith, (of.callers k d within).1, ready.few_scripts);
        step = step-is names readable.contracts_named readable.codes_named readable.no_star (get_or items k d).step
            (interleaved-all (λ (step : Step). is_known names step ≡ true) scripts.lists items of ready.lines.known k d within)
            (interleaved-all (λ (step : Step). appends_entry step ≡ true) scripts.lists items of ready.lines.entries k d within)
            (interleaved-all StepIsBounded scripts.lists items of readable.bounded k d within);
      });
    }

-- ---- texts

contracts-named : (names : NameLists) → AreNames names.contracts → ContractsNamed names
contracts-named names are contract below = (number-of names.contracts contract are below).name

-- what is written of the journal of a job that can be run is its text alone
only-text : (job : Job) (items : List Item) → IsRunnable job.portfolio job.scripts job.workers → IsInterleaving job.scripts.lists items →
    IsOnlyTextOf job.scripts.names (output_of job.portfolio job.scripts.names items) (transcript_of job.portfolio job.scripts.names items)
only-text job items ready of =
    let names = job.scripts.names in
    let readable = ready.readable in
    let text : IsTextOf names (output_of job.portfolio names items) (transcript_of job.portfolio names items) = record {
      conditions = transcript-is job.portfolio names items readable.codes_named readable.currencies_named readable.printable (journal-can job.portfolio job.scripts job.workers items ready of);
      text = refl;
    } in
    record {
      text = text;
      only = λ other is. one_text names (output_of job.portfolio names items) other (transcript_of job.portfolio names items) (contracts-named names readable.contracts_named) is text;
    }

pub texts-have-one-journal : TextsHaveOneJournal
texts-have-one-journal job another one other board second_board is also portfolio named same =
    let names = job.scripts.names in
    let first = journal_of is.history in
    let second = journal_of also.history in
    let written : output_of another.portfolio another.scripts.names second ≡ output_of job.portfolio names second = rw (portfolio, named) refl in
    let texts = sym is.text ∙ (same ∙ (also.text ∙ written)) in
    let can : IsJournal names second = subst (λ (n : NameLists). IsJournal n second) named
    (journal-can another.portfolio another.scripts another.workers second also.runnable also.played.interleaved) in
    one-journal names first second (map printed_answer (answers_of job.portfolio.contracts names first)) (map printed_answer (answers_of job.portfolio.contracts names second)) [] []
    (journal-can job.portfolio job.scripts job.workers first is.runnable is.played.interleaved) can
    (ap (λ (text : List ℕ). text ++ []) texts)

pub eval-is-read-back : EvalIsReadBack
eval-is-read-back job outcome board is =
    let items = items_of is.lines in
    let of : IsInterleaving job.scripts.lists items = subst (λ (lists : List (List Line)). IsInterleaving lists items) (sym is.one) (in-turn-of-one is.lines) in
    (output_of job.portfolio job.scripts.names items, rw is.is refl, only-text job items is.runnable of)

pub desk-is-read-back : DeskIsReadBack
desk-is-read-back job outcome board is =
    subst (λ (text : List ℕ). IsOnlyTextOf job.scripts.names text (transcript_of job.portfolio job.scripts.names (journal_of is.history))) (sym is.text)
    (only-text job (journal_of is.history) is.runnable is.played.interleaved)
