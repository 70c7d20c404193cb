-- A right text is that of its scripts.
use Rattle.std.proofs.Common.{◌≡◌, ◌≤◌, ◌<◌, ◌^◌, ℕ, ◌&&◌, ◌++◌, Bool, true, false, List, [], ◌∷◌, if◌then◌else◌, length, map, refl, sym, ap, ◌∙◌, append-nil, arith}
use Rattle.std.proofs.lemmas.List.{length-map}
use Rattle.std.proofs.lemmas.List.Elements.{recursion_from_All}
use Rattle.act_audit.specs.Journal.{is_of_one_caller, right_text}
use Rattle.act_audit.specs.Order.{IsOfScripts}
use Rattle.act_audit.specs.Text.{has_work_line}
use Rattle.act_audit.specs.Verdict.{RightIsOfScripts, names_of}
use Rattle.act_audit.proofs.Named.{names-stay}
use Rattle.act_model.specs.Journal.{is_known}
use Rattle.act_model.specs.Names.{NameLists}
use Rattle.act_model.specs.declared.journal.Item.{Item}
use Rattle.act_model.specs.declared.journal.Line.{Line}
use Rattle.act_model.specs.declared.journal.Step.{Step}
use Rattle.act_portfolio.specs.Reading.{Accepted}
use Rattle.act_print.specs.Printed.{printed_answer}
use Rattle.act_profile.specs.Answers.{answers_of}
use Rattle.act_session.specs.Interleaving.{IsInterleaving}
use Rattle.act_session.proofs.Interleaved.{interleaved-all}
use Rattle.act_transcript.proofs.JournalAnswers.{answers-few}
use Rattle.act_eval.specs.Evaluation.{eval_text, work_line}
use Rattle.act_transcript.specs.Text.{output_of}
use Rattle.act_eval.specs.Work.{work_of}

-- the right text, with what stands behind its answers
behind : (portfolio : Accepted) (names : NameLists) (items : List Item) (has_work : Bool) → (more : List ℕ) × (output_of portfolio names items ++ more ≡ right_text portfolio names items has_work)
behind portfolio names items has_work = by (has_work && is_of_one_caller items)
  where
    by : (b : Bool) → (more : List ℕ) × (output_of portfolio names items ++ more ≡ (if b then eval_text portfolio names items else output_of portfolio names items))
    by true = (work_line (work_of portfolio items), refl)
    by false = ([], append-nil (output_of portfolio names items))

given-scripts : (scripts : List (List Line)) (items : List Item) → 1 ≤ length scripts → IsOfScripts scripts items → IsInterleaving scripts items
given-scripts [] items some of = absurd (omega (arith, some))
given-scripts (script ∷ scripts) items some of = of

pub right-of-scripts : RightIsOfScripts
right-of-scripts job answers scripts given is =
    let items = is.items in
    let names = names_of job in
    let interleaved = given-scripts job.scripts.lists items given is.of_scripts in
    let known = recursion_from_All (λ (item : Item). is_known job.scripts.names item.step ≡ true) items
    (interleaved-all (λ (step : Step). is_known job.scripts.names step ≡ true) job.scripts.lists items interleaved scripts.known) in
    let more = behind job.portfolio names items (has_work_line job.text) in
    let replies = answers_of job.portfolio.contracts names items in
    let few : length (map printed_answer replies) < 2 ^ 64 = omega (arith, length-map replies printed_answer, answers-few job.portfolio.contracts names items, is.right.journal.few) in
    let same = names-stay job.scripts.names items (map printed_answer replies) more.0 job.text is.right.journal.few few is.right.journal.each known (more.1 ∙ sym is.right.same) in
    (items, interleaved, is.right.same ∙ ap (λ (n : NameLists). right_text job.portfolio n items (has_work_line job.text)) same)
