use Rattle.std.proofs.Common.{◌≡◌, ◌+◌, ℕ, List, true, if◌then◌else◌, ap, sym, subst, ◌∙◌}
use Rattle.act_audit.specs.Journal.{is_of_one_caller, right_text}
use Rattle.act_audit.proofs.ByCaller.{one-steps}
use Rattle.act_audit.proofs.Rights.{alone-is, on_sheet, same-steps, several-is}
use Rattle.act_audit.proofs.right.write_right.Goals as goal
use Rattle.act_engine.specs.Writing.{StopsIn, Writes}
use Rattle.act_engine.proofs.Texts.{writes-part}
use Rattle.act_eval.specs.Evaluation.{Evaluation, eval_text}
use Rattle.act_eval.specs.Work.{work_of}
use Rattle.act_io.specs.Page.{written_on}
use Rattle.act_model.specs.declared.journal.Item.{Item}
use Rattle.act_transcript.specs.Text.{items_of, output_of}

-- the text of the lines is that of the one caller's journal
alone-text : (e : Evaluation) (items : List Item) (with_work : _) → items_of e.lines ≡ items → is_of_one_caller items ≡ true
    → (if with_work then eval_text e.portfolio e.names (items_of e.lines) else output_of e.portfolio e.names (items_of e.lines)) ≡ right_text e.portfolio e.names items with_work
alone-text e items with_work steps one =
    ap (λ (is : List Item). if with_work then eval_text e.portfolio e.names is else output_of e.portfolio e.names is) steps ∙ alone-is e.portfolio e.names items with_work one

pub returns-in_err-write_alone-clause-text : goal.returns-in_err-write_alone-clause-text
returns-in_err-write_alone-clause-text g c =
    let items = c.args.items.now in
    let one : is_of_one_caller items ≡ true = sym c.is_of_one_caller.ensures ∙ c.if-not-is_of_one_caller.false in
    let text = alone-text c.args.evaluation.now items c.args.with_work (ap items_of c.requires.script ∙ (one-steps 2 items ∙ same-steps items one)) one in
    let stop = c.in_err-write_alone.field-0.0 in
    writes-part c.from_residual.result stop _ _ _ c.from_residual.ensures.1
    (subst (λ (t : List ℕ). StopsIn stop t (on_sheet c.args.sheet.now) (on_sheet c.write_alone.new.sheet)) text c.in_err-write_alone.ensures.text)

pub returns-then-not-is_of_one_caller-clause-text : goal.returns-then-not-is_of_one_caller-clause-text
returns-then-not-is_of_one_caller-clause-text g c =
    let e = c.args.evaluation.now in
    subst (λ (t : List ℕ). Writes t (on_sheet c.args.sheet.now) c.write_several.result (on_sheet c.write_several.new.sheet))
    (several-is e.portfolio e.names c.args.items.now c.args.with_work (sym c.is_of_one_caller.ensures ∙ c.if-not-is_of_one_caller.true)) c.write_several.ensures.text

pub returns-clause-text : goal.returns-clause-text
returns-clause-text g c =
    let items = c.args.items.now in
    let one : is_of_one_caller items ≡ true = sym c.is_of_one_caller.ensures ∙ c.if-not-is_of_one_caller.false in
    let text = alone-text c.args.evaluation.now items c.args.with_work (ap items_of c.requires.script ∙ (one-steps 2 items ∙ same-steps items one)) one in
    subst (λ (t : List ℕ). on_sheet c.write_alone.new.sheet ≡ written_on (on_sheet c.args.sheet.now) t) text c.in_ok-write_alone.ensures.text

pub returns-clause-ticked : goal.returns-clause-ticked
returns-clause-ticked g c =
    subst (λ (is : List Item). c.write_alone.new.steps ≡ c.args.steps.now + work_of c.args.evaluation.now.portfolio is)
    (ap items_of c.requires.script ∙ one-steps 2 c.args.items.now) c.in_ok-write_alone.ensures.ticked
