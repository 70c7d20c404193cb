use Rattle.std.proofs.Common.{◌≡◌, ◌≢◌, ◌+◌, IfOk, List, None, Some, length, sym, ap, subst, ◌∙◌}
use Rattle.std.specs.Arc.{arc_value}
use Rattle.std.proofs.lemmas.Result.{IfOk-weaker}
use Rattle.act_audit.specs.Audit.{rows_within}
use Rattle.act_audit.specs.Journal.{as_one_caller, first_past, one_script, right_text}
use Rattle.act_audit.specs.Judging.{IsOrdered, IsVerdictFor, Journal}
use Rattle.act_audit.specs.Text.{first_difference, has_work_line}
use Rattle.act_audit.proofs.Judged.{differs-verdict, ordered-verdict, past-counted, past-verdict, within-counted}
use Rattle.act_audit.proofs.Readiness.{asks-below, ready-of}
use Rattle.act_audit.proofs.Rights.{whatever}
use Rattle.act_audit.proofs.judging.judge_journal.Goals as goal
use Rattle.act_audit.proofs.judging.judge_journal.Goals.{In_ok-line, In_ok-line-2}
use Rattle.act_eval.specs.Work.{work_of}
use Rattle.act_model.specs.Names.{NameLists}
use Rattle.act_model.specs.declared.journal.Item.{Item}
use Rattle.act_model.specs.declared.journal.Line.{Line}
use Rattle.act_portfolio.specs.Reading.{Accepted}
use Rattle.act_script.specs.Asks.{AsksBelow, line_lists}

pub first_past-requires-clause-contracts : goal.first_past-requires-clause-contracts
first_past-requires-clause-contracts g c =
    let p = arc_value c.args.portfolio.now in
    let lines : c.in_ok-lines.lines.items ≡ one_script c.args.journal.items = c.in_ok-lines.ensures ∙ (ap one_script c.deref.ensures.value ∙ ap (λ (j : Journal). one_script j.items) c.journal.view_is) in
    subst (λ (q : Accepted). AsksBelow (length q.names.contracts) c.in_ok-lines.lines.items) (sym c.deref-2.ensures)
    (subst (λ (ls : List Line). AsksBelow (length p.names.contracts) ls) (sym lines) (asks-below p c.args.journal.names c.args.journal.items c.requires.items c.requires.contracts))

-- the line that is past what may be asked
past-is : (g : _) (c : In_ok-line g) → c.in_ok-line.field-0 ≡ first_past (arc_value c.args.portfolio.now) c.args.journal.items
past-is g c =
    c.in_ok-line.ensures
    ∙ (ap (λ (p : Accepted). first_past p c.deref-3.result.now) c.deref-2.ensures ∙ ap (first_past (arc_value c.args.portfolio.now)) (c.deref-3.ensures.value ∙ ap (λ (j : Journal). j.items) c.journal.view_is))

-- the steps that are judged are those of the journal
items-are : (g : _) (c : In_ok-line-2 g) → c.deref-5.result.now ≡ c.args.journal.items
items-are g c = c.deref-5.ensures.value ∙ ap (λ (j : Journal). j.items) c.journal.view_is

-- the rows of one that isn't too much are computed
counted : (g : _) (c : In_ok-line-2 g) → first_past (arc_value c.args.portfolio.now) c.args.journal.items ≡ None
    → c.difference.new.steps ≡ c.args.steps.now + rows_within (arc_value c.args.portfolio.now) c.args.journal.items (first_past (arc_value c.args.portfolio.now) c.args.journal.items)
counted g c within =
    let p = arc_value c.args.portfolio.now in
    within-counted p c.args.journal.items c.args.steps.now c.difference.new.steps within
    (c.in_ok-line-2.ensures.ticked ∙ ap (λ (is : List Item). c.args.steps.now + work_of p (as_one_caller is)) (items-are g c))

pub invariant_of-evaluation : goal.invariant_of-evaluation
invariant_of-evaluation g c =
    ready-of (arc_value c.args.portfolio.now) c.args.journal c.journal.inside.names c.journal.inside.items.items c.deref.result.now c.deref-4.result.now c.journal.view_is c.deref.ensures.value (c.deref-4.ensures.value ∙ c.in_ok-lines.ensures)
    (sym (past-is g (goal.at.invariant_of-evaluation g c).In_ok-line) ∙ c.in_default.is) c.requires.items c.requires.contracts

pub returns-in-Some-clause-verdict : goal.returns-in-Some-clause-verdict
returns-in-Some-clause-verdict g c =
    let p = arc_value c.args.portfolio.now in
    let past : first_past p c.args.journal.items ≡ Some c.in-Some.line = sym (past-is g (goal.at.returns-in-Some-clause-verdict g c).In_ok-line) ∙ c.in-Some.is in
    let text = c.args.text.now in
    let scripts = line_lists c.args.scripts.now in
    subst (λ (names : NameLists). IfOk c.wrong_at.result (λ verdict. IsVerdictFor p names text scripts c.args.journal.items verdict)) (ap (λ (j : Journal). j.names) c.journal.view_is)
    (IfOk-weaker c.wrong_at.result _ _ (past-verdict p c.journal.inside.names text scripts c.args.journal.items c.in-Some.line past) c.wrong_at.ensures)

pub returns-in-Some-clause-rows : goal.returns-in-Some-clause-rows
returns-in-Some-clause-rows g c =
    whatever c.wrong_at.result _
    (past-counted (arc_value c.args.portfolio.now) c.args.journal.items c.in-Some.line c.args.steps.now (sym (past-is g (goal.at.returns-in-Some-clause-rows g c).In_ok-line) ∙ c.in-Some.is))

pub returns-in-Some-2-clause-verdict : goal.returns-in-Some-2-clause-verdict
returns-in-Some-2-clause-verdict g c =
    let names = c.journal.inside.names in
    let judged = goal.at.returns-in-Some-2-clause-verdict g c in
    let within = sym (past-is g judged.In_ok-line) ∙ c.in_default.is in
    let here = subst (λ (is : List Item). (c.args.text.now ≢ right_text (arc_value c.args.portfolio.now) names is (has_work_line c.args.text.now)) × (c.in-Some-2.line ≡ first_difference c.args.text.now (right_text (arc_value c.args.portfolio.now) names is (has_work_line c.args.text.now))))
    (items-are g judged.In_ok-line-2) (rw c.in-Some-2.is at c.in_ok-line-2.ensures.line) in
    subst (λ (n : NameLists). IfOk c.wrong_at-in-Some-2.result (λ verdict. IsVerdictFor (arc_value c.args.portfolio.now) n c.args.text.now (line_lists c.args.scripts.now) c.args.journal.items verdict)) (ap (λ (j : Journal). j.names) c.journal.view_is)
    (IfOk-weaker c.wrong_at-in-Some-2.result _ _ (differs-verdict _ _ _ _ _ within c.in-Some-2.line here) c.wrong_at-in-Some-2.ensures)

pub returns-in-Some-2-clause-rows : goal.returns-in-Some-2-clause-rows
returns-in-Some-2-clause-rows g c =
    let judged = goal.at.returns-in-Some-2-clause-rows g c in
    whatever c.wrong_at-in-Some-2.result _ (counted g judged.In_ok-line-2 (sym (past-is g judged.In_ok-line) ∙ c.in_default.is))

pub returns-clause-verdict : goal.returns-clause-verdict
returns-clause-verdict g c =
    let p = arc_value c.args.portfolio.now in
    let text = c.args.text.now in
    let names = c.journal.inside.names in
    let judged = goal.at.returns-clause-verdict g c in
    let same = subst (λ (is : List Item). text ≡ right_text p names is (has_work_line text)) (items-are g judged.In_ok-line-2) (rw c.in-None.is at c.in_ok-line-2.ensures.line) in
    let ordered = subst (λ (is : List Item). IsOrdered (line_lists c.args.scripts.now) is c.judge_order.result) (c.deref-in-None.ensures.value ∙ ap (λ (j : Journal). j.items) c.journal.view_is) c.judge_order.ensures in
    subst (λ (n : NameLists). IsVerdictFor p n text (line_lists c.args.scripts.now) c.args.journal.items c.judge_order.result) (ap (λ (j : Journal). j.names) c.journal.view_is)
    (ordered-verdict p names text (line_lists c.args.scripts.now) c.args.journal.items (sym (past-is g judged.In_ok-line) ∙ c.in_default.is) c.judge_order.result same ordered)

pub returns-clause-rows : goal.returns-clause-rows
returns-clause-rows g c =
    let judged = goal.at.returns-clause-rows g c in
    counted g judged.In_ok-line-2 (sym (past-is g judged.In_ok-line) ∙ c.in_default.is)
