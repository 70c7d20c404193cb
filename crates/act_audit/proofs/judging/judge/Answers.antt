use Rattle.std.proofs.Common.{◌≤◌, ◌+◌, ℕ, length, sym, ap, ◌∙◌, arith}
use Rattle.std.specs.Arc.{arc_value}
use Rattle.std.proofs.lemmas.Result.{IfOk-weaker}
use Rattle.act_audit.specs.Audit.{with_text}
use Rattle.act_audit.specs.Text.{journal_lines, most_text}
use Rattle.act_audit.proofs.Journals.{read-items}
use Rattle.act_audit.proofs.Judged.{counted-of, no-text-of, none-counted, none-of, parts-of, said-of, same-contracts}
use Rattle.act_audit.proofs.Rights.{whatever}
use Rattle.act_audit.proofs.judging.judge.Goals as goal
use Rattle.act_job.specs.Job.{IsRunnable, Job}
use Rattle.act_job.specs.Scripts.{Scripts}
use Rattle.act_script.specs.Asks.{line_lists}

pub judge_journal-requires-clause-items : goal.judge_journal-requires-clause-items
judge_journal-requires-clause-items g c =
    let read = rw c.in-Some.is at c.in_ok-items.ensures in
    let within : length c.job.inside.text.items ≤ most_text = c.job.invariant in
    read-items c.in_ok-names.names c.deref-2.result.now c.in-Some.items.items read.0 (omega (arith, within, ap length c.deref-2.ensures.value)) read.1

pub judge_journal-requires-clause-contracts : goal.judge_journal-requires-clause-contracts
judge_journal-requires-clause-contracts g c =
    let ready : IsRunnable (arc_value c.job-2.inside.portfolio) c.job-2.inside.scripts c.job-2.inside.workers = c.job-2.invariant in
    ap (λ (n : _). n.contracts) c.in_ok-names.ensures ∙ (same-contracts c.scripts.inside.names (journal_lines c.deref.result.now)
    ∙ (ap (λ (s : Scripts). s.names.contracts) c.scripts.view_is ∙ ready.lines.contracts))

pub no_text-requires-clause-none : goal.no_text-requires-clause-none
no_text-requires-clause-none g c =
    let read = rw c.in-None.is at c.in_ok-items.ensures in
    no-text-of c.in_ok-names.names c.deref-2.result.now c.deref-in-None.result.now read.0 (c.deref-2.ensures.value ∙ sym c.deref-in-None.ensures.value) read.1

pub returns-in-Some-clause-verdict : goal.returns-in-Some-clause-verdict
returns-in-Some-clause-verdict g c =
    let read = rw c.in-Some.is at c.in_ok-items.ensures in
    let is = ap (λ (j : Job). with_text c.job.inside.text.items j) c.job-2.view_is ∙ c.job.view_is in
    let of = parts-of c.args.job (arc_value c.job-2.inside.portfolio) c.job-2.inside.scripts _ c.scripts.inside.names c.in_ok-names.names _ _ c.deref.result.now is c.scripts.view_is c.in_ok-names.ensures c.deref.ensures.value in
    IfOk-weaker c.judge_journal.result _ _ (λ verdict said.
    said-of c.args.job _ _ _ _ of c.deref-2.result.now c.deref-in-Some.result.now (line_lists c.deref-in-Some-2.result.now) c.in-Some.items.items read.0 verdict c.deref-2.ensures.value read.1 c.deref-in-Some.ensures.value (ap line_lists c.deref-in-Some-2.ensures.value) said)
    c.judge_journal.ensures.verdict

pub returns-in-Some-clause-rows : goal.returns-in-Some-clause-rows
returns-in-Some-clause-rows g c =
    let read = rw c.in-Some.is at c.in_ok-items.ensures in
    let is = ap (λ (j : Job). with_text c.job.inside.text.items j) c.job-2.view_is ∙ c.job.view_is in
    let of = parts-of c.args.job (arc_value c.job-2.inside.portfolio) c.job-2.inside.scripts _ c.scripts.inside.names c.in_ok-names.names _ _ c.deref.result.now is c.scripts.view_is c.in_ok-names.ensures c.deref.ensures.value in
    IfOk-weaker c.judge_journal.result _ _ (λ verdict told.
    told ∙ ap (λ (rows : ℕ). c.args.steps.now + rows) (counted-of c.args.job _ _ _ _ of c.deref-2.result.now c.in-Some.items.items read.0 c.deref-2.ensures.value read.1))
    c.judge_journal.ensures.rows

pub returns-clause-verdict : goal.returns-clause-verdict
returns-clause-verdict g c =
    let read = rw c.in-None.is at c.in_ok-items.ensures in
    let is = ap (λ (j : Job). with_text c.job.inside.text.items j) c.job-2.view_is ∙ c.job.view_is in
    let of = parts-of c.args.job (arc_value c.job-2.inside.portfolio) c.job-2.inside.scripts _ c.scripts.inside.names c.in_ok-names.names _ _ c.deref.result.now is c.scripts.view_is c.in_ok-names.ensures c.deref.ensures.value in
    IfOk-weaker c.no_text.result _ _ (λ verdict said. none-of c.args.job _ _ _ _ of c.deref-2.result.now c.deref-in-None.result.now read.0 verdict c.deref-2.ensures.value read.1 c.deref-in-None.ensures.value said) c.no_text.ensures

pub returns-clause-rows : goal.returns-clause-rows
returns-clause-rows g c =
    let read = rw c.in-None.is at c.in_ok-items.ensures in
    let is = ap (λ (j : Job). with_text c.job.inside.text.items j) c.job-2.view_is ∙ c.job.view_is in
    let of = parts-of c.args.job (arc_value c.job-2.inside.portfolio) c.job-2.inside.scripts _ c.scripts.inside.names c.in_ok-names.names _ _ c.deref.result.now is c.scripts.view_is c.in_ok-names.ensures c.deref.ensures.value in
    whatever c.no_text.result _ (omega (arith, none-counted c.args.job _ _ _ _ of c.deref-2.result.now read.0 c.deref-2.ensures.value read.1))
