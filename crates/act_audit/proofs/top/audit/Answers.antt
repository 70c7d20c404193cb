use Rattle.std.proofs.Common.{◌≡◌, List, None, ℕ, refl, subst, ◌∙◌}
use Rattle.act_audit.specs.Audit.{IsAudit, audit_meaning, rows_of_text}
use Rattle.act_audit.proofs.Goings.{audit-part, audit-wants, audited, outcome_of}
use Rattle.act_audit.proofs.top.audit.Goals as goal
use Rattle.act_audit.proofs.top.audit.Goals.{In_ok-line, Start}
use Rattle.act_engine.specs.Ending.{Goes, Outside}
use Rattle.act_engine.specs.Reading.{halt_of}
use Rattle.act_engine.specs.Writing.{StopsIn}
use Rattle.act_engine.proofs.Ending.{goes-halt, goes-whole}
use Rattle.act_io.specs.Page.{written_on}
use Rattle.act_engine.proofs.Halts.{passed}

-- what is outside at first
abbrev before : (g : _) (c : Start g) → Outside
before g c = record { world = g.F.Files.world c.args.files.now; page = g.K.Sink.page c.args.out.now; rows = c.args.steps.now }

pub returns-in_err-job : goal.returns-in_err-job
returns-in_err-job g c =
    let first = before g (goal.at.returns-in_err-job g c).Start in
    let after : Outside = record first { world = g.F.Files.world c.read.new.files } in
    passed c.from_residual.result c.in_err-job.field-0.0 (λ read. Goes (audit_meaning c.args.words.now) first read None after) c.from_residual.ensures.1
    (goes-halt (audit_meaning c.args.words.now) first after (halt_of c.in_err-job.field-0.0) c.in_err-job.ensures refl refl)

pub returns-in_err-verdict : goal.returns-in_err-verdict
returns-in_err-verdict g c = audit-wants c.args.words.now _ _ c.in_ok-job.job c.from_residual-in_err-verdict.result c.from_residual-in_err-verdict.ensures.1 c.in_ok-job.ensures refl

pub returns-in_err-line : goal.returns-in_err-line
returns-in_err-line g c = audit-wants c.args.words.now _ _ c.in_ok-job.job c.from_residual-in_err-line.result c.from_residual-in_err-line.ensures.1 c.in_ok-job.ensures refl

-- the verdict that is so is the outcome
is-audit : (g : _) (c : In_ok-line g) → IsAudit c.in_ok-job.job (outcome_of c.in_ok-verdict.verdict (rows_of_text c.in_ok-job.job))
is-audit g c = audited c.in_ok-job.job c.in_ok-verdict.verdict c.in_ok-verdict.ensures.verdict

pub returns-in_err-write_text : goal.returns-in_err-write_text
returns-in_err-write_text g c =
    let behind = goal.at.returns-in_err-write_text g c in
    let after : Outside = record { world = g.F.Files.world c.read.new.files; page = g.K.Sink.page c.write_text.new.out; rows = c.judge.new.steps } in
    let stop = c.in_err-write_text.field-0.0 in
    let part = subst (λ (text : List ℕ). StopsIn stop text (g.K.Sink.page c.args.out.now) after.page) (c.deref.ensures.value ∙ c.in_ok-line.ensures) c.in_err-write_text.ensures in
    audit-part c.args.words.now (before g behind.Start) after c.in_ok-job.job c.in_ok-verdict.verdict (rows_of_text c.in_ok-job.job) stop c.from_residual-in_err-write_text.result c.from_residual-in_err-write_text.ensures.1 c.in_ok-job.ensures
    (is-audit g behind.In_ok-line) part

pub returns : goal.returns
returns g c =
    let put = subst (λ (text : List ℕ). g.K.Sink.page c.write_text.new.out ≡ written_on (g.K.Sink.page c.args.out.now) text) (c.deref.ensures.value ∙ c.in_ok-line.ensures) c.in_ok-write_text.ensures in
    goes-whole (audit_meaning c.args.words.now) _ _ c.in_ok-job.job (outcome_of c.in_ok-verdict.verdict (rows_of_text c.in_ok-job.job)) c.status.result None c.in_ok-job.ensures (is-audit g (goal.at.returns g c).In_ok-line) c.status.ensures put c.in_ok-verdict.ensures.rows
