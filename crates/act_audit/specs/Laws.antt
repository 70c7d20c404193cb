-- Laws on how audits end, and on what they compute. This profile's own.
use Rattle.std.specs.Prelude.{◌≡◌, ◌⊎◌, List, Option, Some, None, Ok}
use Rattle.act_engine.specs.Ending.{Outside}
use Rattle.act_engine.specs.Reading.{told}
use Rattle.act_engine.specs.Telling.{EndsAsTold, Fails, TellsFaults}
use Rattle.act_engine.specs.declared.status.Status.{Status}
use Rattle.act_io.specs.Page.{written_on}
use Rattle.act_eval.specs.Work.{work_of}
use Rattle.act_model.specs.declared.journal.Item.{Item}
use Rattle.act_audit.specs.Audit.{EndsAs, audit_meaning, audit_reading, rows_of_text}
use Rattle.act_audit.specs.Journal.{as_one_caller}
use Rattle.act_audit.specs.Verdict.{AuditJob, IsRightFor, IsVerdictOn, verdict_line, verdict_status}
use Rattle.act_audit.specs.Words.{AuditFiles, usage}
use Rattle.act_audit.specs.declared.verdict.Verdict.{Verdict}

-- the status of an audit, or of words of no form, tells what failed
abbrev pub StatusesTellFaults : Type 0
StatusesTellFaults = (files : Option AuditFiles) (before : Outside) (status : Status) (after : Outside) → EndsAs files before status after → TellsFaults before status after

-- where files tell their bytes, what these come to was written, unless something failed
abbrev pub AuditsEndAsTold : Type 0
AuditsEndAsTold =
    (files : AuditFiles) (before : Outside) (status : Status) (after : Outside) → EndsAs (Some files) before status after → EndsAsTold (audit_meaning files) usage before status None after

-- a verdict that is so of the text that the files tell was written, as `right` of one that is right, unless something failed
abbrev pub VerdictsAreTold : Type 0
VerdictsAreTold =
    (files : AuditFiles) (job : AuditJob) (verdict : Verdict) (before : Outside) (status : Status) (after : Outside) → told before.world.content (audit_reading files) ≡ Some (Ok job) → IsVerdictOn job verdict
    → EndsAs (Some files) before status after
    → ((status ≡ verdict_status verdict) × (after.page ≡ written_on before.page (verdict_line verdict))) ⊎ Fails before status after

-- for a right text so many rows are computed as `eval` computes for the steps of its journal, made by one caller
abbrev pub RightTextsCountAsEval : Type 0
RightTextsCountAsEval = (job : AuditJob) (items : List Item) → IsRightFor job items → rows_of_text job ≡ work_of job.portfolio (as_one_caller items)
