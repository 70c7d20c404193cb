-- What an audit comes to.
use Rattle.std.proofs.Common.{◌≡◌, ℕ, Result, Ok, None, refl}
use Rattle.std.specs.Result.{IsErrAnd}
use Rattle.act_audit.specs.Audit.{IsAudit, audit_meaning, audit_reading, rows_of_text}
use Rattle.act_audit.specs.Verdict.{AuditJob, IsVerdictOn, verdict_line, verdict_status}
use Rattle.act_audit.specs.declared.verdict.Verdict.{Verdict}
use Rattle.act_audit.specs.Words.{AuditFiles}
use Rattle.act_engine.specs.Ending.{Goes, Outcome, Outside}
use Rattle.act_engine.specs.Reading.{Reads, read_of}
use Rattle.act_engine.specs.Writing.{StopsIn}
use Rattle.act_engine.specs.declared.halt.Halt.{Halt as HaltMade}
use Rattle.act_engine.specs.declared.halt.Halt.TheVariants as made
use Rattle.act_engine.specs.declared.status.Status.{Status}
use Rattle.act_engine.specs.declared.writing.Failure.{Failure}
use Rattle.act_engine.specs.declared.writing.Failure.TheVariants.{Memory}
use Rattle.act_engine.proofs.Ending.{goes-part, goes-want}
use Rattle.act_engine.proofs.Halts.{passed}

-- what is written of a verdict, where so many rows were computed
abbrev pub outcome_of : Verdict → ℕ → Outcome
outcome_of verdict rows = record { status = verdict_status verdict; text = verdict_line verdict; rows = rows }

-- of one that is so
pub audited : (job : AuditJob) (verdict : Verdict) → IsVerdictOn job verdict → IsAudit job (outcome_of verdict (rows_of_text job))
audited job verdict so = record { verdict = verdict; is_so = so; status = refl; text = refl; rows = refl }

module _ (files : AuditFiles) (before after : Outside) where
  -- memory ran out before anything was written
  pub audit-wants : (job : AuditJob) (r : Result Status HaltMade) → IsErrAnd r (λ halt. halt ≡ made.Stopped Memory) → Reads (audit_reading files) before.world (Ok job) after.world → after.page ≡ before.page
      → Goes (audit_meaning files) before (read_of r) None after
  audit-wants job r is reads same = passed r (made.Stopped Memory) (λ read. Goes (audit_meaning files) before read None after) is (goes-want (audit_meaning files) before after job reads same)

  -- what is written of a verdict was in part
  pub audit-part : (job : AuditJob) (verdict : Verdict) (rows : ℕ) (stop : Failure) (r : Result Status HaltMade) → IsErrAnd r (λ halt. halt ≡ made.Stopped stop) → Reads (audit_reading files) before.world (Ok job) after.world
      → IsAudit job (outcome_of verdict rows) → StopsIn stop (verdict_line verdict) before.page after.page → Goes (audit_meaning files) before (read_of r) None after
  audit-part job verdict rows stop r is reads so part =
      passed r (made.Stopped stop) (λ read. Goes (audit_meaning files) before read None after) is (goes-part (audit_meaning files) before after stop job (outcome_of verdict rows) None reads so part)
