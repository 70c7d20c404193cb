-- What the statuses of audits tell.
use Rattle.std.proofs.Common.{◌≡◌, inl, inr, None, Some, Ok, refl, sym, ap, subst, ◌∙◌}
use Rattle.act_engine.specs.Ending.{words_meaning}
use Rattle.act_engine.specs.Reading.{Done, and_then, file_reading}
use Rattle.act_engine.specs.Telling.{IsOfText, IsRegular}
use Rattle.act_engine.proofs.Telling.{ends-as-told, regular-then, tells-faults}
use Rattle.act_io.specs.Page.{written_on}
use Rattle.act_job.specs.Reading.{portfolio_reading, scripts_reading, weighed}
use Rattle.act_job.specs.Scripts.{no_scripts}
use Rattle.act_job.proofs.Regular.{regular-portfolio, regular-scripts, regular-weighed}
use Rattle.act_audit.specs.Audit.{audit_meaning, weighed_text, with_text}
use Rattle.act_audit.specs.Laws.{AuditsEndAsTold, StatusesTellFaults, VerdictsAreTold}
use Rattle.act_audit.specs.Text.{most_text}
use Rattle.act_audit.specs.Verdict.{verdict_line, verdict_status}
use Rattle.act_audit.specs.Words.{AuditFiles, usage}
use Rattle.act_audit.specs.declared.verdict.Verdict.{Verdict}
use Rattle.act_audit.specs.declared.verdict.Verdict.TheVariants.{Right, Wrong, Disorder}
use Rattle.act_audit.proofs.OneVerdict.{one-verdict}

of-verdict : (verdict : Verdict) → IsOfText (verdict_status verdict)
of-verdict (Right answers) = inl refl
of-verdict (Wrong line) = inr (inl refl)
of-verdict (Disorder line caller) = inr (inl refl)

regular-audit : (files : AuditFiles) → IsRegular (audit_meaning files)
regular-audit files =
    record {
      reading = regular-then (portfolio_reading files.portfolio) (λ p. and_then (file_reading files.text most_text) (λ text. and_then (scripts_reading p (no_scripts p) files.scripts) (weighed_text p text))) (regular-portfolio files.portfolio)
          (λ p text. regular-then (scripts_reading p (no_scripts p) files.scripts) (weighed_text p text) (regular-scripts p (no_scripts p) files.scripts)
          (λ scripts. regular-then (weighed 0 p scripts) (λ job. Done (with_text text job)) (regular-weighed 0 p scripts) (λ job. tt)));
      statuses = λ job outcome hands is. subst IsOfText (sym is.status) (of-verdict is.verdict);
    }

pub statuses-tell-faults : StatusesTellFaults
statuses-tell-faults None before status after = tells-faults words_meaning usage before status None after (record { reading = tt; statuses = λ value outcome hands is. absurd is })
statuses-tell-faults (Some files) before status after = tells-faults (audit_meaning files) usage before status None after (regular-audit files)

pub audits-end-as-told : AuditsEndAsTold
audits-end-as-told files before status after = ends-as-told (audit_meaning files) usage before status None after (regular-audit files)

pub verdicts-are-told : VerdictsAreTold
verdicts-are-told files job verdict before status after told so ended =
    elim (audits-end-as-told files before status after ended (Ok job) told) [
      | inl (outcome, is, whole) ↦
          let one : is.verdict ≡ verdict = one-verdict job is.verdict verdict is.is_so so in
          inl (whole.status_is ∙ (is.status ∙ ap verdict_status one), whole.put ∙ ap (written_on before.page) (is.text ∙ ap verdict_line one))
      | inr fails ↦ inr fails
    ]
