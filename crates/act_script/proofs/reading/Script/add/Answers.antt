use Rattle.std.proofs.Common.{subst, sym}
use Rattle.act_script.specs.Reading.{AddsCodes}
use Rattle.act_script.proofs.Adding.{adds_form, codes_by_entries, entries_within}
use Rattle.act_script.proofs.reading.Script.add.Goals as goal

pub returns-in_err-self-clause-names : goal.returns-in_err-self-clause-names
returns-in_err-self-clause-names c =
    subst (AddsCodes c.args.names.now) (sym c.in_ok-step.ensures.names) (adds_form c.in_ok-form.form c.args.names.now)

pub returns-in-Ok-clause-names : goal.returns-in-Ok-clause-names
returns-in-Ok-clause-names c =
    subst (AddsCodes c.args.names.now) (sym c.in_ok-step.ensures.names) (adds_form c.in_ok-form.form c.args.names.now)

pub returns-in-Ok-clause-few_codes : goal.returns-in-Ok-clause-few_codes
returns-in-Ok-clause-few_codes c =
    rw c.in_ok-step.ensures.names
    (codes_by_entries c.in_ok-form.form c.args.names.now c.args.kinds.now c.args.number c.args.self.now.entries c.in_ok-self.field-0 c.in_ok-step.step (c.in_ok-step.ensures.step (λ e. cc)) c.in_ok-self.ensures)

pub returns-in-Ok-clause-few_entries : goal.returns-in-Ok-clause-few_entries
returns-in-Ok-clause-few_entries c = entries_within c.args.number c.args.self.now.entries c.in_ok-self.field-0 c.in_ok-step.step c.in_ok-self.ensures

pub returns-in-Err-clause-names : goal.returns-in-Err-clause-names
returns-in-Err-clause-names c =
    subst (AddsCodes c.args.names.now) (sym c.in_ok-step.ensures.names) (adds_form c.in_ok-form.form c.args.names.now)

pub returns-in-Err-clause-few_entries : goal.returns-in-Err-clause-few_entries
returns-in-Err-clause-few_entries c = entries_within c.args.number c.args.self.now.entries c.in_ok-self.field-0 c.in_ok-step.step c.in_ok-self.ensures
