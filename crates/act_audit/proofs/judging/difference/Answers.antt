use Rattle.std.proofs.Common.{◌≡◌, ◌≢◌, Bool, List, ℕ, MatchOption, ap, subst, ◌∙◌}
use Rattle.act_audit.specs.Journal.{right_text}
use Rattle.act_audit.specs.Text.{first_difference}
use Rattle.act_audit.proofs.Rights.{never-fails, sheet-whole}
use Rattle.act_audit.proofs.judging.difference.Goals as goal

pub unreachable-requires : goal.unreachable-requires
unreachable-requires g c = never-fails _ _ _ (rw c.in-Err-Sink.field-0-is at c.in-Err-Sink.ensures.text)

pub returns-in-Ok-clause-line : goal.returns-in-Ok-clause-line
returns-in-Ok-clause-line g c =
    let e = c.args.evaluation.now in
    let text = c.args.text.now in
    let right : Bool → List ℕ = λ w. right_text e.portfolio e.names c.args.items.now w in
    let whole = sheet-whole c.write_right.new.sheet (right c.parts_of-with_work.result.has_work) (rw c.new-sheet.ensures at c.in-Ok.ensures.text) in
    subst (λ (t : List ℕ). MatchOption c.first_difference.result (text ≡ t) (λ line. (text ≢ t) × (line ≡ first_difference text t))) (c.parts.ensures ∙ (whole ∙ ap right c.parts_of-with_work.ensures.work)) c.first_difference.ensures
