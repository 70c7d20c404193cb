use Rattle.std.proofs.Common.{None, Option, refl, subst, sym, ◌∙◌}
use Rattle.act_audit.specs.Audit.{EndsAs, audit_meaning}
use Rattle.act_audit.specs.Words.{AuditFiles, usage}
use Rattle.act_audit.proofs.top.audit_top.Goals as goal
use Rattle.act_engine.specs.Ending.{Outside, words_meaning}
use Rattle.act_engine.specs.Reading.{Refused, halt_of}
use Rattle.act_engine.specs.Refusal.{Words}
use Rattle.act_engine.proofs.Ending.{ends-halt, ends-whole}
use Rattle.act_engine.proofs.Reading.{reads_refusal}

pub returns-in-Ok : goal.returns-in-Ok
returns-in-Ok g c =
    let before : Outside = record { world = g.F.Files.world c.args.files.now; page = g.K.Sink.page c.args.out.now; rows = c.args.steps.now } in
    let after : Outside = record { world = g.F.Files.world c.audit.new.files; page = g.K.Sink.page c.audit.new.out; rows = c.audit.new.steps } in
    subst (λ (w : Option AuditFiles). EndsAs w before c.in-Ok.status after) (sym c.in-Some.is ∙ c.of.ensures) (ends-whole (audit_meaning c.in-Some.words) usage before c.in-Ok.status None after c.in-Ok.ensures)

pub returns-in-Err : goal.returns-in-Err
returns-in-Err g c =
    let before : Outside = record { world = g.F.Files.world c.args.files.now; page = g.K.Sink.page c.args.out.now; rows = c.args.steps.now } in
    let middle : Outside = record { world = g.F.Files.world c.audit.new.files; page = g.K.Sink.page c.audit.new.out; rows = c.audit.new.steps } in
    let page = g.K.Sink.page c.stop.new.out in
    subst (λ (w : Option AuditFiles). EndsAs w before c.stop.result.status (record middle { page = page })) (sym c.in-Some.is ∙ c.of.ensures)
    (ends-halt (audit_meaning c.in-Some.words) usage before (halt_of c.in-Err.halt) c.stop.result.status middle page c.in-Err.ensures c.stop.ensures)

pub returns-in-None : goal.returns-in-None
returns-in-None g c =
    let before : Outside = record { world = g.F.Files.world c.args.files.now; page = g.K.Sink.page c.args.out.now; rows = c.args.steps.now } in
    let page = g.K.Sink.page c.stop-in-None.new.out in
    subst (λ (w : Option AuditFiles). EndsAs w before c.stop-in-None.result.status (record before { page = page })) (sym c.in-None.is ∙ c.of.ensures)
    (ends-halt words_meaning usage before (Refused Words) c.stop-in-None.result.status before page (reads_refusal Words before.world, refl, refl, refl) c.stop-in-None.ensures)
