use Rattle.std.proofs.Common.{Result, map, string_bytes}
use Rattle.act_audit.specs.Audit.{weighed_text, with_text}
use Rattle.act_audit.specs.Verdict.{AuditJob}
use Rattle.act_audit.proofs.job.AuditJob.with_scripts.Goals as goal
use Rattle.act_audit.proofs.job.AuditJob.with_scripts.Goals.{In-Ok}
use Rattle.act_engine.specs.Reading.{Done, Halt, Reads, and_then, halt_of}
use Rattle.act_engine.proofs.Reading.{reads_halt, reads_next, reads_value}
use Rattle.act_io.specs.World.{World}
use Rattle.act_job.specs.Job.{Job}
use Rattle.act_job.specs.Reading.{scripts_reading}
use Rattle.act_job.specs.Scripts.{no_scripts}

-- what is read of the scripts, and then behind them
scripts-first : (g : _) (c : In-Ok g) (result : Result AuditJob Halt) (after : World) → Reads (weighed_text c.args.portfolio c.args.text.items c.in-Ok.scripts) (g.F.Files.world c.read_scripts.new.files) result after
    → Reads (and_then (scripts_reading c.args.portfolio (no_scripts c.args.portfolio) (map string_bytes c.args.names.now)) (weighed_text c.args.portfolio c.args.text.items)) (g.F.Files.world c.args.files.now) result after
scripts-first g c result after rest = reads_next _ _ _ _ _ c.in-Ok.scripts _ c.in-Ok.ensures.read rest

pub returns-in-Ok-new : goal.returns-in-Ok-new
returns-in-Ok-new g c =
    scripts-first g (goal.at.returns-in-Ok-new g c).In-Ok _ _
    (reads_next _ (λ (job : Job). Done (with_text c.args.text.items job)) _ _ _ c.in-Ok-new.job _ (c.in-Ok-new.ensures.read (g.F.Files.world c.read_scripts.new.files)) (reads_value (with_text c.args.text.items c.in-Ok-new.job) _))

pub returns-in-Err-new : goal.returns-in-Err-new
returns-in-Err-new g c =
    scripts-first g (goal.at.returns-in-Err-new g c).In-Ok _ _
    (reads_halt _ (λ (job : Job). Done (with_text c.args.text.items job)) _ _ (halt_of c.in-Err-new.halt) (c.in-Err-new.ensures.read (g.F.Files.world c.read_scripts.new.files)))

pub returns-in-Err : goal.returns-in-Err
returns-in-Err g c =
    reads_halt (scripts_reading c.args.portfolio (no_scripts c.args.portfolio) (map string_bytes c.args.names.now)) (weighed_text c.args.portfolio c.args.text.items) _ _ (halt_of c.in-Err.halt) c.in-Err.ensures.read
