use Rattle.std.proofs.Common.{◌≡◌, ◌+◌, Err, Ok, length, ap, arith, subst}
use Rattle.std.proofs.lemmas.List.{length-map}
use Rattle.act_engine.specs.Reading.{Reads, halt_of}
use Rattle.act_job.specs.Reading.{script_accepted}
use Rattle.act_job.specs.Scripts.{IsReadBehind, Scripts}
use Rattle.act_job.proofs.Going.{next-halts, next-there, next-wants}
use Rattle.act_job.proofs.Scripting.{more-are}
use Rattle.act_job.proofs.scripts.Scripts.with_bytes.Goals as goal

pub returns-in_err-script-clause-read : goal.returns-in_err-script-clause-read
returns-in_err-script-clause-read c = λ world.
    let p = c.args.portfolio.now in
    let number = c.len.result + 1 in
    let place : number ≡ length c.args.self.lists + 1 = omega (arith, c.len.ensures, ap (λ (s : Scripts). length s.lists) c.self.view_is, length-map c.self.inside.lists.items (λ script. script.items)) in
    let read = subst (λ (s : Scripts). Reads (script_accepted p number s.names s.entries c.args.bytes.now) world (Err (halt_of c.in_err-script.field-0.0)) world) c.self.view_is (c.in_err-script.ensures.read world) in
    next-halts p c.args.self number c.args.bytes.now world place c.in_err-script.field-0.0 c.from_residual.result c.from_residual.ensures.1 read

pub returns-in_err-with_script-clause-read : goal.returns-in_err-with_script-clause-read
returns-in_err-with_script-clause-read c = λ world.
    let p = c.args.portfolio.now in
    let number = c.len.result + 1 in
    let place : number ≡ length c.args.self.lists + 1 = omega (arith, c.len.ensures, ap (λ (s : Scripts). length s.lists) c.self.view_is, length-map c.self.inside.lists.items (λ script. script.items)) in
    let read = subst (λ (s : Scripts). Reads (script_accepted p number s.names s.entries c.args.bytes.now) world (Ok c.in_ok-script.script) world) c.self.view_is (c.in_ok-script.ensures.read world) in
    next-wants p c.args.self number c.args.bytes.now world place c.in_ok-script.script c.from_residual-in_err-with_script.result c.from_residual-in_err-with_script.ensures.1 read

pub returns-clause-read : goal.returns-clause-read
returns-clause-read c = λ world.
    let p = c.args.portfolio.now in
    let number = c.len.result + 1 in
    let place : number ≡ length c.args.self.lists + 1 = omega (arith, c.len.ensures, ap (λ (s : Scripts). length s.lists) c.self.view_is, length-map c.self.inside.lists.items (λ script. script.items)) in
    let read = subst (λ (s : Scripts). Reads (script_accepted p number s.names s.entries c.args.bytes.now) world (Ok c.in_ok-script.script) world) c.self.view_is (c.in_ok-script.ensures.read world) in
    next-there p c.args.self number c.args.bytes.now world place c.in_ok-script.script c.in_ok-with_script.field-0
    (rw (ap (λ (s : Scripts). s.lists) c.self.view_is) at c.in_ok-with_script.ensures) read

pub returns-clause-lines : goal.returns-clause-lines
returns-clause-lines c =
    let read = subst (λ (s : Scripts). IsReadBehind s.names s.entries c.in_ok-script.script) c.self.view_is c.in_ok-script.ensures.lines in
    rw (c.in_ok-with_script.ensures, ap (λ (s : Scripts). s.lists) c.self.view_is) (more-are c.args.portfolio.now c.args.self c.in_ok-script.script c.requires.lines read)
