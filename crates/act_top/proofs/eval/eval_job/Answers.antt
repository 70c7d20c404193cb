use Rattle.std.proofs.Common.{Err, Global, length, map, string_bytes, arith, sym, subst}
use Rattle.std.proofs.lemmas.List.{length-map}
use Rattle.act_engine.specs.Reading.{Reading, Reads, halt_of, read_of}
use Rattle.act_engine.specs.declared.halt.Halt.{Halt as HaltMade}
use Rattle.act_engine.proofs.Reading.{reads_next, want_at_once}
use Rattle.act_job.specs.Job.{Job}
use Rattle.act_job.specs.Reading.{portfolio_reading, weighed}
use Rattle.act_job.specs.Scripts.{Scripts, ask_for_all}
use Rattle.act_engine.proofs.Halts.{halts}
use Rattle.act_portfolio.specs.Reading.{Accepted}
use Rattle.act_top.proofs.Evals.{empty, none-named, some-named}
use Rattle.act_top.proofs.Wording.{not-empty}
use Rattle.act_top.proofs.eval.eval_job.Goals as goal

abbrev behind : Accepted → Reading Job
behind portfolio = weighed 0 portfolio (ask_for_all portfolio)

pub returns-then-not-is_empty-clause-read : goal.returns-then-not-is_empty-clause-read
returns-then-not-is_empty-clause-read g c =
    let scripts = c.args.scripts.now in
    let some = not-empty (length scripts) c.is_empty.result c.is_empty.ensures c.if-not-is_empty.true in
    let named = some-named c.args.portfolio.now (map string_bytes scripts) (omega (arith, length-map scripts (string_bytes {Z = Global}), some)) in
    subst (λ (r : Reading Job). Reads r (g.F.Files.world c.args.files.now) (read_of c.read.result) (g.F.Files.world c.read.new.files)) (sym named) c.read.ensures.read

pub returns-in_err-portfolio-clause-read : goal.returns-in_err-portfolio-clause-read
returns-in_err-portfolio-clause-read g c =
    let scripts = c.args.scripts.now in
    let before = g.F.Files.world c.args.files.now in
    let after = g.F.Files.world c.read_portfolio.new.files in
    let named = none-named c.args.portfolio.now (map string_bytes scripts) (omega (arith, length-map scripts (string_bytes {Z = Global}), empty (length scripts) c.is_empty.result c.is_empty.ensures c.if-not-is_empty.false)) in
    subst (λ (r : Reading Job). Reads r before (read_of c.from_residual.result) after) (sym named)
    (halts (portfolio_reading c.args.portfolio.now) behind before after c.in_err-portfolio.field-0.0 c.from_residual.result c.from_residual.ensures.1 c.in_err-portfolio.ensures)

pub returns-in-Ok-clause-read : goal.returns-in-Ok-clause-read
returns-in-Ok-clause-read g c =
    let scripts = c.args.scripts.now in
    let before = g.F.Files.world c.args.files.now in
    let after = g.F.Files.world c.read_portfolio.new.files in
    let named = none-named c.args.portfolio.now (map string_bytes scripts) (omega (arith, length-map scripts (string_bytes {Z = Global}), empty (length scripts) c.is_empty.result c.is_empty.ensures c.if-not-is_empty.false)) in
    let p = c.in_ok-portfolio.portfolio in
    let next = subst (λ (s : Scripts). Reads (weighed 0 p s) after (read_of c.new.result) after) c.in-Ok.ensures.scripts (c.new.ensures.read after) in
    subst (λ (r : Reading Job). Reads r before (read_of c.new.result) after) (sym named)
    (reads_next (portfolio_reading c.args.portfolio.now) behind before after after p (read_of c.new.result) c.in_ok-portfolio.ensures next)

pub returns-in-Err-clause-read : goal.returns-in-Err-clause-read
returns-in-Err-clause-read g c =
    let scripts = c.args.scripts.now in
    let before = g.F.Files.world c.args.files.now in
    let after = g.F.Files.world c.read_portfolio.new.files in
    let named = none-named c.args.portfolio.now (map string_bytes scripts) (omega (arith, length-map scripts (string_bytes {Z = Global}), empty (length scripts) c.is_empty.result c.is_empty.ensures c.if-not-is_empty.false)) in
    let p = c.in_ok-portfolio.portfolio in
    let next = subst (λ (h : HaltMade). Reads (behind p) after (Err (halt_of h)) after) (sym c.into.ensures) (want_at_once (behind p) after) in
    subst (λ (r : Reading Job). Reads r before (Err (halt_of c.into.result)) after) (sym named)
    (reads_next (portfolio_reading c.args.portfolio.now) behind before after after p (Err (halt_of c.into.result)) c.in_ok-portfolio.ensures next)
