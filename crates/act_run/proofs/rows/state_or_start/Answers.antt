use Rattle.std.proofs.Common.{◌≡◌, ℕ, suc, take, Ok, subst, arith}
use Rattle.act_profile.specs.Steps.{start_of}
use Rattle.act_run.specs.Resuming.{state_or_start}
use Rattle.act_run.proofs.Resumed.{behind_last}
use Rattle.act_run.proofs.rows.state_or_start.Goals as goal

pub returns-in-Some : goal.returns-in-Some
returns-in-Some g c =
    let start = start_of c.args.inputs.now.terms c.args.inputs.now.plan in
    let count : suc c.in-Some.last ≡ c.args.count = omega (arith, c.in-Some.ensures.0, c.in-Some.ensures.1) in
    subst (λ (n : ℕ). Ok c.row.result.state ≡ state_or_start start (take n c.args.rows.now)) count (behind_last start c.args.rows.now c.in-Some.last c.row.result c.row.ensures)
