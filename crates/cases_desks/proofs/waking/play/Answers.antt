use Rattle.std.proofs.Common.{◌≡◌, ℕ, ◌+◌, ◌<◌, List, length, get_or, arith, rules, subst, ap, ◌∙◌}
use Rattle.act_board.specs.declared.history.Entry.{Entry}
use Rattle.act_turn.specs.Standing.{Standing}
use Rattle.cases_desks.specs.Caller.{IsFirst}
use Rattle.cases_desks.proofs.Playing.{first-pass}
use Rattle.cases_desks.proofs.waking.play.Goals as goal

pub for_each_mut-requires-clause-accepts : goal.for_each_mut-requires-clause-accepts
for_each_mut-requires-clause-accepts g c κs within = λ i p below at.
    let some : i < length c.in-Ok.passes.items = omega (arith, below, c.as_mut_slice.ensures.len) in
    let count : length c.deref.result.now ≡ c.args.crew.callers = omega (arith, c.in_ok-quotas.ensures.count) in (
      (
        omega (arith, some, c.in-Ok.ensures.seats, count, c.requires.few, c.requires.few_workers),
        subst (λ (n : ℕ). IsFirst c.in-Ok.desk n (i + 1) p.now) count
            (first-pass c.in-Ok.desk _ _ _ _ i c.in-Ok.ensures.portfolio some c.in-Ok.ensures.passes (at ∙ ap (λ (xs : List (Standing Entry)). get_or xs i p.now) c.as_mut_slice.ensures.value)),
      ),
      search rules,
    )
