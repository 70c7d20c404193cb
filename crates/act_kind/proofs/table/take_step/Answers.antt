use Rattle.act_kind.proofs.table.take_step.Goals as goal

pub returns : goal.returns
returns g c = λ children line accrual. rw c.with_state.ensures (c.advance-taken.ensures children line accrual)
