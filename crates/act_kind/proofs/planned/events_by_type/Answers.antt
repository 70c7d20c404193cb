use Rattle.std.proofs.Common.{sym}
use Rattle.std.proofs.lemmas.Result.{err_from_is_err_and}
use Rattle.act_kind.proofs.TypesInTurn.{fault_all, fault_here, fault_there, taken_all, taken_answer, taken_fault, taken_one}
use Rattle.act_kind.proofs.planned.events_by_type.Goals as goal

pub returns-in_err-add_events-in-Ok-clause-fault : goal.returns-in_err-add_events-in-Ok-clause-fault
returns-in_err-add_events-in-Ok-clause-fault c =
    let p = err_from_is_err_and c.from_residual-in_err-add_events-in-Ok.result c.from_residual-in_err-add_events-in-Ok.ensures.1 in
    rw (p.1, p.2) (λ types are counted other. taken_fault _ _ _ c.types.answer-index c.in-Ok.dates _ types c.types.invariant c.types-test.true (rw c.in-Ok.is at (sym c.answer-item.is)) (rw c.deref.ensures.value at (c.in_err-add_events-in-Ok.ensures.fault other)) are)

pub returns-in-Err-clause-fault : goal.returns-in-Err-clause-fault
returns-in-Err-clause-fault c =
    λ types are counted other. taken_answer _ _ _ c.types.answer-index c.in-Err.fault types c.types.invariant c.types-test.true (rw c.in-Err.is at (sym c.answer-item.is)) are counted other

pub types-preserved : goal.types-preserved
types-preserved c =
    taken_one _ _ _ _ c.types.answer-index c.in-Ok.dates c.types.invariant c.types-test.true (rw c.in-Ok.is at (sym c.answer-item.is)) (rw c.deref.ensures.value at c.in_ok-add_events-in-Ok.ensures.added) (rw c.deref.ensures.value at c.in_ok-add_events-in-Ok.ensures.count) c.in_ok-add_events-in-Ok.ensures.within

pub returns-clause-events : goal.returns-clause-events
returns-clause-events c = λ types are. taken_all _ _ _ c.types.answer-index types c.types.invariant c.types-test.false are

pub returns-clause-no_fault : goal.returns-clause-no_fault
returns-clause-no_fault c = fault_all _ _ _ c.types.answer-index c.types.invariant c.types-test.false

pub returns-in-Err-clause-first_fault : goal.returns-in-Err-clause-first_fault
returns-in-Err-clause-first_fault c = λ other. fault_here _ _ _ c.types.answer-index c.in-Err.fault c.types.invariant c.types-test.true (rw c.in-Err.is at (sym c.answer-item.is))

pub returns-in_err-add_events-in-Ok-clause-first_fault : goal.returns-in_err-add_events-in-Ok-clause-first_fault
returns-in_err-add_events-in-Ok-clause-first_fault c =
    let p = err_from_is_err_and c.from_residual-in_err-add_events-in-Ok.result c.from_residual-in_err-add_events-in-Ok.ensures.1 in
    rw (p.1, p.2) (λ other. fault_there _ _ _ c.types.answer-index c.in-Ok.dates _ c.types.invariant c.types-test.true (rw c.in-Ok.is at (sym c.answer-item.is)) (rw c.deref.ensures.value at (c.in_err-add_events-in-Ok.ensures.fault other)))
