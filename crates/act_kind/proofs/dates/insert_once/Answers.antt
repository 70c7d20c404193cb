use Rattle.std.proofs.Common.{◌≡◌, Some, ap, sym, ◌∙◌}
use Rattle.std.specs.List.{insert}
use Rattle.std.specs.Prelude.{slice_get}
use Rattle.act_kind.specs.Insertion.{earlier}
use Rattle.act_kind.proofs.Insertions.{inserted_new, inserted_old}
use Rattle.act_kind.proofs.dates.insert_once.Goals as goal

pub returns-then-is_at-clause-inserted : goal.returns-then-is_at-clause-inserted
returns-then-is_at-clause-inserted c =
    let found = rw (c.deref-2.ensures.value, c.place_of-place.ensures.place, c.deref.ensures.value) at (c.is_at.ensures.0 c.if-is_at.true) in
    sym (inserted_old c.args.date c.args.dates.now.items found)

pub returns-clause-inserted : goal.returns-clause-inserted
returns-clause-inserted c =
    let place : c.place_of-place.result ≡ earlier c.args.date c.args.dates.now.items = rw c.deref.ensures.value at c.place_of-place.ensures.place in
    let other : slice_get c.args.dates.now.items (earlier c.args.date c.args.dates.now.items) ≡ Some c.args.date → ⊥ =
    λ is. let never = c.is_at.ensures.1 (rw (c.deref-2.ensures.value, place) is) in cc in
    c.in_ok-insert.ensures.items ∙ ap (λ n. insert c.args.dates.now.items n c.args.date) place ∙ sym (inserted_new c.args.date c.args.dates.now.items other)
