use Rattle.std.proofs.Common.{◌≡◌, ℕ, ◌-◌, ◌<◌, length, get_or, sym, arith, rules}
use Rattle.std.proofs.lemmas.List.{length-map}
use Rattle.std.proofs.lemmas.Option.{get_or_from_slice_get, slice_get_within}
use Rattle.act_session.specs.Playing.{lines_of}
use Rattle.act_session.specs.declared.actor.Actor.{Actor}
use Rattle.act_session.proofs.Closed.{first-at}
use Rattle.act_session.proofs.Lists.{turned-read}
use Rattle.act_session.proofs.Playing.{played-at}
use Rattle.act_session.proofs.threads.play_all.Goals as goal

pub for_each_mut-requires-clause-accepts : goal.for_each_mut-requires-clause-accepts
for_each_mut-requires-clause-accepts g c κs within = λ i p below at.
    let inside : i < length c.args.actors.now = omega (arith, below, c.reverse.ensures.len) in
    let behind : length c.args.actors.now - 1 - i < length c.args.actors.now = omega (arith, inside) in
    let count = length-map c.args.actors.now (λ (a : Actor g.row.A.Denot). a.pass) in (
      inside,
      (
        c.requires.scripts,
        (
          first-at c.args.actors.now (length c.args.actors.now - 1 - i) p.now _ behind (turned-read c.args.actors.now c.reverse.new.self i p.now c.reverse.ensures.after inside at)
              (c.requires.first (length c.args.actors.now - 1 - i) (omega (arith, behind, count))),
          (search rules, search rules, search rules),
        ),
      ),
    )

pub returns : goal.returns
returns g c = λ place actor at.
    let inside : place < length c.for_each_mut.new.s = omega (arith, slice_get_within c.reverse-2.new.self place actor at, c.reverse-2.ensures.len) in
    let count : length c.for_each_mut.new.s ≡ length c.args.actors.now = omega (arith, c.for_each_mut.auto.s, c.reverse.ensures.len) in
    let turned : ℕ = length c.for_each_mut.new.s - 1 - place in
    let read : actor ≡ get_or c.for_each_mut.new.s turned actor =
    turned-read c.for_each_mut.new.s c.reverse-2.new.self place actor c.reverse-2.ensures.after inside (sym (get_or_from_slice_get c.reverse-2.new.self place actor actor at)) in
    let changed = (c.for_each_mut.ensures turned actor (omega (arith, inside, count, c.reverse.ensures.len))).1 in
    played-at c.args.desk.now (lines_of c.args.scripts.now) place (length c.args.actors.now - 1 - turned) actor changed.after_call.now (get_or c.for_each_mut.new.s turned actor) changed.left read (omega (arith, inside, count)) changed.call
