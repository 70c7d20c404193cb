use Rattle.std.proofs.Common.{rules, ap, ◌∙◌, arith, ◌≡◌, ◌+◌, ◌<◌, ℕ, List, [], length, slice_get}
use Rattle.act_turn.specs.Standing.{Standing, first_standing}
use Rattle.act_turn.specs.Steps.{giver, newcomer}
use Rattle.act_turn.specs.Turn.{seen_of, standing_of}
use Rattle.act_turn.proofs.Places.{slice_push}
use Rattle.act_turn.proofs.Steps.{splitting}
use Rattle.act_turn.proofs.turn.Turn.seat_all.Goals as goal

pub split_seat-seat-requires : goal.split_seat-seat-requires
split_seat-seat-requires g c = let first = c.loop.invariant.first in let seats = ap (λ t. t.seats) c.self.view_is in let n = c.loop-test.true in let same = c.requires.turn.1 in
    let room : c.loop.counter < c.self.inside.table.shared.key.seats = omega arith in
    (search rules, search rules, splitting g.K.Kept.journal g.K.Kept.author _ _ c.loop.counter 1 (seen_of c.args.first.me.0.members) _ (ap (λ m. m.0.members) first) (ap (λ m. m.0.given) first) room)

pub loop-preserved : goal.loop-preserved
loop-preserved g c = let first = c.loop.invariant.first in let split = c.split_seat-seat.ensures in let xs = seen_of c.args.first.me.0.members in let id = c.args.self.now.id in let row = c.loop.passes.items in
    let long = c.loop.passes.ok.0 in let n = c.loop.invariant.count in let number : c.loop.counter + 1 ≡ length row + 2 = omega arith in
    let given : c.of.result ≡ first_standing id (length row + 2) xs =
    c.of.ensures ∙ ((λ i. standing_of ((split.3 ∙ c.loop.invariant.seat) i) ((split.4 ∙ ap (λ m. (newcomer m.0, [])) first) i).0) ∙ ap (λ (k : ℕ). first_standing id k xs) number) in
    let more = slice_push (λ k. first_standing id (k + 2) xs) row c.of.result (λ k l. c.loop.invariant.passes k (omega arith)) given in
    let len = c.push_reserved.ensures.len in record {
      first = split.2 ∙ ap (λ m. (giver m.0, m.1)) first;
      seat = search rules;
      count = omega arith;
      room = search rules;
      passes = λ k l. ap (λ (zs : List (Standing g.row.K-Entry.Denot)). slice_get zs k) c.push_reserved.ensures.items ∙ more k (omega arith);
    }
