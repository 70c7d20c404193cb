use Rattle.std.proofs.Common.{◌≡◌, ◌+◌, ◌<◌, ◌≤◌, ℕ, Ok, [], length, ap, subst, ◌∙◌, arith, vec_capacity}
use Rattle.std.specs.Arc.{arc_value}
use Rattle.std.specs.List.{All}
use Rattle.act_portfolio.specs.Reading.{Accepted}
use Rattle.act_refs.specs.Ordered.{order_of}
use Rattle.act_refs.specs.Path.{child_lists}
use Rattle.act_keeping.specs.Latest.{NoneYet}
use Rattle.act_keeping.specs.Ready.{AreParents}
use Rattle.act_keeping.proofs.Opened.{board-fresh}
use Rattle.act_keeping.proofs.LatestRuns.{latest-fresh}
use Rattle.act_keeping.proofs.Readiness.{ready-fresh}
use Rattle.act_board.proofs.board.Board.new.Goals as goal

pub invariant_of-result : goal.invariant_of-result
invariant_of-result c =
    let portfolio : Accepted = arc_value c.args.portfolio in
    let of = c.deref.ensures in
    let quotas = c.args.quotas.now in
    let ordered : order_of portfolio.contracts.children ≡ Ok portfolio.order = subst (λ (p : Accepted). order_of p.contracts.children ≡ Ok p.order) of c.contracts_are_linked.ensures.ordered in
    let count : length portfolio.contracts.children ≡ length portfolio.contracts.terms = subst (λ (p : Accepted). length p.contracts.children ≡ length p.contracts.terms) of c.contracts_are_linked.ensures.count in
    let numbered : All (λ contract. contract < length portfolio.contracts.terms) portfolio.order =
    subst (λ (p : Accepted). All (λ contract. contract < length p.contracts.terms) p.order) of c.contracts_are_linked.ensures.numbered in
    let marks : c.make_room.new.marks.items ≡ [] = c.make_room.ensures.marks ∙ c.new-marks.ensures.items in
    let room : length quotas + 1 ≤ vec_capacity c.make_room.new.marks = omega (arith, c.in_ok-make_room.ensures.room, ap length marks) in
    let terms : length c.terms.result.now ≡ length portfolio.contracts.terms = ap length c.terms.ensures.terms ∙ ap (λ (p : Accepted). length p.contracts.terms) c.deref-2.ensures in
    let none = subst (λ (n : ℕ). NoneYet n c.in_ok-latest.latest.items) terms c.in_ok-latest.ensures in (
      rw (marks, c.in_ok-quotas.ensures.items, c.new.ensures.items, c.new-book.ensures, c.new-2.ensures.items)
          (board-fresh portfolio quotas (vec_capacity c.make_room.new.marks) c.in_ok-callers.callers.items ordered count numbered c.in_ok-callers.ensures c.requires.few room c.requires.fits),
      rw (marks, c.in_ok-quotas.ensures.items) (latest-fresh portfolio quotas c.in_ok-latest.latest.items none),
      rw (marks, c.in_ok-quotas.ensures.items, c.new-2.ensures.items, c.nothing_ready.ensures.lacking, c.nothing_ready.ensures.places)
          (ready-fresh portfolio quotas (vec_capacity c.nothing_ready.result.places) c.in_ok-parents.parents.items (subst (λ (p : Accepted). AreParents p.contracts.children (child_lists c.in_ok-parents.parents.items)) c.deref-3.ensures c.in_ok-parents.ensures)),
    )
