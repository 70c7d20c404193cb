use Rattle.std.proofs.Common.{refl, ◌≡◌, ◌+◌, ◌-◌, ◌<◌, ◌≤◌, ℕ, Bool, true, List, [], ◌∷◌, ◌++◌, length, Some, sym, ap, subst, ◌∙◌, arith, vec_capacity}
use Rattle.std.specs.List.{slice_get}
use Rattle.std.proofs.lemmas.List.{length-set}
use Rattle.act_model.specs.Journal.{is_known}
use Rattle.act_model.specs.declared.journal.Item.{Item}
use Rattle.act_model.specs.declared.journal.Step.TheVariants as step
use Rattle.act_refs.proofs.Turning.{written_back}
use Rattle.std.specs.Arc.{arc_value}
use Rattle.act_portfolio.specs.Reading.{Accepted}
use Rattle.act_history.specs.History.{History, asks_by}
use Rattle.act_keeping.specs.Wanting.{IsExtended, is_asked}
use Rattle.act_keeping.specs.declared.pair.Pair.{Pair}
use Rattle.act_keeping.specs.Keeping.{ArePairs, IsUntouched, Keeps, OpensAsk}
use Rattle.act_keeping.specs.Ready.{AreFree}
use Rattle.act_history.specs.Legal.{IsLegal}
use Rattle.act_keeping.specs.declared.caller.Caller.{Caller}
use Rattle.act_history.specs.declared.mark.Mark.{Mark}
use Rattle.act_history.specs.declared.mark.Mark.TheVariants as mark
use Rattle.act_keeping.proofs.Asked.{asked-number, board-asked, reached-by}
use Rattle.act_keeping.proofs.Boards.{board-room, board-untouched}
use Rattle.act_keeping.proofs.Quotas.{few-asked}
use Rattle.act_keeping.proofs.LatestRuns.{latest-asked}
use Rattle.act_keeping.proofs.Readiness.{asked-ranks, asked-start, ready-asked, ready-room}
use Rattle.act_board.proofs.board.Board.take_ask.Goals as goal

pub open_ask-requires-clause-few : goal.open_ask-requires-clause-few
open_ask-requires-clause-few c = λ one at.
    let b = c.self.inside in
    let i = c.args.caller in
    let legal = subst (λ (h : History). IsLegal h (mark.Ask i c.args.asked)) (sym c.self.view_is) c.requires.legal in
    let here : slice_get b.callers.items (i - 1) ≡ Some one = ap (λ (xs : List Caller). slice_get xs (i - 1)) (sym c.deref_mut.ensures.value) ∙ at in
    omega (arith, legal.3, few-asked _ _ c.self.invariant.0 i one legal.0.from here)

pub invariant_of-self-in_err-number : goal.invariant_of-self-in_err-number
invariant_of-self-in_err-number c =
    let b = c.self.inside in
    let i = c.args.caller in
    let same = subst (λ (xs : List Caller). IsUntouched xs (i - 1) c.open_ask.new.callers) c.deref_mut.ensures.value c.in_err-number.ensures.unchanged in
    let back = written_back b.callers.len c.open_ask.new.callers b.callers.items (ap length same.is ∙ length-set b.callers.items (i - 1) same.after) (sym c.deref_mut.ensures.len ∙ ap length c.deref_mut.ensures.value) in (
      rw (c.make_room_for_step.ensures.marks, c.make_room_for_step.ensures.items, c.reserve.ensures.items, back)
          (board-untouched _ _
          (board-room _ _ c.self.invariant.0 (vec_capacity c.make_room_for_step.new.marks) c.make_room_for_step.ensures.kept)
          (i - 1) c.open_ask.new.callers same),
      rw c.make_room_for_step.ensures.marks c.self.invariant.1,
      rw (c.make_room_for_step.ensures.marks, c.reserve.ensures.items, c.make_room_for_pairs.ensures.lacking, c.make_room_for_pairs.ensures.places)
          (ready-room _ b.pairs.items b.ready.lacking.items b.ready.places.items _ b.parents.items c.self.invariant.2 _ c.make_room_for_pairs.ensures.kept),
    )

pub invariant_of-self-in_err-make_room_for_pairs : goal.invariant_of-self-in_err-make_room_for_pairs
invariant_of-self-in_err-make_room_for_pairs c =
    let b = c.self.inside in (
      rw (c.make_room_for_step.ensures.marks, c.make_room_for_step.ensures.items, c.reserve.ensures.items)
          (board-room _ _ c.self.invariant.0 (vec_capacity c.make_room_for_step.new.marks) c.make_room_for_step.ensures.kept),
      rw c.make_room_for_step.ensures.marks c.self.invariant.1,
      rw (c.make_room_for_step.ensures.marks, c.reserve.ensures.items, c.make_room_for_pairs.ensures.lacking, c.make_room_for_pairs.ensures.places)
          (ready-room _ b.pairs.items b.ready.lacking.items b.ready.places.items _ b.parents.items c.self.invariant.2 _ c.make_room_for_pairs.ensures.kept),
    )

pub fill-requires-clause-ranks : goal.fill-requires-clause-ranks
fill-requires-clause-ranks c = λ k pair at.
    let b = c.self.inside in
    let p : Accepted = arc_value b.portfolio in
    let wanted : ℕ → Bool = is_asked c.deref-4.result.now.order c.numbers-first.result.0 c.numbers-first.result.1 c.deref-5.result.now in
    let extended = subst (λ (q : Accepted). IsExtended b.pairs.items c.len-version.result wanted c.want_all-start.result (length q.order) c.want_all-start.new.pairs.items) c.deref-4.ensures
    (subst (λ (xs : List Pair). IsExtended xs c.len-version.result wanted c.want_all-start.result (length c.deref-4.result.now.order) c.want_all-start.new.pairs.items) c.reserve.ensures.items c.want_all-start.ensures) in
    subst (λ (q : Accepted). pair.rank < length q.order) (sym c.deref-6.ensures)
    (asked-ranks b.pairs.items c.want_all-start.new.pairs.items c.len-version.result c.want_all-start.result (length p.order) wanted extended (λ one has. (c.self.invariant.0.pairs.each one has).rank) k pair
    (ap (λ (xs : List Pair). slice_get xs k) (sym c.deref-7.ensures.value) ∙ at))

pub fill-requires-clause-counted : goal.fill-requires-clause-counted
fill-requires-clause-counted c =
    let b = c.self.inside in
    let wanted : ℕ → Bool = is_asked c.deref-4.result.now.order c.numbers-first.result.0 c.numbers-first.result.1 c.deref-5.result.now in
    let extended = subst (λ (xs : List Pair). IsExtended xs c.len-version.result wanted c.want_all-start.result (length c.deref-4.result.now.order) c.want_all-start.new.pairs.items) c.reserve.ensures.items c.want_all-start.ensures in
    omega (arith, asked-start b.pairs.items c.want_all-start.new.pairs.items c.len-version.result c.want_all-start.result (length c.deref-4.result.now.order) wanted extended, c.self.invariant.2.count, ap length c.make_room_for_pairs.ensures.lacking)

pub invariant_of-self-2 : goal.invariant_of-self-2
invariant_of-self-2 c =
    let b = c.self.inside in
    let i = c.args.caller in
    let asked = c.args.asked in
    let legal = subst (λ (h : History). IsLegal h (mark.Ask i asked)) (sym c.self.view_is) c.requires.legal in
    let known = subst (λ (h : History). is_known h.portfolio.names (step.Ask asked) ≡ true) (sym c.self.view_is) c.requires.known in
    let opens = subst (λ (xs : List Caller). OpensAsk xs (i - 1) (record { caller = i; number = c.in_ok-number.number; version = c.len-version.result; asked = asked }) c.open_ask.new.callers) c.deref_mut.ensures.value c.in_ok-number.ensures.opened in
    let marked = c.put_ask.ensures.mark ∙ ap (λ (ms : List Mark). ms ++ mark.Ask i asked ∷ []) c.make_room_for_step.ensures.marks in
    let stepped = c.put_ask.ensures.item ∙ ap (λ (xs : List Item). xs ++ record { caller = i; step = step.Ask asked } ∷ []) c.make_room_for_step.ensures.items in
    let room : length b.marks.items + (b.owing + 2) ≤ vec_capacity c.put_ask.new.marks = omega (arith, c.in_ok-make_room_for_step.ensures.room, ap length c.make_room_for_step.ensures.marks, c.put_ask.ensures.kept) in
    let wanted : ℕ → Bool = is_asked c.deref-4.result.now.order c.numbers-first.result.0 c.numbers-first.result.1 c.deref-5.result.now in
    let extended = subst (λ (p : Accepted). IsExtended b.pairs.items c.len-version.result wanted c.want_all-start.result (length p.order) c.want_all-start.new.pairs.items) c.deref-4.ensures
    (subst (λ (xs : List Pair). IsExtended xs c.len-version.result wanted c.want_all-start.result (length c.deref-4.result.now.order) c.want_all-start.new.pairs.items) c.reserve.ensures.items c.want_all-start.ensures) in
    let board = board-asked _ _ c.self.invariant.0 i asked c.open_ask.new.callers c.len-version.result c.in_ok-number.number legal known c.len-version.ensures.length opens
    c.put_ask.new.marks.items (vec_capacity c.put_ask.new.marks) c.put_ask.new.items.items c.want_all-start.new.pairs.items c.want_all-start.result c.min-self-inside.result wanted marked room stepped extended
    (reached-by (arc_value b.portfolio) c.deref.result.now c.deref-2.result.now c.deref-4.result.now c.deref.ensures c.deref-2.ensures c.deref-4.ensures c.numbers-first.result.0 c.numbers-first.result.1 c.in_ok-below.below.items c.deref-5.result.now c.deref-5.ensures.value asked
    c.numbers-first.ensures.numbers c.in_ok-below.ensures)
    (omega (arith, c.min-self-inside.ensures)) (omega (arith, c.min-self-inside.ensures)) in
    let next : History = record { portfolio = arc_value b.portfolio; quotas = b.quotas.items; marks = c.put_ask.new.marks.items } in
    let keeps : Keeps c.deref-6.result.now c.deref-7.result.now next = (subst (ArePairs next) (sym c.deref-7.ensures.value) board.pairs, sym c.deref-6.ensures) in (
      rw (written_back b.callers.len c.open_ask.new.callers b.callers.items (ap length opens.is ∙ length-set b.callers.items (i - 1) opens.after) (sym c.deref_mut.ensures.len ∙ ap length c.deref_mut.ensures.value))
          board,
      latest-asked _ _ c.self.invariant.1 (mark.Ask i asked) c.put_ask.new.marks.items marked (λ d. refl) (record { caller = i; step = step.Ask asked }) refl refl,
      ready-asked _ b.pairs.items b.ready.lacking.items b.ready.places.items _ b.parents.items c.self.invariant.2 (mark.Ask i asked) c.put_ask.new.marks.items marked (λ d w. refl)
          c.want_all-start.new.pairs.items c.fill.new.ready.lacking.items c.fill.new.ready.places.items (vec_capacity c.fill.new.ready.places) c.want_all-start.result
          (c.fill.ensures.count ∙ ap length c.deref-7.ensures.value) extended.same
          (λ k lt. c.fill.ensures.same k lt ∙ ap (λ (xs : List ℕ). slice_get xs k) c.make_room_for_pairs.ensures.lacking)
          (subst (λ (xs : List Pair). AreFree xs c.fill.new.ready.lacking.items c.fill.new.ready.places.items) c.deref-7.ensures.value c.fill.ensures.free) c.fill.ensures.room
          (λ k pair from at. c.fill.ensures.counted next keeps k pair from (ap (λ (xs : List Pair). slice_get xs k) c.deref-7.ensures.value ∙ at)),
    )

pub returns-clause-number : goal.returns-clause-number
returns-clause-number c =
    let b = c.self.inside in
    let i = c.args.caller in
    let asked = c.args.asked in
    let legal = subst (λ (h : History). IsLegal h (mark.Ask i asked)) (sym c.self.view_is) c.requires.legal in
    let known = subst (λ (h : History). is_known h.portfolio.names (step.Ask asked) ≡ true) (sym c.self.view_is) c.requires.known in
    let opens = subst (λ (xs : List Caller). OpensAsk xs (i - 1) (record { caller = i; number = c.in_ok-number.number; version = c.len-version.result; asked = asked }) c.open_ask.new.callers) c.deref_mut.ensures.value c.in_ok-number.ensures.opened in
    let marked = c.put_ask.ensures.mark ∙ ap (λ (ms : List Mark). ms ++ mark.Ask i asked ∷ []) c.make_room_for_step.ensures.marks in
    asked-number _ _ c.self.invariant.0 i asked c.open_ask.new.callers c.len-version.result c.in_ok-number.number legal known c.len-version.ensures.length opens
    ∙ ap (λ (ms : List Mark). length (asks_by (record { portfolio = arc_value b.portfolio; quotas = b.quotas.items; marks = ms }) i)) (sym marked)
