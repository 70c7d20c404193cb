use Rattle.std.proofs.Common.{◌≡◌, ◌+◌, ◌-◌, ◌<◌, ◌≤◌, ℕ, List, [], ◌∷◌, ◌++◌, length, map, take, Option, Some, refl, sym, ap, subst, ◌∙◌, arith, vec_capacity}
use Rattle.std.specs.Arc.{arc_value}
use Rattle.std.specs.List.{slice_get}
use Rattle.std.proofs.lemmas.List.{length-set, length-take-le}
use Rattle.std.proofs.lemmas.Option.{slice_get_within}
use Rattle.act_model.specs.declared.observed.Obs.{Obs}
use Rattle.act_portfolio.specs.Reading.{Accepted}
use Rattle.act_causality.specs.Causality.{IsLinked, IsWithinDepth}
use Rattle.act_profile.specs.Run.{deepest, run_of}
use Rattle.act_refs.specs.Path.{IsChild, children_of}
use Rattle.act_refs.proofs.Turning.{written_back}
use Rattle.act_board.specs.Calls.{IsOf}
use Rattle.act_history.specs.History.{History, entries_of}
use Rattle.act_keeping.specs.Keeping.{ArePairs, IsListed, IsPut, IsThere, Keeps, contract_at}
use Rattle.act_keeping.specs.Latest.{cut_for, kept_for}
use Rattle.act_history.specs.Legal.{IsLegal, IsNext}
use Rattle.act_keeping.specs.Tasks.{MayGoOn}
use Rattle.act_keeping.specs.declared.latest.LatestResult.{LatestResult}
use Rattle.act_keeping.specs.Work.{Work}
use Rattle.act_history.specs.declared.mark.Mark.{Mark}
use Rattle.act_history.specs.declared.mark.Mark.TheVariants as mark
use Rattle.act_keeping.specs.declared.pair.Pair.{Pair}
use Rattle.act_keeping.specs.declared.pair.Progress.TheVariants.{Claimed}
use Rattle.act_keeping.proofs.Claimed.{board-claimed, claimable-place, next-within}
use Rattle.act_keeping.proofs.Told.{contract-is, there}
use Rattle.act_keeping.proofs.LatestRuns.{cached-told, cut-told, goes-on, kept-told, latest-quiet}
use Rattle.act_keeping.proofs.Readiness.{last-next, ready-claimed, ready-room}
use Rattle.act_board.proofs.board.Board.hand_out.Goals as goal

pub snapshot-requires : goal.snapshot-requires
snapshot-requires c =
    let b = c.self.inside in
    let next = subst (λ (h : History). IsNext h c.args.contract c.args.version) (sym c.self.view_is) c.requires.next in
    let within = next-within _ _ c.self.invariant.0 c.args.contract c.args.version next in
    record { within = omega (arith, within.1, ap length c.self.invariant.0.entries) }

pub children_results-requires-clause-contract : goal.children_results-requires-clause-contract
children_results-requires-clause-contract c =
    let b = c.self.inside in
    let next = subst (λ (h : History). IsNext h c.args.contract c.args.version) (sym c.self.view_is) c.requires.next in
    subst (λ (p : Accepted). c.args.contract < length p.contracts.terms) (sym c.deref.ensures)
    (next-within _ _ c.self.invariant.0 c.args.contract c.args.version next).0

pub children_results-requires-clause-there : goal.children_results-requires-clause-there
children_results-requires-clause-there c = λ child refers.
    let b = c.self.inside in
    let next = subst (λ (h : History). IsNext h c.args.contract c.args.version) (sym c.self.view_is) c.requires.next in
    subst (λ (p : Accepted). IsThere p c.deref-2.result.now child c.args.version) (sym c.deref.ensures)
    (subst (λ (xs : List Pair). IsThere (arc_value b.portfolio) xs child c.args.version) (sym c.deref-2.ensures.value)
    (there (arc_value b.portfolio) b.pairs.items _ (c.self.invariant.0.pairs, refl) child c.args.version c.args.contract next.claimable.wanted
    (next.claimable.children child (subst (λ (p : Accepted). IsChild p.contracts.children c.args.contract child) c.deref.ensures refers))))

pub cached_for-requires-clause-contract : goal.cached_for-requires-clause-contract
cached_for-requires-clause-contract c =
    let b = c.self.inside in
    let next = subst (λ (h : History). IsNext h c.args.contract c.args.version) (sym c.self.view_is) c.requires.next in
    subst (λ (p : Accepted). c.args.contract < length p.contracts.terms) (sym c.deref-3.ensures)
    (next-within _ _ c.self.invariant.0 c.args.contract c.args.version next).0

pub cached_for-requires-clause-count : goal.cached_for-requires-clause-count
cached_for-requires-clause-count c = ap length c.deref-4.ensures.value ∙ (c.self.invariant.1.count ∙ ap (λ (p : Accepted). length p.contracts.terms) (sym c.deref-3.ensures))

pub cached_for-requires-clause-version : goal.cached_for-requires-clause-version
cached_for-requires-clause-version c =
    let b = c.self.inside in
    let next = subst (λ (h : History). IsNext h c.args.contract c.args.version) (sym c.self.view_is) c.requires.next in
    let within = next-within _ _ c.self.invariant.0 c.args.contract c.args.version next in
    omega (arith, within.1, ap length c.in_ok-seen.ensures.same, ap length c.self.invariant.0.entries)

pub cached_for-requires-clause-latest : goal.cached_for-requires-clause-latest
cached_for-requires-clause-latest c = λ one at.
    let is = c.self.invariant.1.results c.args.contract one (ap (λ (xs : List (Option LatestResult)). slice_get xs c.args.contract) (sym c.deref-4.ensures.value) ∙ at) in
    omega (arith, is.0, ap length c.in_ok-seen.ensures.same, ap length c.self.invariant.0.entries)

pub new-task-requires-clause-contract : goal.new-task-requires-clause-contract
new-task-requires-clause-contract c =
    let b = c.self.inside in
    let next = subst (λ (h : History). IsNext h c.args.contract c.args.version) (sym c.self.view_is) c.requires.next in
    subst (λ (p : Accepted). c.args.contract < length p.contracts.terms) (sym c.deref-5.ensures)
    (next-within _ _ c.self.invariant.0 c.args.contract c.args.version next).0

pub new-task-requires-clause-children : goal.new-task-requires-clause-children
new-task-requires-clause-children c =
    let b = c.self.inside in
    let p : Accepted = arc_value b.portfolio in
    let raw : History = record { portfolio = p; quotas = b.quotas.items; marks = b.marks.items } in
    let keeps : Keeps c.deref.result.now c.deref-2.result.now raw = (subst (ArePairs raw) (sym c.deref-2.ensures.value) c.self.invariant.0.pairs, sym c.deref.ensures) in
    let runs = c.in_ok-children.ensures.runs raw keeps in
    let seen : take c.args.version (entries_of raw) ≡ c.in_ok-seen.seen = sym (c.in_ok-seen.ensures.seen ∙ ap (λ (xs : List Obs). take c.args.version xs) c.self.invariant.0.entries) in (
      runs.0
          ∙ (ap (λ (xs : List Obs). map (run_of p.contracts xs) (children_of c.deref.result.now.contracts.children c.args.contract)) seen
          ∙ (ap (λ (q : Accepted). map (run_of p.contracts c.in_ok-seen.seen) (children_of q.contracts.children c.args.contract)) c.deref.ensures
          ∙ ap (λ (q : Accepted). map (run_of q.contracts c.in_ok-seen.seen) (children_of q.contracts.children c.args.contract)) (sym c.deref-5.ensures))),
      runs.1,
    )

pub new-task-requires-clause-kept : goal.new-task-requires-clause-kept
new-task-requires-clause-kept c =
    let b = c.self.inside in
    let p : Accepted = arc_value b.portfolio in
    let raw : History = record { portfolio = p; quotas = b.quotas.items; marks = b.marks.items } in
    let next = subst (λ (h : History). IsNext h c.args.contract c.args.version) (sym c.self.view_is) c.requires.next in
    let within = next-within raw _ c.self.invariant.0 c.args.contract c.args.version next in
    let there : c.args.contract < length b.latest.items = omega (arith, within.0, c.self.invariant.1.count) in
    let cached = c.in_ok-cached.cached in
    let is = cached-told raw b.latest.items c.self.invariant.1 c.args.contract c.args.version there cached c.deref-3.result.now c.snapshot.new.self c.deref-4.result.now c.deref-3.ensures (c.in_ok-seen.ensures.same ∙ c.self.invariant.0.entries) c.deref-4.ensures.value c.in_ok-cached.ensures.cached in
    let linked = subst (λ (q : Accepted). IsLinked q.contracts) c.deref-3.ensures c.cached_for.ensures.linked in
    let depth = subst (λ (q : Accepted). IsWithinDepth deepest q.contracts c.args.contract) c.deref-3.ensures c.cached_for.ensures.within_depth in
    let seen : take c.args.version (entries_of raw) ≡ c.in_ok-seen.seen = sym (c.in_ok-seen.ensures.seen ∙ ap (λ (xs : List Obs). take c.args.version xs) c.self.invariant.0.entries) in
    subst (λ (q : Accepted). MayGoOn (run_of q.contracts c.in_ok-seen.seen c.args.contract) cached.run cached.cut) (sym c.deref-5.ensures)
    (subst (λ (xs : List Obs). MayGoOn (run_of p.contracts xs c.args.contract) cached.run cached.cut) seen
    (goes-on raw b.latest.items c.self.invariant.1 c.args.contract c.args.version there cached linked depth is))

pub put_progress-requires-clause-listed : goal.put_progress-requires-clause-listed
put_progress-requires-clause-listed c =
    let b = c.self.inside in
    let next = subst (λ (h : History). IsNext h c.args.contract c.args.version) (sym c.self.view_is) c.requires.next in
    let ranked : slice_get (arc_value b.portfolio).order c.rank-rank.result ≡ Some c.args.contract = ap (λ (p : Accepted). slice_get p.order c.rank-rank.result) (sym c.deref-6.ensures) ∙ c.rank-rank.ensures in
    let at = claimable-place _ _ c.self.invariant.0 c.args.contract c.args.version c.rank-rank.result next.claimable ranked in
    subst (λ (xs : List Pair). IsListed xs c.args.version c.rank-rank.result) (sym c.deref_mut.ensures.value) (at.1, (at.0, at.2), at.3, at.4)

pub invariant_of-self-2 : goal.invariant_of-self-2
invariant_of-self-2 c =
    let b = c.self.inside in
    let p : Accepted = arc_value b.portfolio in
    let raw : History = record { portfolio = p; quotas = b.quotas.items; marks = b.marks.items } in
    let v = c.args.version in
    let r = c.rank-rank.result in
    let going = subst (λ (h : History). IsLegal h mark.GiveUp) (sym c.self.view_is) c.requires.going_on in
    let next = subst (λ (h : History). IsNext h c.args.contract c.args.version) (sym c.self.view_is) c.requires.next in
    let ranked : slice_get p.order r ≡ Some c.args.contract = ap (λ (q : Accepted). slice_get q.order r) (sym c.deref-6.ensures) ∙ c.rank-rank.ensures in
    let same : contract_at raw r ≡ c.args.contract = contract-is p raw r c.args.contract refl ranked in
    let put = subst (λ (xs : List Pair). IsPut xs v r Claimed c.put_progress.new.pairs) c.deref_mut.ensures.value c.put_progress.ensures in
    let marked =
    c.put_mark.ensures.added
    ∙ (ap (λ (ms : List Mark). ms ++ c.claim.result ∷ []) c.make_room.ensures.marks
    ∙ (ap (λ (m : Mark). b.marks.items ++ m ∷ []) c.claim.ensures
    ∙ ap (λ (d : ℕ). b.marks.items ++ mark.Claim d v ∷ []) (sym same))) in
    let marked-own = c.put_mark.ensures.added ∙ (ap (λ (ms : List Mark). ms ++ c.claim.result ∷ []) c.make_room.ensures.marks ∙ ap (λ (m : Mark). b.marks.items ++ m ∷ []) c.claim.ensures) in
    let room : length b.marks.items + (b.owing + 2) ≤ vec_capacity c.put_mark.new.marks = omega (arith, c.in_ok-make_room.ensures.room, ap length c.make_room.ensures.marks, c.put_mark.ensures.kept) in (
      rw (c.cached_for.ensures.same, c.in_ok-seen.ensures.same, written_back b.pairs.len c.put_progress.new.pairs b.pairs.items (ap length put.is ∙ length-set b.pairs.items put.place (record { version = v; rank = r; progress = Claimed })) (sym c.deref_mut.ensures.len ∙ ap length c.deref_mut.ensures.value))
          (board-claimed raw _ c.self.invariant.0 v r c.put_progress.new.pairs c.put_mark.new.marks.items (vec_capacity c.put_mark.new.marks) put
          (going, subst (λ (d : ℕ). IsNext raw d v) (sym same) next) (slice_get_within p.order r c.args.contract ranked) marked room),
      latest-quiet raw b.latest.items c.self.invariant.1 (mark.Claim c.args.contract v) c.put_mark.new.marks.items marked-own (λ d. refl) refl,
      rw (written_back b.pairs.len c.put_progress.new.pairs b.pairs.items (ap length put.is ∙ length-set b.pairs.items put.place (record { version = v; rank = r; progress = Claimed })) (sym c.deref_mut.ensures.len ∙ ap length c.deref_mut.ensures.value))
          (ready-room _ c.put_progress.new.pairs b.ready.lacking.items c.pop.new.self.items (vec_capacity b.ready.places) b.parents.items
          (ready-claimed raw b.pairs.items b.ready.lacking.items b.ready.places.items (vec_capacity b.ready.places) b.parents.items c.self.invariant.2 v r Claimed refl c.put_progress.new.pairs c.self.invariant.0.pairs.sorted put c.pop.new.self.items
          (last-next raw _ c.self.invariant.0 b.ready.lacking.items b.ready.places.items (vec_capacity b.ready.places) b.parents.items c.self.invariant.2 (c.self.invariant.0.given_up ∙ going)
          c.args.contract v r put.place put.pair next ranked put.was put.same_version put.same_rank)
          (c.pop.ensures.rest ∙ ap (λ (n : ℕ). take (n - 1) b.ready.places.items) (omega (arith, b.ready.places.ok.0)))
          (mark.Claim c.args.contract v) c.put_mark.new.marks.items marked-own (λ d w. refl))
          (vec_capacity c.pop.new.self) (omega (arith, c.pop.ensures.capacity))),
    )

-- as many entries are seen
seen-length : (c : goal.After-put_mark) → length c.in_ok-seen.seen ≡ c.args.version
seen-length c =
    let b = c.self.inside in
    let next = subst (λ (h : History). IsNext h c.args.contract c.args.version) (sym c.self.view_is) c.requires.next in
    let within = next-within _ _ c.self.invariant.0 c.args.contract c.args.version next in
    ap length c.in_ok-seen.ensures.seen ∙ length-take-le c.args.version b.book (omega (arith, within.1, ap length c.self.invariant.0.entries))

pub returns-clause-work : goal.returns-clause-work
returns-clause-work c =
    let b = c.self.inside in
    let task = c.new-task.ensures in
    let seen : c.in_ok-seen.seen ≡ take (length c.in_ok-seen.seen) b.book = c.in_ok-seen.ensures.seen ∙ ap (λ (n : ℕ). take n b.book) (sym (seen-length c)) in
    subst (λ (h : History). IsOf h c.new-task.result) c.self.view_is (subst (λ (w : Work). IsOf (record { portfolio = arc_value b.portfolio; quotas = b.quotas.items; marks = b.marks.items }) w) (sym task) (record {
      portfolio = c.deref-5.ensures;
      entries = seen ∙ ap (λ (xs : List Obs). take (length c.in_ok-seen.seen) xs) c.self.invariant.0.entries;
    }))

pub returns-clause-version : goal.returns-clause-version
returns-clause-version c = ap (λ (w : Work). length w.entries) c.new-task.ensures ∙ seen-length c

pub returns-clause-kept : goal.returns-clause-kept
returns-clause-kept c =
    let b = c.self.inside in
    let raw : History = record { portfolio = arc_value b.portfolio; quotas = b.quotas.items; marks = b.marks.items } in
    let next = subst (λ (h : History). IsNext h c.args.contract c.args.version) (sym c.self.view_is) c.requires.next in
    let within = next-within raw _ c.self.invariant.0 c.args.contract c.args.version next in
    let there : c.args.contract < length b.latest.items = omega (arith, within.0, c.self.invariant.1.count) in
    let cached = c.in_ok-cached.cached in
    let is = cached-told raw b.latest.items c.self.invariant.1 c.args.contract c.args.version there cached c.deref-3.result.now c.snapshot.new.self c.deref-4.result.now c.deref-3.ensures (c.in_ok-seen.ensures.same ∙ c.self.invariant.0.entries) c.deref-4.ensures.value c.in_ok-cached.ensures.cached in
    ap (λ (w : Work). w.kept) c.new-task.ensures
    ∙ (kept-told raw b.latest.items c.self.invariant.1 c.args.contract c.args.version there cached is ∙ ap (λ (h : History). kept_for h c.args.contract c.args.version) c.self.view_is)

pub returns-clause-cut : goal.returns-clause-cut
returns-clause-cut c =
    let b = c.self.inside in
    let raw : History = record { portfolio = arc_value b.portfolio; quotas = b.quotas.items; marks = b.marks.items } in
    let next = subst (λ (h : History). IsNext h c.args.contract c.args.version) (sym c.self.view_is) c.requires.next in
    let within = next-within raw _ c.self.invariant.0 c.args.contract c.args.version next in
    let there : c.args.contract < length b.latest.items = omega (arith, within.0, c.self.invariant.1.count) in
    let cached = c.in_ok-cached.cached in
    let is = cached-told raw b.latest.items c.self.invariant.1 c.args.contract c.args.version there cached c.deref-3.result.now c.snapshot.new.self c.deref-4.result.now c.deref-3.ensures (c.in_ok-seen.ensures.same ∙ c.self.invariant.0.entries) c.deref-4.ensures.value c.in_ok-cached.ensures.cached in
    ap (λ (w : Work). w.cut) c.new-task.ensures
    ∙ (cut-told raw b.latest.items c.self.invariant.1 c.args.contract c.args.version there cached is ∙ ap (λ (h : History). cut_for h c.args.contract c.args.version) c.self.view_is)
