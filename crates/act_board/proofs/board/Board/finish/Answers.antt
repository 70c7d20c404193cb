use Rattle.std.proofs.Common.{◌≡◌, ℕ, true, false, List, [], ◌∷◌, ◌++◌, length, set, take, Option, Some, None, refl, sym, ap, subst, ◌∙◌, arith, slice_index_or, vec_capacity, ◌<◌, ◌≤◌}
use Rattle.std.specs.Arc.{arc_value}
use Rattle.std.specs.List.{All, slice_get}
use Rattle.std.proofs.lemmas.List.{length-set}
use Rattle.std.proofs.lemmas.Option.{slice_get_within}
use Rattle.act_model.specs.declared.observed.Obs.{Obs}
use Rattle.act_portfolio.specs.Reading.{Accepted}
use Rattle.act_profile.specs.Run.{run_of}
use Rattle.act_model.specs.Run.{Stream}
use Rattle.act_profile.specs.DayOrder.{AreInDayOrder}
use Rattle.act_refs.specs.Path.{child_lists, children_of}
use Rattle.act_refs.proofs.Paths.{children_of-read, length-child_lists}
use Rattle.act_refs.proofs.Turning.{written_back}
use Rattle.act_board.specs.Calls.{IsOf}
use Rattle.act_history.specs.History.{History, and_then, entries_of, has_result, is_claimed, version_of}
use Rattle.act_keeping.specs.Keeping.{AreSorted, IsListed, IsPut, IsResult, IsUnderWay, contract_at}
use Rattle.act_keeping.specs.Latest.{is_later}
use Rattle.act_keeping.specs.Ready.{AreApart, AreFree, AreSettled, Lacks}
use Rattle.act_keeping.specs.Work.{version}
use Rattle.act_keeping.specs.declared.latest.LatestResult.{LatestResult}
use Rattle.act_history.specs.declared.mark.Mark.{Mark}
use Rattle.act_history.specs.declared.mark.Mark.TheVariants as mark
use Rattle.act_keeping.specs.declared.pair.Pair.{Pair}
use Rattle.act_keeping.specs.declared.pair.Progress.TheVariants.{Done}
use Rattle.act_keeping.proofs.Claimed.{board-finished, claimed-told, owed-one, unclaimed-told}
use Rattle.act_keeping.proofs.Told.{contract-is}
use Rattle.act_keeping.proofs.LatestRuns.{latest-finished, latest-length}
use Rattle.act_keeping.proofs.Pairs.{put-sorted, ranks-apart}
use Rattle.act_keeping.proofs.Readiness.{begun-told, lacks-told, put-free, put-lack, put-ranks, ready-finished}
use Rattle.act_keeping.proofs.Referring.{parents-exist}
use Rattle.act_board.proofs.board.Board.finish.Goals as goal

pub put_progress-requires-clause-listed : goal.put_progress-requires-clause-listed
put_progress-requires-clause-listed c =
    let way = c.if-not-is_claimed.ensures.yes refl in
    let listed : IsListed c.deref-2.result.now c.into_parts-contract.result.1 c.rank-rank.result = (way.0, way.1, way.2, way.3) in
    subst (λ (xs : List Pair). IsListed xs c.into_parts-contract.result.1 c.rank-rank.result) (c.deref-2.ensures.value ∙ sym c.deref_mut.ensures.value) listed

pub returns-then-not-is_claimed : goal.returns-then-not-is_claimed
returns-then-not-is_claimed c =
    let b = c.self.inside in
    let p : Accepted = arc_value b.portfolio in
    let raw : History = record { portfolio = p; quotas = b.quotas.items; marks = b.marks.items } in
    let v = c.into_parts-contract.result.1 in
    let r = c.rank-rank.result in
    let ranked : slice_get p.order r ≡ Some c.into_parts-contract.result.0 = ap (λ (q : Accepted). slice_get q.order r) (sym c.deref.ensures) ∙ c.rank-rank.ensures in
    let same : contract_at raw r ≡ c.args.done.contract = contract-is p raw r c.into_parts-contract.result.0 refl ranked ∙ c.into_parts-contract.ensures.contract in
    let none : ¬ (IsUnderWay b.pairs.items v r) = λ is. c.if-not-is_claimed.ensures.no refl (subst (λ (xs : List Pair). IsUnderWay xs v r) (sym c.deref-2.ensures.value) is) in
    let free = unclaimed-told raw _ c.self.invariant.0 v r (slice_get_within p.order r c.into_parts-contract.result.0 ranked) none in
    let here : is_claimed c.args.self.now c.args.done.contract (version c.args.done) ≡ false =
    subst (λ (h : History). is_claimed h c.args.done.contract (version c.args.done) ≡ false) c.self.view_is
    (subst (λ (w : ℕ). is_claimed raw c.args.done.contract w ≡ false) c.into_parts-contract.ensures.version (subst (λ (d : ℕ). is_claimed raw d v ≡ false) same free)) in
    rw here refl

pub overflow_sub-self : goal.overflow_sub-self
overflow_sub-self c =
    let b = c.self.inside in
    let v = c.into_parts-contract.result.1 in
    let r = c.rank-rank.result in
    let run = c.into_parts-contract.result.2 in
    let put = subst (λ (xs : List Pair). IsPut xs v r (Done run) c.put_progress.new.pairs) c.deref_mut.ensures.value c.put_progress.ensures in
    let claimed = subst (λ (xs : List Pair). IsUnderWay xs v r) c.deref-2.ensures.value (c.if-not-is_claimed.ensures.yes refl) in
    owed-one _ _ c.self.invariant.0 v r run c.put_progress.new.pairs put claimed

pub put_mark-requires : goal.put_mark-requires
put_mark-requires c =
    let b = c.self.inside in
    let v = c.into_parts-contract.result.1 in
    let r = c.rank-rank.result in
    let run = c.into_parts-contract.result.2 in
    let put = subst (λ (xs : List Pair). IsPut xs v r (Done run) c.put_progress.new.pairs) c.deref_mut.ensures.value c.put_progress.ensures in
    let claimed = subst (λ (xs : List Pair). IsUnderWay xs v r) c.deref-2.ensures.value (c.if-not-is_claimed.ensures.yes refl) in
    let owes = owed-one _ _ c.self.invariant.0 v r run c.put_progress.new.pairs put claimed in
    record { room = omega (arith, owes, c.self.invariant.0.room) }

pub invariant_of-self : goal.invariant_of-self
invariant_of-self c =
    let b = c.self.inside in
    let p : Accepted = arc_value b.portfolio in
    let raw : History = record { portfolio = p; quotas = b.quotas.items; marks = b.marks.items } in
    let v = c.into_parts-contract.result.1 in
    let r = c.rank-rank.result in
    let run = c.into_parts-contract.result.2 in
    let d = c.into_parts-contract.result.0 in
    let ranked : slice_get p.order r ≡ Some d = ap (λ (q : Accepted). slice_get q.order r) (sym c.deref.ensures) ∙ c.rank-rank.ensures in
    let same : contract_at raw r ≡ d = contract-is p raw r d refl ranked in
    let of = subst (λ (h : History). IsOf h c.args.done) (sym c.self.view_is) (record { portfolio = c.requires.portfolio; entries = c.requires.entries }) in
    let put = subst (λ (xs : List Pair). IsPut xs v r (Done run) c.put_progress.new.pairs) c.deref_mut.ensures.value c.put_progress.ensures in
    let claimed = subst (λ (xs : List Pair). IsUnderWay xs v r) c.deref-2.ensures.value (c.if-not-is_claimed.ensures.yes refl) in
    let made : arc_value run ≡ run_of p.contracts (take v (entries_of raw)) (contract_at raw r) =
    c.into_parts-contract.ensures.run
    ∙ (ap (λ (q : Accepted). run_of q.contracts c.args.done.entries c.args.done.contract) of.portfolio
    ∙ (ap (λ (xs : List Obs). run_of p.contracts xs c.args.done.contract) of.entries
    ∙ (ap (λ (w : ℕ). run_of p.contracts (take w (entries_of raw)) c.args.done.contract) (sym c.into_parts-contract.ensures.version)
    ∙ (ap (λ (e : ℕ). run_of p.contracts (take v (entries_of raw)) e) (sym c.into_parts-contract.ensures.contract)
    ∙ ap (λ (e : ℕ). run_of p.contracts (take v (entries_of raw)) e) (sym same))))) in
    let marked =
    c.put_mark.ensures.added ∙ (ap (λ (m : Mark). b.marks.items ++ m ∷ []) c.finish.ensures ∙ ap (λ (e : ℕ). b.marks.items ++ mark.Finish e v ∷ []) (sym same)) in
    let known : v ≤ version_of raw = omega (arith, (c.self.invariant.0.pairs.each claimed.0 claimed.1).version, claimed.2) in
    let made-own : arc_value run ≡ run_of p.contracts (take v (entries_of raw)) d = made ∙ ap (run_of p.contracts (take v (entries_of raw))) same in
    let latest = c.into_parts-contract.result.3 in
    let again : arc_value latest ≡ arc_value run = c.into_parts-contract.ensures.latest ∙ sym c.into_parts-contract.ensures.run in
    let result : IsResult raw d v (arc_value latest) = (again ∙ made-own, subst (λ (s : Stream). AreInDayOrder s.rows) (sym again) c.into_parts-contract.ensures.in_day_order) in
    let there : d < length b.latest.items = omega (arith, c.into_parts-contract.ensures.within, ap (λ (q : Accepted). length q.contracts.terms) of.portfolio, c.self.invariant.1.count) in
    let later = subst (λ (xs : List (Option LatestResult)). is_later (slice_index_or xs d None) v ≡ true → c.put_latest.new.latest ≡ xs) c.deref_mut-2.ensures.value c.put_latest.ensures.later in
    let put_on = subst (λ (xs : List (Option LatestResult)). is_later (slice_index_or xs d None) v ≡ false → c.put_latest.new.latest ≡ set xs d (Some (record { version = v; run = latest }))) c.deref_mut-2.ensures.value c.put_latest.ensures.put in
    let read : c.deref-4.result.now ≡ c.put_progress.new.pairs = c.deref-4.ensures.value ∙ written_back b.pairs.len c.put_progress.new.pairs b.pairs.items (ap length put.is ∙ length-set b.pairs.items put.place (record { version = v; rank = r; progress = Done run })) (sym c.deref_mut.ensures.len ∙ ap length c.deref_mut.ensures.value) in
    let known-one : d < length p.contracts.children = omega (arith, c.into_parts-contract.ensures.within, ap (λ (q : Accepted). length q.contracts.terms) of.portfolio, c.self.invariant.0.count) in
    let listed : c.deref-5.result.now ≡ children_of (child_lists b.parents.items) d = c.deref-5.ensures.value ∙ sym (children_of-read b.parents.items d c.index.result.now c.index.ensures (omega (arith, known-one, c.self.invariant.2.turned.count, length-child_lists b.parents.items))) in
    let lacks : has_result raw d v ≡ false = lacks-told raw d v (subst (λ (e : ℕ). is_claimed raw e v ≡ true) same (claimed-told raw _ c.self.invariant.0 v r claimed)) in
    let begun = begun-told b.pairs.items c.put_progress.new.pairs v r (Done run) c.self.invariant.0.pairs.sorted put claimed in
    let settled = subst (λ (xs : List Pair). AreSettled p.order (children_of (child_lists b.parents.items) d) v xs b.ready.lacking.items c.settle.new.ready.lacking.items) read
    (subst (λ (xs : List ℕ). AreSettled p.order xs v c.deref-4.result.now b.ready.lacking.items c.settle.new.ready.lacking.items) listed
    (subst (λ (q : Accepted). AreSettled q.order c.deref-5.result.now v c.deref-4.result.now b.ready.lacking.items c.settle.new.ready.lacking.items) c.deref-3.ensures c.settle.ensures.settled)) in
    let marked-own = c.put_mark.ensures.added ∙ ap (λ (m : Mark). b.marks.items ++ m ∷ []) c.finish.ensures in (
      rw (written_back b.pairs.len c.put_progress.new.pairs b.pairs.items (ap length put.is ∙ length-set b.pairs.items put.place (record { version = v; rank = r; progress = Done run })) (sym c.deref_mut.ensures.len ∙ ap length c.deref_mut.ensures.value))
          (board-finished raw _ c.self.invariant.0 v r run c.put_progress.new.pairs c.put_mark.new.marks.items (vec_capacity c.put_mark.new.marks) put claimed
          (slice_get_within p.order r d ranked) (made, c.into_parts-contract.ensures.in_day_order) marked c.put_mark.ensures.kept),
      rw (written_back b.latest.len c.put_latest.new.latest b.latest.items (latest-length raw b.latest.items c.put_latest.new.latest d v latest c.self.invariant.1 there known result later put_on) (sym c.deref_mut-2.ensures.len ∙ ap length c.deref_mut-2.ensures.value))
          (latest-finished raw b.latest.items c.put_latest.new.latest d v latest c.self.invariant.1 there known result later put_on c.put_mark.new.marks.items marked-own),
      rw (written_back b.pairs.len c.put_progress.new.pairs b.pairs.items (ap length put.is ∙ length-set b.pairs.items put.place (record { version = v; rank = r; progress = Done run })) (sym c.deref_mut.ensures.len ∙ ap length c.deref_mut.ensures.value))
          (ready-finished raw b.pairs.items b.ready.lacking.items b.ready.places.items (vec_capacity b.ready.places) b.parents.items c.self.invariant.2 v r (Done run) refl c.put_progress.new.pairs c.self.invariant.0.pairs.sorted put begun d known-one lacks
          c.settle.new.ready.lacking.items c.settle.new.ready.places.items (vec_capacity c.settle.new.ready.places) c.put_mark.new.marks.items marked-own (c.settle.ensures.count ∙ ap length read)
          (subst (λ (xs : List Pair). AreFree xs c.settle.new.ready.lacking.items c.settle.new.ready.places.items) read c.settle.ensures.free) settled c.settle.ensures.room),
    )

pub returns : goal.returns
returns c =
    let b = c.self.inside in
    let p : Accepted = arc_value b.portfolio in
    let raw : History = record { portfolio = p; quotas = b.quotas.items; marks = b.marks.items } in
    let v = c.into_parts-contract.result.1 in
    let r = c.rank-rank.result in
    let d = c.into_parts-contract.result.0 in
    let ranked : slice_get p.order r ≡ Some d = ap (λ (q : Accepted). slice_get q.order r) (sym c.deref.ensures) ∙ c.rank-rank.ensures in
    let same : contract_at raw r ≡ c.args.done.contract = contract-is p raw r d refl ranked ∙ c.into_parts-contract.ensures.contract in
    let claimed = subst (λ (xs : List Pair). IsUnderWay xs v r) c.deref-2.ensures.value (c.if-not-is_claimed.ensures.yes refl) in
    let so = claimed-told raw _ c.self.invariant.0 v r claimed in
    let here : is_claimed c.args.self.now c.args.done.contract (version c.args.done) ≡ true =
    subst (λ (h : History). is_claimed h c.args.done.contract (version c.args.done) ≡ true) c.self.view_is
    (subst (λ (w : ℕ). is_claimed raw c.args.done.contract w ≡ true) c.into_parts-contract.ensures.version (subst (λ (e : ℕ). is_claimed raw e v ≡ true) same so)) in
    let marked =
    c.put_mark.ensures.added
    ∙ (ap (λ (m : Mark). b.marks.items ++ m ∷ []) c.finish.ensures
    ∙ (ap (λ (e : ℕ). b.marks.items ++ mark.Finish e v ∷ []) c.into_parts-contract.ensures.contract ∙ ap (λ (w : ℕ). b.marks.items ++ mark.Finish c.args.done.contract w ∷ []) c.into_parts-contract.ensures.version)) in
    let went : record { portfolio = p; quotas = b.quotas.items; marks = c.put_mark.new.marks.items } ≡ and_then raw (mark.Finish c.args.done.contract (version c.args.done)) =
    ap (λ (ms : List Mark). record { portfolio = p; quotas = b.quotas.items; marks = ms }) marked in
    rw here (went ∙ ap (λ (h : History). and_then h (mark.Finish c.args.done.contract (version c.args.done))) c.self.view_is)

pub index-requires : goal.index-requires
index-requires c =
    let b = c.self.inside in
    let p : Accepted = arc_value b.portfolio in
    let raw : History = record { portfolio = p; quotas = b.quotas.items; marks = b.marks.items } in
    let v = c.into_parts-contract.result.1 in
    let r = c.rank-rank.result in
    let run = c.into_parts-contract.result.2 in
    let d = c.into_parts-contract.result.0 in
    let of = subst (λ (h : History). IsOf h c.args.done) (sym c.self.view_is) (record { portfolio = c.requires.portfolio; entries = c.requires.entries }) in
    let known : d < length p.contracts.children = omega (arith, c.into_parts-contract.ensures.within, ap (λ (q : Accepted). length q.contracts.terms) of.portfolio, c.self.invariant.0.count) in
    omega (arith, known, c.self.invariant.2.turned.count, length-child_lists b.parents.items, b.parents.ok.0)

pub settle-requires-clause-exist : goal.settle-requires-clause-exist
settle-requires-clause-exist c =
    let b = c.self.inside in
    let p : Accepted = arc_value b.portfolio in
    let raw : History = record { portfolio = p; quotas = b.quotas.items; marks = b.marks.items } in
    let v = c.into_parts-contract.result.1 in
    let r = c.rank-rank.result in
    let run = c.into_parts-contract.result.2 in
    let d = c.into_parts-contract.result.0 in
    let of = subst (λ (h : History). IsOf h c.args.done) (sym c.self.view_is) (record { portfolio = c.requires.portfolio; entries = c.requires.entries }) in
    let known : d < length p.contracts.children = omega (arith, c.into_parts-contract.ensures.within, ap (λ (q : Accepted). length q.contracts.terms) of.portfolio, c.self.invariant.0.count) in
    let listed : c.deref-5.result.now ≡ children_of (child_lists b.parents.items) d = c.deref-5.ensures.value ∙ sym (children_of-read b.parents.items d c.index.result.now c.index.ensures (omega (arith, known, c.self.invariant.2.turned.count, length-child_lists b.parents.items))) in
    let all = parents-exist p.contracts.children (child_lists b.parents.items) d c.self.invariant.2.turned known in
    subst (λ (n : ℕ). All (λ parent. parent < n) c.deref-5.result.now) (c.self.invariant.0.count ∙ ap (λ (q : Accepted). length q.contracts.terms) (sym c.deref-3.ensures))
    (subst (λ (xs : List ℕ). All (λ parent. parent < length p.contracts.children) xs) (sym listed) all)

pub settle-requires-clause-sorted : goal.settle-requires-clause-sorted
settle-requires-clause-sorted c =
    let b = c.self.inside in
    let p : Accepted = arc_value b.portfolio in
    let raw : History = record { portfolio = p; quotas = b.quotas.items; marks = b.marks.items } in
    let v = c.into_parts-contract.result.1 in
    let r = c.rank-rank.result in
    let run = c.into_parts-contract.result.2 in
    let d = c.into_parts-contract.result.0 in
    let put = subst (λ (xs : List Pair). IsPut xs v r (Done run) c.put_progress.new.pairs) c.deref_mut.ensures.value c.put_progress.ensures in
    let claimed = subst (λ (xs : List Pair). IsUnderWay xs v r) c.deref-2.ensures.value (c.if-not-is_claimed.ensures.yes refl) in
    let read : c.deref-4.result.now ≡ c.put_progress.new.pairs = c.deref-4.ensures.value ∙ written_back b.pairs.len c.put_progress.new.pairs b.pairs.items (ap length put.is ∙ length-set b.pairs.items put.place (record { version = v; rank = r; progress = Done run })) (sym c.deref_mut.ensures.len ∙ ap length c.deref_mut.ensures.value) in
    subst AreSorted (sym read) (put-sorted b.pairs.items c.put_progress.new.pairs v r (Done run) c.self.invariant.0.pairs.sorted put)

pub settle-requires-clause-ranks : goal.settle-requires-clause-ranks
settle-requires-clause-ranks c = λ k pair at.
    let b = c.self.inside in
    let p : Accepted = arc_value b.portfolio in
    let raw : History = record { portfolio = p; quotas = b.quotas.items; marks = b.marks.items } in
    let v = c.into_parts-contract.result.1 in
    let r = c.rank-rank.result in
    let run = c.into_parts-contract.result.2 in
    let d = c.into_parts-contract.result.0 in
    let put = subst (λ (xs : List Pair). IsPut xs v r (Done run) c.put_progress.new.pairs) c.deref_mut.ensures.value c.put_progress.ensures in
    let claimed = subst (λ (xs : List Pair). IsUnderWay xs v r) c.deref-2.ensures.value (c.if-not-is_claimed.ensures.yes refl) in
    let read : c.deref-4.result.now ≡ c.put_progress.new.pairs = c.deref-4.ensures.value ∙ written_back b.pairs.len c.put_progress.new.pairs b.pairs.items (ap length put.is ∙ length-set b.pairs.items put.place (record { version = v; rank = r; progress = Done run })) (sym c.deref_mut.ensures.len ∙ ap length c.deref_mut.ensures.value) in
    subst (λ (q : Accepted). pair.rank < length q.order) (sym c.deref-3.ensures)
    (put-ranks b.pairs.items c.put_progress.new.pairs v r (length p.order) (Done run) c.self.invariant.0.pairs.sorted put (λ one has. (c.self.invariant.0.pairs.each one has).rank) k pair (ap (λ (xs : List Pair). slice_get xs k) (sym read) ∙ at))

pub settle-requires-clause-apart : goal.settle-requires-clause-apart
settle-requires-clause-apart c =
    let b = c.self.inside in
    let p : Accepted = arc_value b.portfolio in
    let raw : History = record { portfolio = p; quotas = b.quotas.items; marks = b.marks.items } in
    let v = c.into_parts-contract.result.1 in
    let r = c.rank-rank.result in
    let run = c.into_parts-contract.result.2 in
    let d = c.into_parts-contract.result.0 in
    subst (λ (q : Accepted). AreApart q.order) (sym c.deref-3.ensures) (ranks-apart raw c.self.invariant.0.ordered)

pub settle-requires-clause-free : goal.settle-requires-clause-free
settle-requires-clause-free c =
    let b = c.self.inside in
    let p : Accepted = arc_value b.portfolio in
    let raw : History = record { portfolio = p; quotas = b.quotas.items; marks = b.marks.items } in
    let v = c.into_parts-contract.result.1 in
    let r = c.rank-rank.result in
    let run = c.into_parts-contract.result.2 in
    let d = c.into_parts-contract.result.0 in
    let put = subst (λ (xs : List Pair). IsPut xs v r (Done run) c.put_progress.new.pairs) c.deref_mut.ensures.value c.put_progress.ensures in
    let claimed = subst (λ (xs : List Pair). IsUnderWay xs v r) c.deref-2.ensures.value (c.if-not-is_claimed.ensures.yes refl) in
    let read : c.deref-4.result.now ≡ c.put_progress.new.pairs = c.deref-4.ensures.value ∙ written_back b.pairs.len c.put_progress.new.pairs b.pairs.items (ap length put.is ∙ length-set b.pairs.items put.place (record { version = v; rank = r; progress = Done run })) (sym c.deref_mut.ensures.len ∙ ap length c.deref_mut.ensures.value) in
    let begun = begun-told b.pairs.items c.put_progress.new.pairs v r (Done run) c.self.invariant.0.pairs.sorted put claimed in
    subst (λ (xs : List Pair). AreFree xs b.ready.lacking.items b.ready.places.items) (sym read) (put-free raw b.pairs.items b.ready.lacking.items b.ready.places.items (vec_capacity b.ready.places) b.parents.items c.self.invariant.2 v r (Done run) refl c.put_progress.new.pairs c.self.invariant.0.pairs.sorted put begun)

pub settle-requires-clause-lack : goal.settle-requires-clause-lack
settle-requires-clause-lack c =
    let b = c.self.inside in
    let p : Accepted = arc_value b.portfolio in
    let raw : History = record { portfolio = p; quotas = b.quotas.items; marks = b.marks.items } in
    let v = c.into_parts-contract.result.1 in
    let r = c.rank-rank.result in
    let run = c.into_parts-contract.result.2 in
    let d = c.into_parts-contract.result.0 in
    let ranked : slice_get p.order r ≡ Some d = ap (λ (q : Accepted). slice_get q.order r) (sym c.deref.ensures) ∙ c.rank-rank.ensures in
    let same : contract_at raw r ≡ d = contract-is p raw r d refl ranked in
    let put = subst (λ (xs : List Pair). IsPut xs v r (Done run) c.put_progress.new.pairs) c.deref_mut.ensures.value c.put_progress.ensures in
    let claimed = subst (λ (xs : List Pair). IsUnderWay xs v r) c.deref-2.ensures.value (c.if-not-is_claimed.ensures.yes refl) in
    let read : c.deref-4.result.now ≡ c.put_progress.new.pairs = c.deref-4.ensures.value ∙ written_back b.pairs.len c.put_progress.new.pairs b.pairs.items (ap length put.is ∙ length-set b.pairs.items put.place (record { version = v; rank = r; progress = Done run })) (sym c.deref_mut.ensures.len ∙ ap length c.deref_mut.ensures.value) in
    let of = subst (λ (h : History). IsOf h c.args.done) (sym c.self.view_is) (record { portfolio = c.requires.portfolio; entries = c.requires.entries }) in
    let known : d < length p.contracts.children = omega (arith, c.into_parts-contract.ensures.within, ap (λ (q : Accepted). length q.contracts.terms) of.portfolio, c.self.invariant.0.count) in
    let listed : c.deref-5.result.now ≡ children_of (child_lists b.parents.items) d = c.deref-5.ensures.value ∙ sym (children_of-read b.parents.items d c.index.result.now c.index.ensures (omega (arith, known, c.self.invariant.2.turned.count, length-child_lists b.parents.items))) in
    let lacks : has_result raw d v ≡ false = lacks-told raw d v (subst (λ (e : ℕ). is_claimed raw e v ≡ true) same (claimed-told raw _ c.self.invariant.0 v r claimed)) in
    let begun = begun-told b.pairs.items c.put_progress.new.pairs v r (Done run) c.self.invariant.0.pairs.sorted put claimed in
    subst (λ (q : Accepted). Lacks q.order c.deref-5.result.now v c.deref-4.result.now b.ready.lacking.items) (sym c.deref-3.ensures)
    (subst (λ (xs : List ℕ). Lacks p.order xs v c.deref-4.result.now b.ready.lacking.items) (sym listed)
    (subst (λ (xs : List Pair). Lacks p.order (children_of (child_lists b.parents.items) d) v xs b.ready.lacking.items) (sym read)
    (put-lack raw b.pairs.items b.ready.lacking.items b.ready.places.items (vec_capacity b.ready.places) b.parents.items c.self.invariant.2 v r (Done run) refl c.put_progress.new.pairs c.self.invariant.0.pairs.sorted put begun d known lacks)))
