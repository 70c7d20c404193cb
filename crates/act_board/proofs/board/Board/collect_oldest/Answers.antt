use Rattle.std.proofs.Common.{◌≡◌, ◌-◌, ◌<◌, ◌≤◌, ℕ, true, false, List, [], ◌∷◌, ◌++◌, length, map, take, Some, refl, sym, ap, subst, ◌∙◌, arith, vec_capacity}
use Rattle.std.specs.Arc.{arc_value}
use Rattle.std.specs.List.{slice_get}
use Rattle.std.proofs.lemmas.List.{length-set}
use Rattle.act_model.specs.Journal.{contracts_of, is_known}
use Rattle.act_model.specs.Run.{Stream}
use Rattle.act_model.specs.declared.asks.Asking.{Asking}
use Rattle.act_model.specs.declared.journal.Step.TheVariants as step
use Rattle.act_portfolio.specs.Reading.{Accepted}
use Rattle.act_profile.specs.Answers.{answer_to}
use Rattle.act_profile.specs.Run.{run_of}
use Rattle.act_refs.proofs.Turning.{written_back}
use Rattle.act_history.specs.History.{History, and_then, entries_of, is_given_up, open_asks}
use Rattle.act_keeping.specs.Keeping.{ArePairs, ClosesOldest, IsThere, Keeps, numbered}
use Rattle.act_history.specs.Legal.{IsLegal, IsOldest, IsReady}
use Rattle.act_keeping.specs.declared.caller.Caller.{Caller}
use Rattle.act_history.specs.declared.mark.Mark.{Mark}
use Rattle.act_history.specs.declared.mark.Mark.TheVariants as mark
use Rattle.act_keeping.specs.declared.pair.Pair.{Pair}
use Rattle.act_keeping.proofs.Answered.{asked-wanted, board-collected, not-ready, oldest-by, ready-so}
use Rattle.act_keeping.proofs.Quotas.{few-open}
use Rattle.act_keeping.proofs.Told.{there, told-anyway}
use Rattle.act_keeping.proofs.LatestRuns.{latest-quiet}
use Rattle.act_keeping.proofs.Readiness.{ready-quiet}
use Rattle.act_board.proofs.board.Board.collect_oldest.Goals as goal

pub oldest-ask-requires-clause-some : goal.oldest-ask-requires-clause-some
oldest-ask-requires-clause-some c = λ one at.
    let b = c.self.inside in
    let here : slice_get b.callers.items (c.args.caller - 1) ≡ Some one = ap (λ (xs : List Caller). slice_get xs (c.args.caller - 1)) (sym c.deref.ensures.value) ∙ at in
    let some = subst (λ (h : History). 0 < length (open_asks h c.args.caller)) (sym c.self.view_is) c.requires.asked in
    omega (arith, some, few-open _ _ c.self.invariant.0 c.args.caller one c.requires.present.from here)

pub numbers-first-requires : goal.numbers-first-requires
numbers-first-requires c =
    let b = c.self.inside in
    let to = subst (λ (h : History). c.args.caller ≤ length h.quotas) (sym c.self.view_is) c.requires.present.to in
    let ask = oldest-by _ _ c.self.invariant.0 c.args.caller c.requires.present.from c.deref.result.now c.oldest-ask.result c.deref.ensures.value to c.oldest-ask.ensures in
    subst (λ (p : Accepted). is_known p.names (step.Ask c.oldest-ask.result.asked) ≡ true) (sym c.deref-2.ensures) ask.1.known

pub returns-then-not-are_ready-clause-collected : goal.returns-then-not-are_ready-clause-collected
returns-then-not-are_ready-clause-collected c =
    let b = c.self.inside in
    let raw : History = record { portfolio = arc_value b.portfolio; quotas = b.quotas.items; marks = b.marks.items } in
    let to = subst (λ (h : History). c.args.caller ≤ length h.quotas) (sym c.self.view_is) c.requires.present.to in
    let ask = oldest-by raw _ c.self.invariant.0 c.args.caller c.requires.present.from c.deref.result.now c.oldest-ask.result c.deref.ensures.value to c.oldest-ask.ensures in
    let keeps : Keeps c.deref-3.result.now c.deref-4.result.now raw = (subst (ArePairs raw) (sym c.deref-4.ensures.value) c.self.invariant.0.pairs, sym c.deref-3.ensures) in
    let numbers = ap (λ (p : Accepted). contracts_of p.names c.oldest-ask.result.asked) (sym c.deref-2.ensures) ∙ c.numbers-first.ensures.numbers in
    let lacks = c.if-not-are_ready.ensures.no refl raw keeps in
    let not = not-ready raw c.oldest-ask.result c.numbers-first.result.0 c.numbers-first.result.1 c.numbers-first.ensures.order numbers lacks.0 lacks.1 lacks.2 lacks.3 in
    subst (λ (h : History). (is_given_up h ≡ false) × (a : Asking) × IsOldest h c.args.caller a × (¬ (IsReady h a)) × (h ≡ h)) c.self.view_is
    (sym c.self.invariant.0.given_up ∙ c.if-self.false, c.oldest-ask.result, ask.0, not, refl)

pub results_of-requires-clause-there : goal.results_of-requires-clause-there
results_of-requires-clause-there c = λ d from to.
    let b = c.self.inside in
    let raw : History = record { portfolio = arc_value b.portfolio; quotas = b.quotas.items; marks = b.marks.items } in
    let within = subst (λ (h : History). c.args.caller ≤ length h.quotas) (sym c.self.view_is) c.requires.present.to in
    let ask = oldest-by raw _ c.self.invariant.0 c.args.caller c.requires.present.from c.deref.result.now c.oldest-ask.result c.deref.ensures.value within c.oldest-ask.ensures in
    let numbers = ap (λ (p : Accepted). contracts_of p.names c.oldest-ask.result.asked) (sym c.deref-2.ensures) ∙ c.numbers-first.ensures.numbers in
    let exist = subst (λ (p : Accepted). c.numbers-first.result.1 ≤ length p.contracts.terms) c.deref-2.ensures c.numbers-first.ensures.exist in
    let wanted = asked-wanted raw c.oldest-ask.result c.args.caller c.numbers-first.result.0 c.numbers-first.result.1 d c.requires.present.from within ask.0 c.numbers-first.ensures.order numbers exist from to in
    let keeps : Keeps c.deref-3.result.now c.deref-4.result.now raw = (subst (ArePairs raw) (sym c.deref-4.ensures.value) c.self.invariant.0.pairs, sym c.deref-3.ensures) in
    let has = c.if-not-are_ready.ensures.yes refl raw keeps d from to in
    subst (λ (p : Accepted). IsThere p c.deref-6.result.now d c.oldest-ask.result.version) (sym c.deref-5.ensures)
    (subst (λ (xs : List Pair). IsThere (arc_value b.portfolio) xs d c.oldest-ask.result.version) (sym c.deref-6.ensures.value)
    (there (arc_value b.portfolio) b.pairs.items raw (c.self.invariant.0.pairs, refl) d c.oldest-ask.result.version d wanted has))

pub invariant_of-self : goal.invariant_of-self
invariant_of-self c =
    let b = c.self.inside in
    let i = c.args.caller in
    let raw : History = record { portfolio = arc_value b.portfolio; quotas = b.quotas.items; marks = b.marks.items } in
    let to = subst (λ (h : History). i ≤ length h.quotas) (sym c.self.view_is) c.requires.present.to in
    let ask = oldest-by raw _ c.self.invariant.0 i c.requires.present.from c.deref.result.now c.oldest-ask.result c.deref.ensures.value to c.oldest-ask.ensures in
    let keeps : Keeps c.deref-3.result.now c.deref-4.result.now raw = (subst (ArePairs raw) (sym c.deref-4.ensures.value) c.self.invariant.0.pairs, sym c.deref-3.ensures) in
    let numbers = ap (λ (p : Accepted). contracts_of p.names c.oldest-ask.result.asked) (sym c.deref-2.ensures) ∙ c.numbers-first.ensures.numbers in
    let ready = ready-so raw c.oldest-ask.result c.numbers-first.result.0 c.numbers-first.result.1 c.numbers-first.ensures.order numbers (c.if-not-are_ready.ensures.yes refl raw keeps) in
    let legal : IsLegal raw (mark.Collect i) = (sym c.self.invariant.0.given_up ∙ c.if-self.false, c.oldest-ask.result, ask.0, ready) in
    let closes = subst (λ (xs : List Caller). ClosesOldest xs (i - 1) c.close_oldest.new.callers) c.deref_mut.ensures.value c.close_oldest.ensures in
    let marked = c.put_mark.ensures.added ∙ ap (λ (m : Mark). b.marks.items ++ m ∷ []) c.collect.ensures in (
      rw (written_back b.callers.len c.close_oldest.new.callers b.callers.items (ap length closes.is ∙ length-set b.callers.items (i - 1) closes.after) (sym c.deref_mut.ensures.len ∙ ap length c.deref_mut.ensures.value))
          (board-collected raw _ c.self.invariant.0 i c.requires.present.from to c.oldest-ask.result c.put_mark.new.marks.items (vec_capacity c.put_mark.new.marks) c.close_oldest.new.callers
          legal ask.0 ready marked c.put_mark.ensures.kept closes),
      latest-quiet _ _ c.self.invariant.1 (mark.Collect i) c.put_mark.new.marks.items marked (λ d. refl) refl,
      ready-quiet _ _ _ _ _ _ c.self.invariant.2 (mark.Collect i) c.put_mark.new.marks.items marked (λ d w. refl),
    )

pub returns-clause-collected : goal.returns-clause-collected
returns-clause-collected c =
    let b = c.self.inside in
    let i = c.args.caller in
    let ask = c.oldest-ask.result in
    let raw : History = record { portfolio = arc_value b.portfolio; quotas = b.quotas.items; marks = b.marks.items } in
    let to = subst (λ (h : History). i ≤ length h.quotas) (sym c.self.view_is) c.requires.present.to in
    let oldest = oldest-by raw _ c.self.invariant.0 i c.requires.present.from c.deref.result.now ask c.deref.ensures.value to c.oldest-ask.ensures in
    let keeps : Keeps c.deref-3.result.now c.deref-4.result.now raw = (subst (ArePairs raw) (sym c.deref-4.ensures.value) c.self.invariant.0.pairs, sym c.deref-3.ensures) in
    let keeps-results : Keeps c.deref-5.result.now c.deref-6.result.now raw = (subst (ArePairs raw) (sym c.deref-6.ensures.value) c.self.invariant.0.pairs, sym c.deref-5.ensures) in
    let numbers = ap (λ (p : Accepted). contracts_of p.names ask.asked) (sym c.deref-2.ensures) ∙ c.numbers-first.ensures.numbers in
    let ready = ready-so raw ask c.numbers-first.result.0 c.numbers-first.result.1 c.numbers-first.ensures.order numbers (c.if-not-are_ready.ensures.yes refl raw keeps) in
    let marked = c.put_mark.ensures.added ∙ ap (λ (m : Mark). b.marks.items ++ m ∷ []) c.collect.ensures in
    let runs = c.in_ok-runs.ensures.runs raw keeps-results ∙ ap (λ (xs : List ℕ). map (λ d. (d, run_of (arc_value b.portfolio).contracts (take ask.version (entries_of raw)) d)) xs) (sym numbers) in
    let answer : record { caller = ask.caller; number = ask.number; version = ask.version; runs = numbered c.in_ok-runs.runs.items } ≡ answer_to raw.portfolio.contracts raw.portfolio.names (entries_of raw) ask =
    ap (λ (rs : List (ℕ × Stream)). record { caller = ask.caller; number = ask.number; version = ask.version; runs = rs }) runs in
    let went : record { portfolio = arc_value b.portfolio; quotas = b.quotas.items; marks = c.put_mark.new.marks.items } ≡ and_then raw (mark.Collect i) =
    ap (λ (ms : List Mark). record { portfolio = arc_value b.portfolio; quotas = b.quotas.items; marks = ms }) marked in
    subst (λ (h : History). (is_given_up h ≡ false) × (a : Asking) × IsOldest h i a × IsReady h a × (record { caller = ask.caller; number = ask.number; version = ask.version; runs = numbered c.in_ok-runs.runs.items } ≡ answer_to h.portfolio.contracts h.portfolio.names (entries_of h) a)
    × (record { portfolio = arc_value b.portfolio; quotas = b.quotas.items; marks = c.put_mark.new.marks.items } ≡ and_then h (mark.Collect i))) c.self.view_is
    (sym c.self.invariant.0.given_up ∙ c.if-self.false, ask, oldest.0, ready, answer, went)

pub returns-in_err-runs-clause-memory : goal.returns-in_err-runs-clause-memory
returns-in_err-runs-clause-memory c =
    let b = c.self.inside in
    let i = c.args.caller in
    let raw : History = record { portfolio = arc_value b.portfolio; quotas = b.quotas.items; marks = b.marks.items } in
    let to = subst (λ (h : History). i ≤ length h.quotas) (sym c.self.view_is) c.requires.present.to in
    let ask = oldest-by raw _ c.self.invariant.0 i c.requires.present.from c.deref.result.now c.oldest-ask.result c.deref.ensures.value to c.oldest-ask.ensures in
    let keeps : Keeps c.deref-3.result.now c.deref-4.result.now raw = (subst (ArePairs raw) (sym c.deref-4.ensures.value) c.self.invariant.0.pairs, sym c.deref-3.ensures) in
    let numbers = ap (λ (p : Accepted). contracts_of p.names c.oldest-ask.result.asked) (sym c.deref-2.ensures) ∙ c.numbers-first.ensures.numbers in
    let ready = ready-so raw c.oldest-ask.result c.numbers-first.result.0 c.numbers-first.result.1 c.numbers-first.ensures.order numbers (c.if-not-are_ready.ensures.yes refl raw keeps) in
    let legal : IsLegal raw (mark.Collect i) = (sym c.self.invariant.0.given_up ∙ c.if-self.false, c.oldest-ask.result, ask.0, ready) in
    told-anyway c.from_residual.result _ (subst (λ (h : History). IsLegal h (mark.Collect i)) c.self.view_is legal)
