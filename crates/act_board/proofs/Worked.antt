-- What evaluations make.
use Rattle.std.proofs.Common.{◌≡◌, ◌<◌, ◌≤◌, ℕ, List, [], int_lt, not, inl, inr, Some, None, Option, Ok, arith, ℤ, length, map, refl, sym, ap, subst, ◌∙◌, slice_index_or}
use Rattle.std.specs.Arc.{arc_value}
use Rattle.std.specs.List.{slice_get}
use Rattle.std.specs.declared.alloc.Global.{Global}
use Rattle.std.specs.declared.sync.Arc.{Arc}
use Rattle.std.proofs.lemmas.Bool.{cases_Bool}
use Rattle.std.proofs.lemmas.List.Filters.{length-filter_both}
use Rattle.std.proofs.lemmas.Option.{slice_get-get_or}
use Rattle.act_model.specs.Run.{EventPlan, Stream}
use Rattle.act_model.specs.declared.observed.Obs.{Obs}
use Rattle.act_model.specs.declared.run.Row.{Row}
use Rattle.act_model.specs.declared.terms.Terms.{Terms}
use Rattle.act_portfolio.proofs.Unrolling.{over-children}
use Rattle.act_portfolio.specs.Reading.{Accepted}
use Rattle.act_profile.specs.Kept.{kept_of}
use Rattle.act_profile.specs.Run.{run_of, run_over}
use Rattle.act_profile.specs.Stops.{comes_before, stop_day}
use Rattle.act_refs.specs.Ordered.{order_of}
use Rattle.act_refs.specs.Path.{children_of}
use Rattle.act_run.proofs.KeptOf.{whole_is}
use Rattle.act_run.specs.Resuming.{kept_by}
use Rattle.act_keeping.specs.Tasks.{GoesOnFrom, MayGoOn}

-- the run over children's runs is that of the portfolio
pub run-made : (q : Accepted) (entries : List Obs) (c : ℕ) (terms : Terms) (plan : EventPlan) (runs : List Stream) → order_of q.contracts.children ≡ Ok q.order → length q.contracts.children ≡ length q.contracts.terms → c < length q.contracts.terms
    → slice_get q.contracts.terms c ≡ Some terms → slice_get q.contracts.plans c ≡ Some plan → runs ≡ map (run_of q.contracts entries) (children_of q.contracts.children c) → run_over terms plan entries runs ≡ run_of q.contracts entries c
run-made q entries c terms plan runs ordered count within of planned below =
    let listed : c < length q.contracts.children = omega (arith, count, within) in
    ap (run_over terms plan entries) below
    ∙ sym (over-children q.contracts entries q.order c terms plan (slice_index_or q.contracts.children c []) ordered listed of planned (slice_get-get_or q.contracts.children c [] listed))

-- no more rows are kept than there are
pub kept-within : (run : Stream) (cut : Option ℤ) → length (kept_of run cut).rows ≤ length run.rows
unfolding kept_of
kept-within run None = omega arith
kept-within run (Some cut) = elim (cases_Bool (comes_before (stop_day run.close) (Some cut))) [
  | inl stops ↦ rw stops (omega arith)
  | inr goes_on ↦ rw goes_on (omega (arith, length-filter_both (λ (row : Row). int_lt row.day cut) (λ (row : Row). not (int_lt row.day cut)) (λ row. refl) run.rows))
]

-- what goes on from a cached run
pub goes-from : (run : Stream) (cached : Option (Arc Stream Global)) (cut : Option ℤ) (kept : Arc Stream Global) → cached ≡ Some kept → MayGoOn run cached cut → GoesOnFrom run (arc_value kept) cut
goes-from run cached cut kept is may = subst (λ (r : Option (Arc Stream Global)). MayGoOn run r cut) is may

-- a run that is kept whole is the run itself
pub whole-run : (run kept : Stream) (cut : Option ℤ) → GoesOnFrom run kept cut → kept_of kept cut ≡ kept_by kept None → kept ≡ run
whole-run run kept cut goes whole = whole_is run kept cut (sym whole ∙ goes.same)
