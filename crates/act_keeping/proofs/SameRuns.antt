-- What entries leave of a contract's run.
use Rattle.std.proofs.Common.{◌≡◌, ◌≤ℤ◌, ℕ, max, min, ℤ, List, take, Option, Some, sym, subst, ◌∙◌}
use Rattle.std.specs.Option.{IfSome}
use Rattle.act_causality.proofs.KeptRows as causality
use Rattle.act_causality.specs.Causality.{IsLinked, IsWithinDepth}
use Rattle.act_date.specs.Civil.{last_day}
use Rattle.act_model.specs.declared.observed.Obs.{Obs}
use Rattle.act_profile.specs.Kept.{kept_of}
use Rattle.act_profile.specs.Reads.{cut_of}
use Rattle.act_profile.specs.Run.{Contracts, deepest, run_of}

at-most : (cut : Option ℤ) (day : ℤ) → IfSome cut (λ day. day ≤ℤ last_day) → cut ≡ Some day → day ≤ℤ last_day
at-most cut day in_range is = subst (λ (o : Option ℤ). IfSome o (λ day. day ≤ℤ last_day)) is in_range

-- of a run over the first entries and of that over others the same is kept under the cut between the two
pub kept-alike : (contracts : Contracts) (c : ℕ) (entries : List Obs) (u v : ℕ) → IsLinked contracts → IsWithinDepth deepest contracts c → (cut : Option ℤ) → cut ≡ cut_of contracts c entries (min u v) (max u v)
    → IfSome cut (λ day. day ≤ℤ last_day) → kept_of (run_of contracts (take u entries) c) cut ≡ kept_of (run_of contracts (take v entries) c) cut
kept-alike contracts c entries u v linked depth cut is in_range =
    subst (λ (day : Option ℤ). kept_of (run_of contracts (take u entries) c) day ≡ kept_of (run_of contracts (take v entries) c) day) (sym is)
    (causality.kept_between contracts c entries u v linked depth (λ day so. at-most cut day in_range (is ∙ so)))
