-- The runs of a contract's cone, children first.
use Rattle.std.proofs.Common.{◌≡◌, ℕ, zero, suc, true, false, ℤ, int_lt, List, [], ◌∷◌, map, Option, Some, refl}
use Rattle.std.specs.List.{AllByRecursion, slice_get}
use Rattle.act_date.specs.Civil.{last_day}
use Rattle.act_model.specs.Run.{EventPlan}
use Rattle.act_model.specs.declared.observed.Obs.{Obs}
use Rattle.act_model.specs.declared.terms.Covered.{Covered}
use Rattle.act_model.specs.declared.terms.Kind.{Kind}
use Rattle.act_model.specs.declared.terms.Kind.TheVariants as kind
use Rattle.act_model.specs.declared.terms.Terms.{Terms}
use Rattle.act_profile.specs.Contract.{observed_as}
use Rattle.act_profile.specs.Reads.{codes_of, is_in}
use Rattle.act_profile.specs.Run.{Contracts, run_to, run_where_given}
use Rattle.act_causality.specs.Causality.{AgreeBefore, IsCoveredChild, IsLinked, KnowsChildren, children_at}
use Rattle.act_causality.proofs.Children.{ChildAgrees, ChildrenAgree, none-agree}
use Rattle.act_causality.proofs.KindRuns.{run_over-agree}
use Rattle.act_causality.proofs.KindSteps.{HasCodes}
use Rattle.act_causality.proofs.LegRows.{ArePaired, all-get}
use Rattle.act_causality.proofs.Scheduled.{CoveredIn}

module _ (contracts : Contracts) (codes reads : List ℕ) where
  -- what a contract reads by its terms is in these lists
  pub record ReadsOwn (c : ℕ) : Type 0 where
    pub own_codes : (terms : Terms) → slice_get contracts.terms c ≡ Some terms → HasCodes codes (codes_of terms)
    pub own_events : (terms : Terms) → slice_get contracts.terms c ≡ Some terms → is_in reads (observed_as terms.common) ≡ true

  -- and so is what all that it reaches read, over so many references
  abbrev pub Reads : ℕ → ℕ → Type 0
  Reads zero c = ⊥
  Reads (suc n) c = ReadsOwn c × AllByRecursion (Reads n) (children_at contracts c)

  own-read : (n m : ℕ) (terms : Terms) → Reads n m → slice_get contracts.terms m ≡ Some terms → is_in reads (observed_as terms.common) ≡ true
  own-read zero m terms has here = absurd has
  own-read (suc n) m terms has here = has.0.own_events terms here

  covered-read : (n : ℕ) (children : List ℕ) (covered : List Covered) → AllByRecursion (Reads n) children → AllByRecursion (IsCoveredChild contracts children) covered →
      AllByRecursion (λ (c : Covered). is_in reads c.contract ≡ true) covered
  covered-read n children [] all known = tt
  covered-read n children (c ∷ covered) all known =
      let one = known.0 in
      (rw (one.events) (own-read n one.number one.terms (all-get (Reads n) children c.child one.number all one.child) one.here), covered-read n children covered all known.1)

  pub kind-covered : (n : ℕ) (children : List ℕ) (contract : Kind) → AllByRecursion (Reads n) children → KnowsChildren contracts children contract → CoveredIn reads contract
  kind-covered n children (kind.CEG ceg) all known = covered-read n children ceg.covered all known
  kind-covered n children (kind.CEC cec) all known = covered-read n children cec.guarantee.covered all known
  kind-covered n children other all known = tt

module _ (contracts : Contracts) (linked : IsLinked contracts)
    (paired : (n : ℕ) (entries : List Obs) (c : ℕ) (terms : Terms) → slice_get contracts.terms c ≡ Some terms → ArePaired terms.common terms.kind (map (run_to n contracts entries) (children_at contracts c)))
    (codes reads : List ℕ) (day : ℤ) (last : int_lt last_day day ≡ false) (one other : List Obs) (agree : AgreeBefore day codes reads one other) where
  map-agree : (n : ℕ) (children : List ℕ) → ((c : ℕ) → Reads contracts codes reads n c → ChildAgrees day (run_to n contracts one c) (run_to n contracts other c)) → AllByRecursion (Reads contracts codes reads n) children →
      ChildrenAgree day (map (run_to n contracts one) children) (map (run_to n contracts other) children)
  map-agree n [] each all = tt
  map-agree n (c ∷ children) each all = (each c all.0, map-agree n children each all.1)

  given-agree : (n c : ℕ) (terms : Option Terms) (plan : Option EventPlan) → slice_get contracts.terms c ≡ terms → slice_get contracts.plans c ≡ plan → Reads contracts codes reads (suc n) c →
      ChildrenAgree day (map (run_to n contracts one) (children_at contracts c)) (map (run_to n contracts other) (children_at contracts c)) →
      ChildAgrees day (run_where_given terms plan one (map (run_to n contracts one) (children_at contracts c))) (run_where_given terms plan other (map (run_to n contracts other) (children_at contracts c)))
  given-agree n c (Some terms) (Some plan) here there has kids =
      run_over-agree day codes reads one other agree last terms plan (map (run_to n contracts one) (children_at contracts c)) (map (run_to n contracts other) (children_at contracts c)) kids
      (has.0.own_codes terms here) (linked.plans c terms plan here there) (has.0.own_events terms here)
      (kind-covered contracts codes reads n (children_at contracts c) terms.kind has.1 (linked.children c terms here)) (paired n one c terms here) (paired n other c terms here)
  given-agree n c terms plan here there has kids = none-agree day

  -- the runs agree before the day, over any number of references
  pub run_to-agree : (n c : ℕ) → Reads contracts codes reads n c → ChildAgrees day (run_to n contracts one c) (run_to n contracts other c)
  unfolding run_to
  run_to-agree zero c has = absurd has
  run_to-agree (suc n) c has =
      given-agree n c (slice_get contracts.terms c) (slice_get contracts.plans c) refl refl has (map-agree n (children_at contracts c) (run_to-agree n) has.1)
