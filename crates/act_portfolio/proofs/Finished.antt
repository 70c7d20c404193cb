-- A portfolio put together from its contracts, their graph and their plans.
use Rattle.std.proofs.Common.{◌≡◌, ℕ, zero, ◌+◌, ◌≤◌, false, codes, List, ◌++◌, length, map, None, Ok, refl, ap, sym, subst, ◌∙◌, arith}
use Rattle.std.proofs.lemmas.List.{length-append, length-map, map-append}
use Rattle.std.proofs.lemmas.List.Elements.{All-append, All-map}
use Rattle.std.proofs.lemmas.Slice.Zip.{length-zip}
use Rattle.std.specs.List.{All, filter_map, zip}
use Rattle.std.specs.Str.{bytes_eq}
use Rattle.act_causality.specs.Causality.{IsLinked}
use Rattle.act_model.specs.Bounds.{AreBounded, IsDated}
use Rattle.act_model.specs.Names.{NameLists}
use Rattle.act_model.specs.Reads.{Readings}
use Rattle.act_model.specs.Run.{EventPlan}
use Rattle.act_model.specs.declared.terms.Terms.{Terms}
use Rattle.act_profile.specs.Built.{IsBuilt}
use Rattle.act_profile.specs.Outcomes.{map_ok}
use Rattle.act_profile.specs.Plan.{plan_of}
use Rattle.act_profile.specs.Printable.{ArePrintable}
use Rattle.act_terms.specs.Contract.{NamedTerms}
use Rattle.act_terms.specs.Named.{IsNamedIn}
use Rattle.act_binding.specs.Binding.{bound, bound_terms, children_with_shadows, shadow_of, with_shadows}
use Rattle.act_cones.specs.Cones.{AreCones, AreRanks}
use Rattle.act_refusal.specs.Known.{AreNumbered, IsContract, count_with_shadows}
use Rattle.act_cones.specs.Counts.{HavePlans}
use Rattle.act_portfolio.specs.Known.{IsGraph, IsPortfolio, portfolio_with}
use Rattle.act_portfolio.specs.Fit.{first_unfit}
use Rattle.act_binding.specs.Links.{listing_of}
use Rattle.act_portfolio.specs.Reading.{IsAccepted}
use Rattle.act_refusal.specs.Steps.{plans_from}
use Rattle.act_binding.proofs.Graphed.{AreWithin}
use Rattle.act_cones.proofs.Orders.{plan_each}
use Rattle.act_portfolio.proofs.Fitted.{all_fit}
use Rattle.act_binding.proofs.Linked.{are_linked}
use Rattle.act_binding.proofs.Named.{TermsAreNamed, bound_named, shadows_named}
use Rattle.act_cones.proofs.Lists.{all_at, slice_get_before}
use Rattle.act_refusal.proofs.PlannedSoFar.{each_planned}
use Rattle.act_binding.proofs.Shadowed.{as_many_numbers}
use Rattle.act_refusal.proofs.Built.{all_terms_built}
use Rattle.act_binding.proofs.Unchanged.{bound_built, same_plans, shadows_built}

-- a name isn't `*`
abbrev IsNoStar : List ℕ → Type 0
IsNoStar name = bytes_eq name (codes "*") ≡ false

module _ (named : List NamedTerms) (numbers : List ℕ) (shadows : List Terms) (lists : List (List ℕ)) (order : List ℕ) (graph : IsGraph named numbers shadows lists order) (known : All IsContract named) (few : count_with_shadows named ≤ 4096) where
  pub many_numbers : length numbers ≡ length named
  many_numbers = ap length graph.numbers ∙ as_many_numbers (length named) named

  pub few_all : length named + length shadows ≤ 4096
  few_all = let le = graph.few in omega (arith, graph.count)

  pub few_lists : length lists ≤ 4096
  few_lists = let le = graph.few in omega arith

  named_built : All (λ (t : Terms). IsBuilt t.kind) (map (λ (c : NamedTerms). c.terms) named)
  named_built = all_terms_built named known

  pub shadows_are_built : All (λ (t : Terms). IsBuilt t.kind) shadows
  shadows_are_built =
      subst (λ (ts : List Terms). All (λ (t : Terms). IsBuilt t.kind) ts) (sym graph.shadows) (shadows_built (listing_of named) (λ c t here. all_at (λ (t : Terms). IsBuilt t.kind) _ named_built c t here) (zip named numbers))

  pub with_their_shadows : with_shadows named ≡ map (λ (c : NamedTerms). c.terms) named ++ shadows
  with_their_shadows = ap (λ (ts : List Terms). map (λ (c : NamedTerms). c.terms) named ++ ts) (sym (graph.shadows ∙ ap (λ ns. filter_map (shadow_of (listing_of named)) (zip named ns)) graph.numbers))

  module _ (plans : List EventPlan) (planned : plans_from zero (map (λ (c : NamedTerms). c.terms) named ++ shadows) ≡ Ok plans) where
    each : map plan_of (map (λ (c : NamedTerms). c.terms) named ++ shadows) ≡ map Ok plans
    each = each_planned _ zero plans planned

    pub have_plans_named : HavePlans (map (λ (c : NamedTerms). c.terms) named) plans
    have_plans_named = record {
      built = λ c t here. all_at (λ (t : Terms). IsBuilt t.kind) _ named_built c t here;
      planned = λ c t plan here there. plan_each _ plans each c t plan (slice_get_before (map (λ (c : NamedTerms). c.terms) named) shadows c t here) there;
    }

    module _ (terms : List Terms) (bound_as : terms ≡ map (bound (listing_of named) plans) (zip named numbers) ++ shadows) where
      planned_all : map plan_of terms ≡ map Ok plans
      planned_all =
          ap (map plan_of) bound_as ∙ (map-append plan_of (map (bound (listing_of named) plans) (zip named numbers)) shadows
          ∙ (ap (λ ps. ps ++ map plan_of shadows) (same_plans (listing_of named) plans named numbers many_numbers)
          ∙ (sym (map-append plan_of (map (λ (c : NamedTerms). c.terms) named) shadows) ∙ each)))

      built_all : All (λ (t : Terms). IsBuilt t.kind) terms
      built_all =
          subst (λ (ts : List Terms). All (λ (t : Terms). IsBuilt t.kind) ts) (sym bound_as) (All-append (λ (t : Terms). IsBuilt t.kind) (map (bound (listing_of named) plans) (zip named numbers)) shadows
          (bound_built (listing_of named) plans named numbers (λ k d lt. (known k d lt).built)) shadows_are_built)

      pub have_plans : HavePlans terms plans
      have_plans = record { built = λ c t here. all_at (λ (t : Terms). IsBuilt t.kind) terms built_all c t here; planned = plan_each terms plans planned_all }

      pub many_terms : length terms ≡ length named + length shadows
      many_terms =
          let pairs = zip named numbers in
          omega (arith, ap length bound_as, length-append (map (bound (listing_of named) plans) pairs) shadows, length-map pairs (bound (listing_of named) plans), length-zip named numbers, many_numbers)

      terms_are : terms ≡ bound_terms named plans
      terms_are = bound_as ∙ rw (graph.shadows, graph.numbers) refl

      linked : first_unfit named ≡ None → AreNumbered named → IsLinked (record { terms = terms; plans = plans; children = lists })
      linked fit places = rw (terms_are, graph.children) (are_linked named plans (all_fit named fit) places.each (ap (map plan_of) (sym terms_are) ∙ planned_all))

      module _ (names : NameLists) (unused : List (List (List ℕ))) (ids : names.contracts ≡ map (λ (c : NamedTerms). c.id) named) (all_unused : length unused ≡ length named) where
        are_printable : first_unfit named ≡ None → All (IsNamedIn names) named → All AreBounded terms → All IsDated plans
            → ArePrintable (length names.codes) (length names.currencies) (record { terms = terms; plans = plans; children = lists })
        are_printable fit among bounded dated = record {
          planned = planned_all;
          bounded = bounded;
          dated = dated;
          named =
              subst (All (TermsAreNamed names)) (sym bound_as) (All-append (TermsAreNamed names) (map (bound (listing_of named) plans) (zip named numbers)) shadows
              (bound_named names named among plans numbers (all_fit named fit)) (subst (All (TermsAreNamed names)) (sym graph.shadows) (shadows_named names named among (zip named numbers))));
        }

        is_accepted : first_unfit named ≡ None → AreNumbered named → All (IsNamedIn names) named → All AreBounded terms → All IsDated plans → IsAccepted names (record { terms = terms; plans = plans; children = lists }) order unused
        is_accepted fit places among bounded dated =
            let many_ids : length names.contracts ≡ length named = ap length ids ∙ length-map named (λ (c : NamedTerms). c.id) in
            let many_lists : length lists ≡ length terms = graph.count ∙ sym many_terms in
            let le = few_all in
            record {
              built = λ c t here. all_at (λ (t : Terms). IsBuilt t.kind) terms built_all c t here;
              printable = are_printable fit among bounded dated;
              linked = linked fit places;
              children = many_lists;
              numbered = subst (λ (m : ℕ). All (AreWithin m) lists) many_lists graph.exist;
              ordered = graph.ordered;
              named = omega (arith, many_ids, many_terms);
              no_star = subst (All IsNoStar) (sym ids) (All-map IsNoStar (λ (c : NamedTerms). c.id) named (λ k d lt. (known k d lt).no_star));
              unused_lists = all_unused ∙ sym many_ids;
              few = omega (arith, many_terms);
            }

        pub is_finished : map_ok (portfolio_with names named order unused) (plans_from zero (with_shadows named)) ≡ Ok (record { names = names; contracts = record { terms = terms; plans = plans; children = lists }; order = order; unused = unused })
        is_finished =
            ap (λ ts. map_ok (portfolio_with names named order unused) (plans_from zero ts)) with_their_shadows ∙ (ap (map_ok (portfolio_with names named order unused)) planned
            ∙ ap (λ ts. Ok (record { names = names; contracts = record { terms = ts; plans = plans; children = children_with_shadows named }; order = order; unused = unused })) (sym terms_are)
            ∙ ap (λ ls. Ok (record { names = names; contracts = record { terms = terms; plans = plans; children = ls }; order = order; unused = unused })) (sym graph.children))

        pub is_kept : first_unfit named ≡ None → AreNumbered named → All (IsNamedIn names) named → All AreBounded terms → All IsDated plans → (ranks counts weights : List ℕ) (reads : List Readings) → AreRanks (length lists) order ranks → AreCones (record { terms = terms; plans = plans; children = lists }) counts weights reads
            → IsPortfolio (record { names = names; contracts = record { terms = terms; plans = plans; children = lists }; order = order; unused = unused }) ranks counts weights reads
        is_kept fit places among bounded dated ranks counts weights reads ranked cones = record {
          accepted = is_accepted fit places among bounded dated;
          ranks = subst (λ (m : ℕ). AreRanks m order ranks) (graph.count ∙ sym many_terms) ranked;
          cones = cones;
        }
