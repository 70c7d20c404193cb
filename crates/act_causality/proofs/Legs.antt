-- Rows of children as events, before a day on which the children's runs agree.
pub use Rattle.act_causality.specs.Causality.{PairDays}
use Rattle.std.proofs.Common.{◌≡◌, ◌+◌, ◌&&◌, nat_lt, ℕ, Bool, true, false, ℤ, int_lt, List, [], ◌∷◌, ◌++◌, length, map, Option, Some, None, inl, inr, refl, sym, ◌∙◌, ap, arith}
use Rattle.std.specs.List.{count_by, enumerate_from, filter, flat_map, slice_get, zip}
use Rattle.std.specs.Ordering.{int_eq}
use Rattle.std.specs.Prelude.{not}
use Rattle.std.proofs.lemmas.Bool.{cases_Bool}
use Rattle.std.proofs.lemmas.Int.{ints}
use Rattle.std.proofs.lemmas.List.Sums.{length-filter}
use Rattle.act_model.specs.Run.{Stream}
use Rattle.act_model.specs.declared.choice.DeliverySettlement.{DeliverySettlement}
use Rattle.act_model.specs.declared.choice.DeliverySettlement.TheVariants as delivery
use Rattle.act_model.specs.declared.event.Event.{Event}
use Rattle.act_model.specs.declared.event.EventType.TheVariants as type
use Rattle.act_model.specs.declared.run.Row.{Row}
use Rattle.act_model.specs.declared.terms.Common.{Common}
use Rattle.act_model.specs.declared.terms.Swaps.{Swaps}
use Rattle.act_profile.specs.Legs.{PlacedRow, child, earlier_like, first_leg, is_netted_with, leg_event, leg_events, net_event, netted_or_alone, partner, placed_rows, second_leg, swaps_events, taken_rows, unless_netted}
use Rattle.act_profile.specs.Order.{is_type}
use Rattle.act_causality.specs.Causality.{events_before}
use Rattle.act_causality.proofs.Children.{ChildAgrees, ChildrenAgree, child-agree, is_row_before}
use Rattle.act_causality.proofs.Lists.{IsCut, Late, filter-swap, filter-within, late-none}
use Rattle.act_causality.proofs.Observations.{events_before-append}

-- ---- rows with their places

abbrev pub is_placed_before : ℤ → PlacedRow → Bool
is_placed_before day row = int_lt row.1.day day

late-placed : (day : ℤ) (n : ℕ) (rows : List Row) → Late (is_row_before day) rows → filter (is_placed_before day) (enumerate_from n rows) ≡ []
late-placed day n [] late = refl
late-placed day n (row ∷ rows) late = rw (late.0) (late-placed day (n + 1) rows late.1)

placed-before : (day : ℤ) (n : ℕ) (rows : List Row) → IsCut (is_row_before day) rows → filter (is_placed_before day) (enumerate_from n rows) ≡ enumerate_from n (filter (is_row_before day) rows)
placed-before day n [] cut = refl
placed-before day n (row ∷ rows) cut =
    elim (cases_Bool (is_row_before day row)) [
      | inl early ↦ rw early (ap (λ (rest : List PlacedRow). (n, row) ∷ rest) (placed-before day (n + 1) rows cut.1))
      | inr late ↦ rw late (late-placed day (n + 1) rows (cut.0 late) ∙ ap (enumerate_from n) (sym (late-none (is_row_before day) rows (cut.0 late))))
    ]

pub placed-agree : (day : ℤ) (one other : Stream) → ChildAgrees day one other → filter (is_placed_before day) (placed_rows one) ≡ filter (is_placed_before day) (placed_rows other)
placed-agree day one other agree = placed-before day 0 one.rows agree.cut ∙ ap (enumerate_from 0) agree.runs.rows ∙ sym (placed-before day 0 other.rows agree.cut2)

pub some-agree : (day : ℤ) (test : PlacedRow → Bool) (one other : Stream) → ChildAgrees day one other →
    filter (is_placed_before day) (filter test (placed_rows one)) ≡ filter (is_placed_before day) (filter test (placed_rows other))
some-agree day test one other agree =
    filter-swap (is_placed_before day) test (placed_rows one) ∙ ap (filter test) (placed-agree day one other agree) ∙ sym (filter-swap (is_placed_before day) test (placed_rows other))

-- ---- SWAPS: the events

legs-before : (day : ℤ) (leg : ℕ) (rows : List PlacedRow) → events_before day (map (leg_event leg) rows) ≡ map (leg_event leg) (filter (is_placed_before day) rows)
legs-before day leg [] = refl
legs-before day leg (row ∷ rows) =
    elim (cases_Bool (is_placed_before day row)) [
      | inl early ↦ rw early (ap (λ (rest : List Event). leg_event leg row ∷ rest) (legs-before day leg rows))
      | inr late ↦ rw late (legs-before day leg rows)
    ]

same_before : (day a b : ℤ) → int_lt a day ≡ true → int_eq a b ≡ true → int_lt b day ≡ true
same_before day a b early same = grind (arith, ints)

netted_before : (day : ℤ) (row : PlacedRow) → is_placed_before day row ≡ true → (other : PlacedRow) → is_netted_with row other ≡ true → is_placed_before day other ≡ true
netted_before day row early other netted =
    elim (cases_Bool (is_type row.1.kind type.IP)) [
      | inl first ↦ elim (cases_Bool (is_type other.1.kind type.IP)) [
        | inl second ↦ elim (cases_Bool (int_eq row.1.day other.1.day)) [
          | inl days ↦ same_before day row.1.day other.1.day early days
          | inr no_days ↦ let fails : false ≡ true = rw no_days at (rw second at (rw first at netted)) in absurd (cc)
        ]
        | inr no_second ↦ let fails : false ≡ true = rw no_second at (rw first at netted) in absurd (cc)
      ]
      | inr no_first ↦ let fails : false ≡ true = rw no_first at netted in absurd (cc)
    ]

count-within : {A : Type 0} (p q : A → Bool) → ((x : A) → p x ≡ true → q x ≡ true) → (xs : List A) → count_by p (filter q xs) ≡ count_by p xs
count-within p q within xs = sym (length-filter p (filter q xs)) ∙ ap length (filter-within p q within xs) ∙ length-filter p xs

earlier_before : (day : ℤ) (row : PlacedRow) → is_placed_before day row ≡ true → (other : PlacedRow) → (nat_lt other.0 row.0 && is_netted_with row other) ≡ true → is_placed_before day other ≡ true
earlier_before day row early other is =
    elim (cases_Bool (nat_lt other.0 row.0)) [
      | inl less ↦ netted_before day row early other (rw less at is)
      | inr more ↦ let fails : false ≡ true = rw more at is in absurd (cc)
    ]

-- the partner of a row dated before the day is found among those dated before it
partner-before : (day : ℤ) (rows others : List PlacedRow) (row : PlacedRow) → is_placed_before day row ≡ true →
    partner rows others row ≡ partner (filter (is_placed_before day) rows) (filter (is_placed_before day) others) row
partner-before day rows others row early =
    ap (λ (found : List PlacedRow). slice_get found (earlier_like rows row)) (sym (filter-within (is_netted_with row) (is_placed_before day) (netted_before day row early) others))
    ∙ ap (λ (n : ℕ). slice_get (filter (is_netted_with row) (filter (is_placed_before day) others)) n)
    (sym (count-within (λ r. nat_lt r.0 row.0 && is_netted_with row r) (is_placed_before day) (earlier_before day row early) rows))

netted-early : (day : ℤ) (leg : ℕ) (row : PlacedRow) (found : Option PlacedRow) (rest : List Event) → is_placed_before day row ≡ true → events_before day (netted_or_alone leg row found ∷ rest) ≡ netted_or_alone leg row found ∷ events_before day rest
netted-early day leg row None rest early = rw early refl
netted-early day leg row (Some other) rest early = rw early refl

netted-late : (day : ℤ) (leg : ℕ) (row : PlacedRow) (found : Option PlacedRow) (rest : List Event) → is_placed_before day row ≡ false → events_before day (netted_or_alone leg row found ∷ rest) ≡ events_before day rest
netted-late day leg row None rest late = rw late refl
netted-late day leg row (Some other) rest late = rw late refl

unless-early : (day : ℤ) (leg : ℕ) (row : PlacedRow) (found : Option PlacedRow) → is_placed_before day row ≡ true → events_before day (unless_netted leg row found) ≡ unless_netted leg row found
unless-early day leg row None early = rw early refl
unless-early day leg row (Some other) early = refl

unless-late : (day : ℤ) (leg : ℕ) (row : PlacedRow) (found : Option PlacedRow) → is_placed_before day row ≡ false → events_before day (unless_netted leg row found) ≡ []
unless-late day leg row None late = rw late refl
unless-late day leg row (Some other) late = refl

module _ (day : ℤ) (leg : ℕ) (firsts seconds : List PlacedRow) where
  netted-before : (rows : List PlacedRow) → events_before day (map (λ row. netted_or_alone leg row (partner firsts seconds row)) rows)
      ≡ map (λ row. netted_or_alone leg row (partner (filter (is_placed_before day) firsts) (filter (is_placed_before day) seconds) row)) (filter (is_placed_before day) rows)
  netted-before [] = refl
  netted-before (row ∷ rows) =
      elim (cases_Bool (is_placed_before day row)) [
        | inl early ↦ rw early (
            netted-early day leg row (partner firsts seconds row) (map (λ r. netted_or_alone leg r (partner firsts seconds r)) rows) early
            ∙ ap (λ (found : Option PlacedRow). netted_or_alone leg row found ∷ events_before day (map (λ r. netted_or_alone leg r (partner firsts seconds r)) rows)) (partner-before day firsts seconds row early)
            ∙ ap (λ (rest : List Event). netted_or_alone leg row (partner (filter (is_placed_before day) firsts) (filter (is_placed_before day) seconds) row) ∷ rest) (netted-before rows))
        | inr late ↦ rw late (netted-late day leg row (partner firsts seconds row) (map (λ r. netted_or_alone leg r (partner firsts seconds r)) rows) late ∙ netted-before rows)
      ]

  unless-before : (rows : List PlacedRow) → events_before day (flat_map (λ row. unless_netted leg row (partner firsts seconds row)) rows)
      ≡ flat_map (λ row. unless_netted leg row (partner (filter (is_placed_before day) firsts) (filter (is_placed_before day) seconds) row)) (filter (is_placed_before day) rows)
  unless-before [] = refl
  unless-before (row ∷ rows) =
      events_before-append day (unless_netted leg row (partner firsts seconds row)) (flat_map (λ r. unless_netted leg r (partner firsts seconds r)) rows)
      ∙ ap (λ (rest : List Event). events_before day (unless_netted leg row (partner firsts seconds row)) ++ rest) (unless-before rows)
      ∙ (elim (cases_Bool (is_placed_before day row)) [
        | inl early ↦ rw early (
            ap (λ (some : List Event). some ++ flat_map (λ r. unless_netted leg r (partner (filter (is_placed_before day) firsts) (filter (is_placed_before day) seconds) r)) (filter (is_placed_before day) rows))
            (unless-early day leg row (partner firsts seconds row) early ∙ ap (unless_netted leg row) (partner-before day firsts seconds row early)))
        | inr late ↦ rw late (
            ap (λ (some : List Event). some ++ flat_map (λ r. unless_netted leg r (partner (filter (is_placed_before day) firsts) (filter (is_placed_before day) seconds) r)) (filter (is_placed_before day) rows))
            (unless-late day leg row (partner firsts seconds row) late))
      ])

leg_events-before : (day : ℤ) (how : DeliverySettlement) (first second : ℕ) (firsts seconds : List PlacedRow) →
    events_before day (leg_events how first second firsts seconds) ≡ leg_events how first second (filter (is_placed_before day) firsts) (filter (is_placed_before day) seconds)
leg_events-before day delivery.D first second firsts seconds =
    events_before-append day (map (leg_event first) firsts) (map (leg_event second) seconds)
    ∙ ap (λ (some : List Event). some ++ events_before day (map (leg_event second) seconds)) (legs-before day first firsts)
    ∙ ap (λ (rest : List Event). map (leg_event first) (filter (is_placed_before day) firsts) ++ rest) (legs-before day second seconds)
leg_events-before day delivery.S first second firsts seconds =
    events_before-append day (map (λ row. netted_or_alone first row (partner firsts seconds row)) firsts) (flat_map (λ row. unless_netted second row (partner seconds firsts row)) seconds)
    ∙ ap (λ (some : List Event). some ++ events_before day (flat_map (λ row. unless_netted second row (partner seconds firsts row)) seconds)) (netted-before day first firsts seconds firsts)
    ∙ ap (λ (rest : List Event). map (λ row. netted_or_alone first row (partner (filter (is_placed_before day) firsts) (filter (is_placed_before day) seconds) row)) (filter (is_placed_before day) firsts) ++ rest) (unless-before day second seconds firsts seconds)

taken-agree : (day status : ℤ) (one other : Stream) → ChildAgrees day one other → filter (is_placed_before day) (taken_rows status one) ≡ filter (is_placed_before day) (taken_rows status other)
taken-agree day status one other agree = some-agree day (λ row. int_lt status row.1.day && not (is_type row.1.kind type.CE)) one other agree

pub swaps_events-agree : (day : ℤ) (common : Common) (swaps : Swaps) (children others : List Stream) → ChildrenAgree day children others →
    events_before day (swaps_events common swaps children) ≡ events_before day (swaps_events common swaps others)
swaps_events-agree day common swaps children others agree =
    let status = common.status_date in
    leg_events-before day swaps.delivery_settlement (first_leg swaps) (second_leg swaps) (taken_rows status (child children (first_leg swaps))) (taken_rows status (child children (second_leg swaps)))
    ∙ ap (λ (firsts : List PlacedRow). leg_events swaps.delivery_settlement (first_leg swaps) (second_leg swaps) firsts (filter (is_placed_before day) (taken_rows status (child children (second_leg swaps)))))
    (taken-agree day status (child children (first_leg swaps)) (child others (first_leg swaps)) (child-agree day children others (first_leg swaps) agree))
    ∙ ap (λ (seconds : List PlacedRow). leg_events swaps.delivery_settlement (first_leg swaps) (second_leg swaps) (filter (is_placed_before day) (taken_rows status (child others (first_leg swaps)))) seconds)
    (taken-agree day status (child children (second_leg swaps)) (child others (second_leg swaps)) (child-agree day children others (second_leg swaps) agree))
    ∙ sym (leg_events-before day swaps.delivery_settlement (first_leg swaps) (second_leg swaps) (taken_rows status (child others (first_leg swaps))) (taken_rows status (child others (second_leg swaps))))

-- ---- CAPFL: the events

abbrev nets : List PlacedRow → List PlacedRow → List Event
nets xs ys = map (λ rows. net_event rows.0 rows.1) (zip xs ys)

late-nets : (day : ℤ) (xs ys : List PlacedRow) → Late (is_placed_before day) xs → events_before day (nets xs ys) ≡ []
late-nets day [] ys late = refl
late-nets day (x ∷ xs) [] late = refl
late-nets day (x ∷ xs) (y ∷ ys) late = rw (late.0) (late-nets day xs ys late.1)

pub nets-before : (day : ℤ) (xs ys : List PlacedRow) → IsCut (is_placed_before day) xs → IsCut (is_placed_before day) ys → PairDays xs ys →
    events_before day (nets xs ys) ≡ nets (filter (is_placed_before day) xs) (filter (is_placed_before day) ys)
nets-before day [] ys cut cut2 pairs = refl
nets-before day (x ∷ xs) [] cut cut2 pairs =
    elim (cases_Bool (is_placed_before day x)) [
      | inl early ↦ rw early refl
      | inr late ↦ rw late (rw (late-none (is_placed_before day) xs (cut.0 late)) refl)
    ]
nets-before day (x ∷ xs) (y ∷ ys) cut cut2 pairs =
    elim (cases_Bool (is_placed_before day x)) [
      | inl early ↦
          let early2 : is_placed_before day y ≡ true = rw (pairs.0) at early in
          rw early (rw early2 (ap (λ (rest : List Event). net_event x y ∷ rest) (nets-before day xs ys cut.1 cut2.1 pairs.1)))
      | inr late ↦
          late-nets day (x ∷ xs) (y ∷ ys) (late, cut.0 late)
          ∙ ap (λ (zs : List PlacedRow). nets zs (filter (is_placed_before day) (y ∷ ys))) (sym (late-none (is_placed_before day) (x ∷ xs) (late, cut.0 late)))
    ]
