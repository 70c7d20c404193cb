-- The rows that events of children's rows name, and what is paid by them.
pub use Rattle.act_causality.specs.Causality.{ArePaired}
use Rattle.std.proofs.Common.{◌≡◌, ◌+◌, ◌==◌, ◌&&◌, ℕ, zero, suc, Bool, true, false, ℤ, int_lt, List, [], ◌∷◌, map, Option, Some, None, inl, inr, refl, sym, ◌∙◌, ap, arith}
use Rattle.std.specs.List.{AllByRecursion, enumerate_from, filter, flat_map, slice_get, zip}
use Rattle.std.specs.Ordering.{int_eq}
use Rattle.std.specs.Prelude.{not, option_map}
use Rattle.std.proofs.lemmas.Bool.{cases_Bool}
use Rattle.std.proofs.lemmas.Int.{ints}
use Rattle.act_model.specs.Run.{EventPlan, Stream}
use Rattle.act_model.specs.declared.choice.DeliverySettlement.{DeliverySettlement}
use Rattle.act_model.specs.declared.choice.DeliverySettlement.TheVariants as delivery
use Rattle.act_model.specs.declared.event.Event.{Event}
use Rattle.act_model.specs.declared.event.EventType.TheVariants as type
use Rattle.act_model.specs.declared.event.Source.{Source}
use Rattle.act_model.specs.declared.event.Source.TheVariants.{Scheduled, Observed, Leg, Net}
use Rattle.act_model.specs.declared.run.Row.{Row}
use Rattle.act_model.specs.declared.terms.Capfl.{Capfl}
use Rattle.act_model.specs.declared.terms.Common.{Common}
use Rattle.act_model.specs.declared.terms.Kind.{Kind}
use Rattle.act_model.specs.declared.terms.Kind.TheVariants as kind
use Rattle.act_model.specs.declared.terms.Swaps.{Swaps}
use Rattle.act_model.specs.declared.terms.Terms.{Terms}
use Rattle.act_profile.specs.Dates.{is_within}
use Rattle.act_profile.specs.Events.{events_of_children}
use Rattle.act_profile.specs.Formula.{magnitude, minus, signed}
use Rattle.act_profile.specs.Legs.{PlacedRow, capfl_amount, capfl_events, capfl_row, child, earlier_like, first_leg, is_netted_with, leg_amount, leg_event, leg_events, limited_rows, net_event, netted_or_alone, partner, paid, placed_rows, row_at, second_leg, signed_paid, swaps_amount, swaps_row, taken_rows, unless_netted}
use Rattle.act_profile.specs.Order.{is_own, is_type}
use Rattle.act_profile.specs.Step.{keeps, pays}
use Rattle.act_profile.specs.Steps.{currency_of, currency_by, currency_of_row, line_by, own_or_row_line}
use Rattle.act_profile.specs.Trade.{trade_line}
use Rattle.act_causality.specs.Causality.{events_before}
use Rattle.act_causality.proofs.Children.{ChildrenAgree, child-agree, is_row_before, row_at-agree}
use Rattle.act_causality.proofs.EventFacts.{all-append, all-filter}
use Rattle.act_causality.proofs.Legs.{PairDays, is_placed_before, nets-before, some-agree, swaps_events-agree}
use Rattle.act_causality.proofs.Lists.{IsCut, Late, cut-filter}

-- ---- CAPFL: the events, where the interest rows stand beside one another by their days

late-enumerated : (day : ℤ) (n : ℕ) (rows : List Row) → Late (is_row_before day) rows → Late (is_placed_before day) (enumerate_from n rows)
late-enumerated day n [] late = tt
late-enumerated day n (row ∷ rows) late = (late.0, late-enumerated day (n + 1) rows late.1)

cut-enumerated : (day : ℤ) (n : ℕ) (rows : List Row) → IsCut (is_row_before day) rows → IsCut (is_placed_before day) (enumerate_from n rows)
cut-enumerated day n [] cut = tt
cut-enumerated day n (row ∷ rows) cut = ((λ late. late-enumerated day (n + 1) rows (cut.0 late)), cut-enumerated day (n + 1) rows cut.1)

abbrev is_limited : Common → Capfl → PlacedRow → Bool
is_limited common capfl row = is_type row.1.kind type.IP && is_within common.status_date capfl.maturity_date row.1.day

capfl_events-before : (day : ℤ) (common : Common) (capfl : Capfl) (one other : Stream) → IsCut (is_row_before day) one.rows → IsCut (is_row_before day) other.rows →
    PairDays (limited_rows common capfl one) (limited_rows common capfl other) →
    events_before day (map (λ rows. net_event rows.0 rows.1) (zip (limited_rows common capfl one) (limited_rows common capfl other)))
    ≡ map (λ rows. net_event rows.0 rows.1) (zip (filter (is_placed_before day) (limited_rows common capfl one)) (filter (is_placed_before day) (limited_rows common capfl other)))
capfl_events-before day common capfl one other cut cut2 pairs =
    nets-before day (limited_rows common capfl one) (limited_rows common capfl other)
    (cut-filter (is_placed_before day) (is_limited common capfl) (placed_rows one) (cut-enumerated day 0 one.rows cut))
    (cut-filter (is_placed_before day) (is_limited common capfl) (placed_rows other) (cut-enumerated day 0 other.rows cut2)) pairs

capfl_events-agree : (day : ℤ) (common : Common) (capfl : Capfl) (children others : List Stream) → ChildrenAgree day children others →
    ArePaired common (kind.CAPFL capfl) children → ArePaired common (kind.CAPFL capfl) others → events_before day (capfl_events common capfl children) ≡ events_before day (capfl_events common capfl others)
capfl_events-agree day common capfl children others agree pairs pairs2 =
    let first = child-agree day children others 0 agree in
    let second = child-agree day children others 1 agree in
    capfl_events-before day common capfl (child children 0) (child children 1) first.cut second.cut pairs
    ∙ ap (λ (xs : List PlacedRow). map (λ rows. net_event rows.0 rows.1) (zip xs (filter (is_placed_before day) (limited_rows common capfl (child children 1)))))
    (some-agree day (is_limited common capfl) (child children 0) (child others 0) first)
    ∙ ap (λ (ys : List PlacedRow). map (λ rows. net_event rows.0 rows.1) (zip (filter (is_placed_before day) (limited_rows common capfl (child others 0))) ys))
    (some-agree day (is_limited common capfl) (child children 1) (child others 1) second)
    ∙ sym (capfl_events-before day common capfl (child others 0) (child others 1) first.cut2 second.cut2 pairs2)

-- the events that a contract makes of its children's rows agree before the day
pub row_events-agree : (day : ℤ) (common : Common) (contract : Kind) (children others : List Stream) → ChildrenAgree day children others → ArePaired common contract children → ArePaired common contract others →
    events_before day (events_of_children common contract children) ≡ events_before day (events_of_children common contract others)
row_events-agree day common (kind.SWAPS swaps) children others agree pairs pairs2 = swaps_events-agree day common swaps children others agree
row_events-agree day common (kind.CAPFL capfl) children others agree pairs pairs2 = capfl_events-agree day common capfl children others agree pairs pairs2
row_events-agree day common other children others agree pairs pairs2 = refl

-- ---- the rows that an event names

-- a child's row at a place, dated on that day
pub record NamesRow (children : List Stream) (leg n : ℕ) (day : ℤ) : Type 0 where
  pub row : Row
  pub is : row_at children leg n ≡ Some row
  pub on : row.day ≡ day

abbrev pub SwapsRows : Swaps → List Stream → ℤ → Source → Type 0
SwapsRows swaps children day (Leg leg n) = NamesRow children leg n day
SwapsRows swaps children day (Net first second) = NamesRow children (first_leg swaps) first day × NamesRow children (second_leg swaps) second day
SwapsRows swaps children day other = Unit {0}

abbrev pub CapflRows : List Stream → ℤ → Source → Type 0
CapflRows children day (Net first second) = NamesRow children 0 first day × NamesRow children 1 second day
CapflRows children day other = Unit {0}

-- the rows that an event names are there, and dated on its day
abbrev pub HasRows : Kind → List Stream → Event → Type 0
HasRows (kind.SWAPS swaps) children e = SwapsRows swaps children e.day e.source
HasRows (kind.CAPFL capfl) children e = CapflRows children e.day e.source
HasRows other children e = Unit {0}

swaps-own : (swaps : Swaps) (children : List Stream) (day : ℤ) (source : Source) → is_own source ≡ true → SwapsRows swaps children day source
swaps-own swaps children day (Scheduled place) own = tt
swaps-own swaps children day (Observed place) own = tt
swaps-own swaps children day (Leg leg n) own = absurd (cc)
swaps-own swaps children day (Net first second) own = absurd (cc)

capfl-own : (children : List Stream) (day : ℤ) (source : Source) → is_own source ≡ true → CapflRows children day source
capfl-own children day (Net first second) own = absurd (cc)
capfl-own children day other own = tt

pub own-rows : (contract : Kind) (children : List Stream) (e : Event) → is_own e.source ≡ true → HasRows contract children e
own-rows (kind.SWAPS swaps) children e own = swaps-own swaps children e.day e.source own
own-rows (kind.CAPFL capfl) children e own = capfl-own children e.day e.source own
own-rows other children e own = tt

-- ---- the events of children's rows name rows

-- a placed row is its run's row at its place
abbrev IsPlacedIn : List Row → PlacedRow → Type 0
IsPlacedIn rows row = slice_get rows row.0 ≡ Some row.1

plus-none : (n : ℕ) → n ≡ n + 0
plus-none n = omega arith

plus-next : (n k : ℕ) → n + 1 + k ≡ n + suc k
plus-next n k = omega arith

none-plus : (k : ℕ) → 0 + k ≡ k
none-plus k = omega arith

all-placed : (n : ℕ) (rows whole : List Row) → ((k : ℕ) (row : Row) → slice_get rows k ≡ Some row → slice_get whole (n + k) ≡ Some row) → AllByRecursion (IsPlacedIn whole) (enumerate_from n rows)
all-placed n [] whole at = tt
all-placed n (row ∷ rows) whole at =
    (ap (λ (k : ℕ). slice_get whole k) (plus-none n) ∙ at 0 row refl, all-placed (n + 1) rows whole (λ k other is. ap (λ (i : ℕ). slice_get whole i) (plus-next n k) ∙ at (suc k) other is))

placed : (children : List Stream) (leg : ℕ) → AllByRecursion (IsPlacedIn (child children leg).rows) (placed_rows (child children leg))
placed children leg = all-placed 0 (child children leg).rows (child children leg).rows (λ k row is. ap (λ (i : ℕ). slice_get (child children leg).rows i) (none-plus k) ∙ is)

pub all-get : {A : Type 0} (P : A → Type 0) (xs : List A) (n : ℕ) (x : A) → AllByRecursion P xs → slice_get xs n ≡ Some x → P x
all-get P [] n x all is = absurd (cc)
all-get P (y ∷ ys) zero x all is = let same : y ≡ x = cc in rw (← same) all.0
all-get P (y ∷ ys) (suc n) x all is = all-get P ys n x all.1 is

all-passing : {A : Type 0} (test : A → Bool) (xs : List A) → AllByRecursion (λ x. test x ≡ true) (filter test xs)
all-passing test [] = tt
all-passing test (x ∷ xs) =
    elim (cases_Bool (test x)) [
      | inl is ↦ rw is (is, all-passing test xs)
      | inr fails ↦ rw fails (all-passing test xs)
    ]

leg-has : (swaps : Swaps) (children : List Stream) (leg : ℕ) (row : PlacedRow) → IsPlacedIn (child children leg).rows row → SwapsRows swaps children (leg_event leg row).day (leg_event leg row).source
leg-has swaps children leg row is = record { row = row.1; is = is; on = refl }

legs-have : (swaps : Swaps) (children : List Stream) (leg : ℕ) (rows : List PlacedRow) → AllByRecursion (IsPlacedIn (child children leg).rows) rows →
    AllByRecursion (λ (e : Event). SwapsRows swaps children e.day e.source) (map (leg_event leg) rows)
legs-have swaps children leg [] all = tt
legs-have swaps children leg (row ∷ rows) all = (leg-has swaps children leg row all.0, legs-have swaps children leg rows all.1)

equal_days : (a b : ℤ) → int_eq a b ≡ true → b ≡ a
equal_days a b same = grind (arith, ints)

same_day : (a b : PlacedRow) → is_netted_with a b ≡ true → b.1.day ≡ a.1.day
same_day a b netted =
    elim (cases_Bool (is_type a.1.kind type.IP)) [
      | inl first ↦ elim (cases_Bool (is_type b.1.kind type.IP)) [
        | inl second ↦ elim (cases_Bool (int_eq a.1.day b.1.day)) [
          | inl days ↦ equal_days a.1.day b.1.day days
          | inr no_days ↦ let fails : false ≡ true = rw no_days at (rw second at (rw first at netted)) in absurd (cc)
        ]
        | inr no_second ↦ let fails : false ≡ true = rw no_second at (rw first at netted) in absurd (cc)
      ]
      | inr no_first ↦ let fails : false ≡ true = rw no_first at netted in absurd (cc)
    ]

net-has : (swaps : Swaps) (children : List Stream) (row : PlacedRow) (others : List PlacedRow) (k : ℕ) (found : Option PlacedRow) → IsPlacedIn (child children (first_leg swaps)).rows row →
    AllByRecursion (IsPlacedIn (child children (second_leg swaps)).rows) others → slice_get (filter (is_netted_with row) others) k ≡ found →
    SwapsRows swaps children (netted_or_alone (first_leg swaps) row found).day (netted_or_alone (first_leg swaps) row found).source
net-has swaps children row others k None is all get = leg-has swaps children (first_leg swaps) row is
net-has swaps children row others k (Some other) is all get = (
  record { row = row.1; is = is; on = refl },
  record {
    row = other.1;
    is = all-get (IsPlacedIn (child children (second_leg swaps)).rows) (filter (is_netted_with row) others) k other (all-filter (IsPlacedIn (child children (second_leg swaps)).rows) (is_netted_with row) others all) get;
    on = same_day row other (all-get (λ (x : PlacedRow). is_netted_with row x ≡ true) (filter (is_netted_with row) others) k other (all-passing (is_netted_with row) others) get);
  },
)

module _ (swaps : Swaps) (children : List Stream) (firsts seconds : List PlacedRow) (all : AllByRecursion (IsPlacedIn (child children (first_leg swaps)).rows) firsts) (all2 : AllByRecursion (IsPlacedIn (child children (second_leg swaps)).rows) seconds) where
  nets-have : (rows : List PlacedRow) → AllByRecursion (IsPlacedIn (child children (first_leg swaps)).rows) rows →
      AllByRecursion (λ (e : Event). SwapsRows swaps children e.day e.source) (map (λ row. netted_or_alone (first_leg swaps) row (partner firsts seconds row)) rows)
  nets-have [] in_place = tt
  nets-have (row ∷ rows) in_place = (net-has swaps children row seconds (earlier_like firsts row) (partner firsts seconds row) in_place.0 all2 refl, nets-have rows in_place.1)

  alone-has : (row : PlacedRow) (found : Option PlacedRow) → IsPlacedIn (child children (second_leg swaps)).rows row → AllByRecursion (λ (e : Event). SwapsRows swaps children e.day e.source) (unless_netted (second_leg swaps) row found)
  alone-has row None is = (leg-has swaps children (second_leg swaps) row is, tt)
  alone-has row (Some other) is = tt

  unless-have : (rows : List PlacedRow) → AllByRecursion (IsPlacedIn (child children (second_leg swaps)).rows) rows →
      AllByRecursion (λ (e : Event). SwapsRows swaps children e.day e.source) (flat_map (λ row. unless_netted (second_leg swaps) row (partner seconds firsts row)) rows)
  unless-have [] in_place = tt
  unless-have (row ∷ rows) in_place =
      all-append (λ (e : Event). SwapsRows swaps children e.day e.source) (unless_netted (second_leg swaps) row (partner seconds firsts row)) (flat_map (λ r. unless_netted (second_leg swaps) r (partner seconds firsts r)) rows)
      (alone-has row (partner seconds firsts row) in_place.0) (unless-have rows in_place.1)

  leg_events-have : (how : DeliverySettlement) → AllByRecursion (λ (e : Event). SwapsRows swaps children e.day e.source) (leg_events how (first_leg swaps) (second_leg swaps) firsts seconds)
  leg_events-have delivery.D =
      all-append (λ (e : Event). SwapsRows swaps children e.day e.source) (map (leg_event (first_leg swaps)) firsts) (map (leg_event (second_leg swaps)) seconds)
      (legs-have swaps children (first_leg swaps) firsts all) (legs-have swaps children (second_leg swaps) seconds all2)
  leg_events-have delivery.S =
      all-append (λ (e : Event). SwapsRows swaps children e.day e.source) (map (λ row. netted_or_alone (first_leg swaps) row (partner firsts seconds row)) firsts)
      (flat_map (λ row. unless_netted (second_leg swaps) row (partner seconds firsts row)) seconds) (nets-have firsts all) (unless-have seconds all2)

cap-has : (children : List Stream) (xs ys : List PlacedRow) → AllByRecursion (IsPlacedIn (child children 0).rows) xs → AllByRecursion (IsPlacedIn (child children 1).rows) ys → PairDays xs ys →
    AllByRecursion (λ (e : Event). CapflRows children e.day e.source) (map (λ rows. net_event rows.0 rows.1) (zip xs ys))
cap-has children [] ys all all2 pairs = tt
cap-has children (x ∷ xs) [] all all2 pairs = tt
cap-has children (x ∷ xs) (y ∷ ys) all all2 pairs =
    ((record { row = x.1; is = all.0; on = refl }, record { row = y.1; is = all2.0; on = sym pairs.0 }), cap-has children xs ys all.1 all2.1 pairs.1)

-- the events of children's rows name rows of their days
pub row_events-have : (common : Common) (contract : Kind) (children : List Stream) → ArePaired common contract children → AllByRecursion (HasRows contract children) (events_of_children common contract children)
row_events-have common (kind.SWAPS swaps) children pairs =
    leg_events-have swaps children (taken_rows common.status_date (child children (first_leg swaps))) (taken_rows common.status_date (child children (second_leg swaps)))
    (all-filter (IsPlacedIn (child children (first_leg swaps)).rows) (λ row. int_lt common.status_date row.1.day && not (is_type row.1.kind type.CE)) (placed_rows (child children (first_leg swaps))) (placed children (first_leg swaps)))
    (all-filter (IsPlacedIn (child children (second_leg swaps)).rows) (λ row. int_lt common.status_date row.1.day && not (is_type row.1.kind type.CE)) (placed_rows (child children (second_leg swaps))) (placed children (second_leg swaps)))
    swaps.delivery_settlement
row_events-have common (kind.CAPFL capfl) children pairs =
    cap-has children (limited_rows common capfl (child children 0)) (limited_rows common capfl (child children 1))
    (all-filter (IsPlacedIn (child children 0).rows) (is_limited common capfl) (placed_rows (child children 0)) (placed children 0))
    (all-filter (IsPlacedIn (child children 1).rows) (is_limited common capfl) (placed_rows (child children 1)) (placed children 1)) pairs
row_events-have common other children pairs = tt

-- ---- lines and currencies of such events

module _ (day : ℤ) (children others : List Stream) (agree : ChildrenAgree day children others) where
  same_row : (leg n : ℕ) (t : ℤ) → int_lt t day ≡ true → NamesRow children leg n t → row_at children leg n ≡ row_at others leg n
  same_row leg n t early named =
      named.is ∙ sym (row_at-agree day children others leg n named.row agree named.is (rw (named.on) early))

  swaps-amount : (common : Common) (swaps : Swaps) (t : ℤ) (source : Source) → int_lt t day ≡ true → SwapsRows swaps children t source → swaps_amount common swaps children source ≡ swaps_amount common swaps others source
  swaps-amount common swaps t (Leg leg n) early named = ap (leg_amount common (leg == first_leg swaps)) (same_row leg n t early named)
  swaps-amount common swaps t (Net first second) early named =
      ap (λ (row : Option Row). minus (signed_paid common row) (signed_paid common (row_at children (second_leg swaps) second))) (same_row (first_leg swaps) first t early named.0)
      ∙ ap (λ (row : Option Row). minus (signed_paid common (row_at others (first_leg swaps) first)) (signed_paid common row)) (same_row (second_leg swaps) second t early named.1)
  swaps-amount common swaps t other early named = refl

  swaps-row : (swaps : Swaps) (t : ℤ) (source : Source) → int_lt t day ≡ true → SwapsRows swaps children t source → swaps_row swaps children source ≡ swaps_row swaps others source
  swaps-row swaps t (Leg leg n) early named = same_row leg n t early named
  swaps-row swaps t (Net first second) early named = same_row (first_leg swaps) first t early named.0
  swaps-row swaps t other early named = refl

  capfl-amount : (common : Common) (t : ℤ) (source : Source) → int_lt t day ≡ true → CapflRows children t source → capfl_amount common children source ≡ capfl_amount common others source
  capfl-amount common t (Net first second) early named =
      ap (λ (row : Option Row). option_map (signed common.contract_role) (magnitude (minus (paid row) (paid (row_at children 1 second))))) (same_row 0 first t early named.0)
      ∙ ap (λ (row : Option Row). option_map (signed common.contract_role) (magnitude (minus (paid (row_at others 0 first)) (paid row)))) (same_row 1 second t early named.1)
  capfl-amount common t other early named = refl

  capfl-row : (t : ℤ) (source : Source) → int_lt t day ≡ true → CapflRows children t source → capfl_row children source ≡ capfl_row others source
  capfl-row t (Net first second) early named = same_row 0 first t early named.0
  capfl-row t other early named = refl

  -- the line of an event dated before the day is the same
  pub lines-agree : (common : Common) (contract : Kind) (plan : EventPlan) (e : Event) → int_lt e.day day ≡ true → HasRows contract children e → line_by common contract plan children e ≡ line_by common contract plan others e
  lines-agree common (kind.SWAPS swaps) plan e early named =
      ap (λ (amount : Option ℤ). own_or_row_line (is_own e.source) (trade_line common e.kind) (record { payoff = pays (λ s. amount); change = keeps })) (swaps-amount common swaps e.day e.source early named)
  lines-agree common (kind.CAPFL capfl) plan e early named =
      ap (λ (amount : Option ℤ). own_or_row_line (is_own e.source) (trade_line common e.kind) (record { payoff = pays (λ s. amount); change = keeps })) (capfl-amount common e.day e.source early named)
  lines-agree common other plan e early named = refl

  currencies-by : (common : Common) (contract : Kind) (e : Event) → int_lt e.day day ≡ true → HasRows contract children e → currency_by contract common children e ≡ currency_by contract common others e
  currencies-by common (kind.SWAPS swaps) e early named = ap (currency_of_row common) (swaps-row swaps e.day e.source early named)
  currencies-by common (kind.CAPFL capfl) e early named = ap (currency_of_row common) (capfl-row e.day e.source early named)
  currencies-by common other e early named = refl

  -- and so is its currency
  pub currencies-agree : (terms : Terms) (e : Event) → int_lt e.day day ≡ true → HasRows terms.kind children e → currency_of terms children e ≡ currency_of terms others e
  currencies-agree terms e early named = currencies-by terms.common terms.kind e early named
