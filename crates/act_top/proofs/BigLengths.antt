-- What the generator makes is no longer than a file may be.
use Rattle.std.proofs.Common.{◌≡◌, ℕ, zero, suc, ◌+◌, ◌-◌, ◌*◌, ◌/◌, ◌%◌, ◌<◌, ◌≤◌, ℤ, Bool, true, false, List, [], ◌∷◌, ◌++◌, length, map, filter, decimal, codes, refl, ap, arith, length-append}
use Rattle.std.specs.Prelude.{◌==◌, if◌then◌else◌}
use Rattle.std.specs.List.{flat_map}
use Rattle.std.proofs.lemmas.Fmt.{length-decimal-le}
use Rattle.std.proofs.lemmas.List.{map-append}
use Rattle.std.proofs.lemmas.List.Concat.{flat_map-append}
use Rattle.std.proofs.lemmas.List.Elements.{filter-append}
use Rattle.act_date.specs.Text.{date_text}
use Rattle.act_gen.specs.Draws.{draw}
use Rattle.act_gen.specs.Json.{after_commas, array, member, object, rate_text, text_member, with_commas}
use Rattle.act_gen.specs.Portfolio.{drawn_loan, leg, legs, loan, loan_name, loan_type, numbers, portfolio_text, redemption, redemption_cycle, swap, swap_terms}
use Rattle.act_gen.specs.Script.{ask_behind, ask_line, drawn_lines, rate_day, rate_line, script_text}
use Rattle.act_model.specs.Limits.{most_bytes}
use Rattle.act_num.specs.Digits.{padded_digits}

-- ---- texts with commas

-- the length of texts and of a comma for each
abbrev span : List (List ℕ) → ℕ
span [] = 0
span (text ∷ texts) = 1 + length text + span texts

span-commas : (texts : List (List ℕ)) → length (after_commas texts) ≡ span texts
span-commas [] = refl
span-commas (text ∷ texts) = omega (arith, length-append (codes "," ++ text) (after_commas texts), length-append (codes ",") text, span-commas texts)

span-append : (xs ys : List (List ℕ)) → span (xs ++ ys) ≡ span xs + span ys
span-append [] ys = omega arith
span-append (x ∷ xs) ys = omega (arith, span-append xs ys)

commas-within : (texts : List (List ℕ)) → length (with_commas texts) ≤ span texts
commas-within [] = omega arith
commas-within (text ∷ texts) = omega (arith, length-append text (after_commas texts), span-commas texts)

object-within : (members : List (List ℕ)) → length (object members) ≤ span members + 2
object-within members = omega (arith, length-append (codes "{" ++ with_commas members) (codes "}"), length-append (codes "{") (with_commas members), commas-within members)

array-within : (values : List (List ℕ)) → length (array values) ≤ span values + 2
array-within values = omega (arith, length-append (codes "[" ++ with_commas values) (codes "]"), length-append (codes "[") (with_commas values), commas-within values)

length-member : (name value : List ℕ) → length (member name value) ≡ length name + length value + 3
length-member name value =
    omega (arith, length-append (codes "\"" ++ name ++ codes "\"" ++ codes ":") value, length-append (codes "\"" ++ name ++ codes "\"") (codes ":"), length-append (codes "\"" ++ name) (codes "\""), length-append (codes "\"") name)

length-text : (name value : List ℕ) → length (text_member name value) ≡ length name + length value + 5
length-text name value =
    omega (arith, length-member name (codes "\"" ++ value ++ codes "\""), length-append (codes "\"" ++ value) (codes "\""), length-append (codes "\"") value)

-- ---- numbers

length-digits : (k n : ℕ) → length (padded_digits k n) ≡ k
length-digits zero n = refl
length-digits (suc k) n = omega (arith, length-append (padded_digits k (n / 10)) ((48 + n % 10) ∷ []), length-digits k (n / 10))

length-rate : (units : ℕ) → length (rate_text units) ≡ 6
length-rate units = omega (arith, length-append (codes "0.") (padded_digits 4 units), length-digits 4 units)

small-number : (n : ℕ) → n < 10000 → length (decimal n) ≤ 4
small-number n small = length-decimal-le 4 n (omega arith) (omega (arith, small)) (omega (arith, small))

drawn-below : (seed k m : ℕ) → 0 < m → draw seed k m < m
unfolding draw
drawn-below seed k m some = grind arith

name-within : (letter : List ℕ) (i : ℕ) → i < 10000 → length (letter ++ decimal i) ≤ length letter + 4
name-within letter i small = omega (arith, length-append letter (decimal i), small-number i small)

-- ---- the portfolio

type-within : (i : ℕ) → length (loan_type i) ≤ 3
type-within i = by (i % 3 == 1) (i % 3 == 2)
  where
    by : (one two : Bool) → length (if one then codes "PAM" else (if two then codes "LAM" else codes "ANN")) ≤ 3
    by true two = omega arith
    by false true = omega arith
    by false false = omega arith

cycle-within : (i : ℕ) → length (redemption_cycle i) ≤ 5
cycle-within i = by (i % 3 == 2)
  where
    by : (two : Bool) → length (if two then codes "P3ML1" else codes "P1ML1") ≤ 5
    by true = omega arith
    by false = omega arith

redemption-within : (i : ℕ) → span (redemption i) ≤ 40
redemption-within i = by (i % 3 == 1)
  where
    by : (one : Bool) → span (if one then [] else text_member (codes "cycleOfPrincipalRedemption") (redemption_cycle i) ∷ []) ≤ 40
    by true = omega arith
    by false = omega (arith, length-text (codes "cycleOfPrincipalRedemption") (redemption_cycle i), cycle-within i)

loan-within : (i notional rate : ℕ) → i < 10000 → notional < 10000 → length (loan i notional rate) < 1000
unfolding loan
loan-within i notional rate small few =
    omega (
      arith,
      object-within (
          text_member (codes "contractID") (loan_name i)
          ∷ text_member (codes "contractType") (loan_type i)
          ∷ text_member (codes "contractRole") (codes "RPA")
          ∷ text_member (codes "statusDate") (codes "2019-12-31")
          ∷ text_member (codes "currency") (codes "EUR")
          ∷ text_member (codes "initialExchangeDate") (codes "2020-01-01")
          ∷ text_member (codes "maturityDate") (codes "2030-01-01")
          ∷ text_member (codes "dayCountConvention") (codes "A365")
          ∷ text_member (codes "cycleOfInterestPayment") (codes "P1ML1")
          ∷ text_member (codes "cycleAnchorDateOfRateReset") (codes "2020-07-01")
          ∷ text_member (codes "cycleOfRateReset") (codes "P6ML1")
          ∷ text_member (codes "marketObjectCodeOfRateReset") (codes "M6")
          ∷ member (codes "notionalPrincipal") (decimal notional)
          ∷ member (codes "nominalInterestRate") (rate_text rate)
          ∷ redemption i),
      length-text (codes "contractID") (loan_name i),
      name-within (codes "C") i small,
      length-text (codes "contractType") (loan_type i),
      type-within i,
      length-member (codes "notionalPrincipal") (decimal notional),
      small-number notional few,
      length-member (codes "nominalInterestRate") (rate_text rate),
      length-rate rate,
      redemption-within i,
    )

drawn-within : (n i : ℕ) → i < 10000 → length (drawn_loan n i) < 1000
unfolding drawn_loan
drawn-within n i small = loan-within i (1000 + draw n (2 * i - 1) 9000) (100 + draw n (2 * i) 500) small (omega (arith, drawn-below n (2 * i - 1) 9000 (omega arith)))

leg-within : (i : ℕ) (role : List ℕ) → i < 10000 → length role ≤ 3 → length (leg i role) < 200
unfolding leg
leg-within i role small few =
    omega (
      arith,
      object-within (text_member (codes "object") (loan_name i) ∷ text_member (codes "referenceType") (codes "CID") ∷ text_member (codes "referenceRole") role ∷ []),
      length-text (codes "object") (loan_name i),
      name-within (codes "C") i small,
      length-text (codes "referenceRole") role,
    )

legs-within : (i : ℕ) → i < 10000 → length (legs i) < 500
legs-within i small =
    omega (arith, array-within (leg (i - 2) (codes "FIL") ∷ leg (i - 1) (codes "SEL") ∷ []), leg-within (i - 2) (codes "FIL") (omega (arith, small)) (omega arith), leg-within (i - 1) (codes "SEL") (omega (arith, small)) (omega arith))

swap-within : (i : ℕ) → i < 10000 → length (swap i) < 1000
unfolding swap
swap-within i small =
    omega (
      arith,
      object-within (swap_terms i ++ member (codes "contractStructure") (legs i) ∷ []),
      span-append (swap_terms i) (member (codes "contractStructure") (legs i) ∷ []),
      length-text (codes "contractID") (codes "S" ++ decimal i),
      name-within (codes "S") i small,
      length-member (codes "contractStructure") (legs i),
      legs-within i small,
    )

loans-within : (n k : ℕ) → k < 10000 → span (map (drawn_loan n) (numbers k)) ≤ k * 1000
loans-within n zero small = omega arith
loans-within n (suc k) small =
    omega (arith, ap span (map-append (drawn_loan n) (numbers k) (suc k ∷ [])), span-append (map (drawn_loan n) (numbers k)) (drawn_loan n (suc k) ∷ []), loans-within n k (omega (arith, small)), drawn-within n (suc k) small)

swaps-within : (k : ℕ) → k < 10000 → span (map swap (filter (λ i. i % 3 == 0) (numbers k))) ≤ k * 1000
swaps-within zero small = omega arith
swaps-within (suc k) small =
    omega (
      arith,
      ap (λ (is : List ℕ). span (map swap is)) (filter-append (λ i. i % 3 == 0) (numbers k) (suc k ∷ [])),
      ap span (map-append swap (filter (λ i. i % 3 == 0) (numbers k)) (filter (λ i. i % 3 == 0) (suc k ∷ []))),
      span-append (map swap (filter (λ i. i % 3 == 0) (numbers k))) (map swap (filter (λ i. i % 3 == 0) (suc k ∷ []))),
      swaps-within k (omega (arith, small)),
      one (suc k % 3 == 0) refl,
    )
  where
    one : (third : Bool) → (suc k % 3 == 0) ≡ third → span (map swap (filter (λ i. i % 3 == 0) (suc k ∷ []))) ≤ 1000
    one true is = rw is (omega (arith, swap-within (suc k) small))
    one false is = rw is (omega arith)

pub portfolio-within : (n : ℕ) → n ≤ 1000 → length (portfolio_text n) ≤ most_bytes
unfolding portfolio_text
portfolio-within n few =
    let loans = map (drawn_loan n) (numbers n) in
    let swaps = map swap (filter (λ i. i % 3 == 0) (numbers n)) in
    omega (arith, array-within (loans ++ swaps), span-append loans swaps, loans-within n n (omega (arith, few)), swaps-within n (omega (arith, few)))

-- ---- the script

length-date : (day : ℤ) → length (date_text day) ≤ 10
length-date day = omega arith

rate-within : (day : ℤ) (rate : ℕ) → length (rate_line day rate) < 1000
unfolding rate_line
rate-within day rate =
    let inside = text_member (codes "code") (codes "M6") ∷ text_member (codes "date") (date_text day) ∷ member (codes "value") (rate_text rate) ∷ [] in
    omega (
      arith,
      length-append (object (member (codes "rate") (object inside) ∷ [])) (codes "\n"),
      object-within (member (codes "rate") (object inside) ∷ []),
      length-member (codes "rate") (object inside),
      object-within inside,
      length-text (codes "date") (date_text day),
      length-date day,
      length-member (codes "value") (rate_text rate),
      length-rate rate,
    )

ask-within : (j : ℕ) → length (ask_behind j) < 100
ask-within j = by (j % 6 == 0)
  where
    by : (sixth : Bool) → length (if sixth then ask_line else []) < 100
    by true = omega arith
    by false = omega arith

lines-within : (n j : ℕ) → length (drawn_lines n j) < 1100
unfolding drawn_lines
lines-within n j = omega (arith, length-append (rate_line (rate_day n j) (100 + draw n (2 * n + 2 * j) 400)) (ask_behind j), rate-within (rate_day n j) (100 + draw n (2 * n + 2 * j) 400), ask-within j)

some-lines-within : (n k : ℕ) → length (flat_map (drawn_lines n) (numbers k)) ≤ k * 1100
some-lines-within n zero = omega arith
some-lines-within n (suc k) =
    omega (arith, ap length (flat_map-append (drawn_lines n) (numbers k) (suc k ∷ [])), length-append (flat_map (drawn_lines n) (numbers k)) (flat_map (drawn_lines n) (suc k ∷ [])), length-append (drawn_lines n (suc k)) [], lines-within n (suc k), some-lines-within n k)

pub script-within : (n : ℕ) → length (script_text n) ≤ most_bytes
unfolding script_text
script-within n = omega (arith, some-lines-within n 24)
