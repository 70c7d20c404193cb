-- What is kept of a portfolio for each contract.
use Rattle.std.proofs.Common.{◌≡◌, ℕ, ◌<◌, ◌≤◌, List, length, map, get_or, ap, ◌∙◌, arith}
use Rattle.std.specs.List.{All, range_with_len}
use Rattle.std.proofs.lemmas.List.Elements.{All-get_or}
use Rattle.std.proofs.lemmas.List.FromFn.{get_or-map-range_with_len, length-map-range_with_len}
use Rattle.act_model.specs.Reads.{Readings}
use Rattle.act_cones.specs.Cones.{most_counted, most_weight, reads_of}
use Rattle.act_cones.specs.Counts.{cone_sum, scheduled_count}
use Rattle.act_portfolio.specs.Known.{IsPortfolio}
use Rattle.act_portfolio.specs.Reading.{Accepted}

-- it is there, and is what it was computed to
kept_within : {X : Type 0} (f : ℕ → X) (kept : List X) (n c : ℕ) → kept ≡ map f (range_with_len 0 n) → c < n → c < length kept
kept_within f kept n c is within = omega (arith, ap length is, length-map-range_with_len f 0 n)

kept_at : {X : Type 0} (f : ℕ → X) (kept : List X) (n c : ℕ) (x : X) → kept ≡ map f (range_with_len 0 n) → c < n → x ≡ get_or kept c x → x ≡ f c
kept_at f kept n c x is within read = read ∙ (ap (λ l. get_or l c x) is ∙ get_or-map-range_with_len f 0 n c c x within (omega arith))

-- what holds of each number holds of one that was read
number_at : (P : ℕ → Type 0) (numbers : List ℕ) (c x : ℕ) → c < length numbers → x ≡ get_or numbers c x → All P numbers → P x
number_at P numbers c x within read all = rw (← read) at (All-get_or P numbers c x within all)

module _ (portfolio : Accepted) (places events sums : List ℕ) (readings : List Readings) (kept : IsPortfolio portfolio places events sums readings) (c : ℕ) (within : c < length portfolio.contracts.terms) where
  inside : c < length portfolio.contracts.children
  inside = omega (arith, kept.accepted.children)

  pub count_within : c < length events
  count_within = kept_within (scheduled_count portfolio.contracts) events _ c kept.cones.counts inside

  pub count_at : (n : ℕ) → n ≡ get_or events c n → (n ≡ scheduled_count portfolio.contracts c) × (n ≤ most_counted)
  count_at n read = (kept_at (scheduled_count portfolio.contracts) events _ c n kept.cones.counts inside read, number_at (λ m. m ≤ most_counted) events c n count_within read kept.cones.few)

  pub weight_within : c < length sums
  weight_within = kept_within (cone_sum portfolio.contracts) sums _ c kept.cones.weights inside

  pub weight_at : (n : ℕ) → n ≡ get_or sums c n → (n ≡ cone_sum portfolio.contracts c) × (n ≤ most_weight)
  weight_at n read = (kept_at (cone_sum portfolio.contracts) sums _ c n kept.cones.weights inside read, number_at (λ m. m ≤ most_weight) sums c n weight_within read kept.cones.light)

  pub reads_within : c < length readings
  reads_within = kept_within (reads_of portfolio.contracts) readings _ c kept.cones.reads inside

  pub reads_at : (read : Readings) → read ≡ get_or readings c read → read ≡ reads_of portfolio.contracts c
  reads_at read is = kept_at (reads_of portfolio.contracts) readings _ c read kept.cones.reads inside is
