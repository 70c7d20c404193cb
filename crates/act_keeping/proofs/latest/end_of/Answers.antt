use Rattle.std.proofs.Common.{◌≡◌, ℕ, ◌+◌, ◌-◌, ◌<◌, ◌≤◌, List, length, get_or, Some, inl, inr, sym, ap, arith}
use Rattle.std.proofs.lemmas.Bool.{cases_lt}
use Rattle.std.proofs.lemmas.List.Kept.{AllPairs-from_increasing}
use Rattle.std.proofs.lemmas.Option.{get_or_from_slice_get, slice_get_within}
use Rattle.std.specs.List.{All, slice_get}
use Rattle.std.specs.List.Sorted.{IsStrictlyIncreasing}
use Rattle.act_keeping.proofs.latest.end_of.Goals as goal

-- none of ascending numbers is above the last
up_to_last : (numbers : List ℕ) (last : ℕ) → IsStrictlyIncreasing numbers → slice_get numbers (length numbers - 1) ≡ Some last → All (λ n. n < last + 1) numbers
up_to_last numbers last ascending at k d within =
    let end : get_or numbers (length numbers - 1) d ≡ last = get_or_from_slice_get numbers (length numbers - 1) last d at in
    elim (cases_lt k (length numbers - 1)) [
      | inl before ↦ let less = AllPairs-from_increasing numbers ascending k (length numbers - 1) d before (slice_get_within numbers (length numbers - 1) last at) in omega arith
      | inr here ↦ let same : get_or numbers k d ≡ get_or numbers (length numbers - 1) d = ap (λ n. get_or numbers n d) (omega arith) in omega arith
    ]

-- what is above all of them is above the last
below_all : (numbers : List ℕ) (last n : ℕ) → slice_get numbers (length numbers - 1) ≡ Some last → All (λ number. number < n) numbers → last + 1 ≤ n
below_all numbers last n at all =
    let end : get_or numbers (length numbers - 1) 0 ≡ last = get_or_from_slice_get numbers (length numbers - 1) last 0 at in
    let less : get_or numbers (length numbers - 1) 0 < n = all (length numbers - 1) 0 (slice_get_within numbers (length numbers - 1) last at) in
    omega arith

pub returns-in-Some : goal.returns-in-Some
returns-in-Some c =
    let numbers = c.args.numbers.now in
    let last = c.in-Some.last.now in
    let at : slice_get numbers (length numbers - 1) ≡ Some last = sym c.in-Some.ensures.value in
    record {
      above = up_to_last numbers last c.requires.ascending at;
      least = λ n all. below_all numbers last n at all;
    }
