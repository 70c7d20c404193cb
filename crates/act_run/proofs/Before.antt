-- How many elements stand before the first that fails a test, looked at one by one.
use Rattle.std.proofs.Common.{◌≡◌, ℕ, ◌+◌, ◌<◌, ◌≤◌, Bool, true, false, List, ◌∷◌, length, drop, get_or, refl, ap, ◌∙◌, arith}
use Rattle.std.proofs.lemmas.List.{drop_all}
use Rattle.std.specs.List.{prefix_len}
use Rattle.act_model.proofs.Lists.{next_of}

-- the first k pass the test
pub record HavePassed {X : Type 0} (test : X → Bool) (xs : List X) (k : ℕ) : Type 0 where
  pub is : k + prefix_len test (drop k xs) ≡ prefix_len test xs

pub none_passed : {X : Type 0} (test : X → Bool) (xs : List X) → HavePassed test xs 0
none_passed test xs = record { is = omega arith }

passing : {X : Type 0} (test : X → Bool) (x : X) (xs : List X) → test x ≡ true → prefix_len test (x ∷ xs) ≡ 1 + prefix_len test xs
passing test x xs is = rw is refl

failing : {X : Type 0} (test : X → Bool) (x : X) (xs : List X) → test x ≡ false → prefix_len test (x ∷ xs) ≡ 0
failing test x xs is = rw is refl

pub one_passed : {X : Type 0} (test : X → Bool) (xs : List X) (k : ℕ) (x : X) → HavePassed test xs k → k < length xs → x ≡ get_or xs k x → test x ≡ true → HavePassed test xs (k + 1)
one_passed test xs k x so_far lt here is =
    let step : prefix_len test (drop k xs) ≡ 1 + prefix_len test (drop (k + 1) xs) = ap (prefix_len test) (next_of xs k x lt here) ∙ passing test x (drop (k + 1) xs) is in
    let so = so_far.is in
    record { is = omega arith }

pub one_failed : {X : Type 0} (test : X → Bool) (xs : List X) (k : ℕ) (x : X) → HavePassed test xs k → k < length xs → x ≡ get_or xs k x → test x ≡ false → k ≡ prefix_len test xs
one_failed test xs k x so_far lt here is =
    let step : prefix_len test (drop k xs) ≡ 0 = ap (prefix_len test) (next_of xs k x lt here) ∙ failing test x (drop (k + 1) xs) is in
    let so = so_far.is in
    omega arith

pub all_passed : {X : Type 0} (test : X → Bool) (xs : List X) (k : ℕ) → HavePassed test xs k → length xs ≤ k → k ≡ prefix_len test xs
all_passed test xs k so_far le =
    let step : prefix_len test (drop k xs) ≡ 0 = ap (prefix_len test) (drop_all k xs le) in
    let so = so_far.is in
    omega arith
