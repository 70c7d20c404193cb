-- A sum of amounts, one after another.
use Rattle.std.proofs.Common.{◌≡◌, ℕ, ◌+◌, ◌<◌, ℤ, pos, List, [], ◌∷◌, length, get_or, take, map, Option, Some, refl}
use Rattle.std.proofs.lemmas.List.{map-append, take_more}
use Rattle.std.proofs.lemmas.List.Sums.{fold_push}
use Rattle.act_profile.specs.Credit.{sum_of}
use Rattle.act_profile.specs.Formula.{plus}

-- a turn of a loop over items
pub sum_more : {X : Type 0} (amount_of : X → Option ℤ) (items : List X) (i : ℕ) (item : X) (sum : Option ℤ) → i < length items → item ≡ get_or items i item →
    sum ≡ sum_of (map amount_of (take i items)) → plus sum (amount_of item) ≡ sum_of (map amount_of (take (i + 1) items))
sum_more amount_of items i item sum lt here is =
    rw (take_more items i item lt, ← here, map-append amount_of (take i items) (item ∷ []), fold_push plus (Some (pos 0)) (map amount_of (take i items)) (amount_of item), is) refl
