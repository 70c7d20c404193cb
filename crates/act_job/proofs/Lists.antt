-- Lists whose items are mapped.
use Rattle.std.proofs.Common.{◌≡◌, ℕ, ◌+◌, ◌<◌, List, ◌∷◌, length, drop, get_or, map, sym, ap, ◌∙◌}
use Rattle.std.proofs.lemmas.List.{drop-map}
use Rattle.act_engine.proofs.Lists.{drop-next}

-- what the item of a place is mapped to, and what those behind it are
pub mapped-next : {X Y : Type 0} (f : X → Y) (xs : List X) (i : ℕ) (x : X) → i < length xs → x ≡ get_or xs i x → drop i (map f xs) ≡ f x ∷ drop (i + 1) (map f xs)
mapped-next f xs i x within is =
    drop-map f i xs ∙ (ap (map f) (drop-next xs i x within is) ∙ ap (λ ys. f x ∷ ys) (sym (drop-map f (i + 1) xs)))
