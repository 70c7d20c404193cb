-- Lists in order.
use Rattle.std.specs.Prelude.{if◌then◌else◌, Bool, List, [], ◌∷◌, Option, Some, option_map, option_and_then}

-- the list with one more, behind those that come before it
unfoldable pub insert_by : {A : Type 0} → (A → A → Bool) → A → List A → List A
insert_by before x [] = x ∷ []
insert_by before x (y ∷ ys) = if before y x then y ∷ insert_by before x ys else x ∷ y ∷ ys

-- the list with one more, unless it is there: neither comes before the other
unfoldable pub insert_once_by : {A : Type 0} → (A → A → Bool) → List A → A → List A
insert_once_by before [] x = x ∷ []
insert_once_by before (y ∷ ys) x =
    if before y x then y ∷ insert_once_by before ys x else (if before x y then x ∷ y ∷ ys else y ∷ ys)

-- all of some values, where each is defined
unfoldable pub all_of : {A : Type 0} → List (Option A) → Option (List A)
all_of [] = Some []
all_of (x ∷ xs) = option_and_then (λ v. option_map (λ vs. v ∷ vs) (all_of xs)) x
