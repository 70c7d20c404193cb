-- The last row dated not after a day, from the end back.
use Rattle.std.proofs.Common.{◌≡◌, ℕ, ◌+◌, ◌<◌, ℤ, true, false, int_le, List, [], ◌∷◌, ◌++◌, length, take, map, Option, Some, None, refl, ap, ◌∙◌}
use Rattle.std.proofs.lemmas.List.{append-nil, map-append, take_more}
use Rattle.std.proofs.lemmas.List.Elements.{filter-append}
use Rattle.std.proofs.lemmas.Option.{get_or_from_slice_get}
use Rattle.std.specs.List.{filter, last_or, slice_get}
use Rattle.act_credit.specs.Amounts.{last_state}
use Rattle.act_model.specs.declared.run.Row.{Row}

last_behind : {A : Type 0} (o : Option A) (xs : List A) (x : A) → last_or o (xs ++ x ∷ []) ≡ Some x
last_behind o [] x = refl
last_behind o (y ∷ ys) x = last_behind (Some y) ys x

-- the rows dated not after a day
until : ℤ → List Row → List Row
until day rows = filter (λ row. int_le row.day day) rows

-- the rows before a place and the one there, of those dated not after a day
one_more : (day : ℤ) (rows : List Row) (n i : ℕ) (row : Row) → n ≡ i + 1 → i < length rows → slice_get rows i ≡ Some row → until day (take n rows) ≡ until day (take i rows) ++ until day (row ∷ [])
unfolding until
one_more day rows n i row next lt here =
    ap (λ k. until day (take k rows)) next ∙ ap (until day) (take_more rows i row lt ∙ ap (λ r. take i rows ++ r ∷ []) (get_or_from_slice_get rows i row row here))
    ∙ filter-append (λ r. int_le r.day day) (take i rows) (row ∷ [])

state_behind : (rows : List Row) (row : Row) → last_or None (map (λ r. r.state) (rows ++ row ∷ [])) ≡ Some row.state
state_behind rows row = ap (last_or None) (map-append (λ r. r.state) rows (row ∷ [])) ∙ last_behind None (map (λ r. r.state) rows) row.state

-- the row at a place is dated not after the day: it is the last one up to there
pub last_here : (rows : List Row) (n i : ℕ) (row : Row) (day : ℤ) → n ≡ i + 1 → i < length rows → slice_get rows i ≡ Some row → int_le row.day day ≡ true → last_state (take n rows) day ≡ Some row.state
unfolding until
last_here rows n i row day next lt here is =
    let kept : until day (row ∷ []) ≡ row ∷ [] = rw is refl in
    ap (λ rs. last_or None (map (λ r. r.state) rs)) (one_more day rows n i row next lt here ∙ ap (λ rs. until day (take i rows) ++ rs) kept)
    ∙ state_behind (until day (take i rows)) row

-- it is dated after the day: the last one is before it
pub last_before : (rows : List Row) (n i : ℕ) (row : Row) (day : ℤ) → n ≡ i + 1 → i < length rows → slice_get rows i ≡ Some row → int_le row.day day ≡ false → last_state (take n rows) day ≡ last_state (take i rows) day
unfolding until
last_before rows n i row day next lt here is =
    let none : until day (row ∷ []) ≡ [] = rw is refl in
    ap (λ rs. last_or None (map (λ r. r.state) rs)) (one_more day rows n i row next lt here ∙ ap (λ rs. until day (take i rows) ++ rs) none ∙ append-nil (until day (take i rows)))
