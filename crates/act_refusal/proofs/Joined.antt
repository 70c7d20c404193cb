-- Names joined with spaces, one after the other.
use Rattle.std.proofs.Common.{◌≡◌, ℕ, ◌+◌, ◌<◌, ◌⊎◌, List, [], ◌∷◌, ◌++◌, length, get_or, map, take, inl, inr, ap, sym, ◌∙◌, append_assoc, arith, length-take}
use Rattle.std.proofs.lemmas.List.{length-map, map-append, take_more}
use Rattle.std.specs.List.{join_with_byte}

-- one more behind some
joined_more : (c : ℕ) (xs : List (List ℕ)) (x : List ℕ) → 0 < length xs → join_with_byte c (xs ++ x ∷ []) ≡ (join_with_byte c xs ++ c ∷ []) ++ x
joined_more c [] x some = absurd (omega arith)
joined_more c (y ∷ []) x some = sym (append_assoc y (c ∷ []) x)
joined_more c (y ∷ z ∷ xs) x some =
    ap (λ l. y ++ c ∷ l) (joined_more c (z ∷ xs) x (omega arith))
    ∙ sym (append_assoc y (c ∷ (join_with_byte c (z ∷ xs) ++ c ∷ [])) x) ∙ ap (λ l. l ++ x) (sym (append_assoc y (c ∷ join_with_byte c (z ∷ xs)) (c ∷ [])))

-- one more behind those before a place, with a byte between where there are some
pub next_joined : (b : ℕ) (name_of : ℕ → List ℕ) (contracts : List ℕ) (i : ℕ) (so_far between next name : List ℕ) → i < length contracts → so_far ≡ join_with_byte b (map name_of (take i contracts)) → name ≡ name_of (get_or contracts i 0)
    → next ≡ between ++ name → ((0 < i) × (between ≡ so_far ++ b ∷ [])) ⊎ ((i ≡ 0) × (between ≡ so_far)) → next ≡ join_with_byte b (map name_of (take (i + 1) contracts))
next_joined b name_of contracts i so_far between next name within joined named is start =
    let names = map name_of (take i contracts) in
    let more : map name_of (take (i + 1) contracts) ≡ names ++ name ∷ [] =
    ap (map name_of) (take_more contracts i 0 within) ∙ map-append name_of (take i contracts) (get_or contracts i 0 ∷ []) ∙ ap (λ n. names ++ n ∷ []) (sym named) in
    elim start [
      | inl some ↦
          let few : 0 < length names = let e = some.0 in omega (arith, length-map (take i contracts) name_of, length-take i contracts) in
          is ∙ ap (λ l. l ++ name) (some.1 ∙ ap (λ l. l ++ b ∷ []) joined) ∙ sym (joined_more b names name few) ∙ ap (join_with_byte b) (sym more)
      | inr none ↦
          let empty : join_with_byte b names ≡ [] = ap (λ n. join_with_byte b (map name_of (take n contracts))) none.0 in
          is ∙ ap (λ l. l ++ name) (none.1 ∙ joined ∙ empty) ∙ sym (ap (λ n. join_with_byte b (map name_of (take n contracts) ++ name ∷ [])) none.0) ∙ ap (join_with_byte b) (sym more)
    ]
