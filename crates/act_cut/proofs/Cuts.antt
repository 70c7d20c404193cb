-- A cut that is found entry by entry.
use Rattle.std.proofs.Common.{◌≡◌, ℕ, ◌+◌, ◌<◌, ◌≤◌, Bool, true, false, if◌then◌else◌, ℤ, List, [], ◌∷◌, ◌++◌, length, take, drop, map, slice_get, length-take, Option, Some, None, inl, inr, refl, sym, ap, ◌∙◌, arith}
use Rattle.std.proofs.lemmas.List.{append-nil, drop_all, drop-append-le, map-append, take-take, take_more}
use Rattle.std.proofs.lemmas.List.Elements.{filter-append}
use Rattle.std.proofs.lemmas.List.Sums.{fold-append}
use Rattle.std.proofs.lemmas.Option.{get_or_from_slice_get, slice_get_cases}
use Rattle.std.specs.Int.{int_min}
use Rattle.std.specs.List.{filter}
use Rattle.act_model.specs.declared.observed.Obs.{Obs}
use Rattle.act_profile.specs.Dates.{least}
use Rattle.act_profile.specs.Reads.{cut_by, day_of_entry, touches}
use Rattle.act_cut.specs.Cut.{earlier}

-- there is something at each place before the end
pub not_past : {X : Type 0} (xs : List X) (i : ℕ) → i < length xs → slice_get xs i ≡ None → ⊥
not_past xs i within none = elim (slice_get_cases xs i).1 [ inl here ↦ let is = here.2 in cc | inr past ↦ let le = past.0 in omega arith ]

-- a day more
least-push : (days : List ℤ) (day : ℤ) → least (days ++ day ∷ []) ≡ Some (earlier (least days) day)
least-push [] day = refl
least-push (d ∷ days) day = ap (λ x. Some x) (fold-append int_min d days (day ∷ []))

-- the least day of some entries and one more, which touches or doesn't
touching-more : (touching : List Obs) (entry : Obs) (touches : Bool) →
    least (map day_of_entry (touching ++ (if touches then entry ∷ [] else []))) ≡ if touches then Some (earlier (least (map day_of_entry touching)) (day_of_entry entry)) else least (map day_of_entry touching)
touching-more touching entry true = ap least (map-append day_of_entry touching (entry ∷ [])) ∙ least-push (map day_of_entry touching) (day_of_entry entry)
touching-more touching entry false = ap (λ entries. least (map day_of_entry entries)) (append-nil touching)

module _ (codes contracts : List ℕ) (entries : List Obs) (u : ℕ) where
  -- the entries from a place up to one after another
  between-more : (w : ℕ) (entry : Obs) → u ≤ w → w < length entries → slice_get entries w ≡ Some entry → drop u (take (w + 1) entries) ≡ drop u (take w entries) ++ entry ∷ []
  between-more w entry order within is =
      let next : take (w + 1) entries ≡ take w entries ++ entry ∷ [] = take_more entries w entry within ∙ ap (λ e. take w entries ++ e ∷ []) (get_or_from_slice_get entries w entry entry is) in
      ap (drop u) next ∙ drop-append-le u (take w entries) (entry ∷ []) (omega (arith, length-take w entries))

  -- there are none between a version and itself
  pub none_between : cut_by codes contracts entries u u ≡ None
  unfolding cut_by
  none_between =
      ap (λ between. least (map day_of_entry (filter (touches codes contracts) between))) (drop_all u (take u entries) (omega (arith, length-take u entries)))

  -- the cut with an entry more
  pub cut_more : (w : ℕ) (entry : Obs) → u ≤ w → w < length entries → slice_get entries w ≡ Some entry → (cut : Option ℤ) → cut ≡ cut_by codes contracts entries u w →
      (if touches codes contracts entry then Some (earlier cut (day_of_entry entry)) else cut) ≡ cut_by codes contracts entries u (w + 1)
  unfolding cut_by
  cut_more w entry order within is cut so_far =
      rw so_far (sym (
      ap (λ between. least (map day_of_entry (filter (touches codes contracts) between))) (between-more w entry order within is)
      ∙ ap (λ touching. least (map day_of_entry touching)) (filter-append (touches codes contracts) (drop u (take w entries)) (entry ∷ []))
      ∙ touching-more (filter (touches codes contracts) (drop u (take w entries))) entry (touches codes contracts entry)))

-- the cut of the first entries is that of all, where it goes no further than these
pub cut_front : (codes contracts : List ℕ) (entries : List Obs) (n u w : ℕ) → w ≤ n → cut_by codes contracts (take n entries) u w ≡ cut_by codes contracts entries u w
unfolding cut_by
cut_front codes contracts entries n u w le =
    ap (λ seen. least (map day_of_entry (filter (touches codes contracts) (drop u seen)))) (take-take w n entries le)
