-- Rows that are looked at one by one.
use Rattle.std.proofs.Common.{◌≡◌, ℕ, ◌+◌, Bool, false, ℤ, List, [], ◌∷◌, ◌++◌, take, slice_get, Some, None, refl, sym, ap, ◌∙◌}
use Rattle.std.specs.List.{filter}
use Rattle.std.proofs.lemmas.List.{take_more, take_more_same}
use Rattle.std.proofs.lemmas.List.Elements.{filter-append}
use Rattle.std.proofs.lemmas.Option.{get_or_from_slice_get, slice_get_within}
use Rattle.act_model.specs.Run.{Stream}
use Rattle.act_model.specs.declared.run.Row.{Row}
use Rattle.act_profile.specs.Kept.{kept_of}
use Rattle.act_profile.specs.Stops.{comes_before, rows_before, stop_day}

-- two lists have the same rows up to one more
pub same_more : (one other : List Row) (place : ℕ) (row : Row) → take place one ≡ take place other → slice_get one place ≡ Some row → slice_get other place ≡ Some row → take (place + 1) one ≡ take (place + 1) other
same_more one other place row same here there =
    take_more_same one other place row (slice_get_within one place row here) (slice_get_within other place row there) same
    (get_or_from_slice_get one place row row here ∙ sym (get_or_from_slice_get other place row row there))

-- rows of some sort, up to one more
pub filter_more : (test : Row → Bool) (rows : List Row) (place : ℕ) (row : Row) → slice_get rows place ≡ Some row → filter test (take place rows) ++ filter test (row ∷ []) ≡ filter test (take (place + 1) rows)
filter_more test rows place row here =
    sym (filter-append test (take place rows) (row ∷ []))
    ∙ ap (λ (next : Row). filter test (take place rows ++ next ∷ [])) (sym (get_or_from_slice_get rows place row row here))
    ∙ ap (filter test) (sym (take_more rows place row (slice_get_within rows place row here)))

-- what is kept of a run that doesn't stop before the cut
part : (run : Stream) (cut : ℤ) → comes_before (stop_day run.close) (Some cut) ≡ false → kept_of run (Some cut) ≡ record { rows = rows_before cut run; close = None }
unfolding kept_of
part run cut goes_on = rw goes_on refl

pub same_part : (one other : Stream) (cut : ℤ) → comes_before (stop_day one.close) (Some cut) ≡ false → comes_before (stop_day other.close) (Some cut) ≡ false → rows_before cut one ≡ rows_before cut other → kept_of one (Some cut) ≡ kept_of other (Some cut)
same_part one other cut goes_on goes_on2 same =
    part one cut goes_on ∙ ap (λ (rows : List Row). record { rows = rows; close = None }) same ∙ sym (part other cut goes_on2)
