-- What is kept of a run under a cut.
use Rattle.std.proofs.Common.{◌≡◌, ℕ, true, false, ℤ, List, length, take, Option, Some, None, inl, inr, refl, sym, ap, subst, ◌∙◌}
use Rattle.std.proofs.lemmas.Bool.{cases_Bool}
use Rattle.act_model.specs.Run.{Stream}
use Rattle.act_model.specs.declared.run.Close.{Close}
use Rattle.act_model.specs.declared.run.Row.{Row}
use Rattle.act_profile.specs.Kept.{KeptRows, kept_of}
use Rattle.act_profile.specs.Stops.{comes_before, rows_before, stop_day}
use Rattle.act_run.specs.Resuming.{BeginsWith, kept_by}
use Rattle.act_profile.specs.DayOrder.{AreInDayOrder}
use Rattle.act_run.proofs.FirstRows.{early_first}

-- ---- which it is

pub uncut : (run : Stream) → kept_of run None ≡ kept_by run None
unfolding kept_of
uncut run = refl

pub stopped : (run : Stream) (cut : ℤ) → true ≡ comes_before (stop_day run.close) (Some cut) → kept_of run (Some cut) ≡ kept_by run None
unfolding kept_of
stopped run cut stops = rw (sym stops) refl

pub up_to : (run : Stream) (cut : ℤ) (count : ℕ) → false ≡ comes_before (stop_day run.close) (Some cut) → rows_before cut run ≡ take count run.rows → kept_of run (Some cut) ≡ kept_by run (Some count)
unfolding kept_of
up_to run cut count goes_on first = rw (sym goes_on) (ap (λ (rows : List Row). record { rows = rows; close = None }) first)

-- ---- what it says of the run

pub part : (run : Stream) (cut : ℤ) → comes_before (stop_day run.close) (Some cut) ≡ false → kept_of run (Some cut) ≡ record { rows = rows_before cut run; close = None }
unfolding kept_of
part run cut goes_on = rw goes_on refl

same_run : (kept run : Stream) → kept_by kept None ≡ kept_by run None → kept ≡ run
same_run kept run same =
    let rows : kept.rows ≡ run.rows = ap (λ (k : KeptRows). k.rows) same in
    let closes : Some kept.close ≡ Some run.close = ap (λ (k : KeptRows). k.close) same in
    let close : kept.close ≡ run.close = cc in
    ap (λ (r : List Row). record { rows = r; close = kept.close }) rows ∙ ap (λ (c : Close). record { rows = run.rows; close = c }) close

not_whole : (kept : Stream) (rows : List Row) → kept_by kept None ≡ record { rows = rows; close = None } → ⊥
not_whole kept rows same =
    let closes : Some kept.close ≡ None = ap (λ (k : KeptRows). k.close) same in
    absurd (cc)

-- of which a whole run is kept, that is the run
pub whole_is : (run kept : Stream) (cut : Option ℤ) → kept_by kept None ≡ kept_of run cut → kept ≡ run
whole_is run kept None same = same_run kept run (same ∙ uncut run)
whole_is run kept (Some cut) same =
    elim (cases_Bool (comes_before (stop_day run.close) (Some cut))) [
      | inl stops ↦ same_run kept run (same ∙ stopped run cut (sym stops))
      | inr goes_on ↦ absurd (not_whole kept (rows_before cut run) (same ∙ part run cut goes_on))
    ]

-- of which rows are kept, it begins with these
pub part_is : (run kept : Stream) (cut : Option ℤ) (count : ℕ) → AreInDayOrder run.rows → kept_by kept (Some count) ≡ kept_of run cut → BeginsWith run (take count kept.rows)
part_is run kept None count order same = absurd (not_whole run (take count kept.rows) (sym (same ∙ uncut run)))
part_is run kept (Some cut) count order same =
    elim (cases_Bool (comes_before (stop_day run.close) (Some cut))) [
      | inl stops ↦ absurd (not_whole run (take count kept.rows) (sym (same ∙ stopped run cut (sym stops))))
      | inr goes_on ↦
          let rows : rows_before cut run ≡ take count kept.rows = sym (ap (λ (k : KeptRows). k.rows) (same ∙ part run cut goes_on)) in
          record { first = subst (λ (first : List Row). take (length first) run.rows ≡ first) rows (early_first cut run.rows order) }
    ]
