-- Runs that agree before a day.
use Rattle.std.proofs.Common.{◌≡◌, IsTrue, ◌⊎◌, if◌then◌else◌, Bool, true, false, ℤ, int_lt, [], ◌∷◌, inl, inr, refl, sym, ◌∙◌, ap}
use Rattle.act_model.specs.Run.{Stream}
use Rattle.act_model.specs.declared.run.Row.{Row}
use Rattle.act_profile.specs.Run.{with_row}
use Rattle.act_profile.specs.Stops.{rows_before}
use Rattle.act_causality.specs.Causality.{RunsAgreeBefore, stops_before}

pub true-false : (b : Bool) → b ≡ false → b ≡ true → ⊥
true-false b fails is = cc

-- a run has nothing dated before a day
pub record IsLateRun (day : ℤ) (run : Stream) : Type 0 where
  pub rows : rows_before day run ≡ []
  pub close : stops_before day run ≡ false

pub runs-same : (day : ℤ) (run : Stream) → RunsAgreeBefore day run run
runs-same day run = record { rows = refl; whole = λ stops. refl }

pub runs-equal : (day : ℤ) (one other : Stream) → one ≡ other → RunsAgreeBefore day one other
runs-equal day one other same = rw same (runs-same day other)

pub runs-sym : (day : ℤ) (one other : Stream) → RunsAgreeBefore day one other → RunsAgreeBefore day other one
runs-sym day one other agree = record {
  rows = sym agree.rows;
  whole = λ stops. sym (agree.whole (elim stops [ inl a ↦ inr a | inr b ↦ inl b ]));
}

trans-whole : (day : ℤ) (a b c : Stream) → RunsAgreeBefore day a b → RunsAgreeBefore day b c → IsTrue (stops_before day a) ⊎ IsTrue (stops_before day c) → a ≡ c
trans-whole day a b c first second (inl stops) =
    let same = first.whole (inl stops) in same ∙ second.whole (inl (rw same at stops))
trans-whole day a b c first second (inr stops) =
    let same = second.whole (inr stops) in first.whole (inr (rw (← same) at stops)) ∙ same

pub runs-trans : (day : ℤ) (a b c : Stream) → RunsAgreeBefore day a b → RunsAgreeBefore day b c → RunsAgreeBefore day a c
runs-trans day a b c first second = record { rows = first.rows ∙ second.rows; whole = trans-whole day a b c first second }

pub late-agree : (day : ℤ) (one other : Stream) → IsLateRun day one → IsLateRun day other → RunsAgreeBefore day one other
late-agree day one other late late2 = record {
  rows = late.rows ∙ sym late2.rows;
  whole = λ stops. elim stops [ inl a ↦ absurd (true-false (stops_before day one) late.close a) | inr b ↦ absurd (true-false (stops_before day other) late2.close b) ];
}

pub row-agree : (day : ℤ) (row same : Row) (one other : Stream) → row ≡ same → RunsAgreeBefore day one other → RunsAgreeBefore day (with_row row one) (with_row same other)
row-agree day row same one other rows agree = rw rows (record {
  rows = ap (λ later. if int_lt same.day day then same ∷ later else later) agree.rows;
  whole = λ stops. ap (with_row same) (agree.whole stops);
})
