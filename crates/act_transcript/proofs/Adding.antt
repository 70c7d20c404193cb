-- Whether all are of a sort, where they are gone over one after the other.
use Rattle.std.proofs.Common.{◌≡◌, Bool, true, sym, ap, ◌∙◌}
use Rattle.std.specs.Prelude.{◌&&◌}
use Rattle.std.proofs.Math.Bool.{and_assoc, and-true}

-- of what was left the first part is gone over
pub and-next : (all before after here first left : Bool) → (before && here) ≡ all → here ≡ (first && left) → after ≡ (before && first) → (after && left) ≡ all
and-next all before after here first left told is added = ap (λ (b : Bool). b && left) added ∙ (and_assoc before first left ∙ (ap (λ (b : Bool). before && b) (sym is) ∙ told))

-- nothing is left
pub and-done : (all after here : Bool) → (after && here) ≡ all → here ≡ true → after ≡ all
and-done all after here told none = sym (and-true after) ∙ (ap (λ (b : Bool). after && b) (sym none) ∙ told)
