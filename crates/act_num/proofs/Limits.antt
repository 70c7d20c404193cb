-- Numbers kept where they are in range.
use Rattle.std.proofs.Common.{◌≡◌, ℕ, ◌≤◌, nat_le, Bool, true, false, cond, Some, None, refl, ◌∙◌, ap, arith}
use Rattle.std.specs.Bool.{then_some}
use Rattle.std.proofs.lemmas.Bool.Decides.{nat_tests}
use Rattle.act_num.specs.Number.{largest}
use Rattle.act_num.specs.Parts.{magnitude_in_range}

pub limited_some : (m v : ℕ) → magnitude_in_range m ≡ Some v → (v ≡ m) × (m ≤ largest)
limited_some m v e = grind (arith, nat_tests)

pub limited_none : (m n : ℕ) → magnitude_in_range m ≡ None → m ≤ n → magnitude_in_range n ≡ None
limited_none m n e h = grind (arith, nat_tests)

then_some_is : (b : Bool) (n : ℕ) → then_some b n ≡ cond b (Some n) None
then_some_is true n = refl
then_some_is false n = refl

-- what the code keeps
pub limited_is : (n m : ℕ) → n ≡ m → then_some (nat_le n largest) n ≡ magnitude_in_range m
limited_is n m e = then_some_is (nat_le n largest) n ∙ ap magnitude_in_range e
