-- Numbers that follow one another.
use Rattle.std.proofs.Common.{◌≡◌, ℕ, ◌+◌, ◌-◌, ◌<◌, suc, ◌∷◌, refl, arith}
use Rattle.std.specs.List.{range_with_len}

-- from a number on, as far as to an end
pub range-next : (c n : ℕ) → c < n → range_with_len c (n - c) ≡ c ∷ range_with_len (c + 1) (n - (c + 1))
range-next c n below =
    let more : n - c ≡ suc (n - (c + 1)) = omega arith in
    rw more refl
