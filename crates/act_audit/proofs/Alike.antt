-- Texts that begin alike.
use Rattle.std.proofs.Common.{◌≡◌, ℕ, suc, ◌+◌, ◌<◌, ◌≤◌, Bool, true, false, cond, List, [], ◌∷◌, ◌++◌, drop, length, take, ◌-◌, refl, ap, ◌∙◌, arith}
use Rattle.std.specs.Prelude.{nat_eq}
use Rattle.std.specs.List.{common_prefix_len, starts_with}
use Rattle.std.proofs.Math.Seq.{take-add, take-append_seam}
use Rattle.std.proofs.lemmas.List.{length-drop, take_all}
use Rattle.std.proofs.lemmas.Bool.Decides.{Decides-eqb}
use Rattle.std.proofs.lemmas.Slice.Eq.{starts_is}

-- what a text and one in two parts begin with alike, where they differ in the first part
pub alike-front : (text front rest : List ℕ) → common_prefix_len nat_eq text front < length front → common_prefix_len nat_eq text (front ++ rest) ≡ common_prefix_len nat_eq text front
alike-front text [] rest less = omega (arith, less)
alike-front [] (f ∷ fs) rest less = refl
alike-front (t ∷ ts) (f ∷ fs) rest less = by (alike-front ts fs rest) (nat_eq t f) less
  where
    by : (common_prefix_len nat_eq ts fs < length fs → common_prefix_len nat_eq ts (fs ++ rest) ≡ common_prefix_len nat_eq ts fs) → (b : Bool)
        → cond b (1 + common_prefix_len nat_eq ts fs) 0 < suc (length fs) → cond b (1 + common_prefix_len nat_eq ts (fs ++ rest)) 0 ≡ cond b (1 + common_prefix_len nat_eq ts fs) 0
    by behind true fewer = ap (λ (n : ℕ). 1 + n) (behind (omega (arith, fewer)))
    by behind false fewer = refl

-- the same where they don't
pub alike-behind : (text front rest : List ℕ) → length front ≤ common_prefix_len nat_eq text front
    → common_prefix_len nat_eq text (front ++ rest) ≡ length front + common_prefix_len nat_eq (drop (length front) text) rest
alike-behind text [] rest more = omega arith
alike-behind [] (f ∷ fs) rest more = omega (arith, more)
alike-behind (t ∷ ts) (f ∷ fs) rest more = by (alike-behind ts fs rest) (nat_eq t f) more
  where
    by : (length fs ≤ common_prefix_len nat_eq ts fs → common_prefix_len nat_eq ts (fs ++ rest) ≡ length fs + common_prefix_len nat_eq (drop (length fs) ts) rest) → (b : Bool)
        → suc (length fs) ≤ cond b (1 + common_prefix_len nat_eq ts fs) 0
        → cond b (1 + common_prefix_len nat_eq ts (fs ++ rest)) 0 ≡ suc (length fs) + common_prefix_len nat_eq (drop (suc (length fs)) (t ∷ ts)) rest
    by behind true enough = omega (arith, behind (omega (arith, enough)))
    by behind false enough = omega (arith, enough)

-- a piece with which a text goes on behind its front
pub front-on : (text piece : List ℕ) (same : ℕ) → starts_with nat_eq (drop same text) piece ≡ true → take (same + length piece) text ≡ take same text ++ piece
front-on text piece same starts =
    let goes : drop same text ≡ piece ++ drop (length piece) (drop same text) = (starts_is Decides-eqb (drop same text) piece _ refl).0 starts in
    take-add same (length piece) text ∙ ap (λ (p : List ℕ). take same text ++ p) (ap (take (length piece)) goes ∙ take-append_seam piece (drop (length piece) (drop same text)))

-- a slice to the end
pub slice-on : (text : List ℕ) (same : ℕ) → same ≤ length text → take (length text - same) (drop same text) ≡ drop same text
slice-on text same within = take_all (length text - same) (drop same text) (omega (arith, length-drop same text))

-- a list that is empty
pub empty-list : (xs : List ℕ) → length xs ≡ 0 → xs ≡ []
empty-list [] is = refl
empty-list (x ∷ xs) is = absurd (omega (arith, is))
