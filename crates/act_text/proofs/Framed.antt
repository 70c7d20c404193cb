-- Lines with bytes in front of them.
use Rattle.std.proofs.Common.{◌≡◌, ℕ, ◌+◌, ◌≤◌, List, ◌++◌, take, drop, length, ap, ◌∙◌}
use Rattle.std.proofs.lemmas.List.{drop-append-le, drop-take}

-- a line more behind them
pub line_behind : (begin : ℕ) (text text' line : List ℕ) → begin ≤ length text → text' ≡ text ++ line → drop begin text' ≡ drop begin text ++ line
line_behind begin text text' line within behind = ap (drop begin) behind ∙ drop-append-le begin text line within

-- the first of them
pub lines_cut : (begin start : ℕ) (text text' : List ℕ) → text' ≡ take (begin + start) text → drop begin text' ≡ take start (drop begin text)
lines_cut begin start text text' is = ap (drop begin) is ∙ drop-take begin start text
