use Rattle.std.proofs.Common.{◌≡◌, ◌+◌, ◌*◌, ◌%◌, ◌<◌, ◌≤◌, arith}
use Rattle.std.proofs.lemmas.Int.{ints}
use Rattle.std.proofs.lemmas.Nat.{mod_below}
use Rattle.act_num.proofs.Estimates.{rounded_down, rounded_up}
use Rattle.act_num.proofs.rounding.estimated_by_ones.Goals.{then-short-lt0, else-short-lt0}
use Rattle.act_num.proofs.rounding.estimated_by_ones.Goals as goal

pub returns-then-short-gt3 : goal.returns-then-short-gt3
returns-then-short-gt3 c =
    let n = c.args.n in
    let den = c.args.den in
    let ones = c.estimated_ones-ones.result in
    let are = c.estimated_ones-ones.ensures in
    let rest : ones % den < den = mod_below ones den c.requires.den_above in
    elim c.if-short-lt0.branch [
      | then-short-lt0 w ↦
          let up : c.from.result ≡ 1 = grind (arith, ints, rest, c.from.ensures, w.if-short-lt0.true) in
          let over : den < 2 * (ones % den) = omega (arith, ints, rest, w.if-short-lt0.true) in
          rounded_up n ones den c.requires.den_above are.low are.high c.from.result up over
      | else-short-lt0 w ↦
          let up : c.from.result ≡ 0 = grind (arith, ints, rest, c.from.ensures, w.if-short-lt0.false) in
          let under : 2 * (ones % den) + 4 ≤ den = grind (arith, ints, rest, c.if-short-gt3.true, w.value-is, w.if-short-lt0.false) in
          rounded_down n ones den c.requires.den_above are.low are.high c.from.result up under
    ]
