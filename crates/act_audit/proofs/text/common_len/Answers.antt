use Rattle.std.proofs.Common.{drop, arith}
use Rattle.std.specs.Prelude.{nat_eq}
use Rattle.std.proofs.lemmas.List.{length-drop}
use Rattle.std.proofs.lemmas.List.Sums.{common_prefix_len-le}
use Rattle.act_audit.proofs.text.common_len.Goals as goal

pub returns-else-same-right-clause-same : goal.returns-else-same-right-clause-same
returns-else-same-right-clause-same c =
    let n = c.bytes.same in
    omega (
      arith,
      c.bytes.invariant.alike,
      c.bytes.invariant.within_right,
      c.if-same-right.false,
      (common_prefix_len-le nat_eq (drop n c.args.text.now) (drop n c.args.right.now)).1,
      length-drop n c.args.right.now,
    )
