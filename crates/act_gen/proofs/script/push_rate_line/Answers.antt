use Rattle.std.proofs.Common.{append_assoc, refl}
use Rattle.act_gen.specs.Script.{rate_line}
use Rattle.act_gen.proofs.script.push_rate_line.Goals as goal

pub returns : goal.returns
unfolding rate_line
returns c =
    simp (c.in_ok-extend_from_slice-4.ensures.items, c.in_ok-push_rate.ensures, c.in_ok-extend_from_slice-3.ensures.items, c.in_ok-extend_from_slice-2.ensures.items, c.in_ok-extend_from_slice.ensures.items, c.write.ensures.written, append_assoc) refl
