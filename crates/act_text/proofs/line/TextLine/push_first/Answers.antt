use Rattle.std.proofs.Common.{◌+◌, ◌-◌, ◌≤◌, ◌++◌, length, take, ap, ap₂, ◌∙◌, arith}
use Rattle.act_text.proofs.PutTogether.{first_written}
use Rattle.act_text.proofs.line.TextLine.push_first.Goals as goal

pub returns : goal.returns
returns c =
    let line = c.self.inside in
    let within : line.end ≤ length line.bytes = omega (arith, c.self.invariant, c.self.told) in
    first_written line.end 48 c.args.count (line.end + 48 - line.end) line.bytes c.copy_from_slice.new.self within (ap length c.copy_from_slice.ensures.after ∙ c.told-bytes) c.requires.within
    ∙ ap₂ (λ front bytes. front ++ take c.args.count bytes) c.self.view_is c.copy_from_slice.ensures.after
