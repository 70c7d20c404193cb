use Rattle.std.proofs.Common.{◌++◌, drop, length, ap, ap₂, ◌∙◌, arith}
use Rattle.std.proofs.lemmas.List.{length-take-le}
use Rattle.act_text.proofs.Again.{put_in_front}
use Rattle.act_text.proofs.line.TextLine.set_day.Goals as goal

pub returns : goal.returns
returns c =
    let line = c.self.inside in
    put_in_front c.copy_from_slice.new.self line.bytes line.end (ap length c.copy_from_slice.ensures.after ∙ c.write.array_long)
    (omega (arith, c.requires, ap length c.self.view_is, length-take-le line.end line.bytes (omega (arith, c.self.invariant, c.self.told))))
    ∙ ap₂ (λ front rest. front ++ drop 10 rest) (c.copy_from_slice.ensures.after ∙ c.write.ensures.written) c.self.view_is
