use Rattle.std.proofs.Common.{arith, length-drop}
use Rattle.std.proofs.lemmas.List.{take_rest}
use Rattle.act_engine.proofs.Texts.{written-piece}
use Rattle.act_engine.proofs.writing.write_text.Goals as goal

pub pieces-preserved : goal.pieces-preserved
pieces-preserved g c =
    let took = rw (take_rest c.args.text.now c.pieces.done) at c.in_ok-done.ensures.took in
    record {
      within = omega (arith, took.0, length-drop c.pieces.done c.args.text.now);
      text = written-piece _ _ _ c.pieces.done c.in_ok-done.field-0 c.args.text.now _ c.pieces.invariant.within (take_rest c.args.text.now c.pieces.done) c.pieces.invariant.text c.in_ok-done.ensures.took.2;
    }
