use Rattle.std.proofs.Common.{drop, map}
use Rattle.std.specs.List.{flat_map}
use Rattle.act_engine.proofs.Texts.{Left}
use Rattle.act_print.specs.Text.{item_text}
use Rattle.act_transcript.proofs.heads.write_items.Given as goal

-- the lines of the steps from this one on are still to be written
abbrev pub invariant-loop-step : goal.invariant-loop-step
invariant-loop-step g l = Left (flat_map (item_text l.names) (map g.S.JournalStep.item_of l.journal)) (flat_map (item_text l.names) (map g.S.JournalStep.item_of (drop l.step-index l.journal))) (g.K.Sink.page l.fn.out) (g.K.Sink.page l.out)
