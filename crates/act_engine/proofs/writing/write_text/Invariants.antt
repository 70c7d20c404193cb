use Rattle.std.proofs.Common.{◌≡◌, ◌≤◌, ◌-◌, length, take}
use Rattle.act_io.specs.Page.{written_on}
use Rattle.act_engine.proofs.writing.write_text.Given as goal

-- as many bytes of the text were written
abbrev pub invariant-pieces : goal.invariant-pieces
invariant-pieces g l =
    record {
      within : l.done ≤ length l.text;
      text : g.K.Sink.page l.out ≡ written_on (g.K.Sink.page l.fn.out) (take l.done l.text);
    }

abbrev pub decreases-pieces : goal.decreases-pieces
decreases-pieces g l = length l.text - l.done
