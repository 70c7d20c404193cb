use Rattle.std.proofs.Common.{List, ℕ, refl, subst}
use Rattle.act_audit.proofs.Sizes.{lines-few}
use Rattle.act_audit.proofs.judging.no_text.Goals as goal
use Rattle.act_print.specs.Faults.{IsTextOf}

pub read_text-requires : goal.read_text-requires
read_text-requires c = record { lines = lines-few c.args.text.now c.parts_of.result.text.now c.parts_of.ensures.text c.requires.within }

pub unreachable-requires : goal.unreachable-requires
unreachable-requires c =
    c.requires.none c.in-Ok.field-0.items (record {
      printed = c.in-Ok.field-0;
      text = subst (λ (b : List ℕ). IsTextOf c.args.names.now b c.in-Ok.field-0) c.parts_of.ensures.text c.in-Ok.ensures.text;
      journal = refl;
    })
