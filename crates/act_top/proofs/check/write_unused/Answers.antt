use Rattle.std.proofs.Common.{ap, List, map, string_bytes, Global}
use Rattle.std.specs.List.{flat_map}
use Rattle.std.specs.declared.string.String.{String}
use Rattle.act_top.specs.Check.{unused_line}
use Rattle.act_engine.proofs.Lists.{drop-past, from-next}
use Rattle.act_engine.proofs.Texts.{left-all, left-next, left-none, left-part, writes-part}
use Rattle.act_top.proofs.check.write_unused.Goals as goal

pub returns-in_err-write_unused_name : goal.returns-in_err-write_unused_name
returns-in_err-write_unused_name g c =
    let here = from-next (λ (names : List (String Global)). flat_map unused_line (map string_bytes names)) c.args.names.now c.loop-name.name-index c.name-item.result c.loop-name-test.true c.name-item.is in
    writes-part c.from_residual.result _ _ _ _ c.from_residual.ensures.1 (left-part c.in_err-write_unused_name.field-0.0 _ _ _ _ _ _ _ c.loop-name.invariant.text here (rw c.as_bytes.ensures.value at c.in_err-write_unused_name.ensures))

pub loop-name-preserved : goal.loop-name-preserved
loop-name-preserved g c =
    let here = from-next (λ (names : List (String Global)). flat_map unused_line (map string_bytes names)) c.args.names.now c.loop-name.name-index c.name-item.result c.loop-name-test.true c.name-item.is in
    record { text = left-next _ _ _ _ _ _ _ c.loop-name.invariant.text here (rw c.as_bytes.ensures.value at c.in_ok-write_unused_name.ensures) }

pub loop-name-init : goal.loop-name-init
loop-name-init g c = record { text = left-all _ _ }

pub returns : goal.returns
returns g c =
    left-none _ _ _ _ c.loop-name.invariant.text
    (ap (λ (names : List (String Global)). flat_map unused_line (map string_bytes names)) (drop-past c.args.names.now c.loop-name.name-index c.loop-name-test.false))
