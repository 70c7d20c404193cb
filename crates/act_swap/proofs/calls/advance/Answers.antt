use Rattle.std.proofs.Common.{map}
use Rattle.std.specs.Arc.{arc_value}
use Rattle.act_swap.proofs.Contracts.{accrual_of_cap, accrual_of_plain, accrual_of_swaps, line_of_cap, line_of_plain, line_of_swaps, step_of_swap}
use Rattle.act_swap.proofs.calls.advance.Goals as goal

pub returns-in-SWPPV : goal.returns-in-SWPPV
returns-in-SWPPV g c =
    let terms = c.args.terms.now in
    let plan = c.args.plan.now in
    let event = c.args.event.now in
    let children = map arc_value c.args.children.now in
    let line = line_of_plain terms plan children event c.in-SWPPV.swap c.new-table.result c.in-SWPPV.is c.new-table.ensures in
    let accrual = accrual_of_plain terms plan children event c.in-SWPPV.swap c.new-table.result c.in-SWPPV.is c.new-table.ensures in
    rw (← step_of_swap terms plan (g.O.Observed.entries c.args.seen.now) children c.args.state.now event c.requires) (c.advance.ensures children line accrual)

pub returns-in-SWAPS : goal.returns-in-SWAPS
returns-in-SWAPS g c =
    let terms = c.args.terms.now in
    let plan = c.args.plan.now in
    let event = c.args.event.now in
    let children = map arc_value c.args.children.now in
    let line = line_of_swaps terms plan children event c.in-SWAPS.swaps c.new-table-in-SWAPS.result c.in-SWAPS.is c.new-table-in-SWAPS.ensures in
    let accrual = accrual_of_swaps terms plan children event c.in-SWAPS.swaps c.new-table-in-SWAPS.result c.in-SWAPS.is c.new-table-in-SWAPS.ensures in
    rw (← step_of_swap terms plan (g.O.Observed.entries c.args.seen.now) children c.args.state.now event c.requires) (c.advance-in-SWAPS.ensures children line accrual)

pub returns-in-CAPFL : goal.returns-in-CAPFL
returns-in-CAPFL g c =
    let terms = c.args.terms.now in
    let plan = c.args.plan.now in
    let event = c.args.event.now in
    let children = map arc_value c.args.children.now in
    let line = line_of_cap terms plan children event _ c.new-table-in-CAPFL.result c.in-CAPFL.is c.new-table-in-CAPFL.ensures in
    let accrual = accrual_of_cap terms plan children event _ c.new-table-in-CAPFL.result c.in-CAPFL.is c.new-table-in-CAPFL.ensures in
    rw (← step_of_swap terms plan (g.O.Observed.entries c.args.seen.now) children c.args.state.now event c.requires) (c.advance-in-CAPFL.ensures children line accrual)
