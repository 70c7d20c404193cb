use Rattle.std.proofs.Common.{sym, ◌∙◌}
use Rattle.act_swap.proofs.Partners.{known_behind}
use Rattle.act_swap.proofs.Walks.{added_all, added_one, passed_one}
use Rattle.act_swap.proofs.netting.add_netted.Goals as goal

pub rows-preserved-then-not-is_taken : goal.rows-preserved-then-not-is_taken
rows-preserved-then-not-is_taken c =
    let row = c.row-row.result in
    let known = c.starts_of-starts.ensures in (
      passed_one _ _ _ _ _ c.rows.place row c.rows.invariant.0 c.row-row.ensures (sym c.is_taken.ensures ∙ c.if-not-is_taken.true),
      known_behind c.args.run.now c.args.other.now c.rows.place row c.starts_of-starts.result c.row-row.ensures known.day known.from known.other_from,
    )

pub rows-preserved : goal.rows-preserved
rows-preserved c =
    let row = c.row-row.result in
    let known = c.starts_of-starts.ensures in
    let taken = sym c.is_taken.ensures ∙ c.if-not-is_taken.false in (
      rw (c.in_ok-add_row.ensures, c.partner_of-partner.ensures c.args.status_date taken) (added_one _ _ _ _ _ c.rows.place row c.rows.invariant.0 c.row-row.ensures taken),
      known_behind c.args.run.now c.args.other.now c.rows.place row c.starts_of-starts.result c.row-row.ensures known.day known.from known.other_from,
    )

pub returns : goal.returns
returns c = added_all _ _ _ _ _ c.rows.place c.rows.invariant.0 (rw c.count-place-end.ensures at c.rows-test.false)
