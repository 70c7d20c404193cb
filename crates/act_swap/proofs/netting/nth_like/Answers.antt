use Rattle.std.proofs.Common.{◌≡◌, ◌-◌, ℤ, ◌<ℤ◌, true, int_cmp, is_lt, suc, arith, sym, ◌∙◌}
use Rattle.std.proofs.lemmas.Int.{ints}
use Rattle.act_swap.proofs.Partners.{sought_first, sought_here, sought_later, sought_less, sought_on}
use Rattle.act_swap.proofs.netting.nth_like.Goals as goal
use Rattle.act_swap.proofs.netting.nth_like.Goals.{then-is_netted_with+else-left-eq0, else-is_netted_with}

-- what a comparison tells
is_later : (a b : ℤ) → is_lt (int_cmp a b) ≡ true → a <ℤ b
is_later a b e = grind (arith, ints)

pub rows-init : goal.rows-init
rows-init c = sought_first c.args.row.now c.args.run.now.rows c.args.n c.args.from c.requires.from

pub returns-then-lt-clause-place : goal.returns-then-lt-clause-place
returns-then-lt-clause-place c =
    let after : c.args.row.now.day <ℤ c.row-other.result.day = is_later c.args.row.now.day c.row-other.result.day (sym c.lt.ensures ∙ c.if-lt.true) in
    sought_later c.args.row.now c.args.run.now.rows c.args.n c.rows.place c.rows.left c.row-other.result c.rows.invariant c.requires.order c.row-other.ensures after

pub returns-then-left-eq0-clause-place : goal.returns-then-left-eq0-clause-place
returns-then-left-eq0-clause-place c =
    sought_here c.args.row.now c.args.run.now.rows c.args.n c.rows.place c.rows.left c.row-other.result c.row-other.ensures c.rows.invariant (sym c.is_netted_with.ensures ∙ c.if-is_netted_with.true) c.if-left-eq0.true

pub rows-preserved : goal.rows-preserved
rows-preserved c =
    elim c.if-is_netted_with.branch [
      | then-is_netted_with+else-left-eq0 w ↦
          let one_less : c.rows.left ≡ suc (c.rows.left - 1) = omega arith in
          rw w.left-is (sought_less c.args.row.now c.args.run.now.rows c.args.n c.rows.place c.rows.left c.row-other.result c.row-other.ensures c.rows.invariant (sym c.is_netted_with.ensures ∙ w.if-is_netted_with.true) (c.rows.left - 1) one_less)
      | else-is_netted_with w ↦
          rw w.left-is (sought_on c.args.row.now c.args.run.now.rows c.args.n c.rows.place c.rows.left c.row-other.result c.row-other.ensures c.rows.invariant (sym c.is_netted_with.ensures ∙ w.if-is_netted_with.false))
    ]
