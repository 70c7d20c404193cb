use Rattle.std.proofs.Common.{◌≡◌, ◌-◌, ◌≤◌, ℕ, length, take}
use Rattle.std.specs.Prelude.{slice_index}
use Rattle.act_audit.specs.Order.{InOrderUpTo}
use Rattle.act_script.specs.Asks.{line_lists}
use Rattle.act_session.specs.Interleaving.{items_by}
use Rattle.act_audit.proofs.order.first_disorder.Given as goal

-- how many steps each caller has made so far, all in order
abbrev pub invariant-loop-place : goal.invariant-loop-place
invariant-loop-place l = record {
  size : length l.made ≡ 16;
  made : (caller : ℕ) → 1 ≤ caller → caller ≤ 16 → slice_index l.made (caller - 1) ≡ length (items_by caller (take l.place l.items));
  before : InOrderUpTo (line_lists l.scripts) l.items l.place;
}
