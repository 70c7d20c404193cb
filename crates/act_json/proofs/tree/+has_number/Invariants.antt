use Rattle.std.proofs.Common.{◌≡◌, drop}
use Rattle.act_json.proofs.Trees.{in_items, in_members}
use Rattle.act_json.proofs.tree.+has_number.Given as goal

-- none of the items so far has one
abbrev pub invariant-items_have_number-loop-item : goal.invariant-items_have_number-loop-item
invariant-items_have_number-loop-item l = in_items (drop l.item-index l.items) ≡ in_items l.items

-- none of the members so far has one
abbrev pub invariant-members_have_number-loop-value : goal.invariant-members_have_number-loop-value
invariant-members_have_number-loop-value l = in_members (drop l.value-index l.members) ≡ in_members l.members
