use Rattle.std.proofs.Common.{◌≡◌, ◌≤◌, length, take}
use Rattle.json.specs.Find.{get_member}
use Rattle.json.specs.Value.{members_view}
use Rattle.act_json.proofs.tree.Object.get.Given as goal

-- none of the members behind has the name
abbrev pub invariant-loop-left : goal.invariant-loop-left
invariant-loop-left l =
    (get_member l.name (members_view l.self.members.now) ≡ get_member l.name (members_view (take l.left l.self.members.now))) × (l.left ≤ length l.self.members.now)

abbrev pub decreases-loop-left : goal.decreases-loop-left
decreases-loop-left l = l.left
