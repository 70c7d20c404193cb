use Rattle.std.proofs.Common.{◌≡◌, ◌++◌, map, take}
use Rattle.act_gen.specs.Json.{with_commas}
use Rattle.act_gen.specs.Members.{member_text}
use Rattle.act_gen.proofs.members.push_members.Given as goal

abbrev pub invariant-members : goal.invariant-members
invariant-members l = l.text.items ≡ l.initial.text.items ++ with_commas (map member_text (take l.place l.members))
