use Rattle.std.proofs.Common.{◌≡◌, ◌-◌, get_or, false, ◌∙◌, sym, arith, rules, tests}
use Rattle.std.specs.Str.{bytes_eq}
use Rattle.act_json.proofs.Trees.{found_last, lengths_differ, none_first, passed_last}
use Rattle.act_json.proofs.tree.Object.get.Goals as goal
use Rattle.act_json.proofs.tree.Object.get.Goals.{else-member-name-via-then-member-name+else-eq, else-member-name-via-else-member-name}

pub returns-then-eq : goal.returns-then-eq
returns-then-eq c =
    found_last c.args.self.now.members.now c.args.name.now c.loop-left.left c.index-self-left.result (omega arith) c.loop-left.invariant.1 (sym c.eq.ensures ∙ c.if-eq.true) c.loop-left.invariant.0

pub loop-left-preserved : goal.loop-left-preserved
loop-left-preserved c =
    let members = c.args.self.now.members.now in
    let member = get_or members (c.loop-left.left - 1) c.index-self-left.result in
    let differ : bytes_eq member.0.now c.args.name.now ≡ false = elim c.else-member-name.branch [
      | else-member-name-via-then-member-name+else-eq w ↦ sym w.eq.ensures ∙ w.if-eq.false
      | else-member-name-via-else-member-name w ↦ lengths_differ member.0.now c.args.name.now (search (rules, tests))
    ] in
    (passed_last members c.args.name.now c.loop-left.left c.index-self-left.result (omega arith) c.loop-left.invariant.1 differ c.loop-left.invariant.0, omega arith)

pub returns : goal.returns
returns c = none_first c.args.self.now.members.now c.args.name.now c.loop-left.left c.loop-left-test.false c.loop-left.invariant.0
