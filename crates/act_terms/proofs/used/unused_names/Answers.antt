use Rattle.std.proofs.Common.{◌+◌, ap, subst, sym, ◌∙◌}
use Rattle.std.proofs.lemmas.Result.{IfOk-weaker}
use Rattle.act_json.proofs.Trees.{object_is}
use Rattle.act_json.specs.Tree.{data_in}
use Rattle.act_terms.specs.Used.{unused_names}
use Rattle.act_terms.proofs.UnusedNames.{IsFoundTo, all_found, name_found, put_in, term_passed, texts}
use Rattle.act_terms.proofs.used.unused_names.Goals as goal
use Rattle.act_terms.proofs.used.unused_names.Goals.{then-not-is_term_of+in_ok-insert, else-not-is_term_of}

pub loop-name-preserved : goal.loop-name-preserved
loop-name-preserved c =
    let members = c.members-name-items.result.now in
    let place = c.loop-name.name-index in
    let member = c.loop-name-item.result in
    elim c.if-not-is_term_of.branch [
      | then-not-is_term_of+in_ok-insert w ↦
          let unused = sym c.is_term_of.ensures ∙ w.if-not-is_term_of.true in
          let keys = ap (λ s. texts s.keys) w.unused-is ∙ (ap texts w.in_ok-insert.ensures.keys ∙ put_in c.loop-name.unused.keys member.0) in
          subst (IsFoundTo c.args.contract_type members (place + 1)) (sym keys) (name_found c.args.contract_type members place _ member c.loop-name-test.true c.loop-name-item.is unused c.loop-name.invariant)
      | else-not-is_term_of w ↦
          let term = sym c.is_term_of.ensures ∙ w.if-not-is_term_of.false in
          subst (IsFoundTo c.args.contract_type members (place + 1)) (ap (λ s. texts s.keys) (sym w.unused-is)) (term_passed c.args.contract_type members place _ member c.loop-name-test.true c.loop-name-item.is term c.loop-name.invariant)
    ]

pub returns : goal.returns
returns c =
    let given = c.members-name-items.ensures ∙ object_is (data_in c.args.contract.now) _ c.in-Some.ensures in
    let found = all_found c.args.contract_type c.members-name-items.result.now _ _ c.loop-name.auto.name-index-end c.loop-name-test.false c.loop-name.invariant in
    IfOk-weaker c.copies.result _ _ (λ copies is. is ∙ found ∙ ap (unused_names c.args.contract_type) given) c.copies.ensures
