use Rattle.std.proofs.Common.{ℕ, List, Some, sym, ap, ◌∙◌}
use Rattle.serde_json.specs.View.{members_view, view}
use Rattle.act_script.specs.Form.{only_member}
use Rattle.act_script.proofs.Members.{another_length, is_object, one_entry}
use Rattle.act_script.proofs.form.only_member.Goals as goal

pub returns-then-len-ne1 : goal.returns-then-len-ne1
returns-then-len-ne1 c =
    let value = is_object (view c.args.value.now) (members_view c.in_ok-object.object.now.entries) c.in_ok-object.ensures in
    sym (ap only_member value ∙ another_length c.in_ok-object.object.now.entries (λ one. c.if-len-ne1.true (c.len.ensures.len ∙ one)))

pub returns : goal.returns
returns c =
    let value = is_object (view c.args.value.now) (members_view c.in_ok-object.object.now.entries) c.in_ok-object.ensures in
    sym (ap only_member value ∙ one_entry c.in_ok-object.object.now.entries c.in_ok-name.name.now c.in_ok-name.inner.now (sym c.len.ensures.len ∙ c.if-len-ne1.false) c.in_ok-name.ensures.first
    ∙ ap (λ (text : List ℕ). Some (text, view c.in_ok-name.inner.now)) (sym c.as_str.ensures.value))
