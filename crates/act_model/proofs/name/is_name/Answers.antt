use Rattle.act_model.proofs.name.is_name.Goals as goal

pub returns : goal.returns
returns c = c.has_form.ensures
