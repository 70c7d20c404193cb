use Rattle.std.proofs.Common.{◌∙◌, sym}
use Rattle.act_json.proofs.Readings.{few_in, json_is}
use Rattle.act_json.proofs.reading.read.Goals as goal

pub returns-then-is_quoted-clause-value : goal.returns-then-is_quoted-clause-value
returns-then-is_quoted-clause-value c never =
    json_is _ _ _ (sym (c.is_quoted.ensures c.if-is_quoted.true)) c.read_quoted.ensures.value c.read_quoted.ensures.refused never

pub returns-then-is_quoted-clause-few : goal.returns-then-is_quoted-clause-few
returns-then-is_quoted-clause-few c = few_in _ _ _ (sym (c.is_quoted.ensures c.if-is_quoted.true)) c.read_quoted.ensures.value

pub returns-clause-value : goal.returns-clause-value
returns-clause-value c never =
    json_is _ _ _ (c.deref.ensures.value ∙ c.in-Ok.ensures) c.read_quoted-2.ensures.value c.read_quoted-2.ensures.refused never

pub returns-clause-few : goal.returns-clause-few
returns-clause-few c = few_in _ _ _ (c.deref.ensures.value ∙ c.in-Ok.ensures) c.read_quoted-2.ensures.value
