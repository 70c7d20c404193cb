use Rattle.std.proofs.Common.{rules, tests}
use Rattle.std.proofs.lemmas.Bool.{eqb-true}
use Rattle.act_json.specs.Quoting.{quoted}
use Rattle.act_json.proofs.Pieces.{nothing_left, stretch_passes, stretch_shortens}
use Rattle.act_json.proofs.quoting.quote.Goals as goal

pub stretches-smaller : goal.stretches-smaller
stretches-smaller c =
    stretch_shortens c.stretches.rest.now c.split_at.result.1.now _ _ _ (search (rules, tests)) c.len_before_number.ensures.number
    c.split_at.ensures.back c.number_len.ensures.length c.split_at-in-stretches.ensures.back

pub stretches-preserved : goal.stretches-preserved
stretches-preserved c =
    stretch_passes c.stretches.text.items c.stretches.rest.now (quoted c.args.bytes.now) _ c.split_at.result.1.now _ _ _ _ _ _ c.stretches.invariant
    c.len_before_number.ensures.copied c.len_before_number.ensures.number c.split_at.ensures.front c.split_at.ensures.back
    c.number_len.ensures.length c.split_at-in-stretches.ensures.front c.split_at-in-stretches.ensures.back
    c.in_ok-extend_from_slice.ensures.items c.in_ok-push_number.ensures

pub returns : goal.returns
returns c = nothing_left c.stretches.text.items c.stretches.rest.now (quoted c.args.bytes.now) (eqb-true _ _ (search (rules, tests))) c.stretches.invariant
