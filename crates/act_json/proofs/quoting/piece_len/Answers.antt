use Rattle.std.proofs.Common.{sym, ap, ◌∙◌, rules, tests}
use Rattle.act_json.specs.Quoting.{string_len}
use Rattle.act_json.proofs.Pieces.{piece_len-nothing, piece_len-string, piece_len-run, piece_len-other, rest_is}
use Rattle.act_json.proofs.quoting.piece_len.Goals as goal

pub returns-in_default-clause-length : goal.returns-in_default-clause-length
returns-in_default-clause-length c = sym (piece_len-nothing c.args.text.now c.in_default.len_below)

pub returns-then-first-eq34-clause-length : goal.returns-then-first-eq34-clause-length
returns-then-first-eq34-clause-length c =
    piece_len-string c.args.text.now _ c.in-len1-up.len_at_least c.if-first-eq34.true (c.string_len.ensures.length ∙ ap string_len (rest_is c.args.text.now))

pub returns-then-is_number_byte-clause-length : goal.returns-then-is_number_byte-clause-length
returns-then-is_number_byte-clause-length c =
    c.number_len.ensures.length ∙ piece_len-run c.args.text.now c.in-len1-up.len_at_least (search (rules, tests)) (search (rules, tests))

pub returns-else-is_number_byte-clause-length : goal.returns-else-is_number_byte-clause-length
returns-else-is_number_byte-clause-length c =
    piece_len-other c.args.text.now c.in-len1-up.len_at_least (search (rules, tests)) (search (rules, tests))
