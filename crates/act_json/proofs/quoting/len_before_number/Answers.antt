use Rattle.std.proofs.Common.{◌+◌, ◌-◌, length, drop, ◌∙◌, ap, length-drop, arith, rules, tests}
use Rattle.std.proofs.lemmas.List.{take_all}
use Rattle.act_json.specs.Quoting.{piece_len, starts_number, string_len}
use Rattle.act_json.proofs.Pieces.{alone, passes, string}
use Rattle.act_json.proofs.quoting.len_before_number.Goals as goal

pub pieces-preserved-then-is_between : goal.pieces-preserved-then-is_between
pieces-preserved-then-is_between c = record {
  within = search (rules, tests);
  copied = passes c.args.text.now c.pieces.len 1 c.pieces-test.true (search (rules, tests)) (alone c.args.text.now c.pieces.len c.pieces-test.true (search (rules, tests)) (search (rules, tests))) c.pieces.invariant.copied;
}

pub pieces-preserved-then-text-len-eq34 : goal.pieces-preserved-then-text-len-eq34
unfolding starts_number
pieces-preserved-then-text-len-eq34 c =
    let slice = take_all (length c.args.text.now - (c.pieces.len + 1)) (drop (c.pieces.len + 1) c.args.text.now) (omega (arith, length-drop (c.pieces.len + 1) c.args.text.now)) in
    record {
      within = search (rules, tests);
      copied = passes c.args.text.now c.pieces.len _ c.pieces-test.true (search (rules, tests)) (string c.args.text.now c.pieces.len _ c.pieces-test.true (search (rules, tests)) (c.string_len.ensures.length ∙ ap string_len slice)) c.pieces.invariant.copied;
    }

pub pieces-preserved : goal.pieces-preserved
pieces-preserved c =
    let slice = take_all (length c.args.text.now - c.pieces.len) (drop c.pieces.len c.args.text.now) (omega (arith, length-drop c.pieces.len c.args.text.now)) in
    record {
      within = search (rules, tests);
      copied = passes c.args.text.now c.pieces.len _ c.pieces-test.true (search (rules, tests)) (c.piece_len-len.ensures.length ∙ ap piece_len slice) c.pieces.invariant.copied;
    }
