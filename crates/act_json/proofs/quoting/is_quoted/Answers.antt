use Rattle.std.proofs.Common.{◌≡◌, length, take, drop, sym, ◌∙◌, length-drop, arith, rules, tests}
use Rattle.std.proofs.lemmas.List.{take_all}
use Rattle.act_json.specs.Quoting.{quoted}
use Rattle.act_json.proofs.Pieces.{nothing_left}
use Rattle.act_json.proofs.quoting.is_quoted.Goals as goal

pub returns : goal.returns
returns c whole =
    let text = c.args.bytes.now in
    let n = c.len_before_number.result in
    let all : n ≡ length text = search (rules, tests) in
    let none : length (drop n text) ≡ 0 = omega (arith, length-drop n text) in
    sym (nothing_left (take n text) (drop n text) (quoted text) none (sym c.len_before_number.ensures.copied)) ∙ take_all n text (omega arith)
