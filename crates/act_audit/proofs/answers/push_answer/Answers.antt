use Rattle.std.proofs.Common.{◌≡◌, ◌+◌, ◌-◌, ◌<◌, [], ◌∷◌, ◌++◌, length, get_or, set, arith, List, ℕ, Vec, Global, ap, sym, refl, ◌∙◌}
use Rattle.std.proofs.lemmas.List.{get_or-map, map-set}
use Rattle.act_audit.specs.Judging.{answer_lists, with_answer}
use Rattle.act_audit.proofs.answers.push_answer.Goals as goal
use Rattle.act_model.specs.Answer.{Reply}

-- what is pushed is the answer to the next ask
pushed : (lists : List (Vec Reply Global)) (caller number : ℕ) (before list after : Vec Reply Global) (reply inside : Reply) → caller - 1 < length lists → list ≡ get_or lists (caller - 1) before → inside ≡ reply → number ≡ length list.items + 1
    → after.items ≡ list.items ++ record { caller = caller; number = number; version = inside.version; runs = inside.runs } ∷ [] → answer_lists (set lists (caller - 1) after) ≡ with_answer (answer_lists lists) caller reply
pushed lists caller number before list after reply inside within list-is is number-is more =
    let own : list.items ≡ get_or (answer_lists lists) (caller - 1) [] = ap (λ (l : Vec Reply Global). l.items) list-is ∙ sym (get_or-map (λ (l : Vec Reply Global). l.items) lists (caller - 1) before [] within) in
    map-set (λ (l : Vec Reply Global). l.items) lists (caller - 1) after ∙ rw (more, number-is, is, own) refl

pub returns : goal.returns
returns c =
    pushed c.args.lists.now c.args.caller (c.len.result + 1) c.index-lists-caller.result (get_or c.args.lists.now (c.args.caller - 1) c.index-lists-caller.result) c.push.new.self c.args.reply _ (omega (arith, c.requires.from_one, c.requires.to_last)) refl c.reply.view_is (omega (arith, c.len.ensures, (get_or c.args.lists.now (c.args.caller - 1) c.index-lists-caller.result).ok))
    c.in_ok-push.ensures.items
