use Rattle.std.proofs.Common.{◌≡◌, ◌+◌, ◌++◌, ◌<◌, ℕ, List, Vec, Global, drop, length, refl, ap, subst, ◌∙◌}
use Rattle.std.specs.List.{All}
use Rattle.act_engine.proofs.Lists.{drop-next, drop-past}
use Rattle.act_engine.proofs.Texts.{left-all, left-next, left-none, left-part, writes-part}
use Rattle.act_history.specs.History.{History, replies_of}
use Rattle.act_model.specs.Answer.{Reply}
use Rattle.act_model.specs.Run.{Stream}
use Rattle.act_transcript.specs.KnownLines.{AreBlocksOf, IsReplyOn}
use Rattle.act_transcript.specs.Text.{answers_text}
use Rattle.act_transcript.proofs.Texts.{all-inside, text-both}
use Rattle.act_transcript.proofs.answers.write_answers_by.Goals as goal
use Rattle.act_transcript.proofs.answers.write_answers_by.Goals.{After-deref}

pub loop-answers-init : goal.loop-answers-init
loop-answers-init g c = record { text = left-all _ _; blocks = c.requires.blocks; names = refl; board = refl }

pub write_list-requires : goal.write_list-requires
write_list-requires g c =
    let now = c.loop-answers.invariant in
    record {
      way = c.requires.way;
      blocks = rw now.board now.blocks;
      named = rw (c.deref.ensures.value, now.names)
          (all-inside (λ (answer : Reply). All (λ (run : ℕ × Stream). run.0 < length c.args.blocks.now.names.now.contracts) answer.runs) c.args.lists.now c.loop-answers.answers-index c.answers-item.result c.loop-answers-test.true c.answers-item.is c.requires.named);
      replies = rw (c.deref.ensures.value, now.board) (all-inside (IsReplyOn c.args.board.now) c.args.lists.now c.loop-answers.answers-index c.answers-item.result c.loop-answers-test.true c.answers-item.is c.requires.replies);
    }

-- the text of the list that is next, and that of those behind it
next-text : (g : _) (c : After-deref g)
    → answers_text c.args.blocks.now.names.now (replies_of (drop c.loop-answers.answers-index c.args.lists.now))
    ≡ answers_text c.args.blocks.now.names.now c.answers-item.result.items ++ answers_text c.args.blocks.now.names.now (replies_of (drop (c.loop-answers.answers-index + 1) c.args.lists.now))
next-text g c =
    ap (λ (ls : List (Vec Reply Global)). answers_text c.args.blocks.now.names.now (replies_of ls)) (drop-next c.args.lists.now c.loop-answers.answers-index c.answers-item.result c.loop-answers-test.true c.answers-item.is)
    ∙ text-both c.args.blocks.now.names.now c.answers-item.result.items (replies_of (drop (c.loop-answers.answers-index + 1) c.args.lists.now))

pub loop-answers-preserved : goal.loop-answers-preserved
loop-answers-preserved g c =
    let first = c.loop-answers.invariant in
    let wrote = c.in_ok-write_list.ensures in
    record {
      text = left-next _ _ _ _ _ _ _ first.text (next-text g (goal.at.loop-answers-preserved g c).After-deref) (rw (c.deref.ensures.value, first.names) at wrote.text);
      blocks = subst (λ (board : History). AreBlocksOf board c.write_list.new.blocks) first.board wrote.blocks;
      names = wrote.names ∙ first.names;
      board = wrote.board ∙ first.board;
    }

pub returns-in_err-write_list-clause-text : goal.returns-in_err-write_list-clause-text
returns-in_err-write_list-clause-text g c =
    writes-part c.from_residual.result _ _ _ _ c.from_residual.ensures.1
    (left-part c.in_err-write_list.field-0.0 _ _ _ _ _ _ _ c.loop-answers.invariant.text (next-text g (goal.at.returns-in_err-write_list-clause-text g c).After-deref)
    (rw (c.deref.ensures.value, c.loop-answers.invariant.names) at c.in_err-write_list.ensures.text))

pub returns-clause-text : goal.returns-clause-text
returns-clause-text g c =
    let none = drop-past c.args.lists.now c.loop-answers.answers-index c.loop-answers-test.false in
    left-none _ _ _ _ c.loop-answers.invariant.text (ap (λ (ls : List (Vec Reply Global)). answers_text c.args.blocks.now.names.now (replies_of ls)) none)
