use Rattle.std.proofs.Common.{◌≡◌, ℕ, ◌∙◌, List, Vec, All, length, take, ap, sym, subst, arith}
use Rattle.std.specs.declared.alloc.Global.{Global}
use Rattle.std.proofs.lemmas.List.{length-map, take_at}
use mathlib.Core.List.{IsPrefix}
use Rattle.act_model.specs.declared.journal.Line.{Line}
use Rattle.act_turn.specs.Journal.{entries_of}
use Rattle.act_turn.specs.Standing.{IsFree, Standing, own_entries}
use Rattle.act_board.specs.Entries.{author_of, list_of}
use Rattle.act_board.specs.declared.history.Entry.{Entry}
use Rattle.act_session.specs.Playing.{lines_of}
use Rattle.act_session.specs.Seats.{answers_at, passes_of}
use Rattle.act_session.specs.declared.actor.Actor.{Actor}
use Rattle.act_session.proofs.Closed.{IsClosed, all-free, closed-answered, closed-own, closed-played}
use Rattle.act_session.proofs.threads.end.Goals.{After-rise, In-Some}
use Rattle.act_session.proofs.threads.end.Goals as goal

-- the passes are those of the actors
same : (g : _) (c : After-rise g) → c.rise.new.passes.items ≡ passes_of c.args.actors.items
same g c =
    let a = c.take_answers-taken.auto.actors in let b = c.as_mut_slice.ensures.len in
    c.rise.ensures.passes
    ∙ (ap passes_of (take_at c.take_answers-taken.new.actors _ c.args.actors.len (omega (arith, a, b))) ∙ (c.take_answers-taken.ensures.passes ∙ ap passes_of c.as_mut_slice.ensures.value))

closed : (g : _) (c : In-Some g) → c.rise.new.passes.items ≡ passes_of c.args.actors.items
    → IsClosed g.A.FromAnswer.kept_of c.args.desk (lines_of c.args.scripts.now) c.args.actors.items c.close-board.result c.in-Some.answers.items
closed g c same =
    let count = length-map c.args.scripts.now (λ (script : Vec Line Global). script.items) in
    let callers = c.requires.callers in
    record {
      played = c.requires.played;
      are = c.requires.scripts;
      sound = c.journal.ensures.sound;
      begins = subst (All (λ (p : Standing Entry). IsPrefix p.seen (list_of c.close-board.result))) same c.close-board.ensures.begins;
      own = subst (All (λ (p : Standing Entry). entries_of author_of p.number (list_of c.close-board.result) ≡ own_entries author_of p)) same c.close-board.ensures.own;
      enough = omega (arith, count, callers);
      taken =
          c.in-Some.ensures.answers
          ∙ (ap (λ (actors : List (Actor g.row.A.Denot)). take (length c.args.scripts.now) (answers_at actors)) c.as_mut_slice.ensures.value ∙ ap (λ (n : ℕ). take n (answers_at c.args.actors.items)) (sym count));
    }

pub close-board-requires-clause-free : goal.close-board-requires-clause-free
close-board-requires-clause-free g c =
    subst (All (IsFree c.args.desk.id)) (sym (same g (goal.at.close-board-requires-clause-free g c).After-rise)) (all-free c.args.desk (lines_of c.args.scripts.now) c.args.actors.items c.requires.played)

pub returns-in-Some-clause-board : goal.returns-in-Some-clause-board
returns-in-Some-clause-board g c = closed-played (closed g c (same g (goal.at.returns-in-Some-clause-board g c).After-rise))

pub returns-in-Some-clause-own : goal.returns-in-Some-clause-own
returns-in-Some-clause-own g c = closed-own (closed g c (same g (goal.at.returns-in-Some-clause-own g c).After-rise))

pub returns-in-Some-clause-answers : goal.returns-in-Some-clause-answers
returns-in-Some-clause-answers g c = closed-answered (closed g c (same g (goal.at.returns-in-Some-clause-answers g c).After-rise))
