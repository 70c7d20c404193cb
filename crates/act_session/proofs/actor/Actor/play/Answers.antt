use Rattle.std.proofs.Common.{◌≡◌, ◌+◌, List, Option, Some, Vec, IfSome, ap, sym, subst, arith}
use Rattle.std.specs.List.{slice_get}
use Rattle.std.specs.declared.alloc.Global.{Global}
use Rattle.std.proofs.lemmas.List.{length-map}
use Rattle.act_model.specs.declared.journal.Line.{Line}
use Rattle.act_desk.specs.Making.{HasMade}
use Rattle.act_desk.specs.Step.{opening}
use Rattle.act_session.specs.Playing.{first_pass, lines_of, quotas_of}
use Rattle.act_session.proofs.Playing.{caller-made, first-is-at, lines-at, may-make, worker-played}
use Rattle.act_session.proofs.actor.Actor.play.Goals as goal

pub caller_keeping-requires-clause-at : goal.caller_keeping-requires-clause-at
caller_keeping-requires-clause-at g c κs within = first-is-at c.args.desk.now (lines_of c.args.scripts.now) c.args.place c.args.self.now.pass c.requires.first

pub caller_keeping-requires-clause-lines : goal.caller_keeping-requires-clause-lines
caller_keeping-requires-clause-lines g c κs within =
    let is = c.in-Some.ensures.lookup in
    record {
      history = opening c.args.desk.now.portfolio (quotas_of (lines_of c.args.scripts.now));
      seen = ap (λ p. p.seen) c.requires.first;
      holds = may-make c.args.desk.now.portfolio (lines_of c.args.scripts.now) c.args.place c.deref.result.now c.requires.scripts
          (lines-at c.args.scripts.now c.args.place c.in-Some.lines.now c.deref.result.now is.3.0 is.1 c.deref.ensures.value);
    }

pub worker-requires-clause-portfolio : goal.worker-requires-clause-portfolio
worker-requires-clause-portfolio g c κs within = (first-is-at c.args.desk.now (lines_of c.args.scripts.now) c.args.place c.args.self.now.pass c.requires.first).portfolio

pub returns-in-Some : goal.returns-in-Some
returns-in-Some g c =
    let is = c.in-Some.ensures.lookup in
    record {
      free = c.caller_keeping.ensures.free;
      number = c.caller_keeping.ensures.number;
      made = subst
          (λ (o : Option (Vec g.row.A.Denot Global)). IfSome o (λ replies. (lines : List Line) → slice_get (lines_of c.args.scripts.now) c.args.place ≡ Some lines
          → HasMade g.A.FromAnswer.kept_of (first_pass c.args.desk.now (lines_of c.args.scripts.now) c.args.place) (c.args.place + 1) lines replies.items c.caller_keeping.new.pass))
          (sym c.ok.ensures.value)
          (caller-made g.A.FromAnswer.kept_of c.args.desk.now (lines_of c.args.scripts.now) c.args.place c.args.self.now.pass c.caller_keeping.new.pass c.requires.first c.deref.result.now c.caller_keeping.result
          (lines-at c.args.scripts.now c.args.place c.in-Some.lines.now c.deref.result.now is.3.0 is.1 c.deref.ensures.value) c.caller_keeping.ensures.made);
    }

pub returns-in-None : goal.returns-in-None
returns-in-None g c =
    let is = c.in-None.ensures.lookup in
    let count = length-map c.args.scripts.now (λ (script : Vec Line Global). script.items) in
    worker-played g.A.FromAnswer.kept_of c.args.desk.now (lines_of c.args.scripts.now) c.args.place c.args.self.now.pass c.worker.new.pass c.requires.first c.args.self.now.answers (omega (arith, is.3, count)) c.worker.ensures.watched
