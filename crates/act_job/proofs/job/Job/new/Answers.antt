use Rattle.std.proofs.Common.{◌≡◌, List, ap, sym, ◌∙◌}
use Rattle.act_engine.proofs.Reading.{want_at_once}
use Rattle.act_model.specs.declared.journal.Line.{Line}
use Rattle.act_script.specs.Asks.{line_lists}
use Rattle.act_job.specs.Reading.{weighed}
use Rattle.act_job.specs.Scripts.{Scripts}
use Rattle.act_job.specs.Weight.{too_much_asked}
use Rattle.act_job.proofs.Reading.{weighed-heavy}
use Rattle.act_job.proofs.job.Job.new.Goals as goal

pub returns-in-Ok-None : goal.returns-in-Ok-None
returns-in-Ok-None c = record { read = λ world. want_at_once (weighed c.args.workers c.args.portfolio c.args.scripts) world; scripts = tt }

pub returns-in-Ok-Some : goal.returns-in-Ok-Some
returns-in-Ok-Some c =
    let lists : line_lists c.deref.result.now ≡ c.args.scripts.lists = ap line_lists c.deref.ensures.value ∙ ap (λ (s : Scripts). s.lists) c.scripts.view_is in
    let much = rw c.in-Ok-Some.field-0-is at c.in-Ok-Some.ensures in
    record {
      read = λ world. weighed-heavy c.args.workers c.args.portfolio c.args.scripts world _ _ (sym (much ∙ ap (λ (ls : List (List Line)). too_much_asked c.args.portfolio ls) lists));
      scripts = tt;
    }

pub returns : goal.returns
returns c = record { read = λ world. want_at_once (weighed c.args.workers c.args.portfolio c.args.scripts) world; scripts = tt }
