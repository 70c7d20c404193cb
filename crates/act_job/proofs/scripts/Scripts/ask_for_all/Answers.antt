use Rattle.std.proofs.Common.{◌≡◌, [], ◌∷◌, ◌++◌, List, Vec, Global, ap, ◌∙◌}
use Rattle.act_model.specs.declared.journal.Line.{Line}
use Rattle.act_script.specs.Asks.{line_lists}
use Rattle.act_job.specs.Scripts.{ask_for_all}
use Rattle.act_job.proofs.Scripting.{ask-are}
use Rattle.act_job.proofs.scripts.Scripts.ask_for_all.Goals as goal

pub returns-clause-lines : goal.returns-clause-lines
returns-clause-lines c =
    let lists : line_lists c.push.new.self.items ≡ (ask_for_all c.args.portfolio.now).lists =
    ap line_lists (c.in_ok-push.ensures.items ∙ ap (λ (ls : List (Vec Line Global)). ls ++ c.in_ok-lines.lines ∷ []) c.new-lists.ensures.items) ∙ ap (λ (lines : List Line). lines ∷ []) c.in_ok-lines.ensures.items in
    rw (lists, c.in_ok-names.ensures.names) (ask-are c.args.portfolio.now)
