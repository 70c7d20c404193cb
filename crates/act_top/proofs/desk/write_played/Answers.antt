use Rattle.std.proofs.Common.{if◌then◌else◌, Bool, List, ap, ◌∙◌}
use Rattle.std.specs.List.{list_all}
use Rattle.std.proofs.lemmas.List.{map-id}
use Rattle.act_engine.specs.declared.status.Status.TheVariants.{Done, Unfinished}
use Rattle.act_history.specs.History.{journal_of, replies_of}
use Rattle.act_model.specs.Answer.{Reply}
use Rattle.act_profile.specs.Answers.{answers_of}
use Rattle.act_transcript.specs.Ends.{ends_well}
use Rattle.act_top.proofs.desk.write_played.Goals as goal

pub returns-in-Ok-clause-status : goal.returns-in-Ok-clause-status
returns-in-Ok-clause-status g c =
    let j = c.args.job in
    let answers = answers_of j.portfolio.contracts j.scripts.names (journal_of c.args.played.board) in
    let kept = ap replies_of c.deref-2.ensures.value ∙ (c.requires.answers ∙ map-id answers) in
    c.status.ensures ∙ ap (λ (b : Bool). if b then Done else Unfinished) (c.stops_of-stops.ensures ∙ ap (λ (replies : List Reply). list_all ends_well replies) kept)
