use Rattle.std.proofs.Common.{◌≡◌, ◌≤◌, length, ◌∷◌, get_or, slice_get, Some, ap, sym, subst, ◌∙◌}
use Rattle.act_model.specs.Chunk.{level_of, no_numbers, numbers_in, numbers_of, rest_of}
use Rattle.act_model.specs.declared.shared.Shared.{Shared}
use Rattle.act_model.proofs.Slims.{maybe_more, numbers_there, parts_there, row_there}
use Rattle.act_model.proofs.shared.Shared.add.Goals as goal

pub returns-in_err-level-clause-stays : goal.returns-in_err-level-clause-stays
returns-in_err-level-clause-stays c = record {
  rests = maybe_more _ _ _ c.place_rest.ensures.others;
  levels = maybe_more _ _ _ c.place_level.ensures.others;
  long = maybe_more _ _ _ c.place_numbers.ensures.others;
}

pub returns-clause-stays : goal.returns-clause-stays
returns-clause-stays c = record {
  rests = maybe_more _ _ _ c.place_rest.ensures.others;
  levels = maybe_more _ _ _ c.place_level.ensures.others;
  long = maybe_more _ _ _ c.place_numbers.ensures.others;
}

pub returns-clause-there : goal.returns-clause-there
returns-clause-there c =
    let shared : Shared = record { rests = c.place_rest.new.rests; levels = c.place_level.new.levels; long = c.place_numbers.new.list } in
    let state = c.args.state.now in
    let slim = c.of.result in
    let short = c.in_ok-placed.placed.short in
    let rest : slice_get shared.rests.items slim.rest ≡ Some (rest_of state) = ap (slice_get shared.rests.items) c.of.ensures.rest ∙ c.in_ok-rest.ensures.there in
    let level : slice_get shared.levels.items slim.level ≡ Some (level_of short c.args.head.now.currency) = ap (slice_get shared.levels.items) c.of.ensures.level ∙ c.in_ok-level.ensures.there ∙ ap Some c.level.ensures in
    parts_there shared slim short c.args.head.now state rest level (subst (λ place. place ≤ length shared.long.items) (sym c.of.ensures.long) c.in_ok-placed.ensures.within)

pub returns-clause-row : goal.returns-clause-row
returns-clause-row c =
    let shared : Shared = record { rests = c.place_rest.new.rests; levels = c.place_level.new.levels; long = c.place_numbers.new.list } in
    let head = c.args.head.now in
    let state = c.args.state.now in
    let slim = c.of.result in
    let placed = c.in_ok-placed.placed in
    let rest : slice_get shared.rests.items slim.rest ≡ Some (rest_of state) = ap (slice_get shared.rests.items) c.of.ensures.rest ∙ c.in_ok-rest.ensures.there in
    let level : slice_get shared.levels.items slim.level ≡ Some (level_of placed.short head.currency) = ap (slice_get shared.levels.items) c.of.ensures.level ∙ c.in_ok-level.ensures.there ∙ ap Some c.level.ensures in
    let numbers : get_or (numbers_in placed.short ∷ shared.long.items) slim.long no_numbers ≡ numbers_of head state = ap (λ place. get_or (numbers_in placed.short ∷ shared.long.items) place no_numbers) c.of.ensures.long ∙ c.in_ok-placed.ensures.there in
    row_there shared slim placed.short head state rest level (numbers_there shared slim placed.short head state rest level c.of.ensures.payoff c.of.ensures.ipac numbers) c.of.ensures.row
