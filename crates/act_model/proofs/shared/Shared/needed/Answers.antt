use Rattle.std.proofs.Common.{◌≡◌, length, take, sym, ap, ◌∙◌, arith}
use Rattle.std.proofs.lemmas.List.{length-take-le}
use Rattle.act_model.specs.Chunk.{IsAtMost, counts_of}
use Rattle.act_model.proofs.Slims.{front}
use Rattle.act_model.proofs.shared.Shared.needed.Goals as goal

pub slice_bounds-to_vec-end : goal.slice_bounds-to_vec-end
slice_bounds-to_vec-end c =
    let within : IsAtMost c.of-counts.result (counts_of c.args.self.now) = c.of-counts.ensures.least (counts_of c.args.self.now) c.requires in
    sym (length-take-le c.of-counts.result.rests c.deref.result.now (omega (arith, within.rests, ap length c.deref.ensures.value)))

pub slice_bounds-copied-end : goal.slice_bounds-copied-end
slice_bounds-copied-end c =
    let within : IsAtMost c.of-counts.result (counts_of c.args.self.now) = c.of-counts.ensures.least (counts_of c.args.self.now) c.requires in
    sym (length-take-le c.of-counts.result.levels c.deref-2.result.now (omega (arith, within.levels, ap length c.deref-2.ensures.value)))

pub slice_bounds-to_vec-end-2 : goal.slice_bounds-to_vec-end-2
slice_bounds-to_vec-end-2 c =
    let within : IsAtMost c.of-counts.result (counts_of c.args.self.now) = c.of-counts.ensures.least (counts_of c.args.self.now) c.requires in
    sym (length-take-le c.of-counts.result.long c.deref-3.result.now (omega (arith, within.long, ap length c.deref-3.ensures.value)))

pub returns-clause-stays : goal.returns-clause-stays
returns-clause-stays c =
    let shared = c.args.self.now in
    let counts = c.of-counts.result in
    let rests : c.in_ok-rests.rests.items ≡ take counts.rests shared.rests.items = c.in_ok-rests.ensures.items_if_clones_equal (λ x y same. same) ∙ ap (take counts.rests) c.deref.ensures.value in
    let levels : c.in_ok-levels.levels.items ≡ take counts.levels shared.levels.items = c.in_ok-levels.ensures ∙ ap (take counts.levels) c.deref-2.ensures.value in
    let long : c.in_ok-long.long.items ≡ take counts.long shared.long.items = c.in_ok-long.ensures.items_if_clones_equal (λ x y same. same) ∙ ap (take counts.long) c.deref-3.ensures.value in
    record {
      rests = front shared.rests.items c.in_ok-rests.rests.items counts.rests rests;
      levels = front shared.levels.items c.in_ok-levels.levels.items counts.levels levels;
      long = front shared.long.items c.in_ok-long.long.items counts.long long;
    }
