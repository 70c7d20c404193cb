use Rattle.std.proofs.Common.{◌≡◌, ◌-◌, ◌*◌, ◌/◌, ◌≤◌, min, ◌++◌, length, map, take, slice_get, sym, ap, ap₂, subst, ◌∙◌, arith}
use Rattle.std.proofs.lemmas.List.{length-map, length-take, take-map}
use Rattle.std.proofs.lemmas.List.Elements.{All-take}
use Rattle.std.specs.Arc.{arc_value}
use Rattle.std.specs.List.{All}
use Rattle.act_model.specs.Rows.{next_rows, rows_of}
use Rattle.act_model.proofs.Chunks.{is_full, next_is_short, take_next, within_next}
use Rattle.act_model.proofs.rows.Rows.first.Goals as goal

pub first-requires : goal.first-requires
first-requires c =
    let full = map arc_value c.self.inside.full.items in
    let k = c.min-chunks.result in
    let count = c.args.count in
    let next = c.behind-next.ensures ∙ ap (λ full. next_rows (slice_get (map arc_value full) k) c.self.inside.last) c.deref-2.ensures.value in
    let chunks : k ≡ min (count / 64) (length full) = c.min-chunks.ensures ∙ ap (min (count / 64)) (c.len.ensures ∙ c.self.inside.full.ok.0 ∙ sym (length-map c.self.inside.full.items arc_value)) in
    subst (λ rows. count - k * 64 ≤ length rows) (sym next) (within_next full c.self.inside.last c.self.invariant count k chunks (subst (λ rows. count ≤ length rows) (sym c.self.view_is) c.requires))

pub invariant_of-result : goal.invariant_of-result
invariant_of-result c =
    let full = map arc_value c.self.inside.full.items in
    let k = c.min-chunks.result in
    let count = c.args.count in
    let next = c.behind-next.ensures ∙ ap (λ full. next_rows (slice_get (map arc_value full) k) c.self.inside.last) c.deref-2.ensures.value in
    let chunks : k ≡ min (count / 64) (length full) = c.min-chunks.ensures ∙ ap (min (count / 64)) (c.len.ensures ∙ c.self.inside.full.ok.0 ∙ sym (length-map c.self.inside.full.items arc_value)) in
    let same : map arc_value c.in_ok-full.full.items ≡ take k full = c.in_ok-full.ensures ∙ ap (λ full. map arc_value (take k full)) c.deref.ensures.value ∙ sym (take-map arc_value k c.self.inside.full.items) in
    let rest : c.in_ok-last.last ≡ take (count - k * 64) (next_rows (slice_get full k) c.self.inside.last) = c.in_ok-last.ensures ∙ ap (take (count - k * 64)) next in
    record {
      each = subst (All is_full) (sym same) (All-take is_full k full c.self.invariant.each);
      few = omega (arith, ap length same, length-take k full, c.self.invariant.few);
      short = omega (arith, ap length rest, length-take (count - k * 64) (next_rows (slice_get full k) c.self.inside.last), next_is_short full c.self.inside.last c.self.invariant count k chunks);
    }

pub returns : goal.returns
returns c =
    let full = map arc_value c.self.inside.full.items in
    let last = c.self.inside.last in
    let k = c.min-chunks.result in
    let count = c.args.count in
    let next = c.behind-next.ensures ∙ ap (λ full. next_rows (slice_get (map arc_value full) k) c.self.inside.last) c.deref-2.ensures.value in
    let chunks : k ≡ min (count / 64) (length full) = c.min-chunks.ensures ∙ ap (min (count / 64)) (c.len.ensures ∙ c.self.inside.full.ok.0 ∙ sym (length-map c.self.inside.full.items arc_value)) in
    let same : map arc_value c.in_ok-full.full.items ≡ take k full = c.in_ok-full.ensures ∙ ap (λ full. map arc_value (take k full)) c.deref.ensures.value ∙ sym (take-map arc_value k c.self.inside.full.items) in
    let rest : c.in_ok-last.last ≡ take (count - k * 64) (next_rows (slice_get full k) last) = c.in_ok-last.ensures ∙ ap (take (count - k * 64)) next in
    ap₂ (λ full last. rows_of full ++ last) same rest
    ∙ take_next full last c.self.invariant count k chunks (subst (λ rows. count ≤ length rows) (sym c.self.view_is) c.requires)
    ∙ ap (take count) c.self.view_is
