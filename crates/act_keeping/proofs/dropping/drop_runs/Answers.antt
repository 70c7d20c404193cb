use Rattle.std.proofs.Common.{◌≡◌, ◌<◌, false, get_or, length, set, Some, inl, inr, refl, sym, ap, subst, ◌∙◌, arith}
use Rattle.std.specs.List.{slice_get}
use Rattle.std.proofs.lemmas.Bool.{cases_eq}
use Rattle.std.proofs.lemmas.List.{length-set}
use Rattle.std.proofs.lemmas.Option.{same_Some, slice_get-get_or}
use Rattle.act_keeping.specs.Dropping.{IsDropped, IsUnasked}
use Rattle.act_keeping.specs.Keeping.{is_done, is_kept}
use Rattle.act_keeping.specs.declared.pair.Pair.{Pair}
use Rattle.act_history.proofs.Places.{get-set, get-set_other}
use Rattle.act_keeping.proofs.dropping.drop_runs.Goals as goal

-- what is dropped of what was dropped is dropped
dropped-twice : (first second third : Pair) → IsDropped first second → IsDropped second third → IsDropped first third
dropped-twice first second third one two = record {
  version = two.version ∙ one.version;
  rank = two.rank ∙ one.rank;
  progress = elim two.progress [
    | inl stays ↦ elim one.progress [
      | inl stayed ↦ inl (stays ∙ stayed)
      | inr gone ↦ inr (stays ∙ gone.0, gone.1)
    ]
    | inr goes ↦ elim one.progress [
      | inl stayed ↦ inr (goes.0, ap is_done (sym stayed) ∙ goes.1)
      | inr gone ↦ inr (goes.0, gone.1)
    ]
  ];
}

pub loop-place-preserved : goal.loop-place-preserved
loop-place-preserved c =
    let pairs = c.loop-place.pairs in
    let place = c.loop-place.place in
    let item = c.index-pairs-place-in-loop-place.result in
    let new = c.drop_run.new.pair in
    let least = c.least_open-least.ensures in
    let within : place < length pairs = omega (arith, c.loop-place-test.true) in
    let here : slice_get pairs place ≡ Some item = slice_get-get_or pairs place item within ∙ ap Some (sym c.index-pairs-place-in-loop-place.is) in
    let pair = get_or pairs place c.index-pairs-place.result in
    let one : pair ≡ item = same_Some pair item (sym (slice_get-get_or pairs place c.index-pairs-place.result within) ∙ here) in
    let below : pair.version < c.least_open-least.result = c.if-is_before.ensures refl in
    let unasked : IsUnasked c.args.callers.now c.args.version pair.version = (omega (arith, least.0, below), least.1 pair.version below) in
    let was = c.loop-place.invariant.dropped.each place item here in
    record {
      dropped = record {
        count = length-set pairs place new ∙ c.loop-place.invariant.dropped.count;
        each = λ k after at. elim (cases_eq k place) [
          | inl same ↦ (
            was.0,
            ap (slice_get c.args.pairs.now) same ∙ was.1,
            subst (IsDropped was.0) (same_Some new after (sym (get-set pairs place new within) ∙ (ap (slice_get (set pairs place new)) (sym same) ∙ at))) (dropped-twice was.0 item new was.2 (subst (λ (p : Pair). IsDropped p new) (sym c.index-pairs-place-in-loop-place.is) c.drop_run.ensures.dropped)),
            inr (subst (IsUnasked c.args.callers.now c.args.version) (ap (λ (p : Pair). p.version) one ∙ was.2.version) unasked),
          )
          | inr other ↦ c.loop-place.invariant.dropped.each k after (sym (get-set_other pairs place k new other) ∙ at)
        ];
      };
      gone = λ k after from to at. elim (cases_eq k place) [
        | inl same ↦ subst (λ (p : Pair). is_kept p.progress ≡ false) (same_Some new after (sym (get-set pairs place new within) ∙ (ap (slice_get (set pairs place new)) (sym same) ∙ at))) c.drop_run.ensures.gone
        | inr other ↦ c.loop-place.invariant.gone k after from (omega (arith, to, other)) (sym (get-set_other pairs place k new other) ∙ at)
      ];
    }
