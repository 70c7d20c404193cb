use Rattle.std.proofs.Common.{◌≡◌, ◌&&◌, ◌==◌, true, false, Some, refl, sym, ap, ◌∙◌, arith, eq-eqb}
use Rattle.std.specs.List.{slice_get}
use Rattle.std.proofs.lemmas.Bool.{and_from}
use Rattle.std.proofs.lemmas.Option.{same_Some, slice_get_read, slice_get_within}
use Rattle.act_keeping.specs.declared.pair.Pair.{Pair}
use Rattle.act_keeping.specs.Wanting.{IsPlaceOf}
use Rattle.act_keeping.proofs.Ordered.{not-listed}
use Rattle.act_keeping.proofs.pair.search.Goals as goal
use Rattle.act_keeping.proofs.pair.search.Goals.{else-place-pairs-via-then-place-pairs+else-is_of, else-place-pairs-via-else-place-pairs}

pub returns-else-place-pairs : goal.returns-else-place-pairs
returns-else-place-pairs c =
    let at : IsPlaceOf c.args.pairs.now c.args.version c.args.rank c.place_of-place.result =
    record { within = c.place_of-place.ensures.within; before = c.place_of-place.ensures.before; behind = c.place_of-place.ensures.behind } in
    not-listed c.args.pairs.now c.requires.sorted c.args.version c.args.rank c.place_of-place.result at (λ pair there version rank.
    elim c.else-place-pairs.branch [
      | else-place-pairs-via-then-place-pairs+else-is_of w ↦
          let here : slice_get c.args.pairs.now c.place_of-place.result ≡ Some w.index-pairs-place.result = slice_get_read c.args.pairs.now _ c.place_of-place.result w.index-pairs-place.result refl w.if-place-pairs.true w.index-pairs-place.is in
          let same : pair ≡ w.index-pairs-place.result = same_Some pair w.index-pairs-place.result (sym there ∙ here) in
          let so : ((w.index-pairs-place.result.version == c.args.version) && (w.index-pairs-place.result.rank == c.args.rank)) ≡ true =
          and_from _ _ (eq-eqb _ _ (ap (λ (p : Pair). p.version) (sym same) ∙ version)) (eq-eqb _ _ (ap (λ (p : Pair). p.rank) (sym same) ∙ rank)) in
          let not : ((w.index-pairs-place.result.version == c.args.version) && (w.index-pairs-place.result.rank == c.args.rank)) ≡ false = sym w.is_of.ensures ∙ w.if-is_of.false in
          absurd (cc)
      | else-place-pairs-via-else-place-pairs w ↦ absurd (omega (arith, slice_get_within c.args.pairs.now c.place_of-place.result pair there, w.if-place-pairs.false))
    ])
