use Rattle.std.proofs.Common.{◌≡◌, Some, Vec, Global, refl, ◌∙◌, eq-eqb, slice_index_or}
use Rattle.std.proofs.lemmas.Option.{slice_get-get_or}
use Rattle.std.proofs.lemmas.Result.{IfErr-weaker, IfOk-weaker}
use Rattle.std.specs.List.{slice_get}
use Rattle.act_cut.specs.declared.lows.Low.{Low}
use Rattle.act_cut.proofs.Listed.{listed-past, listed-put, listed-same}
use Rattle.act_cut.proofs.changes.add_day.Goals as goal

abbrev was : goal.After-put_low → Vec Low Global
was c = slice_index_or c.args.lists.now c.args.number c.index-lists-list.result

at : (c : goal.After-put_low) → slice_get c.args.lists.now c.args.number ≡ Some (was c)
at c = slice_get-get_or c.args.lists.now c.args.number c.index-lists-list.result c.if-list-lists.true

pub returns-then-list-lists-clause-added : goal.returns-then-list-lists-clause-added
returns-then-list-lists-clause-added c = IfOk-weaker c.put_low.result _ _ (λ _ put test entries entry are place own day.
    listed-put test entries c.args.lists.now are c.args.number (was c) c.put_low.new.lows (at c) entry own
    (put (test c.args.number) entries entry (are c.args.number (was c) (at c)) place (own c.args.number ∙ eq-eqb c.args.number c.args.number refl) day)) c.put_low.ensures.put

pub returns-then-list-lists-clause-unchanged : goal.returns-then-list-lists-clause-unchanged
returns-then-list-lists-clause-unchanged c = IfErr-weaker c.put_low.result _ _ (λ _ same test entries are.
    listed-same test entries c.args.lists.now are c.args.number (was c) c.put_low.new.lows (at c) same) c.put_low.ensures.unchanged

pub returns-clause-added : goal.returns-clause-added
returns-clause-added c = λ test entries entry are place own day. listed-past test entries c.args.lists.now are entry c.args.number own c.if-list-lists.false
