use Rattle.std.proofs.Common.{◌≡◌, Some, slice_get, map, string_bytes, sym, ◌∙◌, ap}
use Rattle.std.proofs.lemmas.Option.{slice_get-get_or}
use Rattle.act_model.specs.Names.{place_of}
use Rattle.act_model.proofs.NamePlaces.{text_at}
use Rattle.act_model.proofs.names.Held.name.Goals as goal

at : (c : goal.After-t12-1) → slice_get (map string_bytes c.self.inside.texts.items) c.args.number ≡ Some c.as_str.result.now
at c =
    let texts = c.deref.result.now in
    let text = c.in_ok-text.text.now in
    let number = c.args.number in
    let lookup = c.in_ok-text.ensures.lookup.3 in
    text_at string_bytes c.self.inside.texts.items number text c.as_str.result.now
    (ap (λ texts. slice_get texts number) (sym c.deref.ensures.value) ∙ slice_get-get_or texts number text lookup.0 ∙ ap Some (sym (lookup.1 text)))
    c.as_str.ensures.value

pub returns-clause-name : goal.returns-clause-name
returns-clause-name c = c.self.invariant.0.named c.args.number _ (at c)

pub returns-clause-number : goal.returns-clause-number
returns-clause-number c =
    sym (ap (place_of c.as_str.result.now) c.self.view_is) ∙ c.self.invariant.0.numbered c.args.number _ (at c)
