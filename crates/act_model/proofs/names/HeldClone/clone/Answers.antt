use Rattle.std.proofs.Common.{◌≡◌, map, string_bytes, sym, ap, subst, ◌∙◌}
use Rattle.std.specs.Cmp.Lexicographic.{slice_cmp}
use Rattle.std.specs.Ordering.{is_eq, nat_cmp}
use Rattle.act_model.specs.Names.{AreNames, place_of}
use Rattle.act_model.proofs.NamePlaces.{same_numbers, same_texts}
use Rattle.act_model.proofs.names.HeldClone.clone.Goals as goal

texts_are : (c : goal.In_ok-numbers) → map string_bytes c.in_ok-texts.texts.items ≡ map string_bytes c.self.inside.texts.items
texts_are c =
    same_texts string_bytes c.self.inside.texts.items c.in_ok-texts.texts.items c.in_ok-texts.ensures.cases.0

pub invariant_of-result : goal.invariant_of-result
invariant_of-result c = (
  subst AreNames (sym (texts_are c)) c.self.invariant.0,
  λ name.
      same_numbers string_bytes _ (λ x y same. same) (λ bytes. is_eq (slice_cmp nat_cmp name bytes)) c.self.inside.numbers.entries c.in_ok-numbers.numbers.entries c.in_ok-numbers.ensures.cases
      ∙ c.self.invariant.1 name
      ∙ ap (place_of name) (sym (texts_are c)),
)

pub returns : goal.returns
returns c = record { cases = texts_are c ∙ c.self.view_is }
