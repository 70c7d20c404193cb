use Rattle.std.proofs.Common.{◌≡◌, ◌<◌, [], ◌∷◌, ◌++◌, length, map, string_bytes, None, Some, cond, sym, ap, subst, ◌∙◌, arith}
use Rattle.std.proofs.lemmas.Grind.{common_steps}
use Rattle.std.proofs.lemmas.List.{length-map, map_push}
use Rattle.std.proofs.lemmas.Map.Text.{btree_map_updates_text}
use Rattle.std.specs.BTreeMap.{get_by_text}
use Rattle.std.specs.Str.{bytes_eq}
use Rattle.act_model.specs.Limits.{most_names}
use Rattle.act_model.specs.Names.{AreNames, place_of}
use Rattle.act_model.proofs.NamePlaces.{more_names, place_more}
use Rattle.act_model.proofs.names.Held.add.Goals as goal

pub invariant_of-self-in-Ok-insert : goal.invariant_of-self-in-Ok-insert
invariant_of-self-in-Ok-insert c =
    let name = c.args.name.now in
    let before = c.self.inside.texts.items in
    let names = map string_bytes before in
    let numbers = c.self.inside.numbers in
    let n = c.len-number.result in
    let absent : place_of name names ≡ None = ap (place_of name) c.self.view_is ∙ c.requires.absent in
    let text : string_bytes c.in_ok-text.text ≡ name = grind (arith, common_steps) in
    let key : string_bytes c.in_ok-key.key ≡ name = grind (arith, common_steps) in
    let long : length names ≡ length before = length-map before string_bytes in
    let few : length names < most_names = omega arith in
    let number : n ≡ length names = omega arith in
    let texts : map string_bytes c.push.new.self.items ≡ names ++ name ∷ [] =
    ap (map string_bytes) c.in-Ok.ensures.items ∙ map_push string_bytes before c.in_ok-text.text ∙ ap (λ bytes. names ++ bytes ∷ []) text in (
      subst AreNames (sym texts) (more_names names name absent c.self.invariant.0 c.requires.name few),
      λ other.
          btree_map_updates_text (string_bytes c.in_ok-key.key) numbers c.insert.new.self (Some n) c.in-Ok-insert.ensures.updates other
          ∙ ap (λ bytes. cond (bytes_eq bytes other) (Some n) (get_by_text numbers other)) key
          ∙ ap (λ n. cond (bytes_eq name other) (Some n) (get_by_text numbers other)) number
          ∙ ap (λ found. cond (bytes_eq name other) (Some (length names)) found) (c.self.invariant.1 other)
          ∙ sym (place_more names name absent other)
          ∙ ap (place_of other) (sym texts),
    )
