-- The first file that passes the test is, seen as bytes, the first of that name.
use Rattle.std.proofs.Common.{◌≡◌, ℕ, List, [], ◌∷◌, String, Vec, map, option_map, find, bytes_eq, string_bytes, rules, arith, refl}
use Rattle.std.proofs.lemmas.Grind.{common_steps}
use Rattle.std.specs.declared.alloc.Global.{Global}
use Rattle.std.proofs.lemmas.Iterator.{YieldsList-from_slice}
use Rattle.std.proofs.lemmas.Iterator.Search.{find_from_yields_List}
use borrow.Author.Tests.{tests}
use Rattle.act_io.specs.Memory.{content_of}
use Rattle.act_io.proofs.memory_files.MemFiles.find.Goals as goal

content_of-map : (name : List ℕ) (files : List (String Global × Vec ℕ Global)) → option_map (λ f. f.1.items) (find (λ f. bytes_eq (string_bytes f.0) name) files) ≡ content_of (map (λ f. (string_bytes f.0, f.1.items)) files) name
content_of-map name [] = refl
content_of-map name (f ∷ files) = grind (arith, content_of-map name files)

pub returns : goal.returns
returns c =
    let e = find_from_yields_List (λ f. bytes_eq (string_bytes f.0) c.args.name.now) _ _ c.find.result c.find.ensures.ran (YieldsList-from_slice c.self.inside.files.items cc) (λ x b q k. search (rules, tests)) in
    grind (arith, common_steps, content_of-map c.args.name.now c.self.inside.files.items)
