use Rattle.std.proofs.Common.{◌≡◌, ◌+◌, ◌<◌, ℕ, zero, suc, List, [], ◌∷◌, min, length, drop, drop-drop, get_or, refl, ◌∙◌, arith, rules, tests}
use Rattle.std.proofs.lemmas.List.{drop_min}
use Rattle.act_json.specs.Quoting.{string_len}
use Rattle.act_json.proofs.quoting.string_len.Goals as goal

-- a string that has been passed up to a backslash, with the byte behind it
behind_backslash : (inside : List ℕ) (len : ℕ) → len < length inside → get_or inside len 0 ≡ 92
    → len + string_len (drop len inside) ≡ min (len + 2) (length inside) + string_len (drop 2 (drop len inside))
behind_backslash [] len more is = absurd (omega arith)
behind_backslash (b ∷ []) zero more is = rw is (omega arith)
behind_backslash (b ∷ c ∷ rest) zero more is = rw is (omega arith)
behind_backslash (b ∷ rest) (suc len) more is = omega (arith, behind_backslash rest len (omega arith) is)

pub bytes-preserved-in-92 : goal.bytes-preserved-in-92
bytes-preserved-in-92 c = record {
  within = search (rules, tests);
  passed = c.bytes.invariant.passed ∙ behind_backslash c.args.inside.now c.bytes.len c.bytes-test.true (search (rules, tests)) ∙ rw (c.min-len.ensures, drop_min (c.bytes.len + 2) c.args.inside.now, drop-drop 2 c.bytes.len c.args.inside.now) refl;
}
