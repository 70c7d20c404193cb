use Rattle.std.proofs.Common.{◌≡◌, ◌∷◌, None, ◌∙◌, refl, rules, arith}
use Rattle.std.proofs.lemmas.Result.{err_from_is_err_and}
use Rattle.act_script.specs.Reading.{Script, script_of}
use Rattle.act_script.proofs.Adding.{adds_more, adds_nothing}
use Rattle.act_script.proofs.ScriptLines.{fewer_left, nothing_left, one_more, parts_left, refused}
use Rattle.act_script.proofs.Soundness.{IsSound, script_sound}
use Rattle.act_script.proofs.reading.read_script.Goals as goal

pub lines-init : goal.lines-init
unfolding script_of
lines-init c = record {
  same = rw c.new.ensures.items refl;
  names = adds_nothing c.args.names.now;
  few_codes = omega arith;
  few_entries = c.requires.entries;
  few_lines = omega arith;
}

pub returns-in_err-add-clause-refused : goal.returns-in_err-add-clause-refused
returns-in_err-add-clause-refused c =
    let p = err_from_is_err_and c.from_residual.result c.from_residual.ensures.1 in
    let parts : parts_left c.lines.rest ≡ c.first_line.result.0.now ∷ parts_left c.first_line.result.1 = rw c.in-Some.is c.first_line.ensures.lines in
    rw (p.1, p.2) (λ is. c.lines.invariant.same ∙ refused c.args.kinds.now _ c.lines.number (parts_left c.lines.rest) c.first_line.result.0.now (parts_left c.first_line.result.1) parts _ (c.in_err-add.ensures.refused is))

pub returns-in_err-add-clause-names : goal.returns-in_err-add-clause-names
returns-in_err-add-clause-names c = adds_more _ _ _ c.lines.invariant.names c.in_err-add.ensures.names

pub lines-preserved : goal.lines-preserved
lines-preserved c =
    let parts : parts_left c.lines.rest ≡ c.first_line.result.0.now ∷ parts_left c.first_line.result.1 = rw c.in-Some.is c.first_line.ensures.lines in
    record {
      same = c.lines.invariant.same ∙ one_more c.args.kinds.now _ c.lines.number (parts_left c.lines.rest) c.first_line.result.0.now (parts_left c.first_line.result.1) parts _ c.in_ok-add.ensures.script;
      names = adds_more _ _ _ c.lines.invariant.names c.in_ok-add.ensures.names;
      few_codes = omega (arith, c.lines.invariant.few_codes, c.in_ok-add.ensures.few_codes);
      few_entries = c.in_ok-add.ensures.few_entries c.lines.invariant.few_entries;
      few_lines = omega (arith, rw c.in-Some.is at c.lines.invariant.few_lines, fewer_left c.first_line.result.1 _ c.first_line.ensures.shorter);
    }

-- the script that is read
whole : goal.After-drop-scratch-3 → Script
whole c = record { lines = c.lines.script.lines.items; names = c.lines.names; entries = c.lines.script.entries }

sound : (c : goal.After-drop-scratch-3) → IsSound c.args.entries.now (whole c)
unfolding whole
sound c =
    let none : c.lines.rest ≡ None = search rules in
    script_sound c.args.bytes.now c.args.names.now c.args.kinds.now c.args.entries.now (whole c) (c.lines.invariant.same ∙ nothing_left c.args.kinds.now (whole c) c.lines.number c.lines.rest none)

pub returns-clause-known : goal.returns-clause-known
unfolding whole
returns-clause-known c = (sound c).known

pub returns-clause-appended : goal.returns-clause-appended
unfolding whole
returns-clause-appended c = (sound c).appended

pub returns-clause-counted : goal.returns-clause-counted
unfolding whole
returns-clause-counted c = (sound c).counted
