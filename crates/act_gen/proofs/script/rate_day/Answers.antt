use Rattle.std.proofs.Common.{◌≡◌, ◌∙◌, ◌+ℤ◌, pos, Some, false, refl, arith}
use Rattle.std.specs.Prelude.{◌==◌}
use Rattle.std.proofs.lemmas.Bool.Decides.{nat_tests}
use Rattle.act_gen.specs.Script.{start}
use Rattle.act_gen.proofs.Days.{later_day, start_text}
use Rattle.act_gen.proofs.script.rate_day.Goals as goal

pub unwrap-start-requires : goal.unwrap-start-requires
unwrap-start-requires c = rw (c.parse_day.ensures ∙ start_text) refl

pub unwrap-requires : goal.unwrap-requires
unwrap-requires c =
    let is = c.parse_day.ensures ∙ start_text in
    let begins : c.unwrap-start.result ≡ start = cc in
    rw (c.add_cycles.ensures.value, begins, later_day c.args.days c.requires) refl

pub returns-then-before-eq0 : goal.returns-then-before-eq0
returns-then-before-eq0 c =
    let is = c.parse_day.ensures ∙ start_text in
    rw c.if-before-eq0.true cc

pub returns-else-before-eq0 : goal.returns-else-before-eq0
returns-else-before-eq0 c =
    let is = c.parse_day.ensures ∙ start_text in
    let begins : c.unwrap-start.result ≡ start = cc in
    let value : c.add_cycles.result ≡ Some (start +ℤ pos c.args.days) = rw (c.add_cycles.ensures.value, begins) (later_day c.args.days c.requires) in
    let later : (c.args.before == 0) ≡ false = grind (arith, nat_tests, c.if-before-eq0.false) in
    rw later cc
