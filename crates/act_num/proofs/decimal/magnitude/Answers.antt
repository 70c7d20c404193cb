use Rattle.std.proofs.Common.{◌≡◌, ◌++◌, ◌≤◌, ℕ, List, take, length, length-append, ap, ap₂, ◌∙◌, arith}
use Rattle.std.specs.Str.Parse.{digits_value}
use Rattle.std.proofs.lemmas.Int.{ints}
use Rattle.act_num.specs.Decimal.{scaled_number}
use Rattle.act_num.specs.Parts.{magnitude_in_range}
use Rattle.act_num.proofs.Scaling.{all_digits_append}
use Rattle.act_num.proofs.decimal.magnitude.Goals as goal

pub scaled-requires : goal.scaled-requires
scaled-requires c =
    let parts = c.args.parts.now in
    let joined : take c.put-end.result c.put-end.new.out ≡ parts.whole.now ++ parts.fraction.now = c.put-end.ensures.written ∙ ap (λ (xs : List ℕ). xs ++ parts.fraction.now) c.put-whole_end.ensures.written in
    rw joined (all_digits_append parts.whole.now parts.fraction.now c.requires.whole c.requires.fraction)

pub returns : goal.returns
returns c =
    let parts = c.args.parts.now in
    let joined : take c.put-end.result c.put-end.new.out ≡ parts.whole.now ++ parts.fraction.now = c.put-end.ensures.written ∙ ap (λ (xs : List ℕ). xs ++ parts.fraction.now) c.put-whole_end.ensures.written in
    let both = length-append parts.whole.now parts.fraction.now in
    let size = ap length joined ∙ both in
    let short : length parts.whole.now ≤ 64 = omega (arith, both, c.requires.short) in
    c.scaled.ensures
    ∙ ap magnitude_in_range (ap₂ scaled_number (ap (digits_value 10) joined) (omega (arith, ints, size, short, c.requires.exponent, c.put-whole_end.ensures.end)))
