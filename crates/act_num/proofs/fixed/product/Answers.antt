use Rattle.std.proofs.Common.{to_z, of_z, arith}
use Rattle.std.specs.Int.{w128}
use Rattle.std.proofs.lemmas.Int.{ints}
use Rattle.act_num.proofs.Products.{in_words, small-product, word-product}
use Rattle.act_num.proofs.fixed.product.Goals as goal

pub small_product-requires : goal.small_product-requires
small_product-requires c = word-product _ _ (omega (arith, ints)) (omega (arith, ints))

pub returns-then-is_word-2-clause-value : goal.returns-then-is_word-2-clause-value
returns-then-is_word-2-clause-value c =
    in_words c.args.a c.args.b (to_z w128 (of_z w128 c.from.result)) (to_z w128 (of_z w128 c.from-then-is_word-2.result)) c.small_product.result _ c.small_product.ensures.value (omega (arith, ints)) (omega (arith, ints)) (omega (arith, ints, c.small_product.ensures.in_range))

pub small_product-requires-then-b-lt-PAST_31 : goal.small_product-requires-then-b-lt-PAST_31
small_product-requires-then-b-lt-PAST_31 c =
    small-product _ _ 39614081257132168796771975168 2147483648 (omega (arith, ints)) (omega (arith, ints)) (omega arith)
