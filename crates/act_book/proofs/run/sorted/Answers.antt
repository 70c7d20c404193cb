use Rattle.std.proofs.Common.{rules}
use Rattle.std.proofs.lemmas.List.Sorted.{answers_always}
use Rattle.act_book.specs.Order.{before}
use Rattle.act_book.proofs.Ordered.{weak}
use Rattle.act_book.proofs.run.sorted.Goals as goal

pub returns : goal.returns
returns c = record {
  rising = c.in_ok-sort_by.ensures.sorted before weak (answers_always _ _ _ (λ f a r g h. search rules));
  stable = c.in_ok-sort_by.ensures.stable before weak (answers_always _ _ _ (λ f a r g h. search rules));
}
