-- Values put together in turn, as loops do.
use Rattle.std.proofs.Common.{◌≡◌, ℕ, suc, ◌+◌, ◌-◌, ◌<◌, ◌≤◌, List, [], ◌∷◌, ◌++◌, length, drop, get_or, Ok, Err, refl, sym, ◌∙◌, ap, append_assoc, append-nil, arith}
use Rattle.std.specs.List.{range_with_len}
use Rattle.std.proofs.lemmas.List.{drop_all}
use Rattle.act_model.specs.declared.run.Close.{Close}
use Rattle.act_print.specs.Printed.{Block, Response}
use Rattle.act_print.specs.Reading.{◌>>=◌, Lines, Reading, answer_at, answers_at, block_at, blocks_at, items_at, line_by}
use Rattle.act_model.specs.declared.asks.Asking.{Asking}
use Rattle.act_model.specs.Names.{NameLists}
use Rattle.act_model.specs.declared.journal.Item.{Item}
use Rattle.act_print.specs.Giving.{Fails, GivesItem}
use Rattle.act_print.specs.LineWords.{item_of_line}
use Rattle.act_print.specs.declared.printed.PrintedRow.{PrintedRow}
use Rattle.act_print.specs.declared.line_fault.LineFault.{LineFault}
use Rattle.act_model.proofs.Lists.{next_of}
use Rattle.act_print.specs.declared.line_fault.LineFault.TheVariants.{Wrong, NoMemory}

-- what was read before, and what is still read
abbrev pub with_front : {A : Type 0} → List A → Reading (List A) → Reading (List A)
with_front front read = read >>= λ x. Ok (front ++ x.0, x.1)

-- rows that were read before, and what is still read
abbrev pub with_rows : List PrintedRow → Reading (List PrintedRow × Close) → Reading (List PrintedRow × Close)
with_rows front read = read >>= λ x. Ok ((front ++ x.0.0, x.0.1), x.1)

-- a first value in front of what is read behind it
abbrev pub in_turn : {A : Type 0} → Reading A → (Lines → Reading (List A)) → Reading (List A)
in_turn read others = read >>= λ x. others x.1 >>= λ y. Ok (x.0 ∷ y.0, y.1)

fronts : {A : Type 0} (front : List A) (x : A) (read : Reading (List A)) → with_front front (read >>= λ y. Ok (x ∷ y.0, y.1)) ≡ with_front (front ++ x ∷ []) read
fronts front x (Ok y) = let same : front ++ (x ∷ y.0) ≡ (front ++ x ∷ []) ++ y.0 = sym (append_assoc front (x ∷ []) y.0) in rw same refl
fronts front x (Err left) = refl

module _ {A : Type 0} (read : Reading A) (others : Lines → Reading (List A)) (front : List A) (total : Reading (List A)) (so_far : with_front front (in_turn read others) ≡ total) where
  -- one value more
  pub more : (x : A) (after : Lines) (new : List A) → read ≡ Ok (x, after) → new ≡ front ++ x ∷ [] → with_front new (others after) ≡ total
  more x after new e is =
      let first : in_turn read others ≡ (others after >>= λ y. Ok (x ∷ y.0, y.1)) = ap (λ r. r >>= λ x. others x.1 >>= λ y. Ok (x.0 ∷ y.0, y.1)) e in
      ap (λ (t : List A). with_front t (others after)) is ∙ sym (fronts front x (others after)) ∙ sym (ap (with_front front) first) ∙ so_far

  -- it stops
  pub ends : (stop : LineFault) (left : Lines) → Fails stop left read → Fails stop left total
  ends Wrong left e =
      let first : in_turn read others ≡ Err left = ap (λ r. r >>= λ x. others x.1 >>= λ y. Ok (x.0 ∷ y.0, y.1)) e in
      sym so_far ∙ ap (with_front front) first
  ends NoMemory left e = tt

-- nothing is left to be read
pub all_read : {A : Type 0} (front : List A) (lines : Lines) (total : Reading (List A)) → with_front front (Ok ([], lines)) ≡ total → total ≡ Ok (front, lines)
all_read {A} front lines total so_far = sym so_far ∙ ap (λ (xs : List A). Ok (xs, lines)) (append-nil front)

-- ---- items

module _ (names : NameLists) (front : List Item) (count i : ℕ) (lines : Lines) (total : Reading (List Item)) (so_far : with_front front (items_at names (count - i) lines) ≡ total) where
  by_turn : i < count → with_front front (in_turn (line_by (item_of_line names) lines) (items_at names (count - (i + 1)))) ≡ total
  unfolding items_at
  by_turn within = let k : count - i ≡ suc (count - (i + 1)) = omega arith in rw k at so_far

  pub items_more : (new : List Item) (after : Lines) → i < count → GivesItem names front lines (Ok tt) new after → with_front new (items_at names (count - (i + 1)) after) ≡ total
  items_more new after within given =
      more (line_by (item_of_line names) lines) (items_at names (count - (i + 1))) front total (by_turn within) given.0 after new given.1 given.2

  pub items_end : (stop : LineFault) (left : Lines) → i < count → Fails stop left (line_by (item_of_line names) lines) → Fails stop left total
  items_end stop left within e =
      ends (line_by (item_of_line names) lines) (items_at names (count - (i + 1))) front total (by_turn within) stop left e

  pub items_done : count ≤ i → total ≡ Ok (front, lines)
  unfolding items_at
  items_done past = let k : count - i ≡ 0 = omega arith in all_read front lines total (rw k at so_far)

-- ---- the contracts of an ask

module _ (names : NameLists) (front : List Block) (n end : ℕ) (lines : Lines) (total : Reading (List Block)) (so_far : with_front front (blocks_at names (range_with_len n (end - n)) lines) ≡ total) where
  block_turn : n < end → with_front front (in_turn (block_at names n lines) (blocks_at names (range_with_len (n + 1) (end - (n + 1))))) ≡ total
  unfolding blocks_at
  block_turn within = let k : end - n ≡ suc (end - (n + 1)) = omega arith in rw k at so_far

  pub blocks_more : (new : List Block) (block : Block) (after : Lines) → n < end → block_at names n lines ≡ Ok (block, after) → new ≡ front ++ block ∷ [] → with_front new (blocks_at names (range_with_len (n + 1) (end - (n + 1))) after) ≡ total
  blocks_more new block after within e is =
      more (block_at names n lines) (blocks_at names (range_with_len (n + 1) (end - (n + 1)))) front total (block_turn within) block after new e is

  pub blocks_end : (stop : LineFault) (left : Lines) → n < end → Fails stop left (block_at names n lines) → Fails stop left total
  blocks_end stop left within e =
      ends (block_at names n lines) (blocks_at names (range_with_len (n + 1) (end - (n + 1)))) front total (block_turn within) stop left e

  pub blocks_done : end ≤ n → total ≡ Ok (front, lines)
  unfolding blocks_at
  blocks_done past = let k : end - n ≡ 0 = omega arith in all_read front lines total (rw k at so_far)

-- ---- the answers to asks

module _ (names : NameLists) (front : List Response) (asks : List Asking) (i : ℕ) (lines : Lines) (total : Reading (List Response)) (so_far : with_front front (answers_at names (drop i asks) lines) ≡ total) where
  answer_turn : (ask : Asking) → i < length asks → ask ≡ get_or asks i ask → with_front front (in_turn (answer_at names ask lines) (answers_at names (drop (i + 1) asks))) ≡ total
  unfolding answers_at
  answer_turn ask within at = let split = next_of asks i ask within at in rw split at so_far

  pub answers_more : (ask : Asking) (new : List Response) (answer : Response) (after : Lines) → answer_at names ask lines ≡ Ok (answer, after) → new ≡ front ++ answer ∷ [] → i < length asks → ask ≡ get_or asks i ask → with_front new (answers_at names (drop (i + 1) asks) after) ≡ total
  answers_more ask new answer after e is within at =
      more (answer_at names ask lines) (answers_at names (drop (i + 1) asks)) front total (answer_turn ask within at) answer after new e is

  pub answers_end : (ask : Asking) (stop : LineFault) (left : Lines) → Fails stop left (answer_at names ask lines) → i < length asks → ask ≡ get_or asks i ask → Fails stop left total
  answers_end ask stop left e within at =
      ends (answer_at names ask lines) (answers_at names (drop (i + 1) asks)) front total (answer_turn ask within at) stop left e

  pub answers_done : length asks ≤ i → total ≡ Ok (front, lines)
  unfolding answers_at
  answers_done past = let none : drop i asks ≡ [] = drop_all i asks past in all_read front lines total (rw none at so_far)
