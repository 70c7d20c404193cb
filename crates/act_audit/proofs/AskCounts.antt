-- How many asks a journal has.
use Rattle.std.proofs.Common.{◌≡◌, ℕ, zero, suc, ◌+◌, ◌<◌, ◌≤◌, ◌==◌, Bool, true, false, cond, inl, inr, List, [], ◌∷◌, length, count_by, refl, ap, ◌∙◌, arith}
use Rattle.std.specs.List.{All, range_with_len, sum_by}
use Rattle.std.proofs.lemmas.Bool.{cases_order, eq-eqb, eqb-true}
use Rattle.std.proofs.lemmas.List.Sums.{sum_by-cons}
use Rattle.act_model.specs.Asks.{appends, asks_of, caller_asks, is_ask_of}
use Rattle.act_model.specs.declared.journal.Item.{Item}
use Rattle.act_model.specs.declared.journal.Step.{Step}
use Rattle.act_model.specs.declared.journal.Step.TheVariants.{Append, Ask}
use Rattle.act_model.proofs.AsksInTurn.{asks_in_turn}
use Rattle.std.proofs.lemmas.List.Elements.{All-head, All-tail}
use Rattle.act_transcript.proofs.JournalAnswers.{asked-count, length-flat, none-below, sum-both, sum-each, sum-none}

-- a number of a range is one of it once
not-both : (b : Bool) → b ≡ false → b ≡ true → ⊥
not-both b isnt is = absurd (cc)

eqb-not : (x a : ℕ) → (x == a) ≡ false → x ≡ a → ⊥
eqb-not x a isnt same = not-both (x == a) isnt (eq-eqb x a same)

beyond : (x a : ℕ) → a ≤ x → (x ≡ a → ⊥) → a + 1 ≤ x
beyond x a from other = elim (cases_order x a) [
  | inl same ↦ absurd (other same)
  | inr apart ↦ elim apart [
    | inl less ↦ absurd (omega (arith, from, less))
    | inr more ↦ omega (arith, more)
  ]
]

once : (x a m : ℕ) → a ≤ x → x < a + m → count_by (λ c. x == c) (range_with_len a m) ≡ 1
once x a zero from to = absurd (omega (arith, from, to))
once x a (suc m) from to = sum_by-cons (λ c. cond (x == c) 1 0) a (range_with_len (a + 1) m) ∙ by (x == a) refl (λ behind. once x (a + 1) m behind (omega (arith, to)))
  where
    by : (same : Bool) → (x == a) ≡ same → (a + 1 ≤ x → count_by (λ c. x == c) (range_with_len (a + 1) m) ≡ 1) → cond (x == a) 1 0 + count_by (λ c. x == c) (range_with_len (a + 1) m) ≡ 1
    by true is rest = rw is (omega (arith, none-below x (a + 1) m (omega (arith, eqb-true x a is))))
    by false is rest = rw is (omega (arith, rest (beyond x a from (eqb-not x a is))))

-- an item is an ask of one caller, or an entry
one-asker : (item : Item) → 1 ≤ item.caller → item.caller ≤ 16 → count_by (λ c. is_ask_of c item) (range_with_len 1 16) + cond (appends item) 1 0 ≡ 1
one-asker item from to = by item.step refl
  where
    by : (step : Step) → item.step ≡ step → count_by (λ c. is_ask_of c item) (range_with_len 1 16) + cond (appends item) 1 0 ≡ 1
    by (Append entry) is = rw is (omega (arith, sum-none (range_with_len 1 16)))
    by (Ask asked) is = rw is (omega (arith, once item.caller 1 16 from (omega (arith, to))))

asks-by : (items : List Item) → All (λ (item : Item). 1 ≤ item.caller) items → All (λ (item : Item). item.caller ≤ 16) items
    → sum_by (λ c. count_by (is_ask_of c) items) (range_with_len 1 16) + count_by appends items ≡ length items
asks-by [] from to = omega (arith, sum-none (range_with_len 1 16))
asks-by (item ∷ items) from to =
    let cs = range_with_len 1 16 in
    let first = sum-each (λ c. count_by (is_ask_of c) (item ∷ items)) (λ c. cond (is_ask_of c item) 1 0 + count_by (is_ask_of c) items) cs (λ c. sum_by-cons (λ (i : Item). cond (is_ask_of c i) 1 0) item items) in
    omega (
      arith,
      first,
      sum-both (λ c. cond (is_ask_of c item) 1 0) (λ c. count_by (is_ask_of c) items) cs,
      one-asker item (All-head (λ (i : Item). 1 ≤ i.caller) item items from) (All-head (λ (i : Item). i.caller ≤ 16) item items to),
      sum_by-cons (λ (i : Item). cond (appends i) 1 0) item items,
      asks-by items (All-tail (λ (i : Item). 1 ≤ i.caller) item items from) (All-tail (λ (i : Item). i.caller ≤ 16) item items to),
    )

-- as many as there are items that append nothing
pub ask-count : (items : List Item) → All (λ (item : Item). 1 ≤ item.caller) items → All (λ (item : Item). item.caller ≤ 16) items → length (asks_of items) + count_by appends items ≡ length items
unfolding asks_of
ask-count items from to =
    let each = sum-each (λ c. length (caller_asks items c)) (λ c. count_by (is_ask_of c) items) (range_with_len 1 16) (λ c. ap length (asks_in_turn items c) ∙ asked-count c 1 0 items) in
    omega (arith, length-flat (caller_asks items) (range_with_len 1 16), each, asks-by items from to)
