-- The first entry that a book has no room for.
use Rattle.std.proofs.Common.{◌≡◌, ℕ, zero, suc, ◌+◌, ◌<◌, ◌≤◌, nat_lt, Bool, true, false, cond, inl, inr, List, [], ◌∷◌, ◌++◌, length, take, get_or, None, Some, count_by, refl, sym, ap, subst, ◌∙◌, arith}
use Rattle.std.specs.List.{find, range_with_len}
use Rattle.std.specs.Option.{option_map}
use Rattle.std.proofs.lemmas.Bool.{cases_Bool, ltb-false, ltb-true}
use Rattle.std.proofs.lemmas.List.Sums.{sum_by-cons, sum_by_push}
use Rattle.std.proofs.lemmas.List.{take_more}
use Rattle.act_audit.specs.Journal.{entry_past, line_at}
use Rattle.act_model.specs.Asks.{appends}
use Rattle.act_model.specs.Limits.{most_entries}
use Rattle.act_model.specs.declared.journal.Item.{Item}

-- the first number of a range that passes
pub find-first : (p : ℕ → Bool) (a n k : ℕ) → k < n → ((j : ℕ) → j < k → p (a + j) ≡ false) → p (a + k) ≡ true → find p (range_with_len a n) ≡ Some (a + k)
find-first p a zero k within others here = absurd (omega (arith, within))
find-first p a (suc n) zero within others here =
    let at : p a ≡ true = subst (λ (m : ℕ). p m ≡ true) (omega arith) here in
    rw at (ap (λ (m : ℕ). Some m) (omega arith))
find-first p a (suc n) (suc k) within others here =
    let first : p a ≡ false = subst (λ (m : ℕ). p m ≡ false) (omega arith) (others 0 (omega arith)) in
    let there : (a + 1) + k ≡ a + suc k = omega arith in
    rw first (find-first p (a + 1) n k (omega (arith, within)) (λ j less. subst (λ (m : ℕ). p m ≡ false) (omega arith) (others (suc j) (omega (arith, less)))) (subst (λ (m : ℕ). p m ≡ true) (sym there) here)
    ∙ ap (λ (m : ℕ). Some m) there)

-- none does
pub find-none : (p : ℕ → Bool) (a n : ℕ) → ((j : ℕ) → j < n → p (a + j) ≡ false) → find p (range_with_len a n) ≡ None
find-none p a zero others = refl
find-none p a (suc n) others =
    let first : p a ≡ false = subst (λ (m : ℕ). p m ≡ false) (omega arith) (others 0 (omega arith)) in
    rw first (find-none p (a + 1) n (λ j less. subst (λ (m : ℕ). p m ≡ false) (omega arith) (others (suc j) (omega (arith, less)))))

-- ---- entries in front of a place

count-up : {X : Type 0} (p : X → Bool) (xs : List X) (i j : ℕ) → i ≤ j → count_by p (take i xs) ≤ count_by p (take j xs)
count-up p xs zero j le = omega arith
count-up p [] (suc i) j le = omega arith
count-up p (x ∷ xs) (suc i) zero le = absurd (omega (arith, le))
count-up p (x ∷ xs) (suc i) (suc j) le =
    omega (arith, sum_by-cons (λ y. cond (p y) 1 0) x (take i xs), sum_by-cons (λ y. cond (p y) 1 0) x (take j xs), count-up p xs i j (omega (arith, le)))

not-less : (a b : ℕ) → b ≤ a → nat_lt a b ≡ false
not-less a b le = elim (cases_Bool (nat_lt a b)) [
  | inl is ↦ absurd (omega (arith, ltb-true a b is, le))
  | inr none ↦ none
]

is-less : (a b : ℕ) → a < b → nat_lt a b ≡ true
is-less a b lt = elim (cases_Bool (nat_lt a b)) [
  | inl is ↦ is
  | inr none ↦ absurd (omega (arith, ltb-false a b none, lt))
]

-- a place has room for its entry
abbrev past_at : List Item → ℕ → Bool
past_at items place = nat_lt most_entries (count_by appends (take (place + 1) items))

room-before : (items : List Item) (k : ℕ) → count_by appends (take k items) ≤ most_entries → (j : ℕ) → j < k → past_at items (0 + j) ≡ false
room-before items k room j less = not-less most_entries (count_by appends (take ((0 + j) + 1) items)) (omega (arith, count-up appends items ((0 + j) + 1) k (omega (arith, less)), room))

-- the entry at a place is one too many
pub past-here : (items : List Item) (k : ℕ) (item : Item) → k < length items → item ≡ get_or items k item → count_by appends (take k items) ≡ most_entries → appends item ≡ true → Some (k + 2) ≡ entry_past items
past-here items k item within is full adds =
    let more : count_by appends (take (k + 1) items) ≡ count_by appends (take k items) + 1 =
    ap (count_by appends) (take_more items k item within) ∙ (ap (λ (i : Item). count_by appends (take k items ++ i ∷ [])) (sym is) ∙ (sum_by_push (λ (i : Item). cond (appends i) 1 0) (take k items) item ∙ ap (λ (b : Bool). count_by appends (take k items) + cond b 1 0) adds)) in
    let here : past_at items (0 + k) ≡ true = subst (λ (n : ℕ). past_at items n ≡ true) (omega arith) (is-less most_entries (count_by appends (take (k + 1) items)) (omega (arith, more, full))) in
    sym (ap (option_map line_at) (find-first (past_at items) 0 (length items) k within (room-before items k (omega (arith, full))) here) ∙ ap (λ (n : ℕ). Some (n + 2)) (omega arith))

-- there is room for all
pub none-past : (items : List Item) (k : ℕ) → length items ≤ k → count_by appends (take k items) ≤ most_entries → None ≡ entry_past items
none-past items k all room =
    sym (ap (option_map line_at) (find-none (past_at items) 0 (length items) (λ j less. room-before items k room j (omega (arith, less, all)))))
