-- What the views stand for, as it changes.
use Rattle.std.proofs.Common.{◌≡◌, ◌≢◌, ℕ, ◌+◌, ◌^◌, ◌<◌, ◌≤◌, List, [], ◌∷◌, ◌++◌, length, set, refl, sym, ap, ◌∙◌, subst, ⊎_elim, arith, cond, if◌then◌else◌, eqb, Bool, true, false, Option, Some, None, length-set, length-append, eq-eqb}
use Rattle.std.specs.List.{sum_by, All, Contains}
use Rattle.std.proofs.lemmas.Bool.Decides.{nat_tests}
use Rattle.std.proofs.lemmas.List.Elements.{All-nil, All-cons, All-head, All-append, Contains-append_left, Contains-append_right}
use Rattle.std.proofs.lemmas.List.Sums.{sum_by-cons, sum_by-append}
use mathlib.Core.List.{IsPrefix}
use mathlib.Core.Logic.{dite}
use mathlib.Core.Option.{some, some-injective}
use native.Mathlib.Decide.{ℕ_discrete}
use lib.ListN.{get_elem?}
use Rattle.atomic_table.proofs.Lists.{at_set, at_snoc, at_longer, set_here, set_else}
use Rattle.act_turn.specs.declared.view.Member.{Member}
use Rattle.act_turn.specs.Journal.{entries_of, GoesOn}
use Rattle.act_turn.specs.Turn.{Rows, member, times, Throughout, Somewhere, IsHistory, KeepsAuthors, IsCount, is_given}
use Rattle.act_turn.specs.Steps.{either_count}
use Rattle.act_turn.proofs.Journals.{prefix_self, prefix_trans, goes_past}
use Rattle.act_turn.proofs.Places.{inside, single, each_set, each_snoc, sum_set, sum_at, sum_two}

module _ {E : Type 0} where
  times_one : (k : ℕ) (xs : List E) → times k (member k xs ∷ []) ≡ 1
  times_one k xs = ap (λ (b : Bool). 0 + cond b 1 0) (eq-eqb k k refl)

  not_among : (k : ℕ) (xs : List (Member E)) → times k xs ≡ 0 → All (λ x. x.number ≢ k) xs
  not_among k [] h = All-nil (λ x. x.number ≢ k)
  not_among k (x ∷ xs) h = let s = sum_by-cons (λ (x : Member E). cond (eqb x.number k) 1 0) x xs in
      All-cons (λ x. x.number ≢ k) x xs (λ e. let one : ◌≡◌ {A = ℕ} (cond (eqb x.number k) 1 0) 1 = ap (λ (b : Bool). cond b 1 0) (eq-eqb x.number k e) in omega arith) (not_among k xs (omega arith))

  -- a number that stands at i stands nowhere else
  elsewhere : (rows : Rows E) (i j k : ℕ) (xs : List E) (ys : List (Member E)) → sum_by (times k) rows ≤ 1 → get_elem? rows i ≡ some (member k xs ∷ []) → get_elem? rows j ≡ some ys → j ≢ i → All (λ x. x.number ≢ k) ys
  elsewhere rows i j k xs ys once p q other = let both = sum_two (times k) rows i j (member k xs ∷ []) ys [] p q other refl in let one = times_one k xs in not_among k ys (omega arith)

-- what the view j stands for is joined to what the view i stands for
module _ {E : Type 0} (rows : Rows E) (i j : ℕ) (xs ys : List (Member E)) (at : get_elem? rows i ≡ some xs) (there : get_elem? rows j ≡ some ys) (other : j ≢ i) where
  all_joined : (Q : Member E → Type 0) → Throughout Q rows → Throughout Q (set (set rows i (ys ++ xs)) j [])
  all_joined Q q = each_set (All Q) (set rows i (ys ++ xs)) j [] (each_set (All Q) rows i (ys ++ xs) q (All-append Q ys xs (q j ys there) (q i xs at))) (All-nil Q)

  sum_joined : (f : List (Member E) → ℕ) → f [] ≡ 0 → ((a b : List (Member E)) → f (a ++ b) ≡ f a + f b) → sum_by f (set (set rows i (ys ++ xs)) j []) ≡ sum_by f rows
  sum_joined f none_is adds = let a = sum_set f rows i xs (ys ++ xs) at in let b = sum_set f (set rows i (ys ++ xs)) j ys [] (set_else rows i j (ys ++ xs) other ∙ there) in let s = adds ys xs in omega arith

  as_long_joined : length (set (set rows i (ys ++ xs)) j []) ≡ length rows
  as_long_joined = length-set (set rows i (ys ++ xs)) j [] ∙ length-set rows i (ys ++ xs)

  still_there : (Q : Member E → Type 0) → Somewhere Q rows → Somewhere Q (set (set rows i (ys ++ xs)) j [])
  still_there Q w = dite (ℕ_discrete w.0 i)
      (λ e. let is : w.1 ≡ xs = some-injective w.1 xs (sym w.3 ∙ (ap (get_elem? rows) e ∙ at)) in (i, ys ++ xs, w.2, here, Contains-append_right ys xs w.2 (subst (λ (l : List (Member E)). Contains l w.2) is w.4), w.5))
      (λ not_i. dite (ℕ_discrete w.0 j)
      (λ e. let is : w.1 ≡ ys = some-injective w.1 ys (sym w.3 ∙ (ap (get_elem? rows) e ∙ there)) in (i, ys ++ xs, w.2, here, Contains-append_left ys xs w.2 (subst (λ (l : List (Member E)). Contains l w.2) is w.4), w.5))
      (λ not_j. (w.0, w.1, w.2, set_else (set rows i (ys ++ xs)) j w.0 [] not_j ∙ (set_else rows i w.0 (ys ++ xs) not_i ∙ w.3), w.4, w.5)))
    where
      here : get_elem? (set (set rows i (ys ++ xs)) j []) i ≡ some (ys ++ xs)
      here = set_else (set rows i (ys ++ xs)) j i [] (λ e. other (sym e)) ∙ set_here rows i (ys ++ xs) (inside rows i xs at)

module _ {E : Type 0} (longest : List E) (rows : Rows E) (h : IsHistory longest rows) where
  -- the list goes on, and the pass at i has seen all of it
  pub sees : (i k : ℕ) (xs next : List E) → get_elem? rows i ≡ some (member k xs ∷ []) → IsPrefix longest next → IsHistory next (set rows i (member k next ∷ []))
  sees i k xs next at on = record {
    each = each_set (All (λ x. IsPrefix x.seen next)) rows i (member k next ∷ []) (λ j ys e n d l. prefix_trans _ longest next (h.each j ys e n d l) on) (single (λ x. IsPrefix x.seen next) (member k next) (prefix_self next));
    whole = (i, member k next ∷ [], member k next, set_here rows i (member k next ∷ []) (inside rows i (member k xs ∷ []) at), (0, omega arith, refl), refl);
  }

  pub is_joined : (i j : ℕ) (xs ys : List (Member E)) → get_elem? rows i ≡ some xs → get_elem? rows j ≡ some ys → j ≢ i → IsHistory longest (set (set rows i (ys ++ xs)) j [])
  is_joined i j xs ys at there other = record {
    each = all_joined rows i j xs ys at there other (λ x. IsPrefix x.seen longest) h.each;
    whole = still_there rows i j xs ys at there other (λ x. x.seen ≡ longest) h.whole;
  }

  pub splits : (k : ℕ) (xs : List E) → IsPrefix xs longest → IsHistory longest (rows ++ (member k xs ∷ []) ∷ [])
  splits k xs p = record {
    each = each_snoc (All (λ x. IsPrefix x.seen longest)) rows (member k xs ∷ []) h.each (single (λ x. IsPrefix x.seen longest) (member k xs) p);
    whole = let w = h.whole in (w.0, w.1, w.2, at_longer rows ((member k xs ∷ []) ∷ []) w.0 w.1 w.3, w.4, w.5);
  }

-- the number n + 1 is given next
pub one_more : (n k : ℕ) → (if is_given n k then 1 else 0) + cond (eqb (n + 1) k) 1 0 ≡ (if is_given (n + 1) k then 1 else 0)
one_more n k = grind (arith, nat_tests)

pub none_yet : (k : ℕ) → ◌≡◌ {A = ℕ} (if is_given 0 k then 1 else 0) 0
none_yet k = grind (arith, nat_tests)

not_yet : (n : ℕ) → is_given n (n + 1) ≡ false
not_yet n = grind (arith, nat_tests)

still_not : (n k : ℕ) → is_given (n + 1) k ≡ false → is_given n k ≡ false
still_not n k h = grind (arith, nat_tests)

at_most_one : (b : Bool) → cond b 1 0 ≤ 1
at_most_one true = omega arith
at_most_one false = omega arith

same_sum : (a b x : ℕ) → a + x ≡ b + x → a ≡ b
same_sum a b x e = omega arith

-- who has a count has the count, and is the one that has it
has_count : (n : ℕ) (counts : List (Option ℕ)) (h : IsCount n counts) (i m : ℕ) → get_elem? counts i ≡ some (Some m) → (m ≡ n) × (i ≡ h.0)
has_count n counts h i m at = dite (ℕ_discrete i h.0)
    (λ e. let same : Some m ≡ Some n = some-injective (Some m) (Some n) (sym at ∙ (ap (get_elem? counts) e ∙ h.1)) in (cc same, e))
    (λ other. let none_is : Some m ≡ None = h.2 i (Some m) at other in absurd (cc none_is))

-- the count goes to i, where i or j has it
count_joined : (n : ℕ) (counts : List (Option ℕ)) → IsCount n counts → (i j : ℕ) (c d : Option ℕ) → get_elem? counts i ≡ some c → get_elem? counts j ≡ some d → j ≢ i → IsCount n (set (set counts i (either_count c d)) j None)
count_joined n counts h i j c d at there other =
    dite (ℕ_discrete h.0 i)
    (λ e. let is : Some n ≡ c = some-injective (Some n) c (sym h.1 ∙ (ap (get_elem? counts) e ∙ at)) in
    at_i (ap (λ (z : Option ℕ). either_count z d) (sym is)) (λ k z l not_i _. h.2 k z l (λ same. not_i (same ∙ e))))
    (λ not_i. dite (ℕ_discrete h.0 j)
    (λ e. let none_is : c ≡ None = h.2 i c at (λ same. not_i (sym same)) in let is : Some n ≡ d = some-injective (Some n) d (sym h.1 ∙ (ap (get_elem? counts) e ∙ there)) in
    at_i (ap (λ (z : Option ℕ). either_count z d) none_is ∙ sym is) (λ k z l _ not_j. h.2 k z l (λ same. not_j (same ∙ e))))
    (λ not_j. let none_c : c ≡ None = h.2 i c at (λ same. not_i (sym same)) in let none_d : d ≡ None = h.2 j d there (λ same. not_j (sym same)) in (
      h.0,
      set_else (set counts i (either_count c d)) j h.0 None not_j ∙ (set_else counts i h.0 (either_count c d) not_i ∙ h.1),
      λ k z l not_h. cases k z (λ e. ap (λ (y : Option ℕ). either_count y d) none_c ∙ none_d) (λ e _ _. h.2 k z e not_h) l,
    )))
  where
    cases : (k : ℕ) (z : Option ℕ) → (k ≡ i → either_count c d ≡ None) → (get_elem? counts k ≡ some z → k ≢ i → k ≢ j → z ≡ None) → get_elem? (set (set counts i (either_count c d)) j None) k ≡ some z → z ≡ None
    cases k z here else_is l = ⊎_elim (λ (t : (k ≡ j) × (None ≡ z)). sym t.1)
        (λ (t : (k ≢ j) × (get_elem? (set counts i (either_count c d)) k ≡ some z)). ⊎_elim (λ (u : (k ≡ i) × (either_count c d ≡ z)). sym u.1 ∙ here u.0)
        (λ (u : (k ≢ i) × (get_elem? counts k ≡ some z)). else_is u.1 u.0 t.0) (at_set counts i k (either_count c d) z t.1)) (at_set (set counts i (either_count c d)) j k None z l)

    at_i : either_count c d ≡ Some n → ((k : ℕ) (z : Option ℕ) → get_elem? counts k ≡ some z → k ≢ i → k ≢ j → z ≡ None) → IsCount n (set (set counts i (either_count c d)) j None)
    at_i is others = (
      i,
      set_else (set counts i (either_count c d)) j i None (λ e. other (sym e)) ∙ (set_here counts i (either_count c d) (inside counts i c at) ∙ ap some is),
      λ k z l not_i. cases k z (λ e. absurd (not_i e)) (others k z) l,
    )

module _ {E : Type 0} (author : E → Option ℕ) (seats : ℕ) (longest : List E) (rows : Rows E) (counts : List (Option ℕ)) (h : KeepsAuthors author seats longest rows counts) where
  one_at_most : (k : ℕ) → sum_by (times k) rows ≤ 1
  one_at_most k = subst (λ (n : ℕ). n ≤ 1) (sym (h.once k)) (at_most_one (is_given (length rows) k))

  -- the list goes on by the pass at i, which has seen all of it
  module _ (i k : ℕ) (xs next : List E) (at : get_elem? rows i ≡ some (member k xs ∷ [])) (on : GoesOn author k longest next) where
    moved : (Q R : Member E → Type 0) → R (member k next) → ((x : Member E) → x.number ≢ k → Q x → R x) → Throughout Q rows → Throughout R (set rows i (member k next ∷ []))
    moved Q R here there q j ys e = ⊎_elim (λ (t : (j ≡ i) × (member k next ∷ [] ≡ ys)). subst (All R) t.1 (single R (member k next) here))
        (λ (t : (j ≢ i) × (get_elem? rows j ≡ some ys)). let others = elsewhere rows i j k xs ys (one_at_most k) at t.1 t.0 in λ n d l. there _ (others n d l) (q j ys t.1 n d l))
        (at_set rows i j (member k next ∷ []) ys e)

    as_long : length (set rows i (member k next ∷ [])) ≡ length rows
    as_long = length-set rows i (member k next ∷ [])

    given_here : (s : ℕ) → is_given (length rows) s ≡ false → k ≢ s
    given_here s isnt e = let t = sum_at (times s) rows i (member k xs ∷ []) at in let one : times s (member k xs ∷ []) ≡ 1 = ap (λ (n : ℕ). times n (member k xs ∷ [])) (sym e) ∙ times_one k xs in
        let zero_is : sum_by (times s) rows ≡ 0 = h.once s ∙ ap (λ (b : Bool). cond b 1 0) isnt in omega arith

    pub goes_on : KeepsAuthors author seats next (set rows i (member k next ∷ [])) counts
    goes_on = record {
      own = moved (λ x. entries_of author x.number longest ≡ entries_of author x.number x.seen) (λ x. entries_of author x.number next ≡ entries_of author x.number x.seen) refl
          (λ x other q. goes_past author x.number k longest next on (λ e. other (sym e)) ∙ q) h.own;
      strangers = λ s isnt. let not_given = subst (λ (n : ℕ). is_given n s ≡ false) as_long isnt in
          moved (λ x. entries_of author s longest ≡ entries_of author s x.seen) (λ x. entries_of author s next ≡ entries_of author s x.seen) refl
          (λ x _ q. goes_past author s k longest next on (given_here s not_given) ∙ q) (h.strangers s not_given);
      once = λ s. let t = sum_set (times s) rows i (member k xs ∷ []) (member k next ∷ []) at in same_sum _ _ (times s (member k xs ∷ [])) t ∙ (h.once s ∙ ap (λ (n : ℕ). if is_given n s then 1 else 0) (sym as_long));
      in_all = let t = sum_set length rows i (member k xs ∷ []) (member k next ∷ []) at in same_sum _ _ 1 t ∙ (h.in_all ∙ sym as_long);
      count = subst (λ (n : ℕ). IsCount n counts) (sym as_long) h.count;
      few = subst (λ (n : ℕ). (n ≤ seats) × (seats < 2 ^ 32)) (sym as_long) h.few;
    }

  -- the pass at i, which has the count n, gives the next number to a new one
  module _ (i k n : ℕ) (xs : List E) (at : get_elem? rows i ≡ some (member k xs ∷ [])) (counts_at : get_elem? counts i ≡ some (Some n)) (room : n < seats) where
    as_many : n ≡ length rows
    as_many = (has_count (length rows) counts h.count i n counts_at).0

    longer : length (rows ++ (member (n + 1) xs ∷ []) ∷ []) ≡ length rows + 1
    longer = length-append rows ((member (n + 1) xs ∷ []) ∷ [])

    pub gives : KeepsAuthors author seats longest (rows ++ (member (n + 1) xs ∷ []) ∷ []) (set counts i (Some (n + 1)) ++ None ∷ [])
    gives = record {
      own = each_snoc (All (λ x. entries_of author x.number longest ≡ entries_of author x.number x.seen)) rows (member (n + 1) xs ∷ []) h.own
          (single (λ x. entries_of author x.number longest ≡ entries_of author x.number x.seen) (member (n + 1) xs)
          (All-head (λ (x : Member E). entries_of author (n + 1) longest ≡ entries_of author (n + 1) x.seen) (member k xs) [] (h.strangers (n + 1) (subst (λ (m : ℕ). is_given m (n + 1) ≡ false) as_many (not_yet n)) i (member k xs ∷ []) at)));
      strangers = λ s isnt. let before = h.strangers s (still_not (length rows) s (subst (λ (m : ℕ). is_given m s ≡ false) longer isnt)) in
          each_snoc (All (λ x. entries_of author s longest ≡ entries_of author s x.seen)) rows (member (n + 1) xs ∷ []) before
          (single (λ x. entries_of author s longest ≡ entries_of author s x.seen) (member (n + 1) xs) (All-head (λ (x : Member E). entries_of author s longest ≡ entries_of author s x.seen) (member k xs) [] (before i (member k xs ∷ []) at)));
      once = λ s. let a : sum_by (times s) rows ≡ (if is_given n s then 1 else 0) = h.once s ∙ ap (λ (m : ℕ). if is_given m s then 1 else 0) (sym as_many) in let b = one_more n s in
          let c : ◌≡◌ {A = ℕ} (if is_given (length (rows ++ (member (n + 1) xs ∷ []) ∷ [])) s then 1 else 0) (if is_given (n + 1) s then 1 else 0) = ap (λ (m : ℕ). if is_given m s then 1 else 0) (longer ∙ ap (λ (z : ℕ). z + 1) (sym as_many)) in
          sum_by-append (times s) rows ((member (n + 1) xs ∷ []) ∷ []) ∙ (omega arith);
      in_all = sum_by-append length rows ((member (n + 1) xs ∷ []) ∷ []) ∙ (ap (λ (z : ℕ). z + 1) h.in_all ∙ sym longer);
      count = (
        i,
        at_longer (set counts i (Some (n + 1))) (None ∷ []) i (Some (n + 1)) (set_here counts i (Some (n + 1)) (inside counts i (Some n) counts_at)) ∙ ap (λ (z : ℕ). some (Some z)) (ap (λ (z : ℕ). z + 1) as_many ∙ sym longer),
        λ j c e other. ⊎_elim (λ (t : get_elem? (set counts i (Some (n + 1))) j ≡ some c). ⊎_elim (λ (u : (j ≡ i) × (Some (n + 1) ≡ c)). absurd (other u.0))
            (λ (u : (j ≢ i) × (get_elem? counts j ≡ some c)). h.count.2 j c u.1 (λ same. other (same ∙ sym (has_count (length rows) counts h.count i n counts_at).1))) (at_set counts i j (Some (n + 1)) c t))
            (λ (t : None ≡ c). sym t) (at_snoc (set counts i (Some (n + 1))) None c j e),
      );
      few = let f = h.few in let l = longer in let m = as_many in (omega arith, f.1);
    }

  -- what j stands for is joined to what i stands for
  module _ (i j : ℕ) (xs ys : List (Member E)) (c d : Option ℕ) (at : get_elem? rows i ≡ some xs) (there : get_elem? rows j ≡ some ys) (other : j ≢ i)
      (count_at : get_elem? counts i ≡ some c) (count_there : get_elem? counts j ≡ some d) where
    still_long : length (set (set rows i (ys ++ xs)) j []) ≡ length rows
    still_long = as_long_joined rows i j xs ys at there other

    pub joins : KeepsAuthors author seats longest (set (set rows i (ys ++ xs)) j []) (set (set counts i (either_count c d)) j None)
    joins = record {
      own = all_joined rows i j xs ys at there other (λ x. entries_of author x.number longest ≡ entries_of author x.number x.seen) h.own;
      strangers = λ s isnt. all_joined rows i j xs ys at there other (λ x. entries_of author s longest ≡ entries_of author s x.seen) (h.strangers s (subst (λ (n : ℕ). is_given n s ≡ false) still_long isnt));
      once = λ s. sum_joined rows i j xs ys at there other (times s) refl (λ a b. sum_by-append (λ (x : Member E). cond (eqb x.number s) 1 0) a b) ∙ (h.once s ∙ ap (λ (n : ℕ). if is_given n s then 1 else 0) (sym still_long));
      in_all = sum_joined rows i j xs ys at there other length refl length-append ∙ (h.in_all ∙ sym still_long);
      count = subst (λ (n : ℕ). IsCount n (set (set counts i (either_count c d)) j None)) (sym still_long) (count_joined (length rows) counts h.count i j c d count_at count_there other);
      few = subst (λ (n : ℕ). (n ≤ seats) × (seats < 2 ^ 32)) (sym still_long) h.few;
    }
