-- What contracts count, weigh and read, contract by contract and cone by cone.
use Rattle.std.proofs.Common.{◌≡◌, ℕ, zero, suc, ◌+◌, ◌<◌, ◌≤◌, List, [], ◌∷◌, ◌++◌, length, get_or, map, sum_by, take, slice_index, Option, Some, None, inl, inr, refl, sym, ap, subst, ◌∙◌, zero-add, append-nil, append_assoc, arith}
use Rattle.std.proofs.lemmas.Grind.{flat_map-append}
use Rattle.std.proofs.lemmas.List.{get_or-map, get_or_default, length-map, map-append}
use Rattle.std.proofs.lemmas.List.FromFn.{get_or-map-range_with_len, get_or-range_with_len, length-range_with_len, map-range_with_len_more}
use Rattle.std.proofs.lemmas.List.Sums.{sum-map, sum_by-cons}
use Rattle.std.specs.List.{All, cons_option, filter_map, flat_map, range_with_len}
use Rattle.act_profile.specs.Reads.{cone_of, given_code}
use Rattle.act_profile.specs.Run.{Contracts}
use Rattle.act_cones.specs.Cones.{numbers_of, reads_of, reads_over}
use Rattle.act_cones.specs.Counts.{cone_sum, scheduled_count}
use Rattle.act_cones.proofs.Ascending.{In}
use Rattle.act_cones.proofs.Coned.{cone-few, cone-within}
use Rattle.act_cones.proofs.Lists.{one_more, one_more_kept}

-- ---- one more

-- what is made twice of one more item
pub twice_mapped : {A B C : Type 0} (f : A → B) (g : B → C) (xs : List A) (i : ℕ) (x : A) (so_far next : List C) (made : C) → i < length xs → x ≡ get_or xs i x → so_far ≡ map g (map f (take i xs)) → made ≡ g (f x) → next ≡ so_far ++ made ∷ []
    → next ≡ map g (map f (take (i + 1) xs))
twice_mapped f g xs i x so_far next made within is before here now =
    now ∙ ap (λ l. l ++ made ∷ []) before ∙ ap (λ y. map g (map f (take i xs)) ++ y ∷ []) here ∙ sym (map-append g (map f (take i xs)) (f x ∷ [])) ∙ ap (map g) (sym (map-append f (take i xs) (x ∷ [])) ∙ ap (map f) (sym (one_more xs i x within is)))

-- the code of one more item, where it is given
given_as : (code : Option ℕ) → given_code code ≡ cons_option code []
given_as None = refl
given_as (Some code) = refl

pub one_more_given : {A : Type 0} (f : A → Option ℕ) (xs : List A) (i : ℕ) (x : A) (old so_far next : List ℕ) → i < length xs → x ≡ get_or xs i x → so_far ≡ old ++ filter_map f (take i xs) → next ≡ so_far ++ given_code (f x)
    → next ≡ old ++ filter_map f (take (i + 1) xs)
one_more_given f xs i x old so_far next within is before now =
    now ∙ ap (λ l. l ++ given_code (f x)) before ∙ append_assoc old (filter_map f (take i xs)) (given_code (f x))
    ∙ ap (λ l. old ++ l) (ap (λ l. filter_map f (take i xs) ++ l) (given_as (f x)) ∙ sym (one_more_kept f xs i x within is))

-- what is kept of one more number
module _ {A : Type 0} (f : ℕ → Option A) (xs : List ℕ) (i : ℕ) where
  kept_more : i < length xs → filter_map f (take (i + 1) xs) ≡ filter_map f (take i xs) ++ cons_option (f (get_or xs i 0)) []
  kept_more within = one_more_kept f xs i (get_or xs i 0) within (get_or_default xs i 0 (get_or xs i 0) within)

  -- something is kept
  kept_one : (y : A) → i < length xs → Some y ≡ f (get_or xs i 0) → filter_map f (take (i + 1) xs) ≡ filter_map f (take i xs) ++ y ∷ []
  kept_one y within some = kept_more within ∙ ap (λ o. filter_map f (take i xs) ++ cons_option o []) (sym some)

  -- nothing is
  pub kept_none : i < length xs → None ≡ f (get_or xs i 0) → filter_map f (take (i + 1) xs) ≡ filter_map f (take i xs)
  kept_none within none = kept_more within ∙ ap (λ o. filter_map f (take i xs) ++ cons_option o []) (sym none) ∙ append-nil (filter_map f (take i xs))

  pub joined_one : {B : Type 0} (g : A → List B) (y : A) (so_far next : List B) → i < length xs → Some y ≡ f (get_or xs i 0) → so_far ≡ flat_map g (filter_map f (take i xs)) → next ≡ so_far ++ g y → next ≡ flat_map g (filter_map f (take (i + 1) xs))
  joined_one g y so_far next within some before now =
      now ∙ ap (λ l. l ++ g y) before ∙ ap (λ l. flat_map g (filter_map f (take i xs)) ++ l) (sym (append-nil (g y))) ∙ sym (flat_map-append g (filter_map f (take i xs)) (y ∷ [])) ∙ ap (flat_map g) (sym (kept_one y within some))

  pub mapped_one : {B : Type 0} (g : A → B) (y : A) (made : B) (so_far next : List B) → i < length xs → Some y ≡ f (get_or xs i 0) → so_far ≡ map g (filter_map f (take i xs)) → made ≡ g y → next ≡ so_far ++ made ∷ [] → next ≡ map g (filter_map f (take (i + 1) xs))
  mapped_one g y made so_far next within some before here now =
      now ∙ ap (λ l. l ++ made ∷ []) before ∙ ap (λ m. map g (filter_map f (take i xs)) ++ m ∷ []) here ∙ sym (map-append g (filter_map f (take i xs)) (y ∷ [])) ∙ ap (map g) (sym (kept_one y within some))

-- the item at a place by what is made of all
pub made_at : {A : Type 0} (f : A → List ℕ) (xs : List A) (made : List (List ℕ)) (k : ℕ) (x : A) → map f xs ≡ made → k < length xs → f (get_or xs k x) ≡ get_or made k []
made_at f xs made k x all within = sym (get_or-map f xs k x [] within) ∙ ap (λ l. get_or l k []) all

-- what the next contract counts
pub counted_next : (contracts : Contracts) (i count : ℕ) (so_far next : List ℕ) → so_far ≡ map (scheduled_count contracts) (range_with_len 0 i) → count ≡ scheduled_count contracts i → next ≡ so_far ++ count ∷ [] → next ≡ map (scheduled_count contracts) (range_with_len 0 (i + 1))
counted_next contracts i count so_far next before here now =
    now ∙ ap (λ l. l ++ count ∷ []) before ∙ ap (λ n. map (scheduled_count contracts) (range_with_len 0 i) ++ n ∷ []) here ∙ sym (map-range_with_len_more (scheduled_count contracts) 0 i i (zero-add i))

-- ---- over the cones of all contracts

mapped_same : {A B : Type 0} (f g : A → B) (xs : List A) → ((k : ℕ) (d : A) → k < length xs → f (get_or xs k d) ≡ g (get_or xs k d)) → map f xs ≡ map g xs
mapped_same f g [] same = refl
mapped_same f g (x ∷ xs) same = ap (λ y. y ∷ map f xs) (same 0 x (omega arith)) ∙ ap (λ l. g x ∷ l) (mapped_same f g xs (λ k d within. same (suc k) d (omega arith)))

mapped_again : {A B C : Type 0} (f : A → B) (g : B → C) (xs : List A) → map g (map f xs) ≡ map (λ x. g (f x)) xs
mapped_again f g [] = refl
mapped_again f g (x ∷ xs) = ap (λ l. g (f x) ∷ l) (mapped_again f g xs)

summed_same : (f g : ℕ → ℕ) (xs : List ℕ) → ((x : ℕ) → In x xs → f x ≡ g x) → sum_by f xs ≡ sum_by g xs
summed_same f g [] same = refl
summed_same f g (x ∷ xs) same = sum_by-cons f x xs ∙ ap (λ n. n + sum_by f xs) (same x (inl refl)) ∙ ap (λ n. g x + n) (summed_same f g xs (λ y is. same y (inr is))) ∙ sym (sum_by-cons g x xs)

in_at : (xs : List ℕ) (k d : ℕ) → k < length xs → In (get_or xs k d) xs
in_at [] k d within = absurd (omega arith)
in_at (x ∷ xs) zero d within = inl refl
in_at (x ∷ xs) (suc k) d within = inr (in_at xs k d (omega arith))

module _ (contracts : Contracts) (exist : All (All (λ child. child < length contracts.children)) contracts.children) where
  -- a list of cones, made of some items
  module _ {A : Type 0} (f : A → List ℕ) (cones : List A) (all : map f cones ≡ map (cone_of contracts) (numbers_of contracts)) where
    cone_count : length cones ≡ length contracts.children
    cone_count = sym (length-map cones f) ∙ ap length all ∙ length-map (numbers_of contracts) (cone_of contracts) ∙ length-range_with_len 0 (length contracts.children)

    cone_here : (k : ℕ) (d : A) → k < length cones → f (get_or cones k d) ≡ cone_of contracts k
    cone_here k d within =
        sym (get_or-map f cones k d [] within) ∙ ap (λ l. get_or l k []) all ∙ get_or-map-range_with_len (cone_of contracts) 0 (length contracts.children) k k [] (omega (arith, cone_count)) (omega arith)

    pub cones-within : All (λ cone. All (λ c. c < length contracts.children) (f cone)) cones
    cones-within = λ k d within j e lt.
        let here = cone_here k d within in
        let member = in_at (f (get_or cones k d)) j e lt in
        cone-within contracts exist k (get_or (f (get_or cones k d)) j e) (omega (arith, cone_count)) (subst (In (get_or (f (get_or cones k d)) j e)) here member)

    pub cones-few : All (λ cone. length (f cone) ≤ length contracts.children) cones
    cones-few = λ k d within. subst (λ l. length l ≤ length contracts.children) (sym (cone_here k d within)) (cone-few contracts exist k (omega (arith, cone_count)))

  -- what the cones weigh by the counts of all contracts
  pub weighed : (counts : List ℕ) → counts ≡ map (scheduled_count contracts) (numbers_of contracts) → map (λ cone. sum_by (λ c. slice_index counts c + 1) cone) (map (cone_of contracts) (numbers_of contracts)) ≡ map (cone_sum contracts) (numbers_of contracts)
  unfolding cone_sum
  weighed counts are =
      mapped_again (cone_of contracts) (λ cone. sum_by (λ c. slice_index counts c + 1) cone) (numbers_of contracts)
      ∙ mapped_same (λ c. sum_by (λ d. slice_index counts d + 1) (cone_of contracts c)) (cone_sum contracts) (numbers_of contracts) (λ k e within.
      let n = length contracts.children in
      let few : k < n = omega (arith, length-range_with_len 0 n) in
      let here : get_or (numbers_of contracts) k e ≡ k = get_or-range_with_len 0 n k e few ∙ zero-add k in
      let same = summed_same (λ d. slice_index counts d + 1) (λ d. scheduled_count contracts d + 1) (cone_of contracts k) (λ d member.
      ap (λ m. m + 1) (ap (λ l. slice_index l d) are ∙ get_or-map-range_with_len (scheduled_count contracts) 0 n d d 0 (cone-within contracts exist k d few member) (zero-add d))) in
      subst (λ c. sum_by (λ d. slice_index counts d + 1) (cone_of contracts c) ≡ cone_sum contracts c) (sym here) (same ∙ sym (sum-map (λ d. scheduled_count contracts d + 1) (cone_of contracts k))))

  -- what they read
  pub read : map (reads_over contracts) (map (cone_of contracts) (numbers_of contracts)) ≡ map (reads_of contracts) (numbers_of contracts)
  read = mapped_again (cone_of contracts) (reads_over contracts) (numbers_of contracts)
