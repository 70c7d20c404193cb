-- Which pairs may be claimed, as a board keeps it.
use Rattle.std.specs.Prelude.{◌≡◌, ◌⊎◌, ℕ, suc, ◌+◌, ◌<◌, ◌≤◌, ◌&&◌, ◌==◌, nat_lt, not, cond, true, List, length, slice_set, slice_index_or, Some, Vec}
use Rattle.std.specs.List.{count_by, insert, slice_get}
use Rattle.std.specs.declared.alloc.Global.{Global}
use Rattle.act_refs.specs.Path.{child_lists, children_of}
use Rattle.act_history.specs.History.{History, has_result}
use Rattle.act_keeping.specs.Keeping.{contract_at, is_waiting}
use Rattle.act_keeping.specs.declared.pair.Pair.{Pair}

-- how many children of a contract lack a result at a version
abbrev pub lacking_of : History → ℕ → ℕ → ℕ
lacking_of history c v = count_by (λ child. not (has_result history child v)) (children_of history.portfolio.contracts.children c)

-- how often a number stands in a list
abbrev pub times : ℕ → List ℕ → ℕ
times n list = count_by (λ m. m == n) list

-- how many pairs wait for a result
abbrev pub blocked : List ℕ → ℕ
blocked lacking = count_by (λ n. not (n == 0)) lacking

-- ---- the list of what may be claimed

-- the greatest first
abbrev pub AreDescending : List ℕ → Type 0
AreDescending places = (i j a b : ℕ) → i < j → slice_get places i ≡ Some a → slice_get places j ≡ Some b → b < a

-- the pair at a place waits, and no child of its contract lacks a result
abbrev pub IsFree : List Pair → List ℕ → ℕ → Type 0
IsFree pairs lacking place = (pair : Pair) × (slice_get pairs place ≡ Some pair) × (is_waiting pair.progress ≡ true) × (slice_get lacking place ≡ Some 0)

-- the places of these pairs, the greatest first
pub record AreFree (pairs : List Pair) (lacking places : List ℕ) : Type 0 where
  pub descending : AreDescending places
  pub free : (i place : ℕ) → slice_get places i ≡ Some place → IsFree pairs lacking place
  pub all : (place : ℕ) → IsFree pairs lacking place → (i : ℕ) × (slice_get places i ≡ Some place)

-- those from a place on
pub record AreFreeFrom (pairs : List Pair) (lacking : List ℕ) (from : ℕ) (places : List ℕ) : Type 0 where
  pub descending : AreDescending places
  pub free : (i place : ℕ) → slice_get places i ≡ Some place → (from ≤ place) × IsFree pairs lacking place
  pub all : (place : ℕ) → from ≤ place → IsFree pairs lacking place → (i : ℕ) × (slice_get places i ≡ Some place)

-- so many of them are greater than a place
pub record IsRanked (places : List ℕ) (place index : ℕ) : Type 0 where
  pub within : index ≤ length places
  pub before : (i other : ℕ) → i < index → slice_get places i ≡ Some other → place < other
  pub behind : (i other : ℕ) → index ≤ i → slice_get places i ≡ Some other → other ≤ place

-- a place was put among them
abbrev pub IsPlaced : List ℕ → ℕ → List ℕ → Type 0
IsPlaced old place new = (index : ℕ) × IsRanked old place index × (new ≡ insert old index place)

-- ---- the counts

-- a pair is that of a version and a rank, and waits
abbrev pub is_of : ℕ → ℕ → Pair → ℕ
is_of version rank pair = cond ((pair.version == version) && ((pair.rank == rank) && is_waiting pair.progress)) 1 0

-- one result more at a place: where it was the last, the place is listed
pub record Lowers (place : ℕ) (old old_places new new_places : List ℕ) : Type 0 where
  pub count : ℕ
  pub was : slice_get old place ≡ Some (suc count)
  pub is : new ≡ slice_set old place count
  pub listed : ((count ≡ 0) × IsPlaced old_places place new_places) ⊎ ((0 < count) × (new_places ≡ old_places))

-- the pair of a version and a rank lacks a result, where it waits
abbrev pub MayLower : List Pair → ℕ → ℕ → List ℕ → Type 0
MayLower pairs version rank lacking = (k n : ℕ) (pair : Pair) → slice_get pairs k ≡ Some pair → slice_get lacking k ≡ Some n → is_of version rank pair ≤ n

-- its count is one less, where it waits, and the others are as they were
abbrev pub IsNoted : List Pair → ℕ → ℕ → List ℕ → List ℕ → Type 0
IsNoted pairs version rank old new =
    (k m n : ℕ) (pair : Pair) → slice_get pairs k ≡ Some pair → slice_get old k ≡ Some m → slice_get new k ≡ Some n → n + is_of version rank pair ≡ m

-- each contract stands once in an order
abbrev pub AreApart : List ℕ → Type 0
AreApart order = (r s : ℕ) → r < length order → s < length order → slice_index_or order r 0 ≡ slice_index_or order s 0 → r ≡ s

-- how often a pair's contract stands among some, where the pair is of a version and waits
abbrev pub due : List ℕ → List ℕ → ℕ → Pair → ℕ
due order parents version pair = cond ((pair.version == version) && is_waiting pair.progress) (times (slice_index_or order pair.rank 0) parents) 0

abbrev pub Lacks : List ℕ → List ℕ → ℕ → List Pair → List ℕ → Type 0
Lacks order parents version pairs lacking = (k n : ℕ) (pair : Pair) → slice_get pairs k ≡ Some pair → slice_get lacking k ≡ Some n → due order parents version pair ≤ n

abbrev pub AreSettled : List ℕ → List ℕ → ℕ → List Pair → List ℕ → List ℕ → Type 0
AreSettled order parents version pairs old new =
    (k m n : ℕ) (pair : Pair) → slice_get pairs k ≡ Some pair → slice_get old k ≡ Some m → slice_get new k ≡ Some n → n + due order parents version pair ≡ m

-- ---- who refers to whom

-- a contract is added to the lists of its children, as often as each stands among them
pub record AddsTimes (before after : List (List ℕ)) (children : List ℕ) (parent : ℕ) : Type 0 where
  pub count : length after ≡ length before
  pub times : (c p : ℕ) → c < length before → times p (children_of after c) ≡ times p (children_of before c) + cond (parent == p) (times c children) 0

-- those of the contracts before a number
pub record AreParentsBelow (children : List (List ℕ)) (end : ℕ) (parents : List (List ℕ)) : Type 0 where
  pub count : length parents ≡ length children
  pub times : (c p : ℕ) → c < length children → times p (children_of parents c) ≡ cond (nat_lt p end) (times c (children_of children p)) 0

-- ---- a board

-- each contract stands as often among those that refer to another as that one among its children
pub record AreParents (children parents : List (List ℕ)) : Type 0 where
  pub count : length parents ≡ length children
  pub times : (c p : ℕ) → c < length children → times p (children_of parents c) ≡ times c (children_of children p)

-- the counts are those of a history for the pairs that wait, and what may be claimed is listed; there is room to list what waits for a result
pub record AreReadyLists (history : History) (pairs : List Pair) (lacking places : List ℕ) (capacity : ℕ) (parents : List (Vec ℕ Global)) : Type 0 where
  pub turned : AreParents history.portfolio.contracts.children (child_lists parents)
  pub count : length lacking ≡ length pairs
  pub counted : (k n : ℕ) (pair : Pair) → slice_get pairs k ≡ Some pair → slice_get lacking k ≡ Some n → is_waiting pair.progress ≡ true → n ≡ lacking_of history (contract_at history pair.rank) pair.version
  pub free : AreFree pairs lacking places
  pub room : length places + blocked lacking ≤ capacity
