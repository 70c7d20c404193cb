-- The data of a tree, and what serde_json reads for it.
use Rattle.std.proofs.Common.{◌≡◌, ℕ, nat_eq, Bool, true, false, true≢false, cond, List, [], ◌∷◌, take, drop, map, length, ◌<◌, ◌≤◌, ◌||◌, ◌+◌, ◌-◌, arith, get_or, Option, Some, None, option_map, option_and_then, Ok, Err, bytes_eq, Bor, Vec, refl, sym, ap, ◌∙◌, subst, ⊎_elim}
use Rattle.std.specs.Option.{unwrap_or}
use Rattle.std.specs.Prelude.{⊤}
use Rattle.std.proofs.lemmas.Bool.{cases_Bool, eq-eqb, or_parts}
use Rattle.std.proofs.Math.Seq.{drop-length}
use Rattle.std.proofs.lemmas.List.{drop_more, take_more}
use Rattle.std.proofs.lemmas.Slice.Eq.{bytes_eq-Decides}
use Rattle.std.proofs.lemmas.Str.{IsUtf8-from_is_utf8, is_utf8-from_IsUtf8}
use Rattle.std.specs.Str.{IsUtf8, is_utf8}
use Rattle.std.specs.declared.alloc.Global.{Global}
use Rattle.json.specs.Json as json
use Rattle.json.specs.Find as find
use Rattle.serde_json.specs.Data.{Data, Num, null, boolean, number, string, array, object, unsigned, item, Members, no_members, put}
use Rattle.serde_json.specs.Find.{as_array, as_object, get, get_member}
use Rattle.serde_json.specs.View.{items_of}
use Rattle.json.specs.Value.{items_view, members_view, value_view}
use Rattle.json.specs.declared.value.Value.{Value, Array, Object}
use Rattle.json.proofs.Trees.{get_member-push, view-Array, view-Object}
use Rattle.serde_json.specs.Read.{number_of, of_items, of_json, of_members, read}
use Rattle.serde_json.proofs.Views.{get_member-put, get_member-put_other}
use Rattle.act_json.specs.Fields.{field_of}
use Rattle.act_json.specs.Quoting.{quoted}
use Rattle.act_json.specs.Reading.{json_of, reading_of}
use Rattle.act_json.specs.Tree.{data_in, data_of, data_of_items, has_number, items_have_number, json_as_is, members_have_number, object_in, put_members, tree_of, Listed}
use Rattle.act_json.specs.declared.fault.JsonFault.TheVariants.{NotJson, WrongShape}

-- ---- what is read for a tree is its data

-- what stands there is a, if anything does
abbrev IsOnly : {A : Type 0} → A → Option A → Type 0
IsOnly a None = ⊤
IsOnly a (Some b) = b ≡ a

only-map : {A B : Type 0} (f : A → B) (a : A) (o : Option A) → IsOnly a o → IsOnly (f a) (option_map f o)
only-map f a None only = tt
only-map f a (Some b) only = ap f only

only-then : {A B : Type 0} (f : A → Option B) (a : A) (b : B) (o : Option A) → IsOnly a o → IsOnly b (f a) → IsOnly b (option_and_then f o)
only-then f a b None only then = tt
only-then f a b (Some x) only then = subst (λ y. IsOnly b (f y)) (sym only) then

only-number : (n : Option Num) → IsOnly (number (unwrap_or n (unsigned 0))) (option_map number n)
only-number None = tt
only-number (Some n) = refl

mutual
  only-json : (j : json.Json) → IsOnly (data_of j) (of_json j)
  only-json json.null = refl
  only-json (json.boolean b) = refl
  only-json (json.number text) = only-number (number_of text)
  only-json (json.string text) = refl
  only-json (json.array items) = only-map array _ (of_items items) (only-items items)
  only-json (json.object members) = only-map object _ (of_members members no_members) (only-members members no_members)

  only-items : (items : json.Items) → IsOnly (data_of_items items) (of_items items)
  only-items json.no_items = refl
  only-items (json.item j items) = only-then (λ d. option_map (item d) (of_items items)) (data_of j) _ (of_json j) (only-json j) (only-map (item (data_of j)) _ (of_items items) (only-items items))

  only-members : (members : json.Members) (found : Members) → IsOnly (put_members members found) (of_members members found)
  only-members json.no_members found = refl
  only-members (json.member name j members) found = only-then (λ d. of_members members (put name d found)) (data_of j) _ (of_json j) (only-json j) (only-members members (put name (data_of j) found))

is_only : {A : Type 0} (a b : A) (o : Option A) → IsOnly a o → o ≡ Some b → b ≡ a
is_only a b None only is = absurd (cc)
is_only a b (Some x) only is = cc

-- what serde_json reads for a tree is its data
pub of_json-data_of : (j : json.Json) (d : Data) → of_json j ≡ Some d → d ≡ data_of j
of_json-data_of j d is = is_only (data_of j) d (of_json j) (only-json j) is

-- ---- a tree without numbers is read

mutual
  pub of_json-without_number : (j : json.Json) → has_number j ≡ false → of_json j ≡ Some (data_of j)
  of_json-without_number json.null none = refl
  of_json-without_number (json.boolean b) none = refl
  of_json-without_number (json.number text) none = absurd (true≢false none)
  of_json-without_number (json.string text) none = refl
  of_json-without_number (json.array items) none = ap (option_map array) (of_items-without_number items none)
  of_json-without_number (json.object members) none = ap (option_map object) (of_members-without_number members no_members none)

  of_items-without_number : (items : json.Items) → items_have_number items ≡ false → of_items items ≡ Some (data_of_items items)
  of_items-without_number json.no_items none = refl
  of_items-without_number (json.item j items) none =
      let both = or_parts (has_number j) (items_have_number items) none in
      ap (option_and_then (λ d. option_map (item d) (of_items items))) (of_json-without_number j both.0) ∙ ap (option_map (item (data_of j))) (of_items-without_number items both.1)

  of_members-without_number : (members : json.Members) (found : Members) → members_have_number members ≡ false → of_members members found ≡ Some (put_members members found)
  of_members-without_number json.no_members found none = refl
  of_members-without_number (json.member name j members) found none =
      let both = or_parts (has_number j) (members_have_number members) none in
      ap (option_and_then (λ d. of_members members (put name d found))) (of_json-without_number j both.0) ∙ of_members-without_number members (put name (data_of j) found) both.1

-- ---- a member by its name

-- the data of the one that was found, or what was found before
abbrev or_before : Option json.Json → Option Data → Option Data
or_before None before = before
or_before (Some j) before = Some (data_of j)

or_none : (found : Option json.Json) → or_before found None ≡ option_map data_of found
or_none None = refl
or_none (Some j) = refl

one_put : (later : Option json.Json) (same : Bool) (k name : List ℕ) (j : json.Json) (found : Members) → bytes_eq k name ≡ same
    → or_before later (get_member name (put k (data_of j) found)) ≡ or_before (find.later_or later (cond same (Some j) None)) (get_member name found)
one_put (Some x) same k name j found is = refl
one_put None true k name j found is =
    subst (λ n. get_member n (put k (data_of j) found) ≡ Some (data_of j)) ((bytes_eq-Decides k name).0 is) (get_member-put k (data_of j) found)
one_put None false k name j found is =
    get_member-put_other name k (data_of j) found (λ same. true≢false (sym ((bytes_eq-Decides k name).1 (sym same)) ∙ is))

all_put : (name : List ℕ) (members : json.Members) (found : Members) → get_member name (put_members members found) ≡ or_before (find.get_member name members) (get_member name found)
all_put name json.no_members found = refl
all_put name (json.member k j members) found = all_put name members (put k (data_of j) found) ∙ one_put (find.get_member name members) (bytes_eq k name) k name j found refl

-- the last member of a name is the one that serde_json keeps
pub get_member-last : (name : List ℕ) (members : json.Members) → get_member name (put_members members no_members) ≡ option_map data_of (find.get_member name members)
get_member-last name members = all_put name members no_members ∙ or_none (find.get_member name members)

-- ---- values

-- the items of a list, one by one
pub items_listed : (values : List (Value Global)) → data_of_items (items_view values) ≡ items_of (map data_in values)
items_listed [] = refl
items_listed (value ∷ values) = ap (item (data_in value)) (items_listed values)

-- a value that is a list has these items
pub list_seen : (value : Value Global) (list : Vec (Value Global) Global) (items : List (Value Global)) → value ≡ Array list → items ≡ list.items → Some (items_of (map data_in items)) ≡ as_array (data_in value)
list_seen value list items is same = rw (is, view-Array list, same) (ap Some (sym (items_listed list.items)))

-- a value that is an object has these members
pub object_seen : (value : Value Global) (list : Vec (Bor (List ℕ) × Value Global) Global) (members : Listed) → value ≡ Object list → members ≡ list.items → Some (object_in members) ≡ option_map object (as_object (data_in value))
object_seen value list members is same = rw (is, view-Object list, same) refl

-- an object that is seen is the value itself
pub object_is : (d o : Data) → Some o ≡ option_map object (as_object d) → o ≡ d
object_is null o is = absurd (cc)
object_is (boolean b) o is = absurd (cc)
object_is (number n) o is = absurd (cc)
object_is (string s) o is = absurd (cc)
object_is (array items) o is = absurd (cc)
object_is (object ms) o is = cc

-- a value that is no object has no members and no fields
pub no_member : (d : Data) (name : List ℕ) → None ≡ option_map object (as_object d) → None ≡ get name d
no_member null name none = refl
no_member (boolean b) name none = refl
no_member (number n) name none = refl
no_member (string s) name none = refl
no_member (array items) name none = refl
no_member (object ms) name none = absurd (cc)

pub no_field : (d : Data) (name : List ℕ) → None ≡ option_map object (as_object d) → Err WrongShape ≡ field_of name d
unfolding field_of
no_field null name none = refl
no_field (boolean b) name none = refl
no_field (number n) name none = refl
no_field (string s) name none = refl
no_field (array items) name none = refl
no_field (object ms) name none = absurd (cc)

-- ---- a member by its name, from the last one on

-- texts of different lengths are different
pub lengths_differ : (first second : List ℕ) → nat_eq (length first) (length second) ≡ false → bytes_eq first second ≡ false
lengths_differ first second differ =
    ⊎_elim
    (λ (same : bytes_eq first second ≡ true).
    let lengths : nat_eq (length first) (length second) ≡ true = eq-eqb _ _ (ap length ((bytes_eq-Decides first second).0 same)) in
    absurd (true≢false (sym lengths ∙ differ)))
    (λ (other : bytes_eq first second ≡ false). other)
    (cases_Bool (bytes_eq first second))

-- of the first members, so many, the last has the name, or those before it have what the name has
last_or_before : (members : Listed) (name : List ℕ) (left : ℕ) (d : Bor (List ℕ) × Value Global) → 0 < left → left ≤ length members
    → find.get_member name (members_view (take left members)) ≡ cond (bytes_eq (get_or members (left - 1) d).0.now name) (Some (value_view (get_or members (left - 1) d).1)) (find.get_member name (members_view (take (left - 1) members)))
last_or_before members name left d some within =
    let next : left ≡ (left - 1) + 1 = omega arith in
    ap (λ n. find.get_member name (members_view (take n members))) next ∙ ap (λ front. find.get_member name (members_view front)) (take_more members (left - 1) d (omega arith))
    ∙ get_member-push name (take (left - 1) members) (get_or members (left - 1) d)

-- where it has the name, its value is what the object has
pub found_last : (members : Listed) (name : List ℕ) (left : ℕ) (d : Bor (List ℕ) × Value Global) → 0 < left → left ≤ length members → bytes_eq (get_or members (left - 1) d).0.now name ≡ true
    → find.get_member name (members_view members) ≡ find.get_member name (members_view (take left members)) → Some (data_in (get_or members (left - 1) d).1) ≡ get name (object_in members)
found_last members name left d some within same so_far =
    let m = get_or members (left - 1) d in
    let is = so_far ∙ last_or_before members name left d some within ∙ ap (λ b. cond b (Some (value_view m.1)) (find.get_member name (members_view (take (left - 1) members)))) same in
    sym (get_member-last name (members_view members) ∙ ap (option_map data_of) is)

-- where it hasn't, it is passed over
pub passed_last : (members : Listed) (name : List ℕ) (left : ℕ) (d : Bor (List ℕ) × Value Global) → 0 < left → left ≤ length members → bytes_eq (get_or members (left - 1) d).0.now name ≡ false
    → find.get_member name (members_view members) ≡ find.get_member name (members_view (take left members)) → find.get_member name (members_view members) ≡ find.get_member name (members_view (take (left - 1) members))
passed_last members name left d some within differ so_far =
    let m = get_or members (left - 1) d in
    so_far ∙ last_or_before members name left d some within ∙ ap (λ b. cond b (Some (value_view m.1)) (find.get_member name (members_view (take (left - 1) members)))) differ

-- once all are passed over, the object has none of the name
pub none_first : (members : Listed) (name : List ℕ) (left : ℕ) → left ≤ 0 → find.get_member name (members_view members) ≡ find.get_member name (members_view (take left members)) → None ≡ get name (object_in members)
none_first members name left none so_far =
    let is : left ≡ 0 = omega arith in
    sym (get_member-last name (members_view members) ∙ ap (option_map data_of) (so_far ∙ ap (λ n. find.get_member name (members_view (take n members))) is))

-- ---- a test of values, one by one

-- `any` is whether one of them passes the test
module _ {X : Type 0} (any : List X → Bool) (passes : X → Bool) (one : (x : X) (xs : List X) → any (x ∷ xs) ≡ (passes x || any xs)) where
  this_or_behind : (xs : List X) (i : ℕ) (x : X) (b : Bool) → i < length xs → x ≡ get_or xs i x → passes x ≡ b → any (drop i xs) ≡ (b || any (drop (i + 1) xs))
  this_or_behind xs i x b within is test =
      ap any (drop_more xs i x within) ∙ one (get_or xs i x) (drop (i + 1) xs) ∙ ap (λ y. passes y || any (drop (i + 1) xs)) (sym is) ∙ ap (λ c. c || any (drop (i + 1) xs)) test

  -- where one passes
  pub this_passes : (xs : List X) (i : ℕ) (x : X) → i < length xs → x ≡ get_or xs i x → passes x ≡ true → any (drop i xs) ≡ any xs → true ≡ any xs
  this_passes xs i x within is test so_far = sym (this_or_behind xs i x true within is test) ∙ so_far

  -- where it doesn't
  pub this_fails : (xs : List X) (i : ℕ) (x : X) → i < length xs → x ≡ get_or xs i x → passes x ≡ false → any (drop i xs) ≡ any xs → any (drop (i + 1) xs) ≡ any xs
  this_fails xs i x within is test so_far = sym (this_or_behind xs i x false within is test) ∙ so_far

  -- where none did
  pub all_fail : any [] ≡ false → (xs : List X) (i : ℕ) → i ≤ length xs → length xs ≤ i → any (drop i xs) ≡ any xs → false ≡ any xs
  all_fail none xs i within over so_far =
      let is : length xs ≡ i = omega arith in
      sym none ∙ ap any (sym (drop-length xs)) ∙ ap (λ n. any (drop n xs)) is ∙ so_far

-- the same of the items of a list and of the members of an object, whether a number stands in them
abbrev pub in_items : List (Value Global) → Bool
in_items items = items_have_number (items_view items)

abbrev pub in_members : Listed → Bool
in_members members = members_have_number (members_view members)

-- ---- a text as it stands

-- a text that is a tree without numbers is read as the tree's data
pub read_without_number : (text : List ℕ) (j : json.Json) → tree_of text ≡ Some j → has_number j ≡ false → read text ≡ Some (data_of j)
read_without_number text j is none = ap (option_and_then of_json) is ∙ of_json-without_number j none

-- so is one with numbers that is read at all
pub read_with_number : (text : List ℕ) (j : json.Json) (d : Data) → tree_of text ≡ Some j → read text ≡ Some d → read text ≡ Some (data_of j)
read_with_number text j d is seen = seen ∙ ap Some (of_json-data_of j d (sym (ap (option_and_then of_json) is) ∙ seen))

not_utf8 : (bytes : List ℕ) (b : Bool) → is_utf8 bytes ≡ b → (IsUtf8 bytes → ⊥) → b ≡ false
not_utf8 bytes true is none = absurd (none (IsUtf8-from_is_utf8 bytes is))
not_utf8 bytes false is none = refl

-- bytes that aren't UTF-8 are no JSON
pub refused_as_is : (bytes : List ℕ) → (IsUtf8 bytes → ⊥) → Err NotJson ≡ json_as_is bytes
refused_as_is bytes none = rw (not_utf8 bytes (is_utf8 bytes) refl none) refl

-- those that are, are what their text is read as
pub read_as_is : (bytes text : List ℕ) (d : Data) → text ≡ bytes → IsUtf8 bytes → read text ≡ Some d → Ok d ≡ json_as_is bytes
read_as_is bytes text d same utf8 is = rw (is_utf8-from_IsUtf8 bytes utf8, ap read (sym same) ∙ is) refl

-- what bytes are read as is what stands there once their numbers are in quotes
pub json_of-quoted : (bytes : List ℕ) → json_of bytes ≡ json_as_is (quoted bytes)
unfolding reading_of
json_of-quoted bytes = refl
