-- What stands in a JSON value nests less deep, so contracts that stand in others come to an end.
use Rattle.std.proofs.Common.{◌≡◌, ℕ, zero, suc, ◌<◌, ◌≤◌, max, if◌then◌else◌, Bool, true, false, ◌||◌, is_some, List, [], ◌∷◌, ◌++◌, ◌+◌, length, map, take, codes, get_or, Option, Some, None, refl, ap, sym, ◌∙◌, arith, append_assoc, append-nil}
use Rattle.std.specs.List.{All, cons_option, filter_map, flat_map, list_any}
use Rattle.std.specs.Ordering.{match_ordering, nat_cmp}
use Rattle.std.specs.Cmp.Lexicographic.{slice_cmp}
use Rattle.std.specs.declared.cmp.Ordering.{Ordering}
use Rattle.std.specs.declared.cmp.Ordering.TheVariants.{Less, Equal, Greater}
use Rattle.std.proofs.lemmas.Grind.{flat_map-append}
use Rattle.std.proofs.lemmas.List.{map_more}
use Rattle.std.proofs.lemmas.List.Elements.{All-cons, All-nil, filter_map-append}
use Rattle.serde_json.specs.Data.{Data, null, boolean, number, string, array, object, Items, no_items, item, Members, no_members, member, depth, items_depth, members_depth}
use Rattle.serde_json.specs.Find.{get, get_member}
use Rattle.serde_json.specs.View.{items_of}
use Rattle.std.specs.declared.alloc.Global.{Global}
use Rattle.json.specs.declared.value.Value.{Value}
use Rattle.act_json.specs.Tree.{data_in}
use Rattle.act_terms.specs.Choices.{reference_type_named}
use Rattle.act_terms.specs.Fields.{choice_field}
use Rattle.act_terms.specs.Inline.{contract_in, elements_where_listed, has_inline, has_object, inline_contracts, is_inside, nested, with_inline}
use Rattle.act_terms.specs.Structure.{if_object, inner_object, listed}

-- ---- members and items

picked : (o : Ordering) (rest : Option Data) (v d : Data) (n : ℕ) → (rest ≡ Some d → depth d ≤ n) → match_ordering o rest (Some v) rest ≡ Some d → depth d ≤ max (depth v) n
picked Less rest v d n below e = let le = below e in omega arith
picked Equal rest v d n below e = let same : depth v ≡ depth d = ap depth (cc) in omega arith
picked Greater rest v d n below e = let le = below e in omega arith

get_member-depth : (k : List ℕ) (ms : Members) (d : Data) → get_member k ms ≡ Some d → depth d ≤ members_depth ms
get_member-depth k no_members d e = absurd (cc)
get_member-depth k (member l v ms) d e = picked (slice_cmp nat_cmp k l) (get_member k ms) v d (members_depth ms) (get_member-depth k ms d) e

-- a member of an object nests less deep than the object
pub get-depth : (k : List ℕ) (value d : Data) → get k value ≡ Some d → depth d < depth value
get-depth k null d e = absurd (cc)
get-depth k (boolean b) d e = absurd (cc)
get-depth k (number n) d e = absurd (cc)
get-depth k (string s) d e = absurd (cc)
get-depth k (array items) d e = absurd (cc)
get-depth k (object ms) d e = let le = get_member-depth k ms d e in omega arith

-- ---- contracts that stand in elements

is_object : (given : Option Data) (d : Data) → if_object given ≡ Some d → given ≡ Some d
is_object None d e = absurd (cc)
is_object (Some null) d e = absurd (cc)
is_object (Some (boolean b)) d e = absurd (cc)
is_object (Some (number n)) d e = absurd (cc)
is_object (Some (string s)) d e = absurd (cc)
is_object (Some (array items)) d e = absurd (cc)
is_object (Some (object ms)) d e = e

pub inner-depth : (element d : Data) → inner_object element ≡ Some d → depth d < depth element
inner-depth element d e = get-depth (codes "object") element d (is_object (get (codes "object") element) d e)

inner_in : (inside : Bool) (inner : Option Data) (d : Data) → (if inside then inner else None) ≡ Some d → inner ≡ Some d
inner_in true inner d e = e
inner_in false inner d e = absurd (cc)

contract_in-depth : (element d : Data) → contract_in element ≡ Some d → depth d < depth element
contract_in-depth element d e = inner-depth element d (inner_in (is_inside (choice_field reference_type_named (codes "referenceType") element)) (inner_object element) d e)

-- ---- two functions that agree below a depth

-- they agree on what nests less deep
abbrev Agree : (Data → List Data) → (Data → List Data) → ℕ → Type 0
Agree f g bound = (d : Data) → depth d < bound → f d ≡ g d

cons_same : (f g : Data → List Data) (inner : Option Data) (rest : List Data) → ((d : Data) → inner ≡ Some d → f d ≡ g d) → flat_map f rest ≡ flat_map g rest
    → flat_map f (cons_option inner rest) ≡ flat_map g (cons_option inner rest)
cons_same f g None rest here more = more
cons_same f g (Some d) rest here more = ap (λ first. first ++ flat_map f rest) (here d refl) ∙ ap (λ others. g d ++ others) more

items_same : (f g : Data → List Data) (bound : ℕ) → Agree f g bound → (items : Items) → items_depth items < bound
    → flat_map f (filter_map contract_in (listed items)) ≡ flat_map g (filter_map contract_in (listed items))
items_same f g bound same no_items within = refl
items_same f g bound same (item e items) within =
    let here : (d : Data) → contract_in e ≡ Some d → f d ≡ g d = λ d is. let lower = contract_in-depth e d is in same d (omega arith) in
    let more : items_depth items < bound = omega arith in
    cons_same f g (contract_in e) (filter_map contract_in (listed items)) here (items_same f g bound same items more)

found_same : (f g : Data → List Data) (bound : ℕ) → Agree f g bound → (found : Option Data) → ((d : Data) → found ≡ Some d → depth d < bound)
    → flat_map f (filter_map contract_in (elements_where_listed found)) ≡ flat_map g (filter_map contract_in (elements_where_listed found))
found_same f g bound same None within = refl
found_same f g bound same (Some null) within = refl
found_same f g bound same (Some (boolean b)) within = refl
found_same f g bound same (Some (number x)) within = refl
found_same f g bound same (Some (string s)) within = refl
found_same f g bound same (Some (object ms)) within = refl
found_same f g bound same (Some (array items)) within =
    let lower = within (array items) refl in items_same f g bound same items (omega arith)

where_same : (f g : Data → List Data) (bound : ℕ) → Agree f g bound → (has : Bool) (found : Option Data) → ((d : Data) → found ≡ Some d → depth d < bound)
    → flat_map f (filter_map contract_in (if has then elements_where_listed found else [])) ≡ flat_map g (filter_map contract_in (if has then elements_where_listed found else []))
where_same f g bound same true found within = found_same f g bound same found within
where_same f g bound same false found within = refl

inline_same : (f g : Data → List Data) (contract : Data) → Agree f g (depth contract) → flat_map f (inline_contracts contract) ≡ flat_map g (inline_contracts contract)
unfolding inline_contracts
inline_same f g contract same =
    where_same f g (depth contract) same (has_inline contract) (get (codes "contractStructure") contract) (get-depth (codes "contractStructure") contract)

-- ---- enough levels

none : Data → List Data
none d = []

all_none : (ds : List Data) → flat_map none ds ≡ []
unfolding none
all_none [] = refl
all_none (d ∷ ds) = all_none ds

-- nothing stands in a value of no depth
none_inside : (f : Data → List Data) (contract : Data) → depth contract ≤ 0 → flat_map f (inline_contracts contract) ≡ []
none_inside f contract flat = inline_same f none contract (λ d lower. absurd (omega arith)) ∙ all_none (inline_contracts contract)

-- as many levels as a contract has are enough
enough : (n m : ℕ) (contract : Data) → depth contract ≤ n → depth contract ≤ m → nested n contract ≡ nested m contract
unfolding nested
enough zero zero contract in_n in_m = refl
enough zero (suc m) contract in_n in_m = ap (λ inside. contract ∷ inside) (sym (none_inside (nested m) contract in_n))
enough (suc n) zero contract in_n in_m = ap (λ inside. contract ∷ inside) (none_inside (nested n) contract in_m)
enough (suc n) (suc m) contract in_n in_m =
    ap (λ inside. contract ∷ inside) (inline_same (nested n) (nested m) contract (λ d lower. enough n m d (omega arith) (omega arith)))

one_more : (n : ℕ) (contract : Data) → nested (suc n) contract ≡ contract ∷ flat_map (nested n) (inline_contracts contract)
unfolding nested
one_more n contract = refl

-- a contract and what stands in it, each with what stands in that
pub with_inline-step : (contract : Data) → with_inline contract ≡ contract ∷ flat_map with_inline (inline_contracts contract)
with_inline-step contract =
    enough (depth contract) (suc (depth contract)) contract (omega arith) (omega arith) ∙ one_more (depth contract) contract
    ∙ ap (λ inside. contract ∷ inside) (inline_same (nested (depth contract)) with_inline contract (λ d lower. enough (depth contract) (depth d) d (omega arith) (omega arith)))

-- ---- the elements of a structure

items_lower : (bound : ℕ) (values : List (Value Global)) → items_depth (items_of (map data_in values)) < bound → All (λ v. depth (data_in v) < bound) values
items_lower bound [] within = All-nil (λ v. depth (data_in v) < bound)
items_lower bound (v ∷ values) within =
    let here : depth (data_in v) < bound = omega arith in
    let more : items_depth (items_of (map data_in values)) < bound = omega arith in
    All-cons (λ e. depth (data_in e) < bound) v values here (items_lower bound values more)

-- they nest less deep than the contract
pub values_lower : (contract : Data) (values : List (Value Global)) → get (codes "contractStructure") contract ≡ Some (array (items_of (map data_in values))) → All (λ v. depth (data_in v) < depth contract) values
values_lower contract values there =
    let lower = get-depth (codes "contractStructure") contract (array (items_of (map data_in values))) there in items_lower (depth contract) values (omega arith)

-- ---- one element after another

in_one_more : (done : List Data) (e : Data) → filter_map contract_in (done ++ e ∷ []) ≡ filter_map contract_in done ++ cons_option (contract_in e) []
in_one_more done e = filter_map-append contract_in done (e ∷ [])

-- what stands in elements
abbrev pub inside : List Data → List Data
inside elements = flat_map with_inline (filter_map contract_in elements)

inner_more : (done : List Data) (e d : Data) → contract_in e ≡ Some d → inside (done ++ e ∷ []) ≡ inside done ++ with_inline d
inner_more done e d is =
    ap (flat_map with_inline) (in_one_more done e ∙ ap (λ inner. filter_map contract_in done ++ cons_option inner []) is) ∙ flat_map-append with_inline (filter_map contract_in done) (d ∷ [])
    ∙ ap (λ last. inside done ++ last) (append-nil (with_inline d))

none_more : (done : List Data) (e : Data) → contract_in e ≡ None → inside (done ++ e ∷ []) ≡ inside done
none_more done e is = ap (flat_map with_inline) (in_one_more done e ∙ ap (λ inner. filter_map contract_in done ++ cons_option inner []) is ∙ append-nil (filter_map contract_in done))

-- an element in which a contract stands
pub with_inner : (old now after done all : List Data) (contract e d : Data) → now ≡ old ++ contract ∷ inside done → after ≡ now ++ with_inline d → all ≡ done ++ e ∷ [] → contract_in e ≡ Some d
    → after ≡ old ++ contract ∷ inside all
with_inner old now after done all contract e d before added more is =
    added ∙ ap (λ xs. xs ++ with_inline d) before ∙ append_assoc old (contract ∷ inside done) (with_inline d)
    ∙ ap (λ xs. old ++ contract ∷ xs) (sym (inner_more done e d is) ∙ ap inside (sym more))

-- an element in which none does
pub without_inner : (old now done all : List Data) (contract e : Data) → now ≡ old ++ contract ∷ inside done → all ≡ done ++ e ∷ [] → contract_in e ≡ None → now ≡ old ++ contract ∷ inside all
without_inner old now done all contract e before more is =
    before ∙ ap (λ xs. old ++ contract ∷ xs) (sym (none_more done e is) ∙ ap inside (sym more))

-- all elements in which contracts may stand
pub all_inside : (old now done : List Data) (contract : Data) → now ≡ old ++ contract ∷ inside done → filter_map contract_in done ≡ inline_contracts contract → now ≡ old ++ with_inline contract
all_inside old now done contract before all = before ∙ ap (λ inner. old ++ contract ∷ flat_map with_inline inner) all ∙ ap (λ xs. old ++ xs) (sym (with_inline-step contract))

-- no contract stands in elements without an object
not_in : (b : Bool) (inner : Option Data) → is_some inner ≡ false → (if b then inner else None) ≡ None
not_in true (Some inner) none = absurd (cc)
not_in true None none = refl
not_in false inner none = refl

picked_by : (b : Bool) (elements : List Data) → filter_map contract_in (if b then elements else []) ≡ (if b then filter_map contract_in elements else [])
picked_by true elements = refl
picked_by false elements = refl

left_false : (a b : Bool) → (a || b) ≡ false → a ≡ false
left_false false b e = refl
left_false true b e = absurd (cc)

right_false : (a b : Bool) → (a || b) ≡ false → b ≡ false
right_false false b e = e
right_false true b e = absurd (cc)

no_objects : (elements : List Data) → list_any has_object elements ≡ false → filter_map contract_in elements ≡ []
no_objects [] none = refl
no_objects (e ∷ elements) none =
    let here : contract_in e ≡ None = not_in _ (inner_object e) (left_false _ _ none) in
    rw here (no_objects elements (right_false (has_object e) _ none))

either_way : (b : Bool) (elements : List Data) → (if b then elements else elements) ≡ elements
either_way true elements = refl
either_way false elements = refl

-- the contracts that stand in a contract, by the elements of its structure
pub inline_of : (contract : Data) (elements : List Data) → elements ≡ elements_where_listed (get (codes "contractStructure") contract)
    → inline_contracts contract ≡ (if has_inline contract then filter_map contract_in elements else [])
unfolding inline_contracts
inline_of contract elements is = rw is (picked_by (has_inline contract) (elements_where_listed (get (codes "contractStructure") contract)))

-- none, where there is no object among them
pub none_inline : (contract : Data) (elements : List Data) → elements ≡ elements_where_listed (get (codes "contractStructure") contract)
    → list_any has_object elements ≡ false → inline_contracts contract ≡ []
none_inline contract elements is none = inline_of contract elements is ∙ rw (no_objects elements none) (either_way (has_inline contract) [])

-- values up to a place, and one more
pub shown_more : (values : List (Value Global)) (i : ℕ) (v : Value Global) → i < length values → v ≡ get_or values i v → map data_in (take (i + 1) values) ≡ map data_in (take i values) ++ data_in v ∷ []
shown_more values i v within is = map_more data_in values i v within ∙ ap (λ w. map data_in (take i values) ++ data_in w ∷ []) (sym is)
