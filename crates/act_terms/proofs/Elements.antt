-- The elements of a list of JSON values, and the references that they are, read one by one.
use Rattle.std.proofs.Common.{◌≡◌, List, [], ◌∷◌, ◌++◌, map, Vec, Result, Ok, Err, refl, ap, sym, ◌∙◌, append_assoc, append-nil}
use Rattle.act_model.specs.Names.{NameLists}
use Rattle.act_profile.specs.Outcomes.{then_ok}
use Rattle.std.specs.declared.alloc.Global.{Global}
use Rattle.json.proofs.Trees.{view-Array}
use Rattle.json.specs.declared.value.Value.{Value, Array}
use Rattle.act_json.proofs.Trees.{items_listed}
use Rattle.act_json.specs.Tree.{data_in}
use Rattle.serde_json.specs.Data.{Data, array}
use Rattle.serde_json.specs.View.{items_of}
use Rattle.act_terms.specs.Structure.{listed, reference_of, references_from}
use Rattle.act_terms.specs.declared.fault.TermsFault.{TermsFault}
use Rattle.act_terms.specs.Reference.{Reference}

-- the list of the items that values make is the values
pub listed_again : (ds : List Data) → listed (items_of ds) ≡ ds
listed_again [] = refl
listed_again (d ∷ ds) = ap (λ more. d ∷ more) (listed_again ds)

-- a value that is a list has its values' data as its items
pub array_is : (value : Value Global) (values : Vec (Value Global) Global) → value ≡ Array values → data_in value ≡ array (items_of (map data_in values.items))
array_is value values is = rw (is, view-Array values) (ap array (items_listed values.items))

-- ---- references, one by one

abbrev pub Read : Type 0
Read = Result (List Reference × NameLists) TermsFault

-- what is read behind some references
abbrev pub behind : List Reference → Read → Read
behind read (Ok more) = Ok (read ++ more.0, more.1)
behind read (Err fault) = Err fault

behind-nil : (r : Read) → r ≡ behind [] r
behind-nil (Ok more) = refl
behind-nil (Err fault) = refl

behind-behind : (read : List Reference) (one : Reference) (r : Read) → behind read (behind (one ∷ []) r) ≡ behind (read ++ one ∷ []) r
behind-behind read one (Ok more) = ap (λ all. Ok (all, more.1)) (sym (append_assoc read (one ∷ []) more.0))
behind-behind read one (Err fault) = refl

-- the elements up to a place are read, and those from there on are left
pub record IsReadTo (before : NameLists) (elements left : List Data) (read : List Reference) (names : NameLists) : Type 0 where
  pub is : references_from before elements ≡ behind read (references_from names left)

pub none_read : (names : NameLists) (elements : List Data) → IsReadTo names elements elements [] names
none_read names elements = record { is = behind-nil _ }

with_rest : (one : Reference) (r : Read) → then_ok (λ rest. Ok (one ∷ rest.0, rest.1)) r ≡ behind (one ∷ []) r
with_rest one (Ok more) = refl
with_rest one (Err fault) = refl

first_read : (names after : NameLists) (d : Data) (ds : List Data) (one : Reference) → reference_of names d ≡ Ok (one, after) → references_from names (d ∷ ds) ≡ behind (one ∷ []) (references_from after ds)
unfolding references_from
first_read names after d ds one is = rw is (with_rest one (references_from after ds))

pub one_read : (before : NameLists) (elements left more : List Data) (read : List Reference) (names after : NameLists) (d : Data) (one : Reference) → IsReadTo before elements left read names → left ≡ d ∷ more
    → reference_of names d ≡ Ok (one, after) → IsReadTo before elements more (read ++ one ∷ []) after
one_read before elements left more read names after d one so_far here is = record {
  is = so_far.is ∙ ap (behind read) (ap (references_from names) here ∙ first_read names after d more one is) ∙ behind-behind read one _;
}

first_refused : (names : NameLists) (d : Data) (ds : List Data) (fault : TermsFault) → reference_of names d ≡ Err fault → references_from names (d ∷ ds) ≡ Err fault
unfolding references_from
first_refused names d ds fault is = rw is refl

pub one_refused : (before : NameLists) (elements left more : List Data) (read : List Reference) (names : NameLists) (d : Data) (fault : TermsFault) → IsReadTo before elements left read names → left ≡ d ∷ more
    → reference_of names d ≡ Err fault → references_from before elements ≡ Err fault
one_refused before elements left more read names d fault so_far here is =
    so_far.is ∙ ap (behind read) (ap (references_from names) here ∙ first_refused names d more fault is)

none_more : (names : NameLists) → references_from names [] ≡ Ok ([], names)
unfolding references_from
none_more names = refl

pub all_read : (before : NameLists) (elements left : List Data) (read : List Reference) (names : NameLists) → IsReadTo before elements left read names → left ≡ [] → references_from before elements ≡ Ok (read, names)
all_read before elements left read names so_far none =
    so_far.is ∙ ap (behind read) (ap (references_from names) none ∙ none_more names) ∙ ap (λ all. Ok (all, names)) (append-nil read)
