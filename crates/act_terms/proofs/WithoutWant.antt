-- Terms that are read without want of memory: where what is said of a term isn't that memory ran out, the field was read without it too.
use Rattle.std.proofs.Common.{◌≡◌, ◌≢◌, ℕ, List, Option, Some, None, option_map, Result, Ok, Err, IsErrAnd, sym, ap, ◌∙◌}
use Rattle.act_json.specs.Results.{result_map}
use Rattle.act_json.specs.declared.fault.JsonFault.{JsonFault}
use Rattle.act_json.specs.declared.fault.JsonFault.TheVariants as json
use Rattle.act_terms.specs.Fault.{fault_at, read_map}
use Rattle.act_terms.specs.Fields.{needed, optional}
use Rattle.act_terms.specs.declared.fault.TermsFault.{TermsFault}
use Rattle.act_terms.specs.declared.fault.TermsFault.TheVariants.{NoMemory}

-- what is read, and what is refused, is no want of memory
pub ok_read : {A : Type 0} (value : A) → Ok value ≢ Err NoMemory
ok_read value e = absurd (cc)

pub err_read : {A : Type 0} (fault : TermsFault) → fault ≢ NoMemory → ◌≢◌ {A = Result A TermsFault} (Err fault) (Err NoMemory)
err_read fault read e = read (cc)

-- a fault that is passed on
pub given_up : {A : Type 0} (result : Result A TermsFault) (fault : TermsFault) → IsErrAnd result (λ f. f ≡ fault) → result ≡ Err fault
given_up (Ok value) fault is = absurd is
given_up (Err other) fault is = ap Err is

pub given_up_field : {A : Type 0} (result : Result A JsonFault) (fault : JsonFault) → IsErrAnd result (λ f. f ≡ fault) → result ≡ Err fault
given_up_field (Ok value) fault is = absurd is
given_up_field (Err other) fault is = ap Err is

-- ---- texts, which are seen as their bytes

pub needed_text : {A B : Type 0} (f : A → B) (term : List ℕ) (found : Result (Option A) JsonFault) (said : Result (Option B) JsonFault) (value : A)
    → Ok value ≡ needed term found → (found ≢ Err json.NoMemory → result_map (option_map f) found ≡ said) → needed term said ≡ Ok (f value)
needed_text f term (Ok None) said value e same = absurd (cc)
needed_text f term (Ok (Some text)) said value e same =
    let v : value ≡ text = cc in
    ap (needed term) (sym (same (λ want. cc))) ∙ ap (λ x. Ok (f x)) (sym v)
needed_text f term (Err fault) said value e same = absurd (cc)

pub optional_text : {A B : Type 0} (f : A → B) (term : List ℕ) (found : Result (Option A) JsonFault) (said : Result (Option B) JsonFault) (value : Option A)
    → Ok value ≡ optional term found → (found ≢ Err json.NoMemory → result_map (option_map f) found ≡ said) → optional term said ≡ Ok (option_map f value)
optional_text f term (Ok given) said value e same =
    let v : value ≡ given = cc in
    ap (optional term) (sym (same (λ want. cc))) ∙ ap (λ x. Ok (option_map f x)) (sym v)
optional_text f term (Err fault) said value e same = absurd (cc)

-- the fault of a field's fault; of a field that has none, anything
abbrev fault_of_json : {A : Type 0} → List ℕ → Result A JsonFault → TermsFault
fault_of_json term (Ok value) = NoMemory
fault_of_json term (Err fault) = fault_at term fault

pub optional_fault : {A B : Type 0} (f : A → B) (term : List ℕ) (found : Result (Option A) JsonFault) (said : Result (Option B) JsonFault) (fault : TermsFault)
    → Err fault ≡ optional term found → fault ≢ NoMemory → (found ≢ Err json.NoMemory → result_map (option_map f) found ≡ said) → optional term said ≡ Err fault
optional_fault f term (Ok given) said fault e read same = absurd (cc)
optional_fault f term (Err other) said fault e read same =
    ap (optional term) (sym (same (λ want. read (let g : fault_at term other ≡ NoMemory = ap (fault_of_json term) want in cc)))) ∙ (cc)

pub needed_fault : {A B : Type 0} (f : A → B) (term : List ℕ) (found : Result (Option A) JsonFault) (said : Result (Option B) JsonFault) (fault : TermsFault)
    → Err fault ≡ needed term found → fault ≢ NoMemory → (found ≢ Err json.NoMemory → result_map (option_map f) found ≡ said) → needed term said ≡ Err fault
needed_fault f term (Ok None) said fault e read same = ap (needed term) (sym (same (λ want. cc))) ∙ (cc)
needed_fault f term (Ok (Some value)) said fault e read same = absurd (cc)
needed_fault f term (Err other) said fault e read same =
    ap (needed term) (sym (same (λ want. read (let g : fault_at term other ≡ NoMemory = ap (fault_of_json term) want in cc)))) ∙ (cc)

-- a field that may be left out, seen as its bytes
pub optional_seen : {A B : Type 0} (f : A → B) (term : List ℕ) (found : Result (Option A) JsonFault) (said : Result (Option B) JsonFault)
    → result_map (option_map f) found ≡ said → read_map (option_map f) (optional term found) ≡ optional term said
optional_seen f term (Ok given) said same = ap (optional term) same
optional_seen f term (Err fault) said same = ap (optional term) same
