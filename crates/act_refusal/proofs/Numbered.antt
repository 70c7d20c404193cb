-- The contracts that are read have the events that are observed under their places.
use Rattle.std.proofs.Common.{◌≡◌, ℕ, zero, suc, ◌+◌, false, List, [], ◌∷◌, codes, Some, Result, Ok, Err, IfOk, refl, slice_get, arith}
use Rattle.std.proofs.lemmas.Option.{same_Some}
use Rattle.std.proofs.lemmas.Result.{IfOk-at_ok}
use Rattle.act_model.specs.Names.{NameLists, no_names}
use Rattle.act_model.specs.declared.choice.ContractType.{ContractType}
use Rattle.act_model.specs.declared.terms.Common.{Common}
use Rattle.act_model.specs.declared.terms.Terms.{Terms}
use Rattle.act_profile.specs.Contract.{observed_as}
use Rattle.act_profile.specs.Outcomes.{then_ok}
use Rattle.act_terms.specs.Common.{business_days_of, common_of, position_of, trades_of}
use Rattle.act_terms.specs.Contract.{NamedTerms, contract_of, contract_type, kind_of, named_terms_of, terms_of}
use Rattle.act_terms.specs.Names.{code_where, contract_id, currencies_of}
use Rattle.act_terms.specs.Structure.{references_of}
use Rattle.serde_json.specs.Data.{Data, object}
use Rattle.act_refusal.specs.Known.{AreNumbered}
use Rattle.act_refusal.specs.Steps.{contracts_from}
use Rattle.act_refusal.specs.Refusal.{Refusal, refused_terms, refusing}

-- ---- one step after another

module _ {A B E : Type 0} (P : B → Type 0) where
  -- whatever is read first, P holds of what is read behind it
  whatever : (next : A → Result B E) (read : Result A E) → ((x : A) → IfOk (next x) P) → IfOk (then_ok next read) P
  whatever next (Ok x) holds = holds x
  whatever next (Err fault) holds = tt

  -- P holds of what is read behind what Q holds of
  knowing : (Q : A → Type 0) (next : A → Result B E) (read : Result A E) → IfOk read Q → ((x : A) → Q x → IfOk (next x) P) → IfOk (then_ok next read) P
  knowing Q next (Ok x) here holds = holds x here
  knowing Q next (Err fault) here holds = tt

-- a fault as a refusal changes nothing of what is read
still_read : {A E : Type 0} (P : A → Type 0) (refusal : E → Refusal) (read : Result A E) → IfOk read P → IfOk (refusing refusal read) P
still_read P refusal (Ok x) here = here
still_read P refusal (Err fault) here = tt

-- ---- one contract

-- what is read has the events that are observed under a number
abbrev CommonAs : ℕ → Common × NameLists → Type 0
CommonAs number read = observed_as read.0 ≡ number

abbrev TermsAs : ℕ → Terms × NameLists → Type 0
TermsAs number read = observed_as read.0.common ≡ number

abbrev ContractAs : ℕ → NamedTerms × NameLists → Type 0
ContractAs number read = observed_as read.0.terms.common ≡ number

common_as : (type : ContractType) (number : ℕ) (names : NameLists) (contract : Data) → IfOk (common_of type number names contract) (CommonAs number)
unfolding common_of
common_as type number names contract =
    whatever (CommonAs number) _ (position_of contract) (λ position.
    whatever (CommonAs number) _ (currencies_of type names contract) (λ money.
    whatever (CommonAs number) _ (business_days_of contract) (λ days.
    whatever (CommonAs number) _ (code_where false (codes "marketObjectCode") money.1 contract) (λ market.
    whatever (CommonAs number) _ (trades_of type contract) (λ trades. refl)))))

terms_as : (type : ContractType) (number : ℕ) (names : NameLists) (contract : Data) → IfOk (terms_of type number names contract) (TermsAs number)
unfolding terms_of
terms_as type number names contract =
    knowing (TermsAs number) (CommonAs number) _ (common_of type number names contract) (common_as type number names contract) (λ common is.
    whatever (TermsAs number) _ (kind_of type common.1 contract) (λ own. is))

named_as : (number : ℕ) (names : NameLists) (contract : Data) → IfOk (named_terms_of number names contract) (ContractAs number)
unfolding named_terms_of
named_as number names contract =
    whatever (ContractAs number) _ (contract_id contract) (λ id.
    whatever (ContractAs number) _ (contract_type contract) (λ type.
    knowing (ContractAs number) (TermsAs number) _ (terms_of type number names contract) (terms_as type number names contract) (λ terms is.
    whatever (ContractAs number) _ (references_of type terms.1 contract) (λ references. is))))

contract_as : (number : ℕ) (names : NameLists) (contract : Data) → IfOk (contract_of number names contract) (ContractAs number)
unfolding contract_of
contract_as number names (object members) = named_as number names (object members)
contract_as number names other = tt

-- ---- one contract after another

-- contracts have the events that are observed under their places from a number on
abbrev AllFrom : ℕ → List NamedTerms × NameLists → Type 0
AllFrom i read = (place : ℕ) (c : NamedTerms) → slice_get read.0 place ≡ Some c → observed_as c.terms.common ≡ i + place

one_before : (i : ℕ) (first : NamedTerms) (rest : List NamedTerms) (names : NameLists) → observed_as first.terms.common ≡ i → AllFrom (suc i) (rest, names) → AllFrom i (first ∷ rest, names)
one_before i first rest names is are zero c here = let same : first ≡ c = same_Some _ _ here in rw (← same) (omega (arith, is))
one_before i first rest names is are (suc place) c here = let later = are place c here in omega (arith, later)

all_from : (contracts : List Data) (i : ℕ) (names : NameLists) → IfOk (contracts_from i names contracts) (AllFrom i)
unfolding contracts_from
all_from [] i names = λ place c here. absurd (cc)
all_from (d ∷ ds) i names =
    knowing (AllFrom i) (ContractAs i) _ (refusing (refused_terms i) (contract_of i names d)) (still_read (ContractAs i) (refused_terms i) (contract_of i names d) (contract_as i names d)) (λ first is.
    knowing (AllFrom i) (AllFrom (suc i)) _ (contracts_from (suc i) first.1 ds) (all_from ds (suc i) first.1) (λ rest are. one_before i first.0 rest.0 rest.1 is are))

pub are_numbered : (contracts : List Data) (named : List NamedTerms) (names : NameLists) → contracts_from zero no_names contracts ≡ Ok (named, names) → AreNumbered named
are_numbered contracts named names read =
    record { each = λ place c here. let is = IfOk-at_ok (AllFrom zero) read (all_from contracts zero no_names) place c here in omega (arith, is) }
