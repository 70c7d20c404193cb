-- Refusals of a portfolio, and one step of reading after another. This profile's own.
use Rattle.std.specs.Prelude.{ℕ, suc, List, [], codes, map, slice_get, slice_index, unwrap_or, Option, Some, None, Result, Ok, Err}
use Rattle.std.specs.List.{join_with_byte}
use Rattle.std.specs.Str.{byte}
use Rattle.act_model.specs.declared.run.PlanFault.{PlanFault}
use Rattle.act_model.specs.declared.run.PlanFault.TheVariants as plan
use Rattle.act_profile.specs.Outcomes.{then_ok}
use Rattle.act_terms.specs.Fault.{refusal_number}
use Rattle.act_terms.specs.declared.fault.TermsFault.{TermsFault}
use Rattle.act_terms.specs.declared.fault.TermsFault.TheVariants as terms
use Rattle.act_refusal.specs.declared.fault.PortfolioFault.{PortfolioFault}
use Rattle.act_refusal.specs.declared.fault.PortfolioFault.TheVariants as fault

-- why a portfolio is refused: a number, the place of the contract from 1 (0 where it is the whole file), and a term, a name or `-`
pub record Refusal : Type 0 where
  pub number : ℕ
  pub place : ℕ
  pub what : List ℕ

infixl 10 ◌>>=◌
-- the next step over what one gives
abbrev pub ◌>>=◌ : {A B : Type 0} → Result A Refusal → (A → Result B Refusal) → Result B Refusal
read >>= next = then_ok next read

-- nothing is named
abbrev pub nothing : List ℕ
nothing = codes "-"

-- the bytes are no JSON
abbrev pub no_json : Refusal
no_json = record { number = 10; place = 0; what = nothing }

-- the JSON value is no list
abbrev pub no_list : Refusal
no_list = record { number = 11; place = 0; what = nothing }

-- the contract at a place from 0 is the first past the limit
abbrev pub too_many_contracts : ℕ → Refusal
too_many_contracts place = record { number = 16; place = suc place; what = nothing }

-- a contract, by its place from 0, has the name of one before it
abbrev pub repeated_id : ℕ → Refusal
repeated_id place = record { number = 17; place = suc place; what = codes "contractID" }

-- the references of a contract, by its place from 0, don't fit its kind
abbrev pub bad_reference : ℕ → Refusal
bad_reference place = record { number = 20; place = suc place; what = codes "contractStructure" }

-- a contract, by its place from 0, refers to a contract by a name that none has
abbrev pub unknown_contract : ℕ → List ℕ → Refusal
unknown_contract place name = record { number = 21; place = suc place; what = name }

-- contracts refer to one another in a cycle, which starts at the first of these places from 0; their names stand with spaces between
abbrev pub in_cycle : List (List ℕ) → List ℕ → Refusal
in_cycle ids cycle = record {
  number = 22;
  place = suc (slice_index cycle 0);
  what = join_with_byte (byte " ") (map (λ c. unwrap_or (slice_get ids c) []) cycle);
}

-- a chain of more contracts than there may be starts at a contract, by its place from 0
abbrev pub too_deep : ℕ → Refusal
too_deep place = record { number = 23; place = suc place; what = nothing }

-- a term of the contract at a place from 0 is refused. Want of memory is no refusal, and no definition gives it
abbrev pub refused_terms : ℕ → TermsFault → Refusal
refused_terms place (terms.Refused term) = record { number = refusal_number term.cause; place = suc place; what = term.term }
refused_terms place terms.NoMemory = record { number = 0; place = suc place; what = nothing }

-- the contract at a place from 0 has no plan. Want of memory is no refusal here either
abbrev pub refused_plan : ℕ → PlanFault → Refusal
refused_plan place plan.TooManyDates = record { number = 18; place = suc place; what = nothing }
refused_plan place plan.DateRange = record { number = 19; place = suc place; what = nothing }
refused_plan place plan.NoMemory = record { number = 0; place = suc place; what = nothing }

-- a result with its fault as a refusal
abbrev pub refusing : {A E : Type 0} → (E → Refusal) → Result A E → Result A Refusal
refusing refusal (Ok read) = Ok read
refusing refusal (Err fault) = Err (refusal fault)

-- the refusal that a fault is; want of memory is none
abbrev pub refusal_of : PortfolioFault → Option Refusal
refusal_of (fault.Refused number place what) = Some (record { number = number; place = place; what = what.items })
refusal_of fault.NoMemory = None
