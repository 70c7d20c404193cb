-- Names among those of terms.
use Rattle.std.proofs.Common.{◌≡◌, ℕ, nat_eq, length, Bool, false, ◌||◌, ◌⊎◌, inl, inr, List, [], ◌∷◌, ◌++◌, map, refl, ap, ◌∙◌}
use Rattle.std.proofs.lemmas.List.Folds.{list_any-append}
use Rattle.std.specs.List.{list_any}
use Rattle.std.specs.Str.{bytes_eq}
use Rattle.act_model.specs.declared.choice.ContractType.{ContractType}
use Rattle.act_model.specs.declared.choice.ContractType.TheVariants as type
use Rattle.act_json.proofs.Trees.{lengths_differ}
use Rattle.act_terms.specs.Used.{common_terms, is_among, is_term_of, loan_terms, own_terms, redemption_terms, settlement_terms, shared_terms, trade_terms}

-- names of different lengths are different
pub other_length : (first second : List ℕ) → nat_eq (length first) (length second) ≡ false → bytes_eq first second ≡ false
other_length first second differ = lengths_differ first second differ

pub list_any-map : {X Y : Type 0} (p : Y → Bool) (f : X → Y) (xs : List X) → list_any (λ x. p (f x)) xs ≡ list_any p (map f xs)
list_any-map p f [] = refl
list_any-map p f (x ∷ xs) = ap (λ b. p (f x) || b) (list_any-map p f xs)

-- a name is among two lists where it is among the one or the other
among_both : (first second : List (List ℕ)) (name : List ℕ) → is_among (first ++ second) name ≡ (is_among first name || is_among second name)
among_both first second name = list_any-append (λ n. bytes_eq n name) first second

-- a term of a type is one that it shares with others, or one of its own
pub term_is : (type : ContractType) (name : List ℕ) → is_term_of type name ≡ (is_among (shared_terms type) name || is_among (own_terms type) name)
unfolding is_term_of
term_is type name = among_both (shared_terms type) (own_terms type) name

-- a shared term is one of the first of these, or one of purchase and termination
pub shared_is : (type : ContractType) (name : List ℕ)
    → is_among (shared_terms type) name ≡ (is_among (common_terms ++ settlement_terms type) name || is_among (trade_terms type) name)
shared_is type name = among_both (common_terms ++ settlement_terms type) (trade_terms type) name

-- one of the first is one that every contract has, or the currency of settlement
pub money_is : (type : ContractType) (name : List ℕ)
    → is_among (common_terms ++ settlement_terms type) name ≡ (is_among common_terms name || is_among (settlement_terms type) name)
money_is type name = among_both common_terms (settlement_terms type) name

-- the terms of a loan whose principal is redeemed are those that all loans have, and those of redemption
abbrev Redeems : ContractType → Type 0
Redeems given = (given ≡ type.LAM) ⊎ ((given ≡ type.NAM) ⊎ (given ≡ type.ANN))

own_of : (type : ContractType) → Redeems type → own_terms type ≡ loan_terms ++ redemption_terms
own_of type (inl is) = ap own_terms is
own_of type (inr (inl is)) = ap own_terms is
own_of type (inr (inr is)) = ap own_terms is

pub own_is : (type : ContractType) (name : List ℕ) → Redeems type → is_among (own_terms type) name ≡ (is_among loan_terms name || is_among redemption_terms name)
own_is type name redeems = ap (λ names. is_among names name) (own_of type redeems) ∙ among_both loan_terms redemption_terms name
