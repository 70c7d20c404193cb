-- The contracts of a list, read one by one.
use Rattle.std.proofs.Common.{◌≡◌, ℕ, zero, suc, ◌+◌, List, [], ◌∷◌, ◌++◌, Result, Ok, Err, refl, ap, sym, ◌∙◌, add-one, append_assoc, append-nil, arith}
use Rattle.std.proofs.lemmas.List.Elements.{All-append, All-cons, All-nil}
use Rattle.std.specs.List.{All}
use Rattle.act_model.specs.Names.{NameLists, no_names}
use Rattle.act_profile.specs.Outcomes.{then_ok}
use Rattle.act_terms.proofs.TermsNamed.{named_more}
use Rattle.act_terms.specs.Contract.{NamedTerms, contract_of}
use Rattle.act_terms.specs.Named.{Grow, IsNamedIn}
use Rattle.serde_json.specs.Data.{Data}
use Rattle.act_refusal.specs.Known.{IsContract}
use Rattle.act_refusal.specs.Steps.{contracts_from}
use Rattle.act_refusal.specs.Refusal.{Refusal, refused_terms, refusing}

abbrev pub Read : Type 0
Read = Result (List NamedTerms × NameLists) Refusal

-- what is read behind some contracts
abbrev pub behind : List NamedTerms → Read → Read
behind read (Ok more) = Ok (read ++ more.0, more.1)
behind read (Err refusal) = Err refusal

behind-nil : (r : Read) → r ≡ behind [] r
behind-nil (Ok more) = refl
behind-nil (Err refusal) = refl

behind-behind : (read : List NamedTerms) (c : NamedTerms) (r : Read) → behind read (behind (c ∷ []) r) ≡ behind (read ++ c ∷ []) r
behind-behind read c (Ok more) = ap (λ all. Ok (all, more.1)) (sym (append_assoc read (c ∷ []) more.0))
behind-behind read c (Err refusal) = refl

-- contracts are read up to a place, and those from there on are left
pub record IsReadTo (contracts left : List Data) (read : List NamedTerms) (names : NameLists) (i : ℕ) : Type 0 where
  pub is : contracts_from zero no_names contracts ≡ behind read (contracts_from i names left)
  pub known : All IsContract read
  pub unnamed : names.contracts ≡ []
  pub named : All (IsNamedIn names) read

pub none_read : (contracts : List Data) (names : NameLists) → names ≡ no_names → IsReadTo contracts contracts [] names 0
none_read contracts names fresh = record {
  is = rw fresh (behind-nil _);
  known = λ k d within. absurd (omega arith);
  unnamed = rw fresh refl;
  named = λ k d within. absurd (omega arith);
}

with_rest : (c : NamedTerms) (r : Read) → then_ok (λ rest. Ok (c ∷ rest.0, rest.1)) r ≡ behind (c ∷ []) r
with_rest c (Ok more) = refl
with_rest c (Err refusal) = refl

first_read : (i : ℕ) (names after : NameLists) (d : Data) (ds : List Data) (c : NamedTerms) → contract_of i names d ≡ Ok (c, after) → contracts_from i names (d ∷ ds) ≡ behind (c ∷ []) (contracts_from (suc i) after ds)
unfolding contracts_from
first_read i names after d ds c is = rw is (with_rest c (contracts_from (suc i) after ds))

of_one : (P : NamedTerms → Type 0) (c : NamedTerms) → P c → All P (c ∷ [])
of_one P c is = All-cons P c [] is (All-nil P)

-- what contracts name among names they name among those that are no fewer
all_more : (names after : NameLists) (read : List NamedTerms) → Grow names after → All (IsNamedIn names) read → All (IsNamedIn after) read
all_more names after read grown named k d within = named_more names after _ grown (named k d within)

pub one_read : (contracts left more : List Data) (read : List NamedTerms) (names after : NameLists) (i : ℕ) (d : Data) (c : NamedTerms) → IsReadTo contracts left read names i → left ≡ d ∷ more
    → contract_of i names d ≡ Ok (c, after) → IsContract c → after.contracts ≡ names.contracts → Grow names after × IsNamedIn after c → IsReadTo contracts more (read ++ c ∷ []) after (i + 1)
one_read contracts left more read names after i d c so_far here is known kept named = record {
  is = so_far.is ∙ ap (behind read) (ap (contracts_from i names) here ∙ first_read i names after d more c is) ∙ behind-behind read c _ ∙ ap (λ n. behind (read ++ c ∷ []) (contracts_from n after more)) (sym (add-one i));
  known = All-append IsContract read (c ∷ []) so_far.known (of_one IsContract c known);
  unnamed = kept ∙ so_far.unnamed;
  named = All-append (IsNamedIn after) read (c ∷ []) (all_more names after read named.0 so_far.named) (of_one (IsNamedIn after) c named.1);
}

first_refused : (i : ℕ) (names : NameLists) (d : Data) (ds : List Data) (refusal : Refusal) → refusing (refused_terms i) (contract_of i names d) ≡ Err refusal → contracts_from i names (d ∷ ds) ≡ Err refusal
unfolding contracts_from
first_refused i names d ds refusal is = rw is refl

pub one_refused : (contracts left more : List Data) (read : List NamedTerms) (names : NameLists) (i : ℕ) (d : Data) (refusal : Refusal) → IsReadTo contracts left read names i → left ≡ d ∷ more
    → refusing (refused_terms i) (contract_of i names d) ≡ Err refusal → contracts_from zero no_names contracts ≡ Err refusal
one_refused contracts left more read names i d refusal so_far here is =
    so_far.is ∙ ap (behind read) (ap (contracts_from i names) here ∙ first_refused i names d more refusal is)

none_more : (i : ℕ) (names : NameLists) → contracts_from i names [] ≡ Ok ([], names)
unfolding contracts_from
none_more i names = refl

pub all_read : (contracts left : List Data) (read : List NamedTerms) (names : NameLists) (i : ℕ) → IsReadTo contracts left read names i → left ≡ [] → contracts_from zero no_names contracts ≡ Ok (read, names)
all_read contracts left read names i so_far none =
    so_far.is ∙ ap (behind read) (ap (contracts_from i names) none ∙ none_more i names) ∙ ap (λ all. Ok (all, names)) (append-nil read)
