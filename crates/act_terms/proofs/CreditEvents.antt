-- The types of credit events that values name, read one by one.
use Rattle.std.proofs.Common.{◌≡◌, List, [], ◌∷◌, ◌++◌, Result, Ok, Err, refl, ap, sym, ◌∙◌, append_assoc, append-nil}
use Rattle.act_model.specs.declared.observed.ObsKind.{ObsKind}
use Rattle.act_profile.specs.Outcomes.{then_ok}
use Rattle.serde_json.specs.Data.{Data}
use Rattle.act_terms.specs.Credit.{credit_event_in, credit_events_from}
use Rattle.act_terms.specs.declared.fault.TermsFault.{TermsFault}

abbrev pub Read : Type 0
Read = Result (List ObsKind) TermsFault

-- what is read behind some types
abbrev pub behind : List ObsKind → Read → Read
behind read (Ok more) = Ok (read ++ more)
behind read (Err fault) = Err fault

behind-nil : (r : Read) → r ≡ behind [] r
behind-nil (Ok more) = refl
behind-nil (Err fault) = refl

behind-behind : (read : List ObsKind) (one : ObsKind) (r : Read) → behind read (behind (one ∷ []) r) ≡ behind (read ++ one ∷ []) r
behind-behind read one (Ok more) = ap (λ all. Ok all) (sym (append_assoc read (one ∷ []) more))
behind-behind read one (Err fault) = refl

-- the values up to a place are read, and those from there on are left
pub record IsReadTo (values left : List Data) (read : List ObsKind) : Type 0 where
  pub is : credit_events_from values ≡ behind read (credit_events_from left)

pub none_read : (values : List Data) → IsReadTo values values []
none_read values = record { is = behind-nil _ }

with_rest : (one : ObsKind) (r : Read) → then_ok (λ rest. Ok (one ∷ rest)) r ≡ behind (one ∷ []) r
with_rest one (Ok more) = refl
with_rest one (Err fault) = refl

first_read : (d : Data) (ds : List Data) (one : ObsKind) → credit_event_in d ≡ Ok one → credit_events_from (d ∷ ds) ≡ behind (one ∷ []) (credit_events_from ds)
unfolding credit_events_from
first_read d ds one is = rw is (with_rest one (credit_events_from ds))

pub one_read : (values left more : List Data) (read : List ObsKind) (d : Data) (one : ObsKind) → IsReadTo values left read → left ≡ d ∷ more → credit_event_in d ≡ Ok one
    → IsReadTo values more (read ++ one ∷ [])
one_read values left more read d one so_far here is = record {
  is = so_far.is ∙ ap (behind read) (ap credit_events_from here ∙ first_read d more one is) ∙ behind-behind read one _;
}

first_refused : (d : Data) (ds : List Data) (fault : TermsFault) → credit_event_in d ≡ Err fault → credit_events_from (d ∷ ds) ≡ Err fault
unfolding credit_events_from
first_refused d ds fault is = rw is refl

pub one_refused : (values left more : List Data) (read : List ObsKind) (d : Data) (fault : TermsFault) → IsReadTo values left read → left ≡ d ∷ more → credit_event_in d ≡ Err fault
    → credit_events_from values ≡ Err fault
one_refused values left more read d fault so_far here is = so_far.is ∙ ap (behind read) (ap credit_events_from here ∙ first_refused d more fault is)

none_more : credit_events_from [] ≡ Ok []
unfolding credit_events_from
none_more = refl

pub all_read : (values left : List Data) (read : List ObsKind) → IsReadTo values left read → left ≡ [] → credit_events_from values ≡ Ok read
all_read values left read so_far none = so_far.is ∙ ap (behind read) (ap credit_events_from none ∙ none_more) ∙ ap (λ all. Ok all) (append-nil read)
