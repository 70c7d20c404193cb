-- Callers that ask for all contracts and wait.
use Rattle.std.proofs.Common.{◌≡◌, ℕ, suc, ◌-◌, ◌≤◌, true, List, [], ◌∷◌, inl, inr, refl, sym, subst, arith}
use Rattle.std.proofs.lemmas.List.Elements.{All-cons, All-nil}
use Rattle.std.proofs.lemmas.Option.{slice_get_cases}
use Rattle.act_model.specs.Journal.{appends_entry}
use Rattle.act_model.specs.declared.journal.Asked.TheVariants as asked
use Rattle.act_model.specs.declared.journal.Line.{Line}
use Rattle.act_model.specs.declared.journal.Step.TheVariants.{Ask}
use Rattle.act_accepted.specs.Accepted.{Accepted}
use Rattle.act_turn.specs.Standing.{Standing}
use Rattle.act_history.specs.History.{History}
use Rattle.act_board.specs.declared.history.Entry.{Entry}
use Rattle.act_desk.specs.Desk.{Desk}
use Rattle.act_desk.specs.Making.{HasRoom, IsAt, MayMake, asks_known}
use Rattle.act_desk.specs.Step.{HasSeen, opening}
use Rattle.cases_desks.specs.Caller.{IsFirst}

-- the line that asks for all contracts
abbrev pub ask_all : Line
ask_all = record { step = Ask asked.All; line = 1 }

module _ (desk : Desk) (callers number : ℕ) (pass : Standing Entry) (is : IsFirst desk callers number pass) where
  -- a pass that hasn't had a turn is at its desk
  pub first-at : IsAt desk number pass
  first-at = record {
    free = is.free;
    own = is.number_is;
    portfolio = record { history = opening desk.portfolio is.seen.0; seen = is.seen.2; holds = refl };
  }

  -- a caller that appends nothing has room for it
  room : number ≤ callers → HasRoom (opening desk.portfolio is.seen.0) number 0
  room within =
      let next : number ≡ suc (number - 1) = omega (arith, is.from) in
      elim (slice_get_cases is.seen.0 (number - 1)).1 [
        | inl found ↦ (number - 1, found.0, next, found.2, omega arith)
        | inr past ↦ absurd (omega (arith, past.0, within, is.from, is.seen.1))
      ]

  -- and its caller may ask for all
  pub may-ask : number ≤ callers → (lines : List Line) → lines ≡ ask_all ∷ [] → HasSeen pass (λ history. MayMake history number lines)
  may-ask within lines same = record {
    history = opening desk.portfolio is.seen.0;
    seen = is.seen.2;
    holds = subst (λ (ls : List Line). MayMake (opening desk.portfolio is.seen.0) number ls) (sym same) (record {
      present = record { from = is.from; to = omega (arith, within, is.seen.1); here = refl };
      collected = refl;
      room = room within;
      few = omega arith;
      entries = All-cons (λ (line : Line). appends_entry line.step ≡ true) ask_all [] refl (All-nil (λ (line : Line). appends_entry line.step ≡ true));
      known = All-cons (λ (line : Line). asks_known desk.portfolio.names line.step ≡ true) ask_all [] refl (All-nil (λ (line : Line). asks_known desk.portfolio.names line.step ≡ true));
    });
  }
