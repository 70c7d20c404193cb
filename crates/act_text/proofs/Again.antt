-- A line whose day alone is written anew.
use Rattle.std.proofs.Common.{◌≡◌, ℕ, ◌+◌, ◌-◌, ◌≤◌, true, ◌&&◌, List, ◌++◌, length, take, drop, refl, sym, ap, ◌∙◌, arith, int_eq, nat_eq}
use Rattle.std.proofs.lemmas.Bool.{eqb-true}
use Rattle.std.proofs.lemmas.Bool.Decides.{Decides-int_eq}
use denote.Enum.Bare.{same_true, sameb}
use Rattle.act_model.proofs.Slims.{both}
use Rattle.act_model.specs.contracts.event.EventType.{the_type}
use Rattle.act_text.specs.declared.row.OtherCells.{OtherCells}
use Rattle.std.proofs.Math.Seq.{take-append-add}
use Rattle.std.proofs.lemmas.List.{drop-take}

-- the first bytes of the whole are those of the front and of the rest
pub put_in_front : (front xs : List ℕ) (end : ℕ) → length front ≡ 10 → 10 ≤ end → take end (front ++ drop 10 xs) ≡ front ++ drop 10 (take end xs)
put_in_front front xs end long within =
    let n : end ≡ length front + (end - 10) = omega (arith, long, within) in
    ap (λ k. take k (front ++ drop 10 xs)) n
    ∙ take-append-add front (drop 10 xs) (end - 10)
    ∙ ap (λ rest. front ++ rest) (sym (drop-take 10 (end - 10) xs) ∙ ap (λ k. drop 10 (take k xs)) (omega (arith, within)))

-- what is found equal is the same
pub same_cells : (a b : OtherCells)
    → (sameb the_type a.kind b.kind && (nat_eq a.currency b.currency && (int_eq a.payoff b.payoff && (int_eq a.notional b.notional && (int_eq a.rate b.rate && int_eq a.interest b.interest))))) ≡ true
    → a ≡ b
same_cells a b e =
    let from_currency = both _ _ e in
    let from_payoff = both _ _ from_currency.1 in
    let from_notional = both _ _ from_payoff.1 in
    let from_rate = both _ _ from_notional.1 in
    let from_interest = both _ _ from_rate.1 in
    let kind : a.kind ≡ b.kind = same_true the_type tt a.kind b.kind from_currency.0 in
    let currency : a.currency ≡ b.currency = eqb-true a.currency b.currency from_payoff.0 in
    let payoff : a.payoff ≡ b.payoff = (Decides-int_eq _ _).0 from_notional.0 in
    let notional : a.notional ≡ b.notional = (Decides-int_eq _ _).0 from_rate.0 in
    let rate : a.rate ≡ b.rate = (Decides-int_eq _ _).0 from_interest.0 in
    let interest : a.interest ≡ b.interest = (Decides-int_eq _ _).0 from_interest.1 in
    let one : OtherCells = record { kind = a.kind; currency = a.currency; payoff = a.payoff; notional = a.notional; rate = a.rate; interest = a.interest } in
    let other : OtherCells = record { kind = b.kind; currency = b.currency; payoff = b.payoff; notional = b.notional; rate = b.rate; interest = b.interest } in
    let same : one ≡ other = simp (kind, currency, payoff, notional, rate, interest) refl in
    same
