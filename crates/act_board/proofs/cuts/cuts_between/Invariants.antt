use Rattle.std.proofs.Common.{◌≡◌, ◌≤ℤ◌, ℕ, ℤ, Option, length, max, min, Some}
use Rattle.std.specs.List.{slice_get}
use Rattle.std.specs.Option.{IfSome}
use Rattle.act_date.specs.Civil.{last_day}
use Rattle.act_profile.specs.Reads.{cut_of}
use Rattle.act_board.proofs.cuts.cuts_between.Given as goal

-- the contracts before this one are told of
abbrev pub invariant-contracts : goal.invariant-contracts
invariant-contracts l = record {
  count : length l.cuts.items ≡ l.contract;
  each : (c : ℕ) (cut : Option ℤ) → slice_get l.cuts.items c ≡ Some cut → (cut ≡ cut_of l.portfolio.contracts c l.fn.book (min l.one l.other) (max l.one l.other)) × IfSome cut (λ day. day ≤ℤ last_day);
  same : l.book ≡ l.fn.book;
}
