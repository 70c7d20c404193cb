-- What a board tells of a caller's quota and of how much it has asked.
use Rattle.std.proofs.Common.{◌≡◌, ℕ, zero, suc, ◌-◌, ◌<◌, ◌≤◌, List, [], ◌∷◌, length, Some, refl, sym, ap, ◌∙◌, arith}
use Rattle.std.specs.List.{slice_get}
use Rattle.std.proofs.lemmas.Option.{same_Some}
use Rattle.act_history.specs.History.{History, asks_by, open_asks}
use Rattle.act_keeping.specs.Keeping.{IsBoard, IsCaller, Keeping}
use Rattle.act_history.specs.Legal.{HasQuota}
use Rattle.act_keeping.specs.declared.caller.Caller.{Caller}
use Rattle.act_keeping.proofs.Boards.{caller-told}
use Rattle.act_keeping.proofs.Callers.{sum-written}

module _ (history : History) (kept : Keeping) (b : IsBoard history kept)
    (i : ℕ) (caller : Caller) (from : 1 ≤ i) (at : slice_get kept.callers (i - 1) ≡ Some caller) where
  told : (quota : ℕ) × (slice_get history.quotas (i - 1) ≡ Some quota) × IsCaller history i quota caller
  told = caller-told history kept b i caller from at

  pub quota-spent : caller.remaining ≡ 0 → ¬ (HasQuota history i)
  quota-spent none has =
      let place : has.0 ≡ i - 1 = omega (arith, has.2) in
      let same : has.1 ≡ told.0 = same_Some has.1 told.0 (sym has.3 ∙ (ap (λ (k : ℕ). slice_get history.quotas k) place ∙ told.1)) in
      absurd (omega (arith, has.4, same, told.2.quota, none))

  pub quota-left : 0 < caller.remaining → HasQuota history i
  quota-left some = (i - 1, told.0, omega arith, told.1, omega (arith, some, told.2.quota))

  pub few-open : length (open_asks history i) ≡ length caller.open_asks.items
  few-open = sym (ap length told.2.still_open)

  pub few-asked : length (asks_by history i) ≡ caller.asked
  few-asked = sym told.2.asked

  pub open-within : length caller.open_asks.items ≤ 256
  open-within = told.2.few_open

  -- ---- a caller that may append

  pub some-left : HasQuota history i → 0 < caller.remaining
  some-left has =
      let place : has.0 ≡ i - 1 = omega (arith, has.2) in
      let same : has.1 ≡ told.0 = same_Some has.1 told.0 (sym has.3 ∙ (ap (λ (k : ℕ). slice_get history.quotas k) place ∙ told.1)) in
      omega (arith, has.4, same, told.2.quota)

  -- the book has room for its entry
  pub book-room : 0 < caller.remaining → length kept.book < 1_048_576
  book-room some =
      let spent : Caller = record { left = caller.left; remaining = 0; asked = caller.asked; open_asks = caller.open_asks } in
      omega (arith, b.fits, some, sum-written (λ (one : Caller). one.remaining) kept.callers (i - 1) caller spent at)

-- the element at a place
pub some-at : {X : Type 0} (xs : List X) (k : ℕ) → k < length xs → (x : X) × (slice_get xs k ≡ Some x)
some-at [] k lt = absurd (omega arith)
some-at (x ∷ xs) zero lt = (x, refl)
some-at (x ∷ xs) (suc k) lt = some-at xs k (omega arith)
