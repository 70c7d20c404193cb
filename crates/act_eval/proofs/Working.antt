-- The work of asks, one after another.
use Rattle.std.proofs.Common.{◌≡◌, ℕ, ◌+◌, ◌≤◌, ◌&&◌, if◌then◌else◌, Bool, true, false, List, [], ◌∷◌, ◌++◌, length, take, Option, Some, None, refl, sym, ap, ◌∙◌, arith, append-nil, append_assoc, eq-eqb}
use Rattle.std.specs.Option.{option_or}
use Rattle.std.proofs.lemmas.List.{take_all, take-take}
use Rattle.act_model.specs.declared.asks.Asking.{Asking}
use Rattle.act_model.specs.declared.observed.Obs.{Obs}
use Rattle.act_portfolio.specs.Reading.{Accepted}
use Rattle.act_profile.specs.Kept.{kept_of}
use Rattle.act_profile.specs.Reads.{codes_read, contracts_read, cut_by, cut_of}
use Rattle.act_profile.specs.Run.{Contracts, run_of}
use Rattle.act_eval.specs.Work.{ask_work, asks_work, fresh_rows, kept_later, last_version, reaches}

pub and-false : (b : Bool) → (b && false) ≡ false
and-false true = refl
and-false false = refl

-- the last version, of one ask more
pub last-push : (portfolio : Accepted) (asks : List Asking) (ask : Asking) (c : ℕ) → last_version portfolio (asks ++ ask ∷ []) c ≡ (if reaches portfolio ask c then Some ask.version else last_version portfolio asks c)
last-push portfolio [] ask c = refl
last-push portfolio (one ∷ asks) ask c =
    ap (λ (later : Option ℕ). option_or later (if reaches portfolio one c then Some one.version else None)) (last-push portfolio asks ask c) ∙ by (reaches portfolio ask c) refl
  where
    by : (reached : Bool) → reaches portfolio ask c ≡ reached
        → option_or (if reaches portfolio ask c then Some ask.version else last_version portfolio asks c) (if reaches portfolio one c then Some one.version else None) ≡ (if reaches portfolio ask c then Some ask.version else last_version portfolio (one ∷ asks) c)
    by true is = rw is refl
    by false is = rw is refl

-- the work of one ask more
pub work-push : (portfolio : Accepted) (book : List Obs) (before asks : List Asking) (ask : Asking) → asks_work portfolio book before (asks ++ ask ∷ []) ≡ asks_work portfolio book before asks + ask_work portfolio book (before ++ asks) ask
work-push portfolio book before [] ask = omega (arith, ap (λ (list : List Asking). ask_work portfolio book list ask) (append-nil before))
work-push portfolio book before (one ∷ asks) ask =
    omega (
      arith,
      work-push portfolio book (before ++ one ∷ []) asks ask,
      ap (λ (list : List Asking). ask_work portfolio book list ask) (append_assoc before (one ∷ []) asks),
    )

-- nothing is computed at the same version again
pub none-fresh : (contracts : Contracts) (book : List Obs) (c v : ℕ) → fresh_rows contracts book c (Some v) v ≡ 0
none-fresh contracts book c v = rw (eq-eqb v v refl) refl

-- the cut between two versions is of the entries before the later one
pub cut-same : (codes reads : List ℕ) (one other : List Obs) (u w : ℕ) → take w one ≡ take w other → cut_by codes reads one u w ≡ cut_by codes reads other u w
unfolding cut_by
cut-same codes reads one other u w same = rw same refl

-- the rows over the entries so far are those over the whole book
pub fresh-same : (contracts : Contracts) (c : ℕ) (entries book : List Obs) → take (length entries) book ≡ entries → (last : Option ℕ) → ((u : ℕ) → last ≡ Some u → u ≤ length entries)
    → fresh_rows contracts entries c last (length entries) ≡ fresh_rows contracts book c last (length entries)
fresh-same contracts c entries book begins None early = ap (λ (es : List Obs). length (run_of contracts es c).rows) (take_all (length entries) entries (omega arith) ∙ sym begins)
fresh-same contracts c entries book begins (Some u) early =
    let v = length entries in
    let all : take v entries ≡ take v book = take_all v entries (omega arith) ∙ sym begins in
    let first : take u entries ≡ take u book = ap (take u) (sym begins) ∙ take-take u v book (early u refl) in
    let cut : cut_of contracts c entries u v ≡ cut_of contracts c book u v = cut-same (codes_read contracts c) (contracts_read contracts c) entries book u v all in
    let kept : kept_later contracts entries c u v ≡ kept_later contracts book c u v =
    ap (λ (es : List Obs). kept_of (run_of contracts es c) (cut_of contracts c entries u v)) first ∙ ap (kept_of (run_of contracts (take u book) c)) cut in
    rw (all, kept) refl
