-- What one thread makes of a board that one caller has to itself.
use Rattle.std.proofs.Common.{◌≡◌, ◌≢◌, not, max, min, Option, None, Some, ℕ, zero, suc, ◌+◌, ◌<◌, ◌≤◌, ◌==◌, ◌&&◌, cond, Bool, true, false, List, length, take, Ok, inl, inr, refl, sym, ap, subst, ◌∙◌, arith, eq-eqb, sum_by}
use Rattle.std.specs.List.{Contains, range_with_len}
use Rattle.std.proofs.lemmas.Bool.{and_from, and_parts, cases_Bool, eqb-true}
use Rattle.std.proofs.lemmas.List.{take-append-drop}
use Rattle.std.proofs.lemmas.List.Elements.{Contains-append_right}
use Rattle.act_model.specs.Journal.{book_of, contracts_of}
use Rattle.act_model.specs.declared.asks.Asking.{Asking}
use Rattle.act_model.specs.declared.observed.Obs.{Obs}
use Rattle.act_portfolio.specs.Reading.{Accepted}
use Rattle.act_profile.specs.Kept.{KeptRows}
use Rattle.act_profile.specs.Run.{run_of}
use Rattle.act_refs.specs.Ordered.{goes_on, order_of}
use Rattle.act_refs.specs.Path.{HasPath, IsChild}
use Rattle.act_refs.proofs.Leading.{goes_on-from_path}
use Rattle.act_refs.proofs.Ordering.{order_of-short}
use Rattle.act_refs.proofs.Paths.{HasPath-cons, HasPath-none}
use Rattle.act_board.specs.Calls.{Claims, IsOf, after_finish}
use Rattle.act_keeping.specs.Work.{Work, outcome, version}
use Rattle.act_board.specs.declared.outcome.Claim.TheVariants as claim
use Rattle.act_history.specs.History.{History, IsPresent, IsWanted, and_then, appended_by, asks_by, collected_by, entries_of, has_result, is_append_by, is_claim_of, is_claimed, is_collect_by, is_finish_of, is_give_up, is_leave_by, journal_of, open_asks, version_of, was_claimed}
use Rattle.act_keeping.specs.Latest.{cached_version, kept_at}
use Rattle.act_history.specs.Legal.{IsClaimable, NoneIsClaimable}
use Rattle.act_history.specs.declared.mark.Mark.TheVariants as mark
use Rattle.act_history.proofs.Going.{any-not, any-yes, asks-same, count-not, entries-same, journal-same, open-same}
use Rattle.act_keeping.proofs.Pairs.{claimed-same, result-same, result-stays}
use Rattle.act_history.proofs.Reaching.{reached-child}
use Rattle.act_eval.specs.Driven.{GoesOn, IsAskedFor, IsLater, IsQuiet, OnlyWorks, made_since, rows_left, rows_since}
use Rattle.act_eval.specs.Work.{fresh_rows}
use Rattle.act_eval.proofs.Latest.{cached-finished, cached-has, cached-other, cached-same}
use Rattle.act_eval.proofs.Sums.{sum-more, sum-none}

-- how many contracts have no result at the version
abbrev pub lacking : History → ℕ
lacking history = sum_by (λ c. cond (has_result history c (version_of history)) 0 1) (range_with_len 0 (length history.portfolio.contracts.terms))

-- ---- the one caller

from-open : (history : History) (ask : Asking) → Contains (open_asks history 1) ask → Contains (asks_by history 1) ask
from-open history ask there =
    let n = collected_by history 1 in
    subst (λ (asks : List Asking). Contains asks ask) (take-append-drop n (asks_by history 1)) (Contains-append_right (take n (asks_by history 1)) (open_asks history 1) ask there)

pub quiet-present : (portfolio : Accepted) (history : History) → IsQuiet portfolio history → IsPresent history 1
quiet-present portfolio history quiet = record { from = omega arith; to = omega (arith, quiet.alone); here = quiet.here }

-- what is wanted is by an ask of its own
module _ (portfolio : Accepted) (history : History) (quiet : IsQuiet portfolio history) (c v : ℕ) (wanted : IsWanted history c v) where
  own : wanted.caller ≡ 1
  own = omega (arith, wanted.from, wanted.to, quiet.alone)

  its-ask : Contains (open_asks history 1) wanted.ask
  its-ask = subst (λ (i : ℕ). Contains (open_asks history i) wanted.ask) own wanted.still_open

  pub wanted-now : v ≡ version_of history
  wanted-now = sym wanted.version ∙ quiet.now wanted.ask its-ask

  pub wanted-asked : IsAskedFor history c v
  wanted-asked = record { ask = wanted.ask; made = from-open history wanted.ask its-ask; contract = wanted.contract; version = wanted.version; reached = wanted.reached }

-- ---- an evaluation

test-parts : (c d v w : ℕ) → ((c == d) && (v == w)) ≡ true → (c ≡ d) × (v ≡ w)
test-parts c d v w is = let parts = and_parts (c == d) (v == w) is in (eqb-true c d parts.0, eqb-true v w parts.1)

module _ (portfolio : Accepted) (history : History) (quiet : IsQuiet portfolio history) (c v : ℕ) (claimable : IsClaimable history c v) where
  abbrev pub claiming : History
  claiming = and_then history (mark.Claim c v)

  abbrev pub made : History
  made = and_then claiming (mark.Finish c v)

  abbrev pub is-it : (d w : ℕ) → Bool
  is-it d w = (c == d) && (v == w)

  pub made-entries : entries_of made ≡ entries_of history
  made-entries = entries-same claiming (mark.Finish c v) refl ∙ entries-same history (mark.Claim c v) refl

  pub made-items : journal_of made ≡ journal_of history
  made-items = journal-same claiming (mark.Finish c v) refl ∙ journal-same history (mark.Claim c v) refl

  pub made-asks : asks_by made 1 ≡ asks_by history 1
  made-asks = asks-same 1 claiming (mark.Finish c v) refl ∙ asks-same 1 history (mark.Claim c v) refl

  pub made-open : open_asks made 1 ≡ open_asks history 1
  made-open = open-same 1 claiming (mark.Finish c v) (asks-same 1 claiming (mark.Finish c v) refl) refl ∙ open-same 1 history (mark.Claim c v) (asks-same 1 history (mark.Claim c v) refl) refl

  pub made-collected : collected_by made 1 ≡ collected_by history 1
  made-collected = count-not (is_collect_by 1) claiming.marks (mark.Finish c v) refl ∙ count-not (is_collect_by 1) history.marks (mark.Claim c v) refl

  pub made-appended : appended_by made 1 ≡ appended_by history 1
  made-appended = count-not (is_append_by 1) claiming.marks (mark.Finish c v) refl ∙ count-not (is_append_by 1) history.marks (mark.Claim c v) refl

  pub made-same : (d w : ℕ) → is-it d w ≡ false → has_result made d w ≡ has_result history d w
  made-same d w other = result-same claiming (mark.Finish c v) d w other ∙ result-same history (mark.Claim c v) d w refl

  pub made-stays : (d w : ℕ) → has_result history d w ≡ true → has_result made d w ≡ true
  made-stays d w is = result-stays claiming (mark.Finish c v) d w (result-stays history (mark.Claim c v) d w is)

  pub made-it : has_result made c v ≡ true
  made-it = any-yes (is_finish_of c v) claiming.marks (mark.Finish c v) (and_from (c == c) (v == v) (eq-eqb c c refl) (eq-eqb v v refl))

  pub version-now : v ≡ version_of history
  version-now = wanted-now portfolio history quiet c v claimable.wanted

  pub made-latest : cached_version made c ≡ Some v
  made-latest = cached-finished c claiming v (λ u has. omega (arith, quiet.past c u (sym (result-same history (mark.Claim c v) c u refl) ∙ has), version-now))

  pub made-latest-other : (d : ℕ) → (c == d) ≡ false → cached_version made d ≡ cached_version history d
  made-latest-other d other = cached-other d claiming c v other ∙ cached-same d history (mark.Claim c v) refl

  pub made-other : (d w : ℕ) → ((d ≡ c) × (w ≡ v) → ⊥) → has_result made d w ≡ has_result history d w
  made-other d w apart = elim (cases_Bool (is-it d w)) [
    | inl this ↦ let same = test-parts c d v w this in absurd (apart (sym same.0, sym same.1))
    | inr other ↦ made-same d w other
  ]

  still-asked : (d w : ℕ) → IsAskedFor history d w → IsAskedFor made d w
  still-asked d w is = record {
    ask = is.ask;
    made = subst (λ (asks : List Asking). Contains asks is.ask) (sym made-asks) is.made;
    contract = is.contract;
    version = is.version;
    reached = is.reached;
  }

  pub quiet-made : IsQuiet portfolio made
  quiet-made = record {
    portfolio = quiet.portfolio;
    alone = quiet.alone;
    going = any-not is_give_up claiming.marks (mark.Finish c v) refl ∙ (any-not is_give_up history.marks (mark.Claim c v) refl ∙ quiet.going);
    here = any-not (is_leave_by 1) claiming.marks (mark.Finish c v) refl ∙ (any-not (is_leave_by 1) history.marks (mark.Claim c v) refl ∙ quiet.here);
    collected = omega (arith, made-collected, ap length made-asks, quiet.collected);
    back = λ d w was. elim (cases_Bool (is-it d w)) [
      | inl this ↦ any-yes (is_finish_of d w) claiming.marks (mark.Finish c v) this
      | inr other ↦ made-stays d w (quiet.back d w (sym (claimed-same claiming (mark.Finish c v) d w refl ∙ claimed-same history (mark.Claim c v) d w other) ∙ was))
    ];
    asked = λ d w has. elim (cases_Bool (is-it d w)) [
      | inl this ↦
          let same = test-parts c d v w this in
          still-asked d w (subst (λ (x : ℕ). IsAskedFor history d x) same.1 (subst (λ (x : ℕ). IsAskedFor history x v) same.0 (wanted-asked portfolio history quiet c v claimable.wanted)))
      | inr other ↦ still-asked d w (quiet.asked d w (sym (made-same d w other) ∙ has))
    ];
    answered = λ ask asked. elim (quiet.answered ask (subst (λ (asks : List Asking). Contains asks ask) made-asks asked)) [
      | inl waits ↦ inl (subst (λ (asks : List Asking). Contains asks ask) (sym made-open) waits)
      | inr all ↦ inr (λ d within reached. made-stays d ask.version (all d within reached))
    ];
    now = λ ask waits. quiet.now ask (subst (λ (asks : List Asking). Contains asks ask) made-open waits) ∙ sym (ap length made-entries);
    past = λ d w has. elim (cases_Bool (is-it d w)) [
      | inl this ↦ omega (arith, (test-parts c d v w this).1, version-now, ap length made-entries)
      | inr other ↦ omega (arith, quiet.past d w (sym (made-same d w other) ∙ has), ap length made-entries)
    ];
    newest = λ d has. elim (cases_Bool (c == d)) [
      | inl this ↦ ap (cached_version made) (sym (eqb-true c d this)) ∙ (made-latest ∙ ap {B = Option ℕ} (λ (n : ℕ). Some n) (version-now ∙ sym (ap length made-entries)))
      | inr other ↦
          made-latest-other d other
          ∙ (quiet.newest d (sym (made-same d (version_of history) (rw other refl)) ∙ (ap (has_result made d) (sym (ap length made-entries)) ∙ has))
          ∙ ap {B = Option ℕ} (λ (n : ℕ). Some n) (sym (ap length made-entries)))
    ];
  }

  pub made-lacks : lacking made + 1 ≡ lacking history
  made-lacks =
      let n = length history.portfolio.contracts.terms in
      let w = version_of history in
      let same : lacking made ≡ sum_by (λ d. cond (has_result made d w) 0 1) (range_with_len 0 n) = ap (λ (k : ℕ). sum_by (λ d. cond (has_result made d k) 0 1) (range_with_len 0 n)) (ap length made-entries) in
      let fewer : sum_by (λ d. cond (has_result history d w) 0 1) (range_with_len 0 n) ≡ sum_by (λ d. cond (has_result made d w) 0 1) (range_with_len 0 n) + 1 =
      sum-more (λ d. cond (has_result made d w) 0 1) (λ d. cond (has_result history d w) 0 1) c 1 0 n (omega arith) (omega (arith, claimable.wanted.contract))
      (λ d other. ap (λ (b : Bool). cond b 0 1) (sym (made-other d w (λ both. other both.0))))
      (rw (ap (has_result history c) (sym version-now) ∙ claimable.no_result, ap (has_result made c) (sym version-now) ∙ made-it) refl) in
      omega (arith, same, fewer)

-- ---- nothing more may be claimed

-- then all that is wanted has a result, for it would be claimable otherwise, if not a child of it, or a child's child
pub none-lacks : (portfolio : Accepted) (history : History) → IsQuiet portfolio history → order_of portfolio.contracts.children ≡ Ok portfolio.order → length portfolio.contracts.children ≡ length portfolio.contracts.terms
    → ((parent child : ℕ) → IsChild portfolio.contracts.children parent child → child < length portfolio.contracts.terms) → NoneIsClaimable history → (c v : ℕ) → IsWanted history c v → has_result history c v ≡ true
none-lacks portfolio history quiet ordered count exist none c v wanted = settle 16 c v not-far wanted
  where
    graph : List (List ℕ)
    graph = history.portfolio.contracts.children

    not-far : (to : ℕ) → HasPath graph 16 c to → ⊥
    not-far to path =
        let short = order_of-short graph history.portfolio.order (rw (sym quiet.portfolio) at ordered) c (omega (arith, wanted.contract, rw (sym quiet.portfolio) at count)) in
        let long : goes_on graph 16 c ≡ true = goes_on-from_path graph 16 c to path in
        absurd (cc)

    child-wanted : (d w child : ℕ) → IsWanted history d w → IsChild graph d child → IsWanted history child w
    child-wanted d w child is refers = record {
      caller = is.caller;
      from = is.from;
      to = is.to;
      ask = is.ask;
      still_open = is.still_open;
      contract = (rw (sym quiet.portfolio) at exist) d child refers;
      version = is.version;
      reached = reached-child history.portfolio.contracts history.portfolio.order (contracts_of history.portfolio.names is.ask.asked) d child (rw (sym quiet.portfolio) at ordered) is.reached refers;
    }

    settle : (k d w : ℕ) → ((to : ℕ) → HasPath graph k d to → ⊥) → IsWanted history d w → has_result history d w ≡ true
    settle zero d w short is = absurd (short d (HasPath-none graph d))
    settle (suc k) d w short is = elim (cases_Bool (has_result history d w)) [
      | inl has ↦ has
      | inr lacks ↦ absurd (none d w (record {
        wanted = is;
        no_result = lacks;
        free = free-so (was_claimed history d w) refl lacks;
        children = λ child refers. settle k child w (λ to path. short to (HasPath-cons graph k d child to refers path)) (child-wanted d w child is refers);
      }))
    ]
      where
        free-so : (was : Bool) → was_claimed history d w ≡ was → has_result history d w ≡ false → is_claimed history d w ≡ false
        free-so true so lacks = absurd (let has = quiet.back d w so in cc)
        free-so false so lacks = rw so refl

-- ---- an evaluation, as the board tells of it

module _ (before mid : History) (work : Work) (claims : Claims before (claim.Task work) mid) where
  mid-is : mid ≡ and_then before (mark.Claim work.contract (version work))
  mid-is = claims.3

  pub task-is-of : IsOf mid work
  task-is-of = subst (λ (h : History). IsOf h work) (sym mid-is) (record {
    portfolio = claims.1.portfolio;
    entries = claims.1.entries ∙ ap (λ (entries : List Obs). take (version work) entries) (sym (entries-same before (mark.Claim work.contract (version work)) refl));
  })

  under-way : is_claimed mid work.contract (version work) ≡ true
  under-way =
      let m = mark.Claim work.contract (version work) in
      let was : was_claimed (and_then before m) work.contract (version work) ≡ true =
      any-yes (is_claim_of work.contract (version work)) before.marks m (and_from (work.contract == work.contract) (version work == version work) (eq-eqb work.contract work.contract refl) (eq-eqb (version work) (version work) refl)) in
      let lacks : has_result (and_then before m) work.contract (version work) ≡ false = result-same before m work.contract (version work) refl ∙ claims.2.claimable.no_result in
      subst (λ (h : History). is_claimed h work.contract (version work) ≡ true) (sym mid-is) (rw (was, lacks) refl)

  module _ (portfolio : Accepted) (quiet : IsQuiet portfolio before) where
    now-version : version work ≡ version_of before
    now-version = version-now portfolio before quiet work.contract (version work) claims.2.claimable

    -- it is of the contract's run over all entries
    pub work-run : outcome work ≡ run_of before.portfolio.contracts (take (version_of before) (entries_of before)) work.contract
    work-run =
        ap (λ (p : Accepted). run_of p.contracts work.entries work.contract) claims.1.portfolio
        ∙ ap (λ (entries : List Obs). run_of before.portfolio.contracts entries work.contract)
        (claims.1.entries ∙ ap (λ (v : ℕ). take v (entries_of before)) now-version)

    -- it goes on from its run at an earlier version
    earlier : (u : ℕ) → has_result before work.contract u ≡ true → (u ≤ version work) × ((u == version work) ≡ false)
    earlier u has = (
      omega (arith, quiet.past work.contract u has, now-version),
      elim (cases_Bool (u == version work)) [
        | inl same ↦ absurd (let now = ap (has_result before work.contract) (sym (eqb-true u (version work) same)) ∙ has in let lacks = claims.2.claimable.no_result in cc)
        | inr other ↦ other
      ],
    )

    abbrev rows : ℕ
    rows = length (run_of before.portfolio.contracts (take (version work) (entries_of before)) work.contract).rows

    rows-are : length (outcome work).rows ≡ rows
    rows-are = ap (λ (entries : List Obs). length (run_of work.portfolio.contracts entries work.contract).rows) claims.1.entries ∙ ap (λ (p : Accepted). length (run_of p.contracts (take (version work) (entries_of before)) work.contract).rows) claims.1.portfolio

    left-by : (last : Option ℕ) → cached_version before work.contract ≡ last → (fresh : ℕ) → fresh + length (kept_at before.portfolio.contracts (entries_of before) work.contract (version work) last).rows ≡ rows
        → fresh ≡ fresh_rows before.portfolio.contracts (entries_of before) work.contract last (version work)
    left-by None is fresh all = omega (arith, all)
    left-by (Some u) is fresh all =
        let parts = earlier u (cached-has work.contract before u is) in
        let least : min u (version work) ≡ u = omega (arith, parts.0) in
        let most : max u (version work) ≡ version work = omega (arith, parts.0) in
        rw parts.1 (omega (arith, rw (least, most) at all))

    fresh-left : (fresh : ℕ) → fresh + length work.kept.rows ≡ length (outcome work).rows → fresh ≡ rows_left before work.contract (version work)
    fresh-left fresh all = left-by (cached_version before work.contract) refl fresh (ap (λ (k : KeptRows). fresh + length k.rows) (sym claims.4) ∙ (all ∙ rows-are))

    pub goes-on : (after : History) (fresh ticks now : ℕ) → after ≡ after_finish mid work.contract (version work) → fresh + length work.kept.rows ≡ length (outcome work).rows
        → now + length work.kept.rows ≡ ticks + length (outcome work).rows → GoesOn true before after ticks now
    goes-on after fresh ticks now finished all ticked = (
      work.contract,
      version work,
      claims.2.claimable,
      finished ∙ (rw under-way (ap (λ (h : History). and_then h (mark.Finish work.contract (version work))) mid-is)),
      omega (arith, all, ticked, fresh-left fresh all),
    )

-- an evaluation appends nothing
pub goes-same : (portfolio : Accepted) (before after : History) → IsQuiet portfolio before → (more : Bool) (ticks now : ℕ) → GoesOn more before after ticks now
    → (after.portfolio ≡ before.portfolio) × (entries_of after ≡ entries_of before)
goes-same portfolio before after quiet true ticks now is = (ap (λ (h : History). h.portfolio) is.3, ap entries_of is.3 ∙ made-entries portfolio before quiet is.0 is.1 is.2)
goes-same portfolio before after quiet false ticks now is = (ap (λ (h : History). h.portfolio) is.1, ap entries_of is.1)

-- ---- one evaluation after another

-- how far a loop of evaluations is
pub record IsOn (portfolio : Accepted) (first now : History) (before ticks : ℕ) (more : Bool) : Type 0 where
  pub quiet : IsQuiet portfolio now
  pub works : OnlyWorks first now
  pub ticked : ticks ≡ before + rows_since first now
  pub later : IsLater first now
  pub stays : (c v : ℕ) → has_result first c v ≡ true → has_result now c v ≡ true
  pub none : more ≡ false → NoneIsClaimable now

-- what is left of it
abbrev pub turns_left : History → Bool → ℕ
turns_left history more = lacking history + cond more 1 0

-- nothing is made before anything is
and-not : (b : Bool) → (b && not b) ≡ false
and-not true = refl
and-not false = refl

none-made : (history : History) (c : ℕ) → made_since history history c ≡ false
none-made history c = and-not (has_result history c (version_of history))

pub on-first : (portfolio : Accepted) (history : History) (ticks : ℕ) → IsQuiet portfolio history → IsOn portfolio history history ticks ticks true
on-first portfolio history ticks quiet = record {
  quiet = quiet;
  works = record { portfolio = refl; quotas = refl; items = refl; appended = refl; collected = refl };
  ticked = omega (
    arith,
    sum-none (λ c. cond (made_since history history c) (rows_left history c (version_of history)) 0) 0 (length history.portfolio.contracts.terms)
        (λ c. ap (λ (b : Bool). cond b (rows_left history c (version_of history)) 0) (none-made history c)),
  );
  later = λ c. ap (λ (b : Bool). cond b (Some (version_of history)) (cached_version history c)) (sym (none-made history c));
  stays = λ c v has. has;
  none = λ is. absurd (cc);
}

-- of a history that goes on, the rows of an evaluation are those that they were at first
rows-same : (first before : History) → before.portfolio ≡ first.portfolio → entries_of before ≡ entries_of first → (c : ℕ) → cached_version before c ≡ cached_version first c → rows_left before c (version_of before) ≡ rows_left first c (version_of first)
rows-same first before portfolio entries c same =
    ap (λ (p : Accepted). fresh_rows p.contracts (entries_of before) c (cached_version before c) (version_of before)) portfolio
    ∙ (ap (λ (es : List Obs). fresh_rows first.portfolio.contracts es c (cached_version before c) (length es)) entries
    ∙ ap (λ (last : Option ℕ). fresh_rows first.portfolio.contracts (entries_of first) c last (version_of first)) same)

module _ (portfolio : Accepted) (first before : History) (quiet : IsQuiet portfolio before) (works : OnlyWorks first before) (later : IsLater first before) (stays : (c v : ℕ) → has_result first c v ≡ true → has_result before c v ≡ true) (c v : ℕ)
    (claimable : IsClaimable before c v) where
  abbrev next : History
  next = made portfolio before quiet c v claimable

  entries : entries_of before ≡ entries_of first
  entries = ap book_of works.items

  at-first : v ≡ version_of first
  at-first = version-now portfolio before quiet c v claimable ∙ ap length entries

  lacked : has_result first c (version_of first) ≡ false
  lacked = elim (cases_Bool (has_result first c (version_of first))) [
    | inl has ↦ absurd (let still = stays c (version_of first) has in let none = ap (has_result before c) (sym at-first) ∙ claimable.no_result in cc)
    | inr lacks ↦ lacks
  ]

  unmade : made_since first before c ≡ false
  unmade = rw (ap (has_result before c) (sym at-first) ∙ claimable.no_result) refl

  made-now : made_since first next c ≡ true
  made-now = rw (ap (has_result next c) (sym at-first) ∙ made-it portfolio before quiet c v claimable, lacked) refl

  unmade-still : (d : ℕ) → d ≢ c → made_since first next d ≡ made_since first before d
  unmade-still d apart = ap (λ (b : Bool). b && not (has_result first d (version_of first))) (made-other portfolio before quiet c v claimable d (version_of first) (λ both. apart both.0))

  pub later-next : IsLater first next
  later-next d = elim (cases_Bool (c == d)) [
    | inl this ↦
        let same = eqb-true c d this in
        subst (λ (e : ℕ). cached_version next e ≡ cond (made_since first next e) (Some (version_of first)) (cached_version first e)) same
        (rw made-now (made-latest portfolio before quiet c v claimable ∙ ap {B = Option ℕ} (λ (n : ℕ). Some n) at-first))
    | inr other ↦
        made-latest-other portfolio before quiet c v claimable d other
        ∙ (later d ∙ ap (λ (b : Bool). cond b (Some (version_of first)) (cached_version first d)) (sym (unmade-still d (λ is. absurd (let same = eq-eqb c d (sym is) in cc)))))
  ]

  pub rows-next : rows_since first next ≡ rows_since first before + rows_left before c v
  rows-next =
      let delta : rows_left before c v ≡ rows_left first c (version_of first) =
      ap (rows_left before c) (version-now portfolio before quiet c v claimable)
      ∙ rows-same first before works.portfolio entries c (later c ∙ ap (λ (b : Bool). cond b (Some (version_of first)) (cached_version first c)) unmade) in
      let within : c < length first.portfolio.contracts.terms = omega (arith, claimable.wanted.contract, ap (λ (p : Accepted). length p.contracts.terms) works.portfolio) in
      sum-more (λ d. cond (made_since first before d) (rows_left first d (version_of first)) 0) (λ d. cond (made_since first next d) (rows_left first d (version_of first)) 0) c (rows_left before c v) 0 (length first.portfolio.contracts.terms) (omega arith)
      (omega (arith, within))
      (λ d apart. ap (λ (b : Bool). cond b (rows_left first d (version_of first)) 0) (unmade-still d apart))
      (rw (made-now, unmade) (omega (arith, delta)))

module _ (portfolio : Accepted) (first before after : History) (ticks now then : ℕ) (was : Bool) (on : IsOn portfolio first before ticks now was) where
  pub on-next : (more : Bool) → GoesOn more before after now then → IsOn portfolio first after ticks then more
  on-next true goes = record {
    quiet = subst (IsQuiet portfolio) (sym goes.3) (quiet-made portfolio before on.quiet goes.0 goes.1 goes.2);
    works = subst (OnlyWorks first) (sym goes.3) (record {
      portfolio = on.works.portfolio;
      quotas = on.works.quotas;
      items = made-items portfolio before on.quiet goes.0 goes.1 goes.2 ∙ on.works.items;
      appended = made-appended portfolio before on.quiet goes.0 goes.1 goes.2 ∙ on.works.appended;
      collected = made-collected portfolio before on.quiet goes.0 goes.1 goes.2 ∙ on.works.collected;
    });
    ticked = omega (arith, on.ticked, goes.4, rows-next portfolio first before on.quiet on.works on.later on.stays goes.0 goes.1 goes.2, ap (rows_since first) goes.3);
    later = subst (IsLater first) (sym goes.3) (later-next portfolio first before on.quiet on.works on.later on.stays goes.0 goes.1 goes.2);
    stays = λ c v has. ap (λ (h : History). has_result h c v) goes.3 ∙ made-stays portfolio before on.quiet goes.0 goes.1 goes.2 c v (on.stays c v has);
    none = λ is. absurd (cc);
  }
  on-next false goes = record {
    quiet = subst (IsQuiet portfolio) (sym goes.1) on.quiet;
    works = subst (OnlyWorks first) (sym goes.1) on.works;
    ticked = omega (arith, on.ticked, goes.2, ap (rows_since first) goes.1);
    later = subst (IsLater first) (sym goes.1) on.later;
    stays = λ c v has. ap (λ (h : History). has_result h c v) goes.1 ∙ on.stays c v has;
    none = λ is. subst NoneIsClaimable (sym goes.1) goes.0;
  }

  pub fewer-turns : (more : Bool) → was ≡ true → GoesOn more before after now then → turns_left after more < turns_left before was
  fewer-turns true turning goes = omega (arith, made-lacks portfolio before on.quiet goes.0 goes.1 goes.2, ap lacking goes.3, ap {B = ℕ} (λ (b : Bool). cond b 1 0) turning)
  fewer-turns false turning goes = omega (arith, ap lacking goes.1, ap {B = ℕ} (λ (b : Bool). cond b 1 0) turning)
