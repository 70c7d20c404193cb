-- Lines that are kept of contracts, and what is known of them.
use Rattle.std.proofs.Common.{zero, suc, ◌≡◌, ◌≢◌, ℕ, ◌+◌, ◌<◌, ◌≤◌, ℤ, List, [], ◌∷◌, ◌++◌, length, map, take, get_or, set, Option, None, Some, unwrap_or, IsSomeAnd, OnOk, Result, Ok, Err, inl, inr, refl, sym, ap, subst, ◌∙◌, arith, below_more, Global, option_map}
use Rattle.std.specs.Arc.{arc_value}
use Rattle.std.specs.declared.sync.Arc.{Arc}
use Rattle.std.specs.List.{All, flat_map, slice_get}
use Rattle.std.proofs.lemmas.Bool.{cases_Bool, cases_eq}
use Rattle.std.proofs.lemmas.List.Elements.{All-head, All-push, All-tail, All-take}
use Rattle.std.proofs.lemmas.List.{length-set, length-take, take_all, take-append-le, take-take}
use Rattle.std.proofs.lemmas.Option.{get_or_from_slice_get, same_Some, slice_get-get_or, slice_get-map, slice_get_read, slice_get_within}
use Rattle.act_engine.specs.declared.writing.Failure.{Failure}
use Rattle.act_history.specs.History.{History, entries_of, version_of}
use Rattle.act_history.proofs.Places.{get-set, get-set_other}
use Rattle.act_model.specs.Answer.{Reply}
use Rattle.act_model.specs.Names.{NameLists}
use Rattle.act_model.specs.Run.{EventPlan, Stream}
use Rattle.act_model.specs.declared.observed.Obs.{Obs}
use Rattle.act_model.specs.declared.run.Close.TheVariants.{End}
use Rattle.act_model.specs.declared.terms.Terms.{Terms}
use Rattle.act_portfolio.specs.Reading.{Accepted}
use Rattle.act_print.specs.Printed.{printed_block}
use Rattle.act_print.specs.Text.{block_text}
use Rattle.act_profile.specs.DayOrder.{AreInDayOrder}
use Rattle.act_profile.specs.Kept.{KeptRows, kept_of}
use Rattle.act_profile.specs.Run.{Contracts, deepest, run_of, run_to, run_where_given}
use Rattle.act_profile.specs.Stops.{comes_before, stop_day}
use Rattle.act_run.proofs.DayOrder.{none_in_day_order}
use Rattle.act_run.proofs.FirstRows.{early_first}
use Rattle.act_run.proofs.Limited.{run_in_day_order}
use Rattle.act_text.specs.Kept.{AreWrittenWith, Lines}
use Rattle.act_text.specs.Lines.{row_text}
use Rattle.act_transcript.specs.KnownLines.{AreKeptAt, AreKnown, AreOfAll, AreOnesOf, AreRenewed, AreWrittenAt, IsBlock, IsKnown, IsKnownTo, IsPut, IsRenewed, IsReplyOn, known_to}
use Rattle.act_transcript.specs.Text.{shared_runs}
use Rattle.act_transcript.specs.declared.blocks.Blocks.{Blocks}
use Rattle.act_transcript.specs.declared.blocks.Known.{Known}
use Rattle.act_transcript.specs.declared.blocks.Known.TheVariants.{Nothing}
use Rattle.act_transcript.proofs.Texts.{block-parts}

-- ---- where all went well

-- what holds anyhow
pub ok-so : {A : Type 0} (result : Result A Failure) (P : Type 0) → P → OnOk result P
ok-so (Ok done) P so = so
ok-so (Err stop) P so = tt

-- ---- of one contract

-- where nothing is known no cut is told
pub nothing-told : (cut : Option ℤ) → Nothing ≡ known_to cut → ⊥
nothing-told None is = cc
nothing-told (Some day) is = cc

-- what is known tells the cut
pub same-cut : (one other : Option ℤ) → known_to one ≡ known_to other → one ≡ other
same-cut None None is = refl
same-cut None (Some day) is = absurd (cc)
same-cut (Some day) None is = absurd (cc)
same-cut (Some one) (Some other) is = cc

-- one more is told
pub told-next : (P : ℕ → Option ℤ → Type 0) (known : List Known) (place : ℕ) (new : Known) → place < length known → ((cut : Option ℤ) → new ≡ known_to cut → P place cut)
    → ((c : ℕ) (cut : Option ℤ) → c < place → slice_get known c ≡ Some (known_to cut) → P c cut)
    → (c : ℕ) (cut : Option ℤ) → c < place + 1 → slice_get (set known place new) c ≡ Some (known_to cut) → P c cut
told-next P known place new within told before c cut below is = elim (cases_eq c place) [
  | inl same ↦ subst (λ (d : ℕ). P d cut) (sym same) (told cut (same_Some new (known_to cut) (sym (get-set known place new within) ∙ (ap (slice_get (set known place new)) (sym same) ∙ is))))
  | inr other ↦ before c cut (omega (arith, other)) (sym (get-set_other known place c new other) ∙ is)
]

-- of a contract for which a cut is told, the rows of its run stand by their days, and its lines are known
pub order-here : (known read : List Known) (kept : List Lines) (c : ℕ) (run : Stream) (told : Known) → IsKnown known kept c run → read ≡ known → ((cut : Option ℤ) → told ≡ known_to cut → slice_get read c ≡ Some (known_to cut))
    → (cut : Option ℤ) → told ≡ known_to cut → AreInDayOrder run.rows
order-here known read kept c run told are same so cut is = (are cut (subst (λ (ks : List Known). slice_get ks c ≡ Some (known_to cut)) same (so cut is))).0

pub known-here : (known read : List Known) (kept : List Lines) (c : ℕ) (run : Stream) (told : Known) (lines : Lines) → IsKnown known kept c run → read ≡ known → ((cut : Option ℤ) → told ≡ known_to cut → slice_get read c ≡ Some (known_to cut))
    → c < length kept → lines ≡ get_or kept c lines → (cut : Option ℤ) → told ≡ known_to cut → IsKnownTo c cut lines run
known-here known read kept c run told lines are same so within is cut tells =
    (are cut (subst (λ (ks : List Known). slice_get ks c ≡ Some (known_to cut)) same (so cut tells))).1 lines (slice_get_read kept (length kept) c lines refl within is)

-- the text of lines that are a block
pub block-whole : (c : ℕ) (run : Stream) (lines : Lines) (names : NameLists) → lines.names ≡ names → IsBlock c run lines
    → lines.front ++ flat_map (row_text lines.names) lines.rows ++ lines.back ≡ block_text names (printed_block (c, run))
block-whole c run lines names same is = rw (block-parts names c run) (rw (is.front, is.rows, is.back, same) refl)

-- the lines of a contract were renewed in their place
pub renewed-set : (c : ℕ) (run : Stream) (before : List Lines) (new : Lines) → c < length before → IsBlock c run new → IsRenewed c run before (set before c new)
renewed-set c run before new within same = record {
  count = length-set before c new;
  this = λ lines at. subst (IsBlock c run) (same_Some new lines (sym (get-set before c new within) ∙ at)) same;
  others = λ d other. get-set_other before c d new other;
}

-- there is no place for the lines of a contract
pub renewed-none : (c : ℕ) (run : Stream) (kept : List Lines) → length kept ≤ c → IsRenewed c run kept kept
renewed-none c run kept past = record {
  count = refl;
  this = λ lines at. absurd (omega (arith, past, slice_get_within kept c lines at));
  others = λ d other. refl;
}

-- ---- what is kept of a run under a cut

-- they are its first rows
kept-first : (run : Stream) (cut : Option ℤ) → AreInDayOrder run.rows → take (length (kept_of run cut).rows) run.rows ≡ (kept_of run cut).rows
unfolding kept_of
kept-first run None order = take_all (length run.rows) run.rows (omega arith)
kept-first run (Some cut) order =
    elim (cases_Bool (comes_before (stop_day run.close) (Some cut))) [
      | inl stops ↦ rw stops (take_all (length run.rows) run.rows (omega arith))
      | inr goes_on ↦ rw goes_on (early_first cut run.rows order)
    ]

kept-within : (run : Stream) (cut : Option ℤ) → AreInDayOrder run.rows → length (kept_of run cut).rows ≤ length run.rows
kept-within run cut order =
    let n = length (kept_of run cut).rows in
    omega (arith, ap length (kept-first run cut order), length-take n run.rows)

-- the run that is kept whole, or a run that closes at its end
run-kept : KeptRows → Stream
run-kept kept = record { rows = kept.rows; close = unwrap_or kept.close End }

kept-whole : (run : Stream) → run-kept (kept_of run None) ≡ run
unfolding kept_of run-kept
kept-whole run = refl

-- two runs of which the same is kept are the same where there is no cut
same-whole : (before run : Stream) → kept_of before None ≡ kept_of run None → before ≡ run
same-whole before run same = sym (kept-whole before) ∙ ap run-kept same ∙ kept-whole run

-- the block of a run is known to it
pub own-known : (c : ℕ) (run : Stream) (lines : Lines) (cut : Option ℤ) → AreInDayOrder run.rows → IsBlock c run lines → IsKnownTo c cut lines run
own-known c run lines cut order is = record {
  front = is.front;
  within = omega (arith, kept-within run cut order, ap length is.rows);
  same = ap (take (length (kept_of run cut).rows)) is.rows;
  whole = λ none. is;
}

-- of which the same is kept, the block of the one is known to the other
known-by : (c : ℕ) (before run : Stream) (lines : Lines) (cut : Option ℤ) → AreInDayOrder before.rows → AreInDayOrder run.rows → kept_of before cut ≡ kept_of run cut → IsBlock c before lines → IsKnownTo c cut lines run
known-by c before run lines cut order order' same is =
    let rows : (kept_of before cut).rows ≡ (kept_of run cut).rows = ap (λ (k : KeptRows). k.rows) same in
    let n = length (kept_of run cut).rows in
    record {
      front = is.front;
      within = omega (arith, kept-within before cut order, ap length rows, ap length is.rows);
      same = ap (take n) is.rows ∙ ap (λ (n : ℕ). take n before.rows) (ap length (sym rows)) ∙ kept-first before cut order ∙ rows ∙ sym (kept-first run cut order');
      whole = λ none. subst (λ (s : Stream). IsBlock c s lines) (same-whole before run (ap (kept_of before) (sym none) ∙ same ∙ ap (kept_of run) none)) is;
    }

-- the rows of a contract's run stand by their days
run-order : (terms : Option Terms) (plan : Option EventPlan) (entries : List Obs) (children : List Stream) → AreInDayOrder (run_where_given terms plan entries children).rows
run-order None plan entries children = none_in_day_order
run-order (Some terms) None entries children = none_in_day_order
run-order (Some terms) (Some plan) entries children = run_in_day_order terms plan entries children

pub to-order : (n : ℕ) (contracts : Contracts) (entries : List Obs) (c : ℕ) → AreInDayOrder (run_to n contracts entries c).rows
unfolding run_to
to-order zero contracts entries c = none_in_day_order
to-order (suc n) contracts entries c = run-order (slice_get contracts.terms c) (slice_get contracts.plans c) entries (map (run_to n contracts entries) (unwrap_or (slice_get contracts.children c) []))

-- ---- of contracts with their runs

-- what is known of the first of some runs
pub first-known : (cuts : List Known) (kept : List Lines) (run : ℕ × Stream) (runs : List (ℕ × Stream)) → AreKnown cuts kept (run ∷ runs) → IsKnown cuts kept run.0 run.1
first-known cuts kept run runs (inl none) = λ cut is. absurd (let never = ap (λ (cs : List Known). slice_get cs run.0) (sym none) ∙ is in cc)
first-known cuts kept run runs (inr are) = All-head (λ (r : ℕ × Stream). IsKnown cuts kept r.0 r.1) run runs are.2

-- what is known of the runs behind one is known behind it
pub known-next : (cuts : List Known) (before after : List Lines) (run : ℕ × Stream) (runs : List (ℕ × Stream)) → AreKnown cuts before (run ∷ runs) → IsRenewed run.0 run.1 before after → AreKnown cuts after runs
known-next cuts before after run runs (inl none) renewed = inl none
known-next cuts before after run runs (inr are) renewed = inr (
  are.0,
  All-tail (λ (r : ℕ × Stream). r.1 ≡ are.0 r.0) run runs are.1,
  λ k d within cut is.
      let r = get_or runs k d in
      let was = All-tail (λ (r : ℕ × Stream). IsKnown cuts before r.0 r.1) run runs are.2 k d within cut is in (
        was.0,
        λ lines at. elim (cases_eq r.0 run.0) [
          | inl same ↦
              let own : r.1 ≡ run.1 = All-tail (λ (r : ℕ × Stream). r.1 ≡ are.0 r.0) run runs are.1 k d within ∙ ap are.0 same ∙ sym (All-head (λ (r : ℕ × Stream). r.1 ≡ are.0 r.0) run runs are.1) in
              let block : IsBlock run.0 run.1 lines = renewed.this lines (ap (slice_get after) (sym same) ∙ at) in
              own-known r.0 r.1 lines cut was.0 (subst (λ (d : ℕ). IsBlock d r.1 lines) (sym same) (subst (λ (s : Stream). IsBlock run.0 s lines) (sym own) block))
          | inr other ↦ was.1 lines (sym (renewed.others r.0 other) ∙ at)
        ],
      ),
)

-- these runs go by their contracts
abbrev AreOwn : (ℕ → Stream) → List (ℕ × Stream) → Type 0
AreOwn own runs = All (λ (run : ℕ × Stream). run.1 ≡ own run.0) runs

own-before : (own : ℕ → Stream) (done : List (ℕ × Stream)) (run : ℕ × Stream) → AreOwn own (done ++ run ∷ []) → AreOwn own done
own-before own done run all =
    subst (AreOwn own) (take-append-le (length done) done (run ∷ []) (omega arith) ∙ take_all (length done) done (omega arith))
    (All-take (λ (r : ℕ × Stream). r.1 ≡ own r.0) (length done) (done ++ run ∷ []) all)

own-last : (own : ℕ → Stream) (done : List (ℕ × Stream)) (run : ℕ × Stream) → AreOwn own (done ++ run ∷ []) → run.1 ≡ own run.0
own-last own [] run all = All-head (λ (r : ℕ × Stream). r.1 ≡ own r.0) run [] all
own-last own (r ∷ done) run all = own-last own done run (All-tail (λ (r : ℕ × Stream). r.1 ≡ own r.0) r (done ++ run ∷ []) all)

-- no run, and no line that isn't as before
pub renewed-nothing : (kept : List Lines) → AreRenewed [] kept kept
renewed-nothing kept = record { count = refl; each = λ own all k d within. absurd (omega arith) }

-- the lines of the runs before one, and then of this one too, are theirs
pub renewed-next : (first before after : List Lines) (run : ℕ × Stream) (done : List (ℕ × Stream)) → AreRenewed done first before → IsRenewed run.0 run.1 before after → AreRenewed (done ++ run ∷ []) first after
renewed-next first before after run done are renewed = record {
  count = renewed.count ∙ are.count;
  each = λ own all.
      let last = own-last own done run all in
      let old = are.each own (own-before own done run all) in
      let this : (lines : Lines) → slice_get after run.0 ≡ Some lines → IsBlock run.0 (own run.0) lines = λ lines at. subst (λ (s : Stream). IsBlock run.0 s lines) last (renewed.this lines at) in
      All-push (λ (r : ℕ × Stream). (lines : Lines) → slice_get after r.0 ≡ Some lines → IsBlock r.0 (own r.0) lines) done run
      (λ k d within. λ lines at.
      let c = (get_or done k d).0 in
      elim (cases_eq c run.0) [
        | inl same ↦ subst (λ (e : ℕ). IsBlock e (own e) lines) (sym same) (this lines (ap (slice_get after) (sym same) ∙ at))
        | inr other ↦ old k d within lines (sym (renewed.others c other) ∙ at)
      ])
      this;
}

-- ---- of an answer of a board

-- what is known of a run at a version: what the cuts since its lines were written keep
run-known : (board : History) (version : ℕ) (cuts : List Known) (kept : List Lines) (at : Option ℕ) (c : ℕ) → AreKeptAt board kept at
    → ((cut : Option ℤ) → slice_get cuts c ≡ Some (known_to cut) → IsSomeAnd at (λ v. kept_of (run_of board.portfolio.contracts (take v (entries_of board)) c) cut ≡ kept_of (run_of board.portfolio.contracts (take version (entries_of board)) c) cut))
    → IsKnown cuts kept c (run_of board.portfolio.contracts (take version (entries_of board)) c)
run-known board version cuts kept None c written since cut is = absurd (since cut is)
run-known board version cuts kept (Some v) c written since cut is =
    let contracts = board.portfolio.contracts in
    let before = take v (entries_of board) in
    let now = take version (entries_of board) in (
      to-order deepest contracts now c,
      λ lines here. known-by c (run_of contracts before c) (run_of contracts now c) lines cut (to-order deepest contracts before c) (to-order deepest contracts now c) (since cut is) (written.1 c lines here),
    )

-- what is known of blocks at a version: what the cuts since they were put together keep
pub cuts-known : (board : History) (version : ℕ) (cuts : List Known) (kept : List Lines) (at : Option ℕ) → AreKeptAt board kept at
    → ((c : ℕ) (cut : Option ℤ) → slice_get cuts c ≡ Some (known_to cut) → IsSomeAnd at (λ v. kept_of (run_of board.portfolio.contracts (take v (entries_of board)) c) cut ≡ kept_of (run_of board.portfolio.contracts (take version (entries_of board)) c) cut))
    → (c : ℕ) → IsKnown cuts kept c (run_of board.portfolio.contracts (take version (entries_of board)) c)
cuts-known board version cuts kept at written since c = run-known board version cuts kept at c written (since c)

-- what is known of the runs at a version is known of those of an answer
pub answer-known : (board : History) (reply : Reply) (cuts : List Known) (kept : List Lines) → IsReplyOn board reply
    → ((c : ℕ) → IsKnown cuts kept c (run_of board.portfolio.contracts (take reply.version (entries_of board)) c)) → AreKnown cuts kept reply.runs
answer-known board reply cuts kept of known =
    let own : ℕ → Stream = λ c. run_of board.portfolio.contracts (take reply.version (entries_of board)) c in
    inr (
      own,
      of.runs,
      λ k d within. let run = get_or reply.runs k d in subst (IsKnown cuts kept run.0) (sym (of.runs k d within)) (known run.0),
    )

-- the block of a contract was put in its place
pub put-is : (c : ℕ) (run : Stream) (before after : Blocks) (new : Lines) → AreInDayOrder run.rows → IsBlock c run new → c < length before.kept.items → after.kept.items ≡ set before.kept.items c new
    → ((d : ℕ) → d ≢ c → slice_get after.known.items d ≡ slice_get before.known.items d) → IsPut c run before after
put-is c run before after new order block within kept known = record {
  this = λ cut is. (
    order,
    λ lines at. own-known c run lines cut order (subst (IsBlock c run) (same_Some new lines (sym (get-set before.kept.items c new within) ∙ (ap (λ (ls : List Lines). slice_get ls c) (sym kept) ∙ at))) block),
  );
  others = λ d other. (known d other, ap (λ (ls : List Lines). slice_get ls d) kept ∙ get-set_other before.kept.items c d new other);
}

-- blocks of the same contracts
pub ones-then : (first second third : Blocks) → AreOnesOf first second → AreOnesOf second third → AreOnesOf first third
ones-then first second third one two = record { names = two.names ∙ one.names; count = two.count ∙ one.count; written = two.written }

pub ones-first : (blocks : Blocks) → AreWrittenWith blocks.names.now blocks.kept.items → AreOnesOf blocks blocks
ones-first blocks written = record { names = refl; count = refl; written = written }

-- runs up to a place are of all contracts before it, and the next one is of the contract there
pub of-next : (runs : List (ℕ × Arc Stream Global)) (place : ℕ) (run : ℕ × Arc Stream Global) → AreOfAll place (shared_runs runs) → place < length runs → run ≡ get_or runs place run → run.0 ≡ place → AreOfAll (place + 1) (shared_runs runs)
of-next runs place run all within is same =
    let shared : ℕ × Arc Stream Global → ℕ × Stream = λ r. (r.0, arc_value r.1) in
    below_more (λ c. (r : ℕ × Stream) × (slice_get (shared_runs runs) c ≡ Some r) × (r.0 ≡ c)) place all
    (shared run, slice_get-map shared runs place ∙ ap (option_map shared) (slice_get-get_or runs place run within ∙ ap (λ (r : ℕ × Arc Stream Global). Some r) (sym is)), same)

-- once an answer of all contracts was written, their lines are those at its version
pub answer-written : (board : History) (reply : Reply) (before kept : List Lines) → IsReplyOn board reply → AreOfAll (length kept) reply.runs → AreRenewed reply.runs before kept → AreWrittenAt board kept reply.version
answer-written board reply before kept of all renewed = λ c lines here.
    let own : ℕ → Stream = λ c. run_of board.portfolio.contracts (take reply.version (entries_of board)) c in
    let told = renewed.each own of.runs in
    let there = all c (slice_get_within kept c lines here) in
    let run = there.0 in
    let this = subst (λ (r : ℕ × Stream). (lines : Lines) → slice_get kept r.0 ≡ Some lines → IsBlock r.0 (own r.0) lines) (get_or_from_slice_get reply.runs c run run there.1) (told c run (slice_get_within reply.runs c run there.1)) in
    subst (λ (d : ℕ). (lines : Lines) → slice_get kept d ≡ Some lines → IsBlock d (own d) lines) there.2 this lines here

-- lines that were written at a version of a board are so of one whose book goes on
pub kept-later : (before after : History) (kept : List Lines) (at : Option ℕ) → after.portfolio ≡ before.portfolio → take (version_of before) (entries_of after) ≡ entries_of before → AreKeptAt before kept at → AreKeptAt after kept at
kept-later before after kept None portfolio goes_on is = tt
kept-later before after kept (Some v) portfolio goes_on is = (
  omega (arith, is.0, ap length goes_on, length-take (version_of before) (entries_of after)),
  λ c lines here. subst (λ (run : Stream). IsBlock c run lines)
      (ap (λ (p : Accepted). run_of p.contracts (take v (entries_of before)) c) (sym portfolio)
      ∙ ap (λ (entries : List Obs). run_of after.portfolio.contracts entries c) (ap (take v) (sym goes_on) ∙ take-take v (version_of before) (entries_of after) is.0))
      (is.1 c lines here),
)
