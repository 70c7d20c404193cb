-- Lines that are made side by side.
use Rattle.std.proofs.Common.{◌≡◌, ◌==◌, ℕ, ◌<◌, ◌≤◌, false, List, [], ◌++◌, length, drop, take, get_or, Some, OnOk, Result, Ok, Err, inl, inr, sym, ap, subst, ◌∙◌, arith, Global, option_map}
use Rattle.std.specs.Arc.{arc_value}
use Rattle.std.specs.Result.{is_err}
use Rattle.std.specs.declared.sync.Arc.{Arc}
use Rattle.std.specs.List.{All, slice_get}
use Rattle.std.proofs.lemmas.List.{length-map, map-append, take-append-drop}
use Rattle.std.proofs.lemmas.Option.{get_or_from_slice_get, same_Some, slice_get-get_or, slice_get-map, slice_get_within}
use Rattle.act_history.specs.History.{History, entries_of}
use Rattle.act_model.specs.Answer.{Reply}
use Rattle.act_model.specs.Names.{NameLists}
use Rattle.act_model.specs.Run.{Stream}
use Rattle.act_model.specs.declared.run.Close.TheVariants.{End}
use Rattle.act_profile.specs.DayOrder.{AreInDayOrder}
use Rattle.act_profile.specs.Run.{deepest, run_of}
use Rattle.act_print.specs.Printed.{printed_block}
use Rattle.act_print.specs.Text.{block_text}
use Rattle.act_text.specs.Kept.{AreWrittenWith, Lines}
use Rattle.act_transcript.specs.Beside.{AllWereRenewed, AreWhole, CanRenewAll, IsBlockOrNone, lines_text}
use Rattle.act_transcript.specs.KnownLines.{AreOfAll, IsBlock, IsKnown, IsKnownTo, IsReplyOn}
use Rattle.act_transcript.specs.Text.{shared_runs}
use Rattle.act_transcript.specs.declared.blocks.Known.{Known}
use Rattle.act_transcript.proofs.KnownLines.{block-whole, own-known, to-order}

-- ---- one place

-- what holds where it went well
pub on-ok : {A E : Type 0} (result : Result A E) (P : Type 0) → is_err result ≡ false → OnOk result P → P
on-ok (Ok done) P went holds = holds
on-ok (Err stop) P went holds = absurd (cc)

-- the run at a place
pub shared-at : (runs : List (ℕ × Arc Stream Global)) (place : ℕ) (item : ℕ × Arc Stream Global) → place < length runs → item ≡ get_or runs place item → slice_get (shared_runs runs) place ≡ Some (item.0, arc_value item.1)
shared-at runs place item within here =
    let shared : ℕ × Arc Stream Global → ℕ × Stream = λ r. (r.0, arc_value r.1) in
    slice_get-map shared runs place ∙ ap (option_map shared) (slice_get-get_or runs place item within ∙ ap (λ (r : ℕ × Arc Stream Global). Some r) (sym here))

pub run-here : (runs : List (ℕ × Arc Stream Global)) (place : ℕ) (item : ℕ × Arc Stream Global) (run : ℕ × Stream) → slice_get (shared_runs runs) place ≡ Some run → item ≡ get_or runs place item → run ≡ (item.0, arc_value item.1)
run-here runs place item run is here =
    let shared : ℕ × Arc Stream Global → ℕ × Stream = λ r. (r.0, arc_value r.1) in
    let within : place < length runs = omega (arith, slice_get_within (shared_runs runs) place run is, length-map runs shared) in
    same_Some run (shared item) (sym is ∙ shared-at runs place item within here)

-- its contract has a name
pub shared-named : (names : NameLists) (runs : List (ℕ × Arc Stream Global)) (place : ℕ) (item : ℕ × Arc Stream Global) → place < length runs → item ≡ get_or runs place item → All (λ (run : ℕ × Stream). run.0 < length names.contracts) (shared_runs runs)
    → item.0 < length names.contracts
shared-named names runs place item within here named =
    let run : ℕ × Stream = (item.0, arc_value item.1) in
    let at = shared-at runs place item within here in
    subst (λ (r : ℕ × Stream). r.0 < length names.contracts) (get_or_from_slice_get (shared_runs runs) place run run at) (named place run (slice_get_within (shared_runs runs) place run at))

-- some runs, and those behind them
pub shared-split : (count : ℕ) (runs : List (ℕ × Arc Stream Global)) → shared_runs runs ≡ shared_runs (take count runs) ++ shared_runs (drop count runs)
shared-split count runs = ap shared_runs (sym (take-append-drop count runs)) ∙ map-append (λ (r : ℕ × Arc Stream Global). (r.0, arc_value r.1)) (take count runs) (drop count runs)

-- the lines at a place
pub lines-here : (kept : List Lines) (place : ℕ) (lines : Lines) → place < length kept → lines ≡ get_or kept place lines → slice_get kept place ≡ Some lines
lines-here kept place lines within here = slice_get-get_or kept place lines within ∙ ap (λ (l : Lines). Some l) (sym here)

-- the text of lines that are a block, or none
pub block-there : (c : ℕ) (run : Stream) (lines : Lines) (names : NameLists) (text : List ℕ) → text ≡ lines_text lines → (length text == 0) ≡ false → lines.names ≡ names → IsBlockOrNone c run lines → text ≡ block_text names (printed_block (c, run))
block-there c run lines names text is some same (inl block) = is ∙ block-whole c run lines names same block
block-there c run lines names text is some same (inr none) = absurd (let empty = sym (ap (λ (t : List ℕ). length t == 0) (is ∙ none)) ∙ some in cc)

-- ---- all places

-- the lines are written with the names
pub written-all : (names : NameLists) (runs : List (ℕ × Stream)) (kept : List Lines) → AllWereRenewed names runs kept → AreWrittenWith names kept
written-all names runs kept renewed = λ k d within. (renewed k (get_or kept k d) (slice_get-get_or kept k d within)).written

-- where nothing is known
pub can-anew : (names : NameLists) (runs : List (ℕ × Stream)) (kept : List Lines) → length kept ≡ length runs → AreWrittenWith names kept → All (λ (run : ℕ × Stream). run.0 < length names.contracts) runs → CanRenewAll names [] runs kept
can-anew names runs kept count written named = λ place lines here.
    let within = slice_get_within kept place lines here in
    let there = at place (omega (arith, within, count)) in
    record {
      run = there.0;
      is = there.1;
      named = there.2;
      written = subst (λ (l : Lines). l.names ≡ names) (get_or_from_slice_get kept place lines lines here) (written place lines within);
      told = λ cut is. absurd (cc);
    }
  where
    at : (place : ℕ) → place < length runs → (run : ℕ × Stream) × (slice_get runs place ≡ Some run) × (run.0 < length names.contracts)
    at place within = let run = get_or runs place (0, record { rows = []; close = End }) in (run, slice_get-get_or runs place _ within, named place _ within)

-- ---- of an answer of a board

-- what is known of the runs at a version is so of those of an answer of all contracts
pub can-all : (board : History) (reply : Reply) (names : NameLists) (known : List Known) (kept : List Lines) → IsReplyOn board reply → length kept ≤ length names.contracts → AreWrittenWith names kept
    → ((c : ℕ) → IsKnown known kept c (run_of board.portfolio.contracts (take reply.version (entries_of board)) c)) → AreOfAll (length kept) reply.runs → CanRenewAll names known reply.runs kept
can-all board reply names known kept of named written told all = λ place lines here.
    let own : ℕ → Stream = λ c. run_of board.portfolio.contracts (take reply.version (entries_of board)) c in
    let within = slice_get_within kept place lines here in
    let there = all place within in
    let run = there.0 in
    let read = get_or_from_slice_get reply.runs place run run there.1 in
    let same : run.1 ≡ own place = subst (λ (r : ℕ × Stream). r.1 ≡ own r.0) read (of.runs place run (slice_get_within reply.runs place run there.1)) ∙ ap own there.2 in
    record {
      run = run;
      is = there.1;
      named = omega (arith, there.2, within, named);
      written = subst (λ (l : Lines). l.names ≡ names) (get_or_from_slice_get kept place lines lines here) (written place lines within);
      told = λ cut is.
          let was = told place cut is in (
            subst (λ (s : Stream). AreInDayOrder s.rows) (sym same) was.0,
            subst (λ (c : ℕ). IsKnownTo c cut lines run.1) (sym there.2) (subst (λ (s : Stream). IsKnownTo place cut lines s) (sym same) (was.1 lines here)),
          );
    }

-- once the lines of an answer of all contracts were made, all of a block is known, or nothing
pub known-whole : (board : History) (reply : Reply) (names : NameLists) (known : List Known) (kept : List Lines) → IsReplyOn board reply → AreOfAll (length kept) reply.runs → AllWereRenewed names reply.runs kept → AreWhole known kept
    → (c : ℕ) → IsKnown known kept c (run_of board.portfolio.contracts (take reply.version (entries_of board)) c)
known-whole board reply names known kept of all renewed whole = λ c cut is.
    let now = take reply.version (entries_of board) in
    let own : ℕ → Stream = λ c. run_of board.portfolio.contracts now c in
    let order = to-order deepest board.portfolio.contracts now c in (
      order,
      λ lines here.
          let there = all c (slice_get_within kept c lines here) in
          let run = there.0 in
          let read = get_or_from_slice_get reply.runs c run run there.1 in
          let same : run.1 ≡ own c = subst (λ (r : ℕ × Stream). r.1 ≡ own r.0) read (of.runs c run (slice_get_within reply.runs c run there.1)) ∙ ap own there.2 in
          elim ((renewed c lines here).block run there.1) [
            | inl block ↦ own-known c (own c) lines cut order (subst (λ (s : Stream). IsBlock c s lines) same (subst (λ (d : ℕ). IsBlock d run.1 lines) there.2 block))
            | inr none ↦ absurd ((whole c cut is).1 lines here none)
          ],
    )
