-- What is played of a job.
use Rattle.std.proofs.Common.{◌≡◌, ℕ, ◌≤◌, true, List, [], ◌∷◌, length, map, get_or, Option, Some, Result, Ok, Err, IfOk, refl, sym, ap, subst, ◌∙◌, arith}
use Rattle.std.specs.List.{count_by}
use Rattle.std.proofs.lemmas.List.{length-map, map-id}
use Rattle.std.proofs.lemmas.List.Sums.{sum-map}
use Rattle.act_desk.specs.Making.{appends, asks_known}
use Rattle.act_engine.specs.Ending.{Outcome}
use Rattle.act_engine.specs.declared.status.Status.TheVariants.{Done}
use Rattle.act_eval.proofs.Light.{few-in-each}
use Rattle.act_history.specs.History.{History, journal_of, replies_of}
use Rattle.act_job.specs.Job.{IsRunnable, Job}
use Rattle.act_job.specs.Scripts.{Scripts}
use Rattle.act_model.specs.Answer.{Reply}
use Rattle.act_model.specs.Journal.{is_known}
use Rattle.act_model.specs.Names.{NameLists}
use Rattle.act_model.specs.declared.journal.Asked.TheVariants.{All as AskAll, One}
use Rattle.act_model.specs.declared.journal.Item.{Item}
use Rattle.act_model.specs.declared.journal.Line.{Line}
use Rattle.act_model.specs.declared.journal.Step.{Step}
use Rattle.act_model.specs.declared.journal.Step.TheVariants.{Append, Ask}
use Rattle.act_portfolio.specs.Reading.{Accepted}
use Rattle.act_profile.specs.Answers.{answers_of}
use Rattle.act_profile.specs.Run.{Contracts}
use Rattle.act_session.specs.Interleaving.{IsInterleaving}
use Rattle.act_session.specs.Playing.{ArePlayable, IsPlayed}
use Rattle.act_session.specs.declared.outcome.Session.{Session}
use Rattle.act_transcript.specs.Ends.{answers_status}
use Rattle.act_transcript.specs.Text.{heads_text, output_of}
use Rattle.act_top.specs.Big.{IsBig}
use Rattle.act_top.specs.Desk.{IsDesk, IsPlayOf}
use Rattle.act_top.specs.Totals.{all_totals, answer_totals, totals_lines, totals_text}
use Rattle.act_top.specs.declared.totals.Totals.{Totals}
use Rattle.act_top.proofs.Counting.{answers-together}
use Rattle.act_top.proofs.Interleavings.{one-script}

-- answers are the same whatever codes have a name
pub answers-same : (contracts : Contracts) (names others : NameLists) (items : List Item) → names.contracts ≡ others.contracts → answers_of contracts names items ≡ answers_of contracts others items
answers-same contracts names others items same = ap (λ (ids : List (List ℕ)). answers_of contracts (record { contracts = ids; codes = []; currencies = [] }) items) same

-- what a script asks for is there, where the contracts of its names are the portfolio's
asked-known : (names others : NameLists) (step : Step) → names.contracts ≡ others.contracts → is_known names step ≡ true → asks_known others step ≡ true
asked-known names others (Append entry) same known = refl
asked-known names others (Ask AskAll) same known = refl
asked-known names others (Ask (One contract)) same known = rw same at known

-- the scripts of a job can be played
pub playable : (portfolio : Accepted) (scripts : Scripts) (workers : ℕ) → IsRunnable portfolio scripts workers → 1 ≤ length scripts.lists → ArePlayable portfolio scripts.lists
playable portfolio scripts workers ready some = record {
  some = some;
  few = ready.few_scripts;
  fits = omega (arith, ready.lines.counted, ready.lines.few, sum-map (count_by appends) scripts.lists);
  each = λ k d within. record {
    few = few-in-each portfolio scripts.lists ready.light k d within;
    entries = ready.lines.entries k d within;
    known = λ j e below. asked-known scripts.names portfolio.names (get_or (get_or scripts.lists k d) j e).step ready.lines.contracts (ready.lines.known k d within j e below);
  };
}

-- what was played is of the job
pub played-of : {A E : Type 0} (kept_of : Reply → A) (job : Job) (of : Accepted) (lists : List (List Line)) (r : Result (Session A) E) → of ≡ job.portfolio → lists ≡ job.scripts.lists → IsRunnable job.portfolio job.scripts job.workers
    → IfOk r (λ s. IsPlayed of lists s.board) → IfOk r (λ s. replies_of s.answers.items ≡ map kept_of (answers_of of.contracts of.names (journal_of s.board))) → IfOk r (IsPlayOf kept_of job)
played-of kept_of job of lists (Ok s) portfolio same runnable played answers = record {
  runnable = runnable;
  played = subst (λ (p : Accepted). IsPlayed p job.scripts.lists s.board) portfolio (subst (λ (ls : List (List Line)). IsPlayed of ls s.board) same played);
  answers = answers ∙ ap (map kept_of) (ap (λ (p : Accepted). answers_of p.contracts p.names (journal_of s.board)) portfolio ∙ answers-same job.portfolio.contracts job.portfolio.names job.scripts.names (journal_of s.board) (sym runnable.lines.contracts));
}
played-of kept_of job of lists (Err e) portfolio same runnable played answers = tt

-- ---- what is written

-- the heads of a journal that is read from a board
pub heads-same : (names others : NameLists) (read items : List Item) (count answers : ℕ) → names ≡ others → read ≡ items → count ≡ answers → heads_text names (map (λ (item : Item). item) read) count ≡ heads_text others items answers
heads-same names others read items count answers named same counted = rw (named, same, counted, map-id items) refl

-- the totals of answers, by those that are kept of each
pub totals-same : (size named count : ℕ) (totals : List Totals) (answers : List Reply) → named ≡ count → totals ≡ map answer_totals answers → totals_lines size named (length totals) (all_totals totals) ≡ totals_text size count answers
totals-same size named count totals answers same kept =
    ap (λ (n : ℕ). totals_lines size n (length totals) (all_totals totals)) same
    ∙ (ap (λ (ts : List Totals). totals_lines size count (length ts) (all_totals ts)) kept
    ∙ (ap (λ (n : ℕ). totals_lines size count n (all_totals (map answer_totals answers))) (length-map answers answer_totals)
    ∙ ap (λ (ts : Totals). totals_lines size count (length answers) ts) (answers-together answers)))

-- ---- what a run comes to

-- of what was played at a desk
abbrev pub desk_outcome : Job → History → Outcome
desk_outcome job history = record {
  status = answers_status (answers_of job.portfolio.contracts job.scripts.names (journal_of history));
  text = output_of job.portfolio job.scripts.names (journal_of history);
  rows = 0;
}

pub desk-is : (job : Job) (history : History) (handed : Option History) → IsRunnable job.portfolio job.scripts job.workers → IsPlayed job.portfolio job.scripts.lists history → handed ≡ Some history → IsDesk job (desk_outcome job history) handed
desk-is job history handed runnable played hands = record { runnable = runnable; history = history; hands = hands; played = played; text = refl; status = refl; rows = refl }

-- of what was played of a number
abbrev pub big_outcome : ℕ → Job → History → Outcome
big_outcome size job history = record {
  status = Done;
  text = totals_text size (length job.portfolio.names.contracts) (answers_of job.portfolio.contracts job.scripts.names (journal_of history));
  rows = 0;
}

only-list : (lists : List (List Line)) → length lists ≡ 1 → lists ≡ get_or lists 0 [] ∷ []
only-list [] one = absurd (omega (arith, one))
only-list (lines ∷ []) one = refl
only-list (lines ∷ other ∷ others) one = absurd (omega (arith, one))

pub big-is : (size : ℕ) (job : Job) (history : History) (handed : Option History) → length job.scripts.lists ≡ 1 → IsPlayed job.portfolio job.scripts.lists history → handed ≡ Some history → IsBig size job (big_outcome size job history) handed
big-is size job history handed one played hands =
    let lines = get_or job.scripts.lists 0 [] in
    let only = only-list job.scripts.lists one in
    let journal = one-script lines (journal_of history) (subst (λ (lists : List (List Line)). IsInterleaving lists (journal_of history)) only played.interleaved) in
    record {
      lines = lines;
      one = only;
      history = history;
      hands = hands;
      played = played;
      journal = journal;
      is = ap (λ (items : List Item). record {
        status = Done;
        text = totals_text size (length job.portfolio.names.contracts) (answers_of job.portfolio.contracts job.scripts.names items);
        rows = 0;
      }) journal;
    }
