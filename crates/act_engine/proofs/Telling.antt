-- What statuses tell of faults, and what is written where files tell their bytes.
use Rattle.std.proofs.Common.{◌≡◌, ◌⊎◌, inl, inr, ℕ, List, Option, Some, Result, Ok, Err, refl, sym, ap, subst}
use Rattle.act_io.specs.Faults.{next_count}
use Rattle.act_io.specs.Page.{Page}
use Rattle.act_io.specs.World.{World, asked_for}
use Rattle.act_engine.specs.Ending.{Ends, EndsBy, Meaning, Outside, StopsWithin}
use Rattle.act_engine.specs.Reading.{Done, Fetch, Halt, IsTold, Reading, Reads, Refuse, Refused, Stopped, and_then}
use Rattle.act_engine.specs.Refusal.{Refusal, Unread, refusal_line, refusal_status}
use Rattle.act_engine.specs.Telling.{EndsAsTold, Fails, IsOfText, IsRegular, IsRegularReading, IsWritten, TellsFaults}
use Rattle.act_engine.specs.declared.status.Status.{Status}
use Rattle.act_engine.specs.declared.writing.Failure.TheVariants.{Sink, Memory}

-- ---- regular readings

-- one behind another
pub regular-then : {A B : Type 0} (reading : Reading A) (next : A → Reading B) → IsRegularReading reading → ((value : A) → IsRegularReading (next value)) → IsRegularReading (and_then reading next)
regular-then (Done value) next first rest = rest value
regular-then (Refuse refusal) next first rest = first
regular-then (Fetch name limit more) next first rest = λ bytes. regular-then (more bytes) next (first bytes) rest

-- the count of failed reads by what was read
abbrev pub faults_by : {A : Type 0} → Result A Halt → ℕ → ℕ
faults_by (Err (Refused (Unread name))) faults = next_count faults
faults_by others faults = faults

refuse-faults : (A : Type 0) (refusal : Refusal) (faults : ℕ) → IsRegularReading {A = A} (Refuse refusal) → faults_by {A = A} (Err (Refused refusal)) faults ≡ faults
refuse-faults A (Unread name) faults regular = absurd regular
refuse-faults A refusal faults regular = refl

pub reads-faults : {A : Type 0} (reading : Reading A) (before after : World) (result : Result A Halt) → IsRegularReading reading → Reads reading before result after → after.faults ≡ faults_by result before.faults
reads-faults (Done value) before after result regular (inl is, same) = rw (is, same) refl
reads-faults (Done value) before after result regular (inr is, same) = rw (is, same) refl
reads-faults {A} (Refuse refusal) before after result regular (inl is, same) = rw (is, same) (sym (refuse-faults A refusal before.faults regular))
reads-faults (Refuse refusal) before after result regular (inr is, same) = rw (is, same) refl
reads-faults (Fetch name limit next) before after result regular (inl (is, same)) = rw (is, same) refl
reads-faults (Fetch name limit next) before after result regular (inr (inl (is, same))) = rw (is, same) refl
reads-faults (Fetch name limit next) before after result regular (inr (inr (inl (is, same, long)))) = rw (is, same) refl
reads-faults (Fetch name limit next) before after result regular (inr (inr (inr (bytes, within, is, read)))) =
    reads-faults (next bytes) (asked_for name before) after result (regular bytes) read

-- where a read failed, it was the last call
abbrev pub FailsLast : {A : Type 0} → Result A Halt → World → Type 0
FailsLast (Err (Refused (Unread name))) world = world.failed_at ≡ world.calls
FailsLast others world = Unit {0}

refuse-last : (A : Type 0) (refusal : Refusal) (world : World) → IsRegularReading {A = A} (Refuse refusal) → FailsLast {A = A} (Err (Refused refusal)) world
refuse-last A (Unread name) world regular = absurd regular
refuse-last A refusal world regular = tt

pub reads-last : {A : Type 0} (reading : Reading A) (before after : World) (result : Result A Halt) → IsRegularReading reading → Reads reading before result after → FailsLast result after
reads-last (Done value) before after result regular (inl is, same) = rw is tt
reads-last (Done value) before after result regular (inr is, same) = rw is tt
reads-last {A} (Refuse refusal) before after result regular (inl is, same) = rw is (refuse-last A refusal after regular)
reads-last (Refuse refusal) before after result regular (inr is, same) = rw is tt
reads-last (Fetch name limit next) before after result regular (inl (is, same)) = rw is tt
reads-last (Fetch name limit next) before after result regular (inr (inl (is, same))) = rw (is, same) refl
reads-last (Fetch name limit next) before after result regular (inr (inr (inl (is, same, long)))) = rw is tt
reads-last (Fetch name limit next) before after result regular (inr (inr (inr (bytes, within, is, read)))) =
    reads-last (next bytes) (asked_for name before) after result (regular bytes) read

-- ---- how a command ends

module _ (before : Outside) (status : Status) (after : Outside) where
  tells-text : IsOfText status → after.world.faults ≡ before.world.faults → after.page.faults ≡ before.page.faults → TellsFaults before status after
  tells-text (inl is) read put = rw is (read, put)
  tells-text (inr (inl is)) read put = rw is (read, put)
  tells-text (inr (inr is)) read put = rw is (read, put)

  tells-refused : (A : Type 0) (refusal : Refusal) → status ≡ refusal_status refusal → after.world.faults ≡ faults_by {A = A} (Err (Refused refusal)) before.world.faults → FailsLast {A = A} (Err (Refused refusal)) after.world
      → after.page.faults ≡ before.page.faults → TellsFaults before status after
  tells-refused A (Unread name) is read last put = rw is (read, last, put)
  tells-refused A refusal is read last put = rw is (read, put)

  -- a text of which a part was written
  tells-stopped : (text : List ℕ) → StopsWithin text before.page status after.page → TellsFaults before status after
  tells-stopped text (inl (is, part)) = rw is (ap (λ (p : Page). p.faults) part.put)
  tells-stopped text (inr (is, part)) = rw is (ap (λ (p : Page). p.faults) part.put)

  fails-stopped : (text : List ℕ) → StopsWithin text before.page status after.page → Fails before status after
  fails-stopped text (inl (is, part)) = inr (inl (is, ap (λ (p : Page). p.faults) part.put))
  fails-stopped text (inr (is, part)) = inr (inr is)

module _ {A B : Type 0} (meaning : Meaning A B) (usage : List ℕ) (before : Outside) (status : Status) (handed : Option B) (after : Outside) where
  tells-by : (read : Result A Halt) → IsRegular meaning → after.world.faults ≡ faults_by read before.world.faults → FailsLast read after.world → EndsBy meaning usage read before status handed after
      → TellsFaults before status after
  tells-by (Ok value) regular read last (outcome, hands, is, inl whole) =
      tells-text before status after (subst IsOfText (sym whole.status_is) (regular.statuses value outcome hands is)) read (ap (λ (p : Page). p.faults) whole.put)
  tells-by (Ok value) regular read last (outcome, hands, is, inr (none, part)) = tells-stopped before status after outcome.text part
  tells-by (Err (Refused refusal)) regular read last ended =
      elim ended.wrote [
        | inl (is, put) ↦ tells-refused before status after A refusal is read last (ap (λ (p : Page). p.faults) put)
        | inr part ↦ tells-stopped before status after (refusal_line usage refusal) part
      ]
  tells-by (Err (Stopped Sink)) regular read last ended = absurd ended
  tells-by (Err (Stopped Memory)) regular read last (is, none, same) = rw is (ap (λ (p : Page). p.faults) same)

  -- the status tells of faults
  pub tells-faults : IsRegular meaning → Ends meaning usage before status handed after → TellsFaults before status after
  tells-faults regular ended =
      tells-by ended.read regular (reads-faults meaning.reading before.world after.world ended.read regular.reading ended.reads)
      (reads-last meaning.reading before.world after.world ended.read regular.reading ended.reads) ended.ends

  -- what was read is what is wanted
  value-told : (value : A) → EndsBy meaning usage (Ok value) before status handed after → IsWritten meaning usage (Ok value) before status handed after ⊎ Fails before status after
  value-told value (outcome, hands, is, inl whole) =
      inl (
        outcome,
        subst (λ (h : Option B). meaning.IsOutcome value outcome h) (sym whole.hands_out) is,
        record { status_is = whole.status_is; put = whole.put; counted = whole.counted; hands_out = refl },
      )
  value-told value (outcome, hands, is, inr (none, part)) = inr (fails-stopped before status after outcome.text part)

  refusal-told : (refusal : Refusal) → EndsBy meaning usage (Err (Refused refusal)) before status handed after → IsWritten meaning usage (Err refusal) before status handed after ⊎ Fails before status after
  refusal-told refusal ended =
      elim ended.wrote [
        | inl (is, put) ↦ inl (is, put, ended.counted, ended.hands_out)
        | inr part ↦ inr (fails-stopped before status after (refusal_line usage refusal) part)
      ]

  told-by : (wanted : Result A Refusal) (read : Result A Halt) → IsTold (Some wanted) read → after.world.faults ≡ faults_by read before.world.faults → EndsBy meaning usage read before status handed after
      → IsWritten meaning usage wanted before status handed after ⊎ Fails before status after
  told-by wanted (Ok value) same read ended = rw same (value-told value ended)
  told-by wanted (Err (Refused (Unread name))) same read ended =
      inr (elim ended.wrote [
        | inl (is, put) ↦ inl (is, read)
        | inr part ↦ fails-stopped before status after (refusal_line usage (Unread name)) part
      ])
  told-by wanted (Err (Refused refusal)) same read ended = rw same (refusal-told refusal ended)
  told-by wanted (Err (Stopped Sink)) same read ended = absurd ended
  told-by wanted (Err (Stopped Memory)) same read ended = inr (inr (inr ended.0))

  -- what files tell is written
  pub ends-as-told : IsRegular meaning → Ends meaning usage before status handed after → EndsAsTold meaning usage before status handed after
  ends-as-told regular ended wanted is =
      told-by wanted ended.read (subst (λ (t : Option (Result A Refusal)). IsTold t ended.read) is ended.told_is)
      (reads-faults meaning.reading before.world after.world ended.read regular.reading ended.reads) ended.ends
