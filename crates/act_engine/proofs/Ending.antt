-- How commands end, put together.
use Rattle.std.proofs.Common.{◌≡◌, ◌⊎◌, ◌+◌, inl, inr, ℕ, List, Option, None, Ok, Err, refl, sym, subst, ◌∙◌}
use Rattle.act_io.specs.Page.{Page, written_on}
use Rattle.act_engine.specs.Ending.{Concludes, Ends, Goes, Meaning, Outcome, Outside, StopsWithin}
use Rattle.act_engine.specs.Reading.{Halt, Reads, Refused, Stopped}
use Rattle.act_engine.specs.Refusal.{refusal_line, refusal_status}
use Rattle.act_engine.specs.Writing.{IsPart, IsProperPart, StopsIn}
use Rattle.act_engine.specs.declared.status.Status.{Status}
use Rattle.act_engine.specs.declared.writing.Failure.{Failure}
use Rattle.act_engine.specs.declared.writing.Failure.TheVariants.{Sink, Memory}
use Rattle.act_engine.proofs.Reading.{no_sink, reads_told, want_behind}

-- the outside with another page
abbrev pub with_page : Outside → Page → Outside
with_page outside page = record outside { page = page }

module _ {A B : Type 0} (meaning : Meaning A B) (usage : List ℕ) (before : Outside) where
  -- a command whose outcome was written whole
  pub ends-whole : (status : Status) (handed : Option B) (after : Outside) → Goes meaning before (Ok status) handed after → Ends meaning usage before status handed after
  ends-whole status handed after (value, outcome, reads, is, whole) =
      record { read = Ok value; reads = reads; told_is = reads_told meaning.reading before.world after.world _ reads; ends = (outcome, handed, is, inl whole) }

  -- and one that stopped, once its line is written
  pub ends-halt : (halt : Halt) (status : Status) (middle : Outside) (page : Page) → Goes {A = A} {B = B} meaning before (Err halt) None middle → Concludes usage halt middle.page status page
      → Ends meaning usage before status None (with_page middle page)
  ends-halt (Refused refusal) status middle page (reads, none, same, counted) said =
      record {
        read = Err (Refused refusal);
        reads = reads;
        told_is = reads_told meaning.reading before.world middle.world _ reads;
        ends = record {
          wrote = subst (λ (p : Page). ((status ≡ refusal_status refusal) × (page ≡ written_on p (refusal_line usage refusal))) ⊎ StopsWithin (refusal_line usage refusal) p status page) same said;
          counted = counted;
          hands_out = refl;
        };
      }
  ends-halt (Stopped Sink) status middle page (none, (value, outcome, hands, reads, is, part)) (failed, same) =
      record { read = Ok value; reads = reads; told_is = reads_told meaning.reading before.world middle.world _ reads; ends = (outcome, hands, is, inr (refl, inl (failed, subst (λ (p : Page). IsProperPart outcome.text before.page p) (sym same) part))) }
  ends-halt (Stopped Memory) status middle page (none, inl (reads, kept)) (want, same) =
      record { read = Err (Stopped Memory); reads = reads; told_is = reads_told meaning.reading before.world middle.world _ reads; ends = (want, refl, same ∙ kept) }
  ends-halt (Stopped Memory) status middle page (none, inr (value, outcome, hands, reads, is, part)) (want, same) =
      record { read = Ok value; reads = reads; told_is = reads_told meaning.reading before.world middle.world _ reads; ends = (outcome, hands, is, inr (refl, inr (want, subst (λ (p : Page). IsPart outcome.text before.page p) (sym same) part))) }

-- ---- what a command comes to

module _ {A B : Type 0} (meaning : Meaning A B) (before after : Outside) where
  -- nothing is there to be written
  pub goes-halt : (halt : Halt) → Reads meaning.reading before.world (Err halt) after.world → after.page ≡ before.page → after.rows ≡ before.rows → Goes {A = A} {B = B} meaning before (Err halt) None after
  goes-halt (Refused refusal) reads same counted = (reads, refl, same, counted)
  goes-halt (Stopped Sink) reads same counted = absurd (no_sink meaning.reading before.world after.world reads)
  goes-halt (Stopped Memory) reads same counted = (refl, inl (reads, same))

  -- memory runs out before anything is written
  pub goes-want : (value : A) → Reads meaning.reading before.world (Ok value) after.world → after.page ≡ before.page → Goes {A = A} {B = B} meaning before (Err (Stopped Memory)) None after
  goes-want value reads same = (refl, inl (want_behind meaning.reading before.world after.world value reads, same))

  -- an outcome is written in part
  pub goes-part : (stop : Failure) (value : A) (outcome : Outcome) (hands : Option B) → Reads meaning.reading before.world (Ok value) after.world → meaning.IsOutcome value outcome hands → StopsIn stop outcome.text before.page after.page
      → Goes {A = A} {B = B} meaning before (Err (Stopped stop)) None after
  goes-part Sink value outcome hands reads is part = (refl, (value, outcome, hands, reads, is, part))
  goes-part Memory value outcome hands reads is part = (refl, inr (value, outcome, hands, reads, is, part))

  -- or whole
  pub goes-whole : (value : A) (outcome : Outcome) (status : Status) (handed : Option B) → Reads meaning.reading before.world (Ok value) after.world → meaning.IsOutcome value outcome handed → status ≡ outcome.status
      → after.page ≡ written_on before.page outcome.text → after.rows ≡ before.rows + outcome.rows → Goes meaning before (Ok status) handed after
  goes-whole value outcome status handed reads is same put counted = (value, outcome, reads, is, record { status_is = same; put = put; counted = counted; hands_out = refl })
