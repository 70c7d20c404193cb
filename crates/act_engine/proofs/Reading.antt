-- What reading comes to, put together.
use Rattle.std.proofs.Common.{◌≡◌, inl, inr, ℕ, ◌<◌, ◌≤◌, List, length, Option, None, Some, Result, Ok, Err, IfSome, false, refl, sym, ap, subst, arith}
use Rattle.std.specs.Prelude.{nat_lt, if◌then◌else◌, option_and_then}
use Rattle.act_io.specs.World.{World, asked_for}
use Rattle.act_engine.specs.Reading.{Halt, IsTold, Reading, Done, Refuse, Fetch, Reads, Refused, Stopped, and_then, told}
use Rattle.std.proofs.lemmas.Bool.{le-ltb, lt-ltb}
use Rattle.act_engine.specs.Refusal.{Refusal, Words, Unread, TooLong, Portfolio, Script}
use Rattle.act_engine.specs.declared.writing.Failure.TheVariants.{Sink, Memory}

-- memory may run out before anything is read
pub want_at_once : {A : Type 0} (reading : Reading A) (world : World) → Reads reading world (Err (Stopped Memory)) world
want_at_once (Done value) world = (inr refl, refl)
want_at_once (Refuse refusal) world = (inr refl, refl)
want_at_once (Fetch name limit next) world = inl (refl, refl)

-- and once all is there
pub want_behind : {A : Type 0} (reading : Reading A) (before after : World) (value : A) → Reads reading before (Ok value) after → Reads reading before (Err (Stopped Memory)) after
want_behind (Done v) before after value (is, same) = (inr refl, same)
want_behind (Refuse refusal) before after value (is, same) = (inr refl, same)
want_behind (Fetch name limit next) before after value (inl (is, same)) = inl (refl, same)
want_behind (Fetch name limit next) before after value (inr (inl (is, same))) = absurd (cc)
want_behind (Fetch name limit next) before after value (inr (inr (inl (is, same, long)))) = absurd (cc)
want_behind (Fetch name limit next) before after value (inr (inr (inr (bytes, within, is, rest)))) =
    inr (inr (inr (bytes, within, is, want_behind (next bytes) (asked_for name before) after value rest)))

-- what is read behind a value that is there
pub reads_next : {A B : Type 0} (reading : Reading A) (next : A → Reading B) (before middle after : World) (value : A) (result : Result B Halt) → Reads reading before (Ok value) middle → Reads (next value) middle result after
    → Reads (and_then reading next) before result after
reads_next (Done v) next before middle after value result (inl is, same) rest =
    subst (λ (w : World). Reads (next v) w result after) same (subst (λ (a : _). Reads (next a) middle result after) (cc) rest)
reads_next (Done v) next before middle after value result (inr is, same) rest = absurd (cc)
reads_next (Refuse refusal) next before middle after value result (inl is, same) rest = absurd (cc)
reads_next (Refuse refusal) next before middle after value result (inr is, same) rest = absurd (cc)
reads_next (Fetch name limit more) next before middle after value result (inl (is, same)) rest = absurd (cc)
reads_next (Fetch name limit more) next before middle after value result (inr (inl (is, same))) rest = absurd (cc)
reads_next (Fetch name limit more) next before middle after value result (inr (inr (inl (is, same, long)))) rest = absurd (cc)
reads_next (Fetch name limit more) next before middle after value result (inr (inr (inr (bytes, within, is, read)))) rest =
    inr (inr (inr (bytes, within, is, reads_next (more bytes) next (asked_for name before) middle after value result read rest)))

-- where it isn't there nothing is read behind it
pub reads_halt : {A B : Type 0} (reading : Reading A) (next : A → Reading B) (before after : World) (halt : Halt) → Reads reading before (Err halt) after → Reads (and_then reading next) before (Err halt) after
reads_halt {A} {B} (Done v) next before after halt (inl is, same) = absurd (cc)
reads_halt {A} {B} (Done v) next before after halt (inr is, same) =
    let want : halt ≡ Stopped Memory = cc in
    subst (λ (h : Halt). Reads (next v) before (Err h) after) (sym want) (subst (λ (w : World). Reads (next v) before (Err (Stopped Memory)) w) (sym same) (want_at_once (next v) before))
reads_halt (Refuse refusal) next before after halt (inl is, same) = (inl (cc), same)
reads_halt (Refuse refusal) next before after halt (inr is, same) = (inr (cc), same)
reads_halt (Fetch name limit more) next before after halt (inl (is, same)) = inl (cc, same)
reads_halt (Fetch name limit more) next before after halt (inr (inl (is, same))) = inr (inl (cc, same))
reads_halt (Fetch name limit more) next before after halt (inr (inr (inl (is, same, long)))) = inr (inr (inl (cc, same, long)))
reads_halt (Fetch name limit more) next before after halt (inr (inr (inr (bytes, within, is, read)))) =
    inr (inr (inr (bytes, within, is, reads_halt (more bytes) next (asked_for name before) after halt read)))

-- a value that is handed on
pub reads_value : {A : Type 0} (value : A) (world : World) → Reads (Done value) world (Ok value) world
reads_value value world = (inl refl, refl)

pub reads_refusal : {A : Type 0} (refusal : Refusal) (world : World) → Reads {A = A} (Refuse refusal) world (Err (Refused refusal)) world
reads_refusal refusal world = (inl refl, refl)

-- reading fails for no fault of a sink
pub no_sink : {A : Type 0} (reading : Reading A) (before after : World) → Reads reading before (Err (Stopped Sink)) after → ⊥
no_sink (Done value) before after (inl is, same) = cc
no_sink (Done value) before after (inr is, same) = cc
no_sink (Refuse refusal) before after (inl is, same) = cc
no_sink (Refuse refusal) before after (inr is, same) = cc
no_sink (Fetch name limit next) before after (inl (is, same)) = cc
no_sink (Fetch name limit next) before after (inr (inl (is, same))) = cc
no_sink (Fetch name limit next) before after (inr (inr (inl (is, same, long)))) = cc
no_sink (Fetch name limit next) before after (inr (inr (inr (bytes, within, is, read)))) = no_sink (next bytes) (asked_for name before) after read

-- ---- what is told

-- nothing is
told-none : {A : Type 0} (result : Result A Halt) → IsTold None result
told-none (Ok value) = tt
told-none (Err (Refused Words)) = tt
told-none (Err (Refused (Unread name))) = tt
told-none (Err (Refused (TooLong name))) = tt
told-none (Err (Refused (Portfolio number place what))) = tt
told-none (Err (Refused (Script rule script line))) = tt
told-none (Err (Stopped stop)) = tt

told-refused : (A : Type 0) (refusal : Refusal) → IsTold {A = A} (Some (Err refusal)) (Err (Refused refusal))
told-refused A Words = refl
told-refused A (Unread name) = tt
told-refused A (TooLong name) = refl
told-refused A (Portfolio number place what) = refl
told-refused A (Script rule script line) = refl

-- what is told behind a file is told of it
told-behind : {A : Type 0} (content : Option (List ℕ)) (name : List ℕ) (limit : ℕ) (bytes : List ℕ) (behind : List ℕ → Option (Result A Refusal)) (result : Result A Halt) → length bytes ≤ limit → IfSome content (λ b. b ≡ bytes)
    → IsTold (behind bytes) result → IsTold (option_and_then (λ b. if nat_lt limit (length b) then Some (Err (TooLong name)) else behind b) content) result
told-behind None name limit bytes behind result within is so = told-none result
told-behind (Some b) name limit bytes behind result within is so =
    let short : nat_lt limit (length b) ≡ false = le-ltb limit (length b) (omega (arith, within, ap length is)) in
    rw (short, is) so

-- nor is more than a file may have
told-long : {A : Type 0} (content : Option (List ℕ)) (name : List ℕ) (limit : ℕ) (behind : List ℕ → Option (Result A Refusal)) → IfSome content (λ b. limit < length b)
    → IsTold {A = A} (option_and_then (λ b. if nat_lt limit (length b) then Some (Err (TooLong name)) else behind b) content) (Err (Refused (TooLong name)))
told-long None name limit behind long = tt
told-long (Some b) name limit behind long = rw (lt-ltb limit (length b) long) refl

-- where files are told, what was read is what is told
pub reads_told : {A : Type 0} (reading : Reading A) (before after : World) (result : Result A Halt) → Reads reading before result after → IsTold (told before.content reading) result
reads_told (Done value) before after result (inl is, same) = rw is refl
reads_told (Done value) before after result (inr is, same) = rw is tt
reads_told (Refuse refusal) before after result (inl is, same) = rw is (told-refused _ refusal)
reads_told (Refuse refusal) before after result (inr is, same) = rw is tt
reads_told (Fetch name limit next) before after result (inl (is, same)) = rw is tt
reads_told (Fetch name limit next) before after result (inr (inl (is, same))) = rw is tt
reads_told (Fetch name limit next) before after result (inr (inr (inl (is, same, long)))) = rw is (told-long (before.content name) name limit (λ b. told before.content (next b)) long)
reads_told (Fetch name limit next) before after result (inr (inr (inr (bytes, within, is, read)))) =
    told-behind (before.content name) name limit bytes (λ b. told before.content (next b)) result within is (reads_told (next bytes) (asked_for name before) after result read)
