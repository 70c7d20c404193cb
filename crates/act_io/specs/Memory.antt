-- Files and a sink in memory, whose calls of given numbers fail. Calls are counted from 1.
use Rattle.std.specs.Prelude.{◌≡◌, ℕ, ◌==◌, nat_lt, if◌then◌else◌, Bool, List, [], ◌∷◌, ◌++◌, length, take, find, bytes_eq, Option, Some, None, option_map, Result, Ok, Err, Vec}
use Rattle.std.specs.List.{list_any}
use Rattle.std.specs.declared.alloc.Global.{Global}
use Rattle.act_io.specs.declared.files.FetchFault.{FetchFault}
use Rattle.act_io.specs.declared.files.FetchFault.TheVariants.{Failed, TooLong, NoMemory}
use Rattle.act_io.specs.declared.sink.PutFault.{PutFault}
use Rattle.act_io.specs.declared.sink.PutFault.TheVariants.{Failed as PutFailed, NoMemory as PutNoMemory}
use Rattle.act_io.specs.Faults.{next_count}
use Rattle.act_io.specs.Page.{Page}
use Rattle.act_io.specs.World.{World}

-- a list of names with bytes, the numbers of the calls that are to fail, the calls and faults so far, the call of the last fault, 0 for none, and the
-- names asked for
pub record FilesInMemory : Type 0 where
  pub files : List (List ℕ × List ℕ)
  pub fails : List ℕ
  pub calls : ℕ
  pub faults : ℕ
  pub failed_at : ℕ
  pub asked : List (List ℕ)

-- what was written, the numbers of the calls that are to fail, the calls and faults so far, and how many bytes a call takes at most
pub record SinkInMemory : Type 0 where
  pub written : List ℕ
  pub fails : List ℕ
  pub calls : ℕ
  pub faults : ℕ
  pub most : ℕ

-- the bytes of the first file of that name
abbrev pub content_of : List (List ℕ × List ℕ) → List ℕ → Option (List ℕ)
content_of files name = option_map (λ file. file.1) (find (λ file. bytes_eq file.0 name) files)

-- what contracts see of the files, which tell all
abbrev pub world_of : FilesInMemory → World
world_of files =
    record { content = content_of files.files; asked = Some files.asked; calls = files.calls; faults = files.faults; failed_at = files.failed_at }

-- what they see of the sink, which tells all
abbrev pub page_of : SinkInMemory → Page
page_of sink = record { written = Some sink.written; faults = sink.faults }

-- the next call is to fail
abbrev pub is_to_fail : List ℕ → ℕ → Bool
is_to_fail fails calls = list_any (λ n. n == next_count calls) fails

-- the bytes where they are no more than the limit; a fault where there is no file
abbrev pub file_answer : Option (List ℕ) → ℕ → Result (List ℕ) FetchFault
file_answer None limit = Err Failed
file_answer (Some bytes) limit = if nat_lt limit (length bytes) then Err TooLong else Ok bytes

-- the answer of the next call: a fault where it is to fail or no file has the name
abbrev pub fetch_answer : FilesInMemory → List ℕ → ℕ → Result (List ℕ) FetchFault
fetch_answer files name limit =
    if is_to_fail files.fails files.calls then Err Failed else file_answer (content_of files.files name) limit

-- the answer is the one that is wanted, unless memory ran out
abbrev pub Answers : Result (Vec ℕ Global) FetchFault → Result (List ℕ) FetchFault → Type 0
Answers (Err NoMemory) wanted = Unit {0}
Answers (Err Failed) wanted = wanted ≡ Err Failed
Answers (Err TooLong) wanted = wanted ≡ Err TooLong
Answers (Ok read) wanted = wanted ≡ Ok read.items

-- the files with one more call, and one more name asked for
abbrev pub files_called : FilesInMemory → List ℕ → FilesInMemory
files_called files name = record files { calls = next_count files.calls; asked = files.asked ++ name ∷ [] }

-- the same with one more fault, at this call, where the answer is Failed; the files as they were where memory ran out
abbrev pub files_after : Result (Vec ℕ Global) FetchFault → FilesInMemory → List ℕ → FilesInMemory
files_after (Err NoMemory) files name = files
files_after (Err Failed) files name =
    record (files_called files name) { faults = next_count files.faults; failed_at = next_count files.calls }
files_after answer files name = files_called files name

-- the answer of the next call: 0 at an empty piece, a fault where the call is to fail, and else the piece's length, or the most that is
-- taken
abbrev pub put_answer : SinkInMemory → List ℕ → Result ℕ PutFault
put_answer sink piece =
    if length piece == 0 then Ok 0 else if is_to_fail sink.fails sink.calls then Err PutFailed else Ok (if nat_lt sink.most (length piece) then sink.most else length piece)

-- the sink with one more call, and with what it took or one more fault; as it was at an empty piece or where memory ran out
abbrev pub sink_after : Result ℕ PutFault → SinkInMemory → List ℕ → SinkInMemory
sink_after (Err PutNoMemory) sink piece = sink
sink_after (Err PutFailed) sink piece = record sink { calls = next_count sink.calls; faults = next_count sink.faults }
sink_after (Ok n) sink piece =
    if length piece == 0 then sink else record sink { written = sink.written ++ take n piece; calls = next_count sink.calls }
