-- What bytes are read as. This profile's own.
use Rattle.std.specs.Prelude.{ℕ, if◌then◌else◌, List, Option, None, Result}
use Rattle.std.specs.Option.{ok_or}
use Rattle.std.specs.Str.{is_utf8}
use Rattle.act_json.specs.Quoting.{quoted}
use Rattle.act_json.specs.declared.fault.JsonFault.{JsonFault}
use Rattle.act_json.specs.declared.fault.JsonFault.TheVariants.{NotJson}
use Rattle.serde_json.specs.Data.{Data}
use Rattle.serde_json.specs.Read.{read}

-- the JSON value that the bytes are read as, once each bare number is in quotes. `read` is what serde_json means by a reading:
-- the whole text is one value that nests at most 127 deep, and an object that gives a name twice has it once, with the last value
unfoldable pub reading_of : List ℕ → Option Data
reading_of bytes = if is_utf8 (quoted bytes) then read (quoted bytes) else None

-- the same value, or NotJson
abbrev pub json_of : List ℕ → Result Data JsonFault
json_of bytes = ok_or (reading_of bytes) NotJson
