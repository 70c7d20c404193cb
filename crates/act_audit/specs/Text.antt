-- The bytes of a text: its line of work, the codes that its journal names, and where it first differs from another. This profile's own.
use Rattle.std.specs.Prelude.{ℕ, zero, suc, ◌+◌, ◌==◌, nat_eq, not, ◌&&◌, if◌then◌else◌, Bool, List, [], ◌∷◌, codes, drop, take, Option, Some, None, bytes_eq}
use Rattle.std.specs.List.{common_prefix_len, count_by, starts_with, take_while}
use Rattle.act_model.specs.Name.{is_name}
use Rattle.act_model.specs.Names.{NameLists, with_name}
use Rattle.act_print.specs.Faults.{lines_of}
use Rattle.act_print.specs.Words.{◌>>=◌, word_at}

-- the most bytes of a text. One of so many has fewer than 2^32 - 1 lines
abbrev pub most_text : ℕ
most_text = 4_294_967_294

-- ---- the line of work

-- a line feed
abbrev pub is_feed : ℕ → Bool
is_feed byte = byte == 10

-- a place, one further on; where the last line begins at once it begins behind this byte, if that is a line feed
abbrev pub one_further : ℕ → Bool → ℕ
one_further zero feed = if feed then 1 else 0
one_further (suc place) feed = suc (suc place)

-- the place at which the last line begins; a last piece without a line feed is a line too
abbrev pub last_line_at : List ℕ → ℕ
last_line_at [] = 0
last_line_at (byte ∷ []) = 0
last_line_at (byte ∷ next ∷ bytes) = one_further (last_line_at (next ∷ bytes)) (is_feed byte)

-- the last line begins with the word `work`
abbrev pub has_work_line : List ℕ → Bool
has_work_line bytes = starts_with nat_eq (drop (last_line_at bytes) bytes) (codes "work")

-- the bytes in front of the line of work, or all where there is none
abbrev pub text_in : List ℕ → List ℕ
text_in bytes = if has_work_line bytes then take (last_line_at bytes) bytes else bytes

-- ---- the codes of the journal

-- the code that a line names, where it is that of a rate: the third of its words, behind `rate`
unfoldable pub code_in_line : List ℕ → Option (List ℕ)
code_in_line line = do
  caller ← word_at line
  verb ← word_at caller.1
  code ← word_at verb.1
  if bytes_eq verb.0 (codes "rate") && is_name code.0 then Some code.0 else None

-- the names with a code that is added last where it isn't there
abbrev pub with_code : NameLists → Option (List ℕ) → NameLists
with_code names None = names
with_code names (Some code) = record names { codes = with_name code names.codes }

-- the names with the codes of lines
abbrev pub with_codes : NameLists → List (List ℕ) → NameLists
with_codes names [] = names
with_codes names (line ∷ lines) = with_codes (with_code names (code_in_line line)) lines

-- the lines of a text's journal, with the one above it: all in front of the first that begins with `answers`
abbrev pub journal_lines : List ℕ → List (List ℕ)
journal_lines bytes = take_while (λ line. not (starts_with nat_eq line (codes "answers"))) (lines_of bytes)

-- the names that a text is read with: those at hand, and behind them the codes that only its journal names
abbrev pub names_for : NameLists → List ℕ → NameLists
names_for names bytes = with_codes names (journal_lines bytes)

-- ---- where texts differ

-- the number, from 1, of the first line in which a text differs from another. A line lacks nothing where it has its line feed; one that is
-- missing counts as the one behind the last
abbrev pub first_difference : List ℕ → List ℕ → ℕ
first_difference text right = count_by is_feed (take (common_prefix_len nat_eq text right) text) + 1
