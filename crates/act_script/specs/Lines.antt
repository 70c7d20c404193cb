-- The lines of a script. This profile's own.
use Rattle.std.specs.Prelude.{ℕ, ◌||◌, ◌==◌, Bool, not, List}
use Rattle.std.specs.List.{enumerate_from, filter, list_all, slice_split}

-- a space, a tab or a carriage return
abbrev pub is_blank_byte : ℕ → Bool
is_blank_byte byte = byte == 32 || byte == 9 || byte == 13

-- a line that says nothing
abbrev pub is_blank : List ℕ → Bool
is_blank line = list_all is_blank_byte line

-- the lines of a text, each with its number from 1: a line ends at each line feed, and what stands behind the last is one too
abbrev pub numbered_lines : List ℕ → List (ℕ × List ℕ)
numbered_lines text = enumerate_from 1 (slice_split (λ byte. byte == 10) text)

-- those that say something
abbrev pub lines_of : List ℕ → List (ℕ × List ℕ)
lines_of text = filter (λ line. not (is_blank line.1)) (numbered_lines text)
