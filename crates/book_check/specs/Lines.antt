-- The lines of the file of a book, on which its records begin. A line ends with LF, CRLF or CR. Own.
use Rattle.std.specs.Prelude.{ℕ, zero, suc, ◌+◌, ◌-◌, ◌==◌, ◌&&◌, ◌||◌, not, Bool, if◌then◌else◌, Option, Some, None}
use Rattle.std.specs.Prelude.{List}
use Rattle.std.specs.Prelude.{[], ◌∷◌, length, slice_index}
use Rattle.csv.specs.Machine.{Read, next_record}
use Rattle.csv.specs.Reading.{default_config}
use Rattle.csv.specs.declared.parser.State.{State}
use Rattle.csv.specs.declared.parser.State.TheVariants as st

-- CR or LF
abbrev pub is_line_end : ℕ → Bool
is_line_end octet = (octet == 13) || (octet == 10)

-- whether a line ends with the octet at a place: a CR, or an LF that doesn't follow one
abbrev pub ends_line : (text : List ℕ) → (place : ℕ) → Bool
ends_line text place =
    (slice_index text place == 13)
    || ((slice_index text place == 10) && not (slice_index text (place - 1) == 13))

-- one for a line that ends
abbrev pub one_if : Bool → ℕ
one_if ends = if ends then 1 else 0

-- how many lines end before a place
abbrev pub lines_before : (text : List ℕ) → (place : ℕ) → ℕ
lines_before text zero = 0
lines_before text (suc place) = lines_before text place + one_if (ends_line text place)

-- how many octets of line ends stand before the next record: `csv` skips empty lines
abbrev pub blank_front : (left : List ℕ) → ℕ
blank_front [] = 0
blank_front (octet ∷ left) = if is_line_end octet then blank_front left + 1 else 0

-- the line on which the next record begins, counted from 1, where this is left of a text
abbrev pub line_of : (text left : List ℕ) → ℕ
line_of text left = lines_before text (length text - length left + blank_front left) + 1

-- where a reader of CSV stands: its state, and what is left of the text
pub record Stand : Type 0 where
  pub state : State
  pub left : List ℕ

abbrev pub stand_at : State → List ℕ → Stand
stand_at state left = record { state = state; left = left }

abbrev pub at_start : (text : List ℕ) → Stand
at_start text = stand_at st.StartRecord text

-- where it stands after the next record
abbrev pub stand_after : Stand → Option Read → Stand
stand_after stand None = stand
stand_after stand (Some read) = stand_at read.1 read.2

abbrev pub next_stand : Stand → Stand
next_stand stand = stand_after stand (next_record default_config stand.state [] [] stand.left)
