-- Steps over the octets of a text (own). Contracts of private functions alone speak of them.
use Rattle.std.specs.Prelude.{◌≡◌, ◌≤◌, ℕ, List, Bool, true, false, [], IfSome, drop, length}
use Rattle.csv.specs.Machine.{is_end, next_record}
use Rattle.csv.specs.declared.parser.Action.{Action}
use Rattle.csv.specs.declared.parser.State.{State}
use Rattle.csv.specs.declared.parser.State.TheVariants as st
use Rattle.csv.specs.Reading.{default_config}
use Rattle.book_check.specs.Lines.{lines_before}
use Rattle.book_check.specs.declared.lines.Cursor.{Cursor}
use Rattle.book_check.specs.declared.lines.Next.{Next}
use Rattle.book_check.specs.declared.lines.Within.{Within}
use Rattle.book_check.specs.declared.lines.Within.TheVariants as within

-- the state of `csv` that it is
abbrev pub csv_state : Within → State
csv_state within.Start = st.StartRecord
csv_state within.Field = st.StartField
csv_state within.Plain = st.InField
csv_state within.Quoted = st.InQuoted
csv_state within.Quote = st.AfterQuote
csv_state within.Return = st.AfterCr

-- before a record
abbrev pub is_start : Within → Bool
is_start within.Start = true
is_start within.Field = false
is_start within.Plain = false
is_start within.Quoted = false
is_start within.Quote = false
is_start within.Return = true

-- what comes of an octet is what `csv` makes of it
pub record IsStep (next : Next) (state : State) (action : Action) : Type 0 where
  pub state_is : csv_state next.within ≡ state
  pub ends_is : next.ends ≡ is_end action

-- a cursor stands at a place of the text, with as many lines before it
pub record IsOn (text : List ℕ) (cursor : Cursor) : Type 0 where
  pub fits : cursor.at ≤ length text
  pub ended : cursor.ended ≡ lines_before text cursor.at
  pub few : cursor.ended ≤ cursor.at

-- and at the beginning of what may be a record
pub record IsBefore (text : List ℕ) (cursor : Cursor) : Type 0 where
  pub on : IsOn text cursor
  pub start : is_start cursor.within ≡ true

-- the record after one cursor ends before the other
abbrev pub PassesRecord : (text : List ℕ) → (old new : Cursor) → Type 0
PassesRecord text old new =
    IfSome (next_record default_config (csv_state old.within) [] [] (drop old.at text))
    (λ read. (csv_state new.within ≡ read.1) × (drop new.at text ≡ read.2))

-- the record after one cursor is the record after the other
abbrev pub SameRecord : (text : List ℕ) → (old new : Cursor) → Type 0
SameRecord text old new =
    next_record default_config (csv_state new.within) [] [] (drop new.at text)
    ≡ next_record default_config (csv_state old.within) [] [] (drop old.at text)
