-- The tables of rows: the plain one, and one with what was expected and what came, as CSV, and both with times (own).
use Rattle.std.specs.Prelude.{◌≡◌, ℕ, Bool, false, ◌==◌, if◌then◌else◌, Option, Some, None, List, [], ◌∷◌, ◌++◌}
use Rattle.std.specs.Prelude.{find, codes}
use Rattle.std.specs.Fmt.{decimal}
use Rattle.std.specs.List.{flat_map, list_any}
use Rattle.std.specs.Option.{option_to_list}
use Rattle.csv.specs.Writing.{default_writer, row_text}
use Rattle.cbsp_wire.specs.declared.message.Cell.{Cell}
use Rattle.bsc_table.specs.Record.{Record}
use Rattle.handset.specs.Recording.{TapeRecording}
use Rattle.slot_times.specs.declared.start.Start.{Start}
use Rattle.verification.specs.declared.detail.Detail.{Detail}
use Rattle.verification.specs.declared.detail.Detail.TheVariants as detail
use Rattle.verification.specs.declared.detail.TableLayout.{TableLayout}
use Rattle.verification.specs.declared.difference.Difference.{Difference}
use Rattle.verification.specs.declared.row.Row.{Row}
use Rattle.verification.specs.declared.row.Finding.{Finding}
use Rattle.verification.specs.declared.row.Finding.TheVariants as findings
use Rattle.verification.specs.declared.shift.Shift.{Shift}
use Rattle.verification.specs.declared.shift.Shift.TheVariants as shifts
use Rattle.verification.specs.Explained.{Explanation, explained}
use Rattle.verification.specs.RowText.{kind_text, rows_text, serial_text}
use Rattle.verification.specs.Rows.{AreCellRows, AreRows, is_tape_of, other_rows}
use Rattle.verification.specs.Shift.{is_untimely, shift_of}
use Rattle.verification.specs.Times.{begin_field, begin_name, begin_text}

-- a line of the explained table: a field that needs it is quoted. A time may be the last of them
abbrev pub explained_line : (lac ci id serial slot difference expected got : List ℕ) (time : List (List ℕ)) → List ℕ
explained_line lac ci id serial slot difference expected got time =
    row_text default_writer (lac ∷ ci ∷ id ∷ serial ∷ slot ∷ difference ∷ expected ∷ got ∷ time)

-- the names of its columns
abbrev pub explained_header : Option Start → List ℕ
explained_header start =
    explained_line (codes "lac") (codes "ci") (codes "id") (codes "serial") (codes "slot") (codes "difference")
    (codes "expected") (codes "got") (begin_name start)

-- the line of what is told of a difference
abbrev pub told_line : Option Start → Cell → Difference → Explanation → List ℕ
told_line start cell d e =
    explained_line (decimal cell.lac) (decimal cell.ci) (decimal d.id) (serial_text d.serial) (decimal d.slot)
    e.difference e.expected e.got (begin_field start (Some d.slot))

-- the lines of a difference between a cell's record and the blocks of its tape
abbrev pub difference_lines : Option Start → Record → List (List ℕ) → Difference → List ℕ
difference_lines start r blocks d = flat_map (told_line start r.cell d) (explained r blocks d)

-- the line of a finding that is of a whole cell or tape: it has no message, no slot, and nothing expected
abbrev pub whole_line : Option Start → Cell → (name : List ℕ) → List ℕ
whole_line start cell name =
    explained_line (decimal cell.lac) (decimal cell.ci) [] [] [] name [] [] (begin_field start None)

abbrev pub finding_name : Finding → List ℕ
finding_name (findings.Differs d) = kind_text d.kind
finding_name findings.NoTape = codes "no tape"
finding_name findings.OtherSlots = codes "other slots"
finding_name findings.SecondTape = codes "second tape"
finding_name findings.UnknownCell = codes "unknown cell"

abbrev pub finding_line : Option Start → Cell → Finding → List ℕ
finding_line start cell finding = whole_line start cell (finding_name finding)

abbrev pub other_line : Option Start → Row → List ℕ
other_line start row = finding_line start row.cell row.finding

-- a line of a plain table with times, and the names of its columns: they are those of the plain table, and the time
abbrev pub clock_line : (lac ci id serial slot difference time : List ℕ) → List ℕ
clock_line lac ci id serial slot difference time =
    row_text default_writer (lac ∷ ci ∷ id ∷ serial ∷ slot ∷ difference ∷ time ∷ [])

abbrev pub clock_header : List ℕ
clock_header =
    clock_line (codes "lac") (codes "ci") (codes "id") (codes "serial") (codes "slot") (codes "difference")
    (codes "time")

-- the line of a difference, and of a finding of a whole cell or tape
abbrev pub clock_finding : Start → Cell → Finding → List ℕ
clock_finding start cell (findings.Differs d) =
    clock_line (decimal cell.lac) (decimal cell.ci) (decimal d.id) (serial_text d.serial) (decimal d.slot)
    (kind_text d.kind) (begin_text start d.slot)
clock_finding start cell finding =
    clock_line (decimal cell.lac) (decimal cell.ci) [] [] [] (finding_name finding) []

abbrev pub clock_row : Start → Row → List ℕ
clock_row start row = clock_finding start row.cell row.finding

-- the text of rows in a plain table, with times if slot 0 has one
abbrev pub plain_table : Option Start → List Row → List ℕ
plain_table None rows = rows_text rows
plain_table (Some start) rows = clock_header ++ flat_map (clock_row start) rows

-- what a shift is called
abbrev pub slots_named : ℕ → List ℕ
slots_named slots = if slots == 1 then codes "1 slot" else decimal slots ++ codes " slots"

abbrev pub shift_name : Shift → List ℕ
shift_name (shifts.Early slots) = codes "all pages come " ++ (slots_named slots ++ codes " early")
shift_name (shifts.Late slots) = codes "all pages come " ++ (slots_named slots ++ codes " late")

-- the line of a cell whose pages are all shifted
abbrev pub shift_line : Option Start → Cell → Shift → List ℕ
shift_line start cell shift = whole_line start cell (shift_name shift)

abbrev pub shift_lines : Option Start → Record → (blocks : List (List ℕ)) → List ℕ
shift_lines start r blocks = flat_map (shift_line start r.cell) (option_to_list (shift_of r blocks))

-- it stands before the others, if one of these says that a page comes at another time than its message's
abbrev pub finds_untimely : Finding → Bool
finds_untimely (findings.Differs d) = is_untimely d.kind
finds_untimely other = false

abbrev pub shift_lines_by : Option Start → Record → Option TapeRecording → List ℕ
shift_lines_by start r None = []
shift_lines_by start r (Some tape) = shift_lines start r tape.blocks

abbrev pub lines_in_front : Option Start → Record → Option TapeRecording → List Row → List ℕ
lines_in_front start r tape rows =
    if list_any (λ row. finds_untimely row.finding) rows then shift_lines_by start r tape else []

-- the lines of a row of a cell, by its record and its first tape
abbrev pub lines_of_finding : Option Start → Record → Option TapeRecording → Finding → List ℕ
lines_of_finding start r (Some tape) (findings.Differs d) = difference_lines start r tape.blocks d
lines_of_finding start r tape finding = finding_line start r.cell finding

abbrev pub lines_of_cell : Option Start → Record → Option TapeRecording → List Row → List ℕ
lines_of_cell start r tape rows =
    lines_in_front start r tape rows ++ flat_map (λ row. lines_of_finding start r tape row.finding) rows

-- the lines of the cells' rows, one cell after another
abbrev pub AreLinesOfCells : Option Start → List TapeRecording → List Record → List Row → (lines : List ℕ) → Type 0
AreLinesOfCells start tapes [] rows lines = (rows ≡ []) × (lines ≡ [])
AreLinesOfCells start tapes (r ∷ records) rows lines =
    (own : List Row) × (later : List Row) × (after : List ℕ) × (rows ≡ own ++ later)
    × (lines ≡ lines_of_cell start r (find (is_tape_of r.cell) tapes) own ++ after)
    × AreCellRows tapes r own × AreLinesOfCells start tapes records later after

-- the explained table of the rows of these records and tapes
pub record IsExplained (start : Option Start) (records : List Record) (tapes : List TapeRecording) (rows : List Row)
    (text : List ℕ) : Type 0
  where
    pub cells : List Row
    pub lines : List ℕ
    pub of_cells : AreLinesOfCells start tapes records cells lines
    pub all : rows ≡ cells ++ other_rows records [] tapes
    pub text_is : text
        ≡ explained_header start ++ (lines ++ flat_map (other_line start) (other_rows records [] tapes))

-- the text of rows, with as much detail as is wanted, and with times if slot 0 has one
abbrev pub IsTextWith : Detail → Option Start → List Record → List TapeRecording → List Row → (text : List ℕ) → Type 0
IsTextWith detail.Plain start records tapes rows text = text ≡ plain_table start rows
IsTextWith detail.Explained start records tapes rows text = IsExplained start records tapes rows text

abbrev pub IsTextOf : TableLayout → List Record → List TapeRecording → List Row → (text : List ℕ) → Type 0
IsTextOf layout records tapes rows text = IsTextWith layout.detail layout.start records tapes rows text

-- the rows of the cells of these records, of which these tapes were given, and their text
pub record IsTable (layout : TableLayout) (records : List Record) (tapes : List TapeRecording) (rows : List Row)
    (text : List ℕ) : Type 0
  where
    pub rows_are : AreRows records tapes rows
    pub text_is : IsTextOf layout records tapes rows text

-- the table of no rows: the names of the columns
abbrev pub names_alone : Detail → Option Start → List ℕ
names_alone detail.Plain start = plain_table start []
names_alone detail.Explained start = explained_header start

abbrev pub empty_table : TableLayout → List ℕ
empty_table layout = names_alone layout.detail layout.start
