-- What is told of the rows of a book or a network book, as CSV: a row for each that has a fault. Own.
use Rattle.std.specs.Prelude.{⊤, ℕ, ◌+◌, ◌-◌, Bool, true, false, List, [], ◌∷◌, ◌++◌, codes}
use Rattle.std.specs.Fmt.{decimal}
use Rattle.csv.specs.Writing.{default_writer, row_text}
use Rattle.alert_book.specs.Fields.{column}
use Rattle.alert_book.specs.Judging.{Counted, counted_after, verb_in, IsVerdict}
use Rattle.alert_book.specs.declared.judging.Verdict.{Verdict}
use Rattle.alert_book.specs.declared.judging.Verdict.TheVariants as verdict
use Rattle.book_check.specs.Lines.{Stand, line_of, next_stand}
use Rattle.book_check.specs.Words.{field_name, place_of_text, says_of_row, says_of_text, shown_value}

-- a row of the table, as CSV quotes its fields
abbrev pub csv_row : List (List ℕ) → List ℕ
csv_row fields = row_text default_writer fields

-- the first row has the names of the columns
abbrev pub header_row : List ℕ
header_row =
    csv_row (codes "row" ∷ codes "line" ∷ codes "column" ∷ codes "field" ∷ codes "value" ∷ codes "says" ∷ [])

-- the row of a fault in the column of a place: numbers are decimal
abbrev pub fault_row : (row line place : ℕ) → List (List ℕ) → (says : List ℕ) → List ℕ
fault_row row line place fields says =
    csv_row (decimal row ∷ decimal line ∷ decimal place ∷ field_name (verb_in fields) place ∷
    shown_value (column fields (place - 1)) ∷ says ∷ [])

-- what is told of a row; `after` is what counts after it
abbrev pub told_of_row : (row line : ℕ) → (after : Counted) → List (List ℕ) → Verdict → List ℕ
told_of_row row line after fields verdict.Right = []
told_of_row row line after fields (verdict.Wrong found) =
    fault_row row line found.column fields (says_of_row row after fields (verb_in fields) found.column found.fault)
told_of_row row line after fields (verdict.Unsendable why) =
    fault_row row line (place_of_text (verb_in fields) why) fields
    (says_of_text (column fields (place_of_text (verb_in fields) why - 1)) why)

-- the verdicts of rows, one after the other, each by what counts of those before it
abbrev pub AreVerdicts : Counted → List (List (List ℕ)) → List Verdict → Type 0
AreVerdicts before [] [] = ⊤
AreVerdicts before [] (told ∷ more) = ⊥
AreVerdicts before (fields ∷ records) [] = ⊥
AreVerdicts before (fields ∷ records) (told ∷ more) =
    IsVerdict before fields told × AreVerdicts (counted_after before fields) records more

-- what is told of them, in their order, where a reader of the text stands before the first
abbrev pub told_of_rows : (text : List ℕ) → Stand → Counted → List (List (List ℕ)) → List Verdict → List ℕ
told_of_rows text stand before [] verdicts = []
told_of_rows text stand before (fields ∷ records) [] = []
told_of_rows text stand before (fields ∷ records) (told ∷ more) =
    told_of_row (before.rows + 1) (line_of text stand.left) (counted_after before fields) fields told
    ++ told_of_rows text (next_stand stand) (counted_after before fields) records more

-- a row of which something is told
abbrev pub is_told : Verdict → Bool
is_told verdict.Right = false
is_told (verdict.Wrong found) = true
is_told (verdict.Unsendable why) = true
