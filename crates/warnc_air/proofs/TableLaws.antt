-- The rows of a table of cells, read one after the other.
use Rattle.std.proofs.Common.{◌≡◌, ◌≤◌, ◌<◌, ◌+◌, ◌∙◌, ap, sym, ℕ, List, [], ◌∷◌, ◌++◌, Ok, Err, Result, Option}
use Rattle.std.proofs.Common.{Some, None, length, refl, inl, inr, append_assoc, append-nil, arith, rules, subst}
use Rattle.std.proofs.Common.{nat_le}
use Rattle.std.proofs.lemmas.Bool.{cases_Bool}
use Rattle.std.proofs.lemmas.List.{length_push}
use Rattle.csv.specs.Reading.{Reached, default_config, strip_bom}
use Rattle.csv.specs.declared.parser.State.{State}
use Rattle.csv.specs.declared.parser.State.TheVariants as st
use Rattle.warnc_air.specs.CellTable.{TableSoFar, after_records, columns_named, fault_at}
use Rattle.warnc_air.specs.CellTable.{known_of_records, row_after, so_far, with_columns, with_record}
use Rattle.warnc_air.specs.CellTable.{with_record_by, with_row}
use Rattle.warnc_air.specs.CellTableSteps.{IsReadingFault, IsRowFault}
use Rattle.warnc_air.specs.declared.all.AllTapesFault.{AllTapesFault}
use Rattle.warnc_air.specs.declared.cell_table.CellRow.{CellRow}
use Rattle.warnc_air.specs.declared.cell_table.Columns.{Columns}
use Rattle.warnc_air.specs.declared.cell_table.TableFaultKind.{TableFaultKind}

-- these records, seen so far, leave this known before the next
abbrev pub Leave : List (List (List ℕ)) → (row : ℕ) → TableSoFar → Type 0
Leave seen row known =
    (more : List (List (List ℕ))) → known_of_records (seen ++ more) ≡ after_records (row + 1) known more

-- one right row more
pub leave_more : (seen : List (List (List ℕ))) (fields : List (List ℕ)) (row : ℕ) (known next : TableSoFar) →
    Leave seen row known → with_record known fields ≡ Ok next → Leave (seen ++ fields ∷ []) (row + 1) next
leave_more seen fields row known next so right more =
    ap known_of_records (append_assoc seen (fields ∷ []) more) ∙ so (fields ∷ more) ∙ rw right refl

-- what all records leave is what they mean
pub leave_all : (seen : List (List (List ℕ))) (row : ℕ) (known : TableSoFar) → Leave seen row known →
    known_of_records seen ≡ Ok known
leave_all seen row known so = ap known_of_records (sym (append-nil seen)) ∙ so []

-- a row that is wrong after those
pub wrong_row : (input : List ℕ) (seen : List (List (List ℕ))) (fields : List (List ℕ)) (row : ℕ)
    (known : TableSoFar) (fault : AllTapesFault) (state : State) (rest : List ℕ) →
    Reached default_config st.StartRecord (strip_bom input) (seen ++ fields ∷ []) state rest → Leave seen row known →
    IsRowFault (row + 1) known fields fault → IsReadingFault input fault
wrong_row input seen fields row known fault state rest read so (inl none) = inl none
wrong_row input seen fields row known fault state rest read so (inr (kind, wrong, told)) =
    inr (
      fault_at (row + 1) kind,
      inl record {
        records = seen ++ fields ∷ [];
        state = state;
        rest = rest;
        read = read;
        wrong = so (fields ∷ []) ∙ rw wrong refl;
      },
      told,
    )

-- a row that is right is none too many
row_fits : (cols : Columns) (before : List CellRow) (fields : List (List ℕ)) (row : CellRow) →
    row_after cols before fields ≡ Ok row → length before < 64
row_fits cols before fields row is = elim (cases_Bool (nat_le 64 (length before))) [
  | inl over ↦ let no_row = rw over at is in cc
  | inr fits ↦ search rules
]

-- no row comes before the columns are known, and then there is one more than there are cells
abbrev pub most_row : Option Columns → List CellRow → ℕ
most_row None rows = 0
most_row (Some cols) rows = length rows + 1

-- a row's number is bounded by the rows that are known, which are few
abbrev pub AreFew : (row : ℕ) → TableSoFar → Type 0
AreFew row known = (row ≤ most_row known.columns known.rows) × (length known.rows ≤ 64)

few_number : (named : Option Columns) (rows : List CellRow) (row : ℕ) → AreFew row (so_far named rows) → row ≤ 65
few_number None rows row few = omega (arith, few.0)
few_number (Some cols) rows row few = omega (arith, few.0, few.1)

-- so no number of a row is above 65
pub few_rows : (known : TableSoFar) (row : ℕ) → AreFew row known → row ≤ 65
few_rows known row few = few_number known.columns known.rows row few

few_columns : (before : List CellRow) (named : Option Columns) (row : ℕ) (next : TableSoFar) → row ≤ 1 →
    length before ≤ 64 → with_columns before named ≡ Ok next → AreFew row next
few_columns before None row next first few is = cc
few_columns before (Some cols) row next first few is =
    let same : so_far (Some cols) before ≡ next = cc in
    subst (AreFew row) same (omega (arith, first), few)

few_row : (cols : Columns) (before : List CellRow) (fields : List (List ℕ)) (row : ℕ) (next : TableSoFar)
    (one : Result CellRow TableFaultKind) → row_after cols before fields ≡ one → row ≤ length before + 1 →
    with_row cols before one ≡ Ok next → AreFew (row + 1) next
few_row cols before fields row next (Err kind) is few comes = cc
few_row cols before fields row next (Ok one) is few comes =
    let same : so_far (Some cols) (before ++ one ∷ []) ≡ next = cc in
    subst (AreFew (row + 1)) same (
      omega (arith, few, length_push before one),
      omega (
        arith,
        length_push before one,
        row_fits cols before fields one is,
      ),
    )

few_by : (named : Option Columns) (before : List CellRow) (fields : List (List ℕ)) (row : ℕ) (next : TableSoFar) →
    AreFew row (so_far named before) → with_record_by named before fields ≡ Ok next → AreFew (row + 1) next
few_by None before fields row next few is =
    few_columns before (columns_named fields) (row + 1) next (omega (arith, few.0)) few.1 is
few_by (Some cols) before fields row next few is =
    few_row cols before fields row next (row_after cols before fields) refl few.0 is

-- one row more
pub few_more : (known next : TableSoFar) (fields : List (List ℕ)) (row : ℕ) → AreFew row known →
    with_record known fields ≡ Ok next → AreFew (row + 1) next
few_more known next fields row few is = few_by known.columns known.rows fields row next few is
