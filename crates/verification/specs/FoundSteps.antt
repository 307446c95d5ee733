-- What one more tape changes of what is kept (own). The contracts of private functions alone speak of it.
use Rattle.std.specs.Prelude.{ℕ, Option, Some, None, List, [], ◌∷◌, ◌++◌, map}
use Rattle.std.specs.List.{flat_map}
use Rattle.cbsp_wire.specs.declared.message.Cell.{Cell}
use Rattle.verification.specs.declared.detail.Detail.{Detail}
use Rattle.verification.specs.declared.detail.Detail.TheVariants as detail
use Rattle.verification.specs.declared.detail.TableLayout.{TableLayout}
use Rattle.verification.specs.declared.judgement.CellFinding.{CellFinding}
use Rattle.verification.specs.declared.judgement.CellFinding.TheVariants as found
use Rattle.verification.specs.declared.judgement.CellState.{CellState}
use Rattle.verification.specs.declared.row.Finding.TheVariants as findings
use Rattle.verification.specs.declared.row.Row.{Row}
use Rattle.verification.specs.Found.{FindingsState}
use Rattle.slot_times.specs.declared.start.Start.{Start}
use Rattle.verification.specs.Rows.{difference_row, finding_row}
use Rattle.verification.specs.Table.{explained_header, finding_line, other_line, plain_table}

-- a cell with what a tape found of it, if the tape is of it
abbrev pub put_found : CellState → Option CellFinding → CellState
put_found c None = c
put_found c (Some finding) = record { run = c.run; finding = finding }

-- each cell with what a tape found of it
abbrev pub put_each : List CellState → List (Option CellFinding) → List CellState
put_each [] found = []
put_each (c ∷ cells) [] = c ∷ cells
put_each (c ∷ cells) (f ∷ found) = put_found c f ∷ put_each cells found

-- the rows of a cell, by what was found of it
abbrev pub rows_of_finding : Cell → CellFinding → List Row
rows_of_finding cell found.NoTape = finding_row cell findings.NoTape ∷ []
rows_of_finding cell found.OtherSlots = finding_row cell findings.OtherSlots ∷ []
rows_of_finding cell (found.Judged differences lines) = map (difference_row cell) differences.items

abbrev pub rows_of_state : CellState → List Row
rows_of_state c = rows_of_finding c.run.cell c.finding

-- all rows
abbrev pub rows_of_found : FindingsState → List Row
rows_of_found f = flat_map rows_of_state f.cells ++ f.others

-- the lines of a cell, by what was found of it and was explained
abbrev pub lines_of_found : Option Start → Cell → CellFinding → List ℕ
lines_of_found start cell found.NoTape = finding_line start cell findings.NoTape
lines_of_found start cell found.OtherSlots = finding_line start cell findings.OtherSlots
lines_of_found start cell (found.Judged differences lines) = lines.items

abbrev pub lines_of_state : Option Start → CellState → List ℕ
lines_of_state start c = lines_of_found start c.run.cell c.finding

-- the explained table
abbrev pub explained_found : Option Start → FindingsState → List ℕ
explained_found start f =
    explained_header start ++ (flat_map (lines_of_state start) f.cells ++ flat_map (other_line start) f.others)

-- the text of these rows, or the explained table
abbrev pub text_of_detail : Detail → Option Start → FindingsState → List Row → List ℕ
text_of_detail detail.Plain start f rows = plain_table start rows
text_of_detail detail.Explained start f rows = explained_found start f

abbrev pub text_of_layout : TableLayout → FindingsState → List Row → List ℕ
text_of_layout layout f rows = text_of_detail layout.detail layout.start f rows

abbrev pub text_of_found : FindingsState → List Row → List ℕ
text_of_found f rows = text_of_layout f.layout f rows
