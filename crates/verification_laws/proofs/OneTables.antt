-- The table of the tapes of a run is one text, since their rows are one list.
use Rattle.std.proofs.Common.{◌≡◌, ◌∙◌, ℕ, List, [], ◌∷◌, ◌++◌, Option, append-nil, refl, sym, ap}
use Rattle.std.specs.Prelude.{find}
use Rattle.std.specs.List.{flat_map}
use Rattle.handset.specs.Recording.{TapeRecording}
use Rattle.slot_times.specs.declared.start.Start.{Start}
use Rattle.bsc_table.specs.Record.{Record}
use Rattle.verification.specs.declared.detail.Detail.{Detail}
use Rattle.verification.specs.declared.detail.Detail.TheVariants as detail
use Rattle.verification.specs.declared.row.Row.{Row}
use Rattle.verification.specs.Rows.{AreRows, AreRowsOfCells, is_tape_of, other_rows}
use Rattle.verification.specs.Table.{AreLinesOfCells, IsExplained, IsTextWith, explained_header}
use Rattle.verification.specs.Table.{lines_of_cell, names_alone, other_line, plain_table}
use Rattle.verification_laws.proofs.OneRows.{by-one, one-list-of-rows}
use Rattle.verification_laws.specs.OneList.{CellsDifferInOneList, NoRowsAreAnEmptyTable, TapesHaveOneTable}

lines-one : CellsDifferInOneList → (start : Option Start) (tapes : List TapeRecording) (records : List Record)
    (rows other : List Row) (lines said : List ℕ) →
    AreLinesOfCells start tapes records rows lines → AreLinesOfCells start tapes records other said →
    (rows ≡ other) × (lines ≡ said)
lines-one one start tapes [] rows other lines said are also = (are.0 ∙ sym also.0, are.1 ∙ sym also.1)
lines-one one start tapes (r ∷ records) rows other lines said (own, later, after, is, text, by, rest)
    (own2, later2, after2, is2, text2, by2, rest2) =
    let same = by-one one r (find (is_tape_of r.cell) tapes) own own2 by by2 in
    let both = lines-one one start tapes records later later2 after after2 rest rest2 in (
      is ∙ ap (λ front. front ++ later) same ∙ ap (λ back. own2 ++ back) both.0 ∙ sym is2,
      text ∙ ap (λ (front : List Row). lines_of_cell start r (find (is_tape_of r.cell) tapes) front ++ after) same
          ∙ ap (λ back. lines_of_cell start r (find (is_tape_of r.cell) tapes) own2 ++ back) both.1 ∙ sym text2,
    )

explained-one : CellsDifferInOneList → (start : Option Start) (records : List Record) (tapes : List TapeRecording)
    (rows other : List Row) (text said : List ℕ) →
    IsExplained start records tapes rows text → IsExplained start records tapes other said →
    (rows ≡ other) × (text ≡ said)
explained-one one start records tapes rows other text said are also =
    let both = lines-one one start tapes records are.cells also.cells are.lines also.lines are.of_cells also.of_cells
    in (
      are.all ∙ ap (λ cells. cells ++ other_rows records [] tapes) both.0 ∙ sym also.all,
      are.text_is ∙ ap (λ (lines : List ℕ). explained_header start ++ (lines ++ flat_map (other_line start)
          (other_rows records [] tapes))) both.1 ∙ sym also.text_is,
    )

text-one : CellsDifferInOneList → (d : Detail) (start : Option Start) (records : List Record)
    (tapes : List TapeRecording) (rows other : List Row) (text said : List ℕ) →
    AreRows records tapes rows → AreRows records tapes other →
    IsTextWith d start records tapes rows text → IsTextWith d start records tapes other said →
    (rows ≡ other) × (text ≡ said)
text-one one detail.Plain start records tapes rows other text said are also is so =
    let same = one-list-of-rows one records tapes rows other are also in
    (same, is ∙ ap (plain_table start) same ∙ sym so)
text-one one detail.Explained start records tapes rows other text said are also is so =
    explained-one one start records tapes rows other text said is so

-- the table is one, whichever it is
pub one-table : CellsDifferInOneList → TapesHaveOneTable
one-table one layout records tapes rows other text said are also =
    text-one one layout.detail layout.start records tapes rows other text said are.rows_are also.rows_are are.text_is
    also.text_is

-- two lists that are none together are none each
both-none : (xs ys : List Row) → [] ≡ xs ++ ys → (xs ≡ []) × (ys ≡ [])
both-none [] ys none = (refl, sym none)
both-none (x ∷ xs) ys none = cc

no-lines : (start : Option Start) (tapes : List TapeRecording) (records : List Record) (rows : List Row) →
    rows ≡ [] → AreRowsOfCells tapes records rows → AreLinesOfCells start tapes records rows []
no-lines start tapes [] rows none are = (are, refl)
no-lines start tapes (r ∷ records) rows none (own, later, is, by, rest) =
    let parts = both-none own later (sym none ∙ is) in (
      own,
      later,
      [],
      is,
      sym (ap (λ (front : List Row). lines_of_cell start r (find (is_tape_of r.cell) tapes) front ++ []) parts.0),
      by,
      no-lines start tapes records later parts.1 rest,
    )

no-text : (d : Detail) (start : Option Start) (records : List Record) (tapes : List TapeRecording) →
    AreRows records tapes [] → IsTextWith d start records tapes [] (names_alone d start)
no-text detail.Plain start records tapes are = refl
no-text detail.Explained start records tapes are =
    let parts = both-none are.cells (other_rows records [] tapes) are.all in
    record {
      cells = are.cells;
      lines = [];
      of_cells = no-lines start tapes records are.cells parts.0 are.of_cells;
      all = are.all;
      text_is = sym (ap (λ (others : List Row). explained_header start ++ flat_map (other_line start) others) parts.1
          ∙ append-nil (explained_header start));
    }

-- the table of no rows has the names of the columns
pub empty-table : NoRowsAreAnEmptyTable
empty-table layout records tapes are = record {
  rows_are = are;
  text_is = no-text layout.detail layout.start records tapes are;
}
