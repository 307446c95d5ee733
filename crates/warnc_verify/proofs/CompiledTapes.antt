-- The tapes that are compiled of a book hold its records' blocks, which have no difference.
use Rattle.std.proofs.Common.{◌≡◌, ℕ, ◌≤◌, true, List, [], ◌∷◌, length, map, refl, sym, ap, ◌∙◌}
use Rattle.std.proofs.Common.{subst, arith}
use Rattle.std.proofs.Common.{leb-true}
use Rattle.std.specs.Prelude.{nat_le}
use Rattle.std.specs.List.{AllByRecursion, flat_map}
use Rattle.std.proofs.lemmas.Bool.{and_parts}
use Rattle.std.proofs.lemmas.List.{length-map}
use Rattle.std.proofs.lemmas.List.Concat.{flat_map-cons}
use Rattle.std.proofs.lemmas.List.Elements.{recursion_from_All}
use Rattle.std.proofs.lemmas.List.Sorted.{IsPermutation-refl}
use Rattle.alert_book.specs.declared.network.Origin.{Origin}
use Rattle.alert_book.specs.Laws.{CellsAreValid}
use Rattle.bsc_table.specs.Record.{Record}
use Rattle.cbch_blocks.specs.RecordBlocks.{tape_of_record}
use Rattle.cbsp_wire.specs.declared.message.Cell.{Cell}
use Rattle.cbsp_wire.specs.Range.{are_distinct, cells_are_valid}
use Rattle.handset.specs.Recording.{AreJoinedRecordings, AreRecordings, HoldsRecording, TapeRecording}
use Rattle.short_pages.specs.Slots.{recording_by}
use Rattle.short_pages.specs.declared.pages.Pages.TheVariants.{OfFour}
use Rattle.verification.specs.Rows.{AreRows}
use Rattle.verification_laws.specs.OneList.{NoRowsAreAnEmptyTable}
use Rattle.verification_laws.specs.OwnTapes.{AreOwnTapes, OwnTapesHaveNoRows, recording_of}
use Rattle.verification_laws.specs.Recorded.{RecordsAreRecorded}
use Rattle.warnc_run.specs.Products.{IsCompiledFrom}
use Rattle.warnc_verify.specs.Laws.{CompiledDiffersNowhere}

-- the tapes of records are their recordings, one after another
joined : (records : List Record) →
    AllByRecursion (λ r. HoldsRecording (tape_of_record r) (recording_of r)) records →
    AreJoinedRecordings (flat_map tape_of_record records) (map recording_of records)
joined [] all = refl
joined (r ∷ records) all = (
  tape_of_record r,
  flat_map tape_of_record records,
  flat_map-cons tape_of_record r records,
  all.0,
  joined records all.1,
)

-- the records of a book's run
cells-of : (from : Origin) (slots : ℕ) (input output : List ℕ) (compiled : IsCompiledFrom from slots input output)
    → CellsAreValid →
    (length (map (λ (r : Record). r.cell) compiled.records) ≤ 64)
    × (are_distinct (map (λ (r : Record). r.cell) compiled.records) ≡ true)
cells-of from slots input output compiled valid =
    let cells : List Cell = map (λ (r : Record). r.cell) compiled.records in
    let says : cells_are_valid (map (λ (r : Record). r.cell) compiled.records) ≡ true =
    ap cells_are_valid compiled.run.run.cells ∙ valid from input compiled.run.book compiled.run.is_book in
    let parts = and_parts (nat_le (length (map (λ (r : Record). r.cell) compiled.records)) 64)
    (are_distinct (map (λ (r : Record). r.cell) compiled.records)) says in
    (leb-true (length (map (λ (r : Record). r.cell) compiled.records)) 64 parts.0, parts.1)

own-tapes : (from : Origin) (slots : ℕ) (input output : List ℕ) (compiled : IsCompiledFrom from slots input output)
    → CellsAreValid →
    AreOwnTapes compiled.records (map recording_of compiled.records)
own-tapes from slots input output compiled valid = record {
  legal = λ k d within. (compiled.run.run.each k d within).legal;
  ended = λ k d within. (compiled.run.run.each k d within).over ∙ sym (compiled.run.run.each k d within).run;
  distinct = (cells-of from slots input output compiled valid).1;
  own = IsPermutation-refl (map recording_of compiled.records);
}

recordings : (from : Origin) (slots : ℕ) (input output : List ℕ) (compiled : IsCompiledFrom from slots input output)
    → slots ≤ 65535 →
    CellsAreValid → RecordsAreRecorded → AreRecordings output (map recording_of compiled.records)
recordings from slots input output compiled few valid recorded =
    let cells = (cells-of from slots input output compiled valid).0 in
    record {
      joined = subst (λ octets. AreJoinedRecordings octets (map recording_of compiled.records)) (sym compiled.written)
          (joined compiled.records
          (recursion_from_All (λ (r : Record). HoldsRecording (tape_of_record r) (recording_of r)) compiled.records
          (λ k d within.
          let r = compiled.run.run.each k d within in
          let run = r.run in
          recorded _ r.legal (r.over ∙ sym r.run) (omega (arith, run, few)))));
      few = omega (
        arith,
        cells,
        length-map compiled.records (λ (r : Record). r.cell),
        length-map compiled.records recording_of,
      );
    }

-- read by pages of four blocks recordings are as they are
as_they_are : (tapes : List TapeRecording) → map (recording_by OfFour) tapes ≡ tapes
as_they_are [] = refl
as_they_are (tape ∷ tapes) = ap (λ (rest : List TapeRecording). tape ∷ rest) (as_they_are tapes)

-- the tapes of a compiled book have no difference from it
pub compiled-differs-nowhere : CellsAreValid → RecordsAreRecorded → OwnTapesHaveNoRows → NoRowsAreAnEmptyTable
    → CompiledDiffersNowhere
compiled-differs-nowhere valid recorded rows empty from slots layout input output few compiled =
    let none = subst (λ (tapes : List TapeRecording). AreRows compiled.records tapes [])
    (sym (as_they_are (map recording_of compiled.records)))
    (rows compiled.records (map recording_of compiled.records) (own-tapes from slots input output compiled valid)) in (
      record {
        records = compiled.records;
        run = compiled.run;
        recordings = map recording_of compiled.records;
        recordings_are = recordings from slots input output compiled few valid recorded;
        rows_are = none;
      },
      (empty layout compiled.records (map (recording_by OfFour) (map recording_of compiled.records)) none).text_is,
    )
