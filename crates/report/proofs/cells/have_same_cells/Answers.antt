use Rattle.std.proofs.Common.{◌≡◌, ◌∙◌, ◌<◌, List, true, eqb, length, map, ap, sym, arith, rules}
use Rattle.std.specs.Prelude.{◌&&◌, not}
use Rattle.std.proofs.lemmas.List.{length-map, take_all}
use Rattle.cbsp_wire.specs.declared.message.Cell.{Cell}
use Rattle.bsc_table.specs.Record.{Record}
use Rattle.handset.specs.declared.tape.Reading.{Reading}
use Rattle.handset.specs.Tape.{TapeReading, readings_of, reading_of}
use Rattle.report.specs.Rows.{AreOfOneCells}
use Rattle.report.proofs.StepLaws.{cells-agree, cells-differ, equal_cells}
use Rattle.report.proofs.cells.have_same_cells.Goals as goal

pub returns-then-ne : goal.returns-then-ne
returns-then-ne c =
    let within : c.loop-place.place < length c.args.readings.now = omega arith in
    let ne : true ≡ not (eqb c.index-records-place.result.cell.lac c.index-readings-place.result.cell.lac
    && eqb c.index-records-place.result.cell.ci c.index-readings-place.result.cell.ci) =
    c.if-ne.ensures ∙ ap (λ (x : Reading). not (eqb c.cell.result.lac x.cell.lac && eqb c.cell.result.ci x.cell.ci))
    (sym c.index-readings-place.is)
    ∙ ap (λ (x : Cell). not (eqb x.lac c.index-readings-place.result.cell.lac
    && eqb x.ci c.index-readings-place.result.cell.ci)) c.cell.ensures in
    let different : AreOfOneCells c.args.records.now (readings_of c.args.readings.now) → ⊥ =
    cells-differ c.args.records.now c.args.readings.now c.loop-place.place c.index-records-place.result
    c.index-readings-place.result (omega arith) within c.index-records-place.is c.index-readings-place.is ne in (
      λ no. search (rules, no),
      λ same. absurd (different same),
    )

pub loop-place-preserved : goal.loop-place-preserved
loop-place-preserved c =
    let within : c.loop-place.place < length c.args.readings.now = omega arith in
    let same : c.cell.result ≡ c.index-readings-place.result.cell =
    equal_cells c.cell.result c.index-readings-place.result.cell
    (c.if-ne.ensures ∙ ap (λ (x : Reading). not (eqb c.cell.result.lac x.cell.lac && eqb c.cell.result.ci x.cell.ci))
    (sym c.index-readings-place.is)) in
    cells-agree c.args.records.now c.args.readings.now c.loop-place.place c.index-records-place.result
    c.index-readings-place.result (omega arith) within c.index-records-place.is c.index-readings-place.is
    (sym c.cell.ensures ∙ same) c.loop-place.invariant

pub returns : goal.returns
returns c = (
  λ _. ap (λ (xs : List Record). map (λ (x : Record). x.cell) xs)
      (sym (take_all c.loop-place.place c.args.records.now (omega arith)))
      ∙ c.loop-place.invariant
      ∙ ap (λ (xs : List Reading). map (λ (x : TapeReading). x.cell) (readings_of xs))
      (take_all c.loop-place.place c.args.readings.now (omega arith)),
  λ _. search rules,
)

pub returns-then-records-readings : goal.returns-then-records-readings
returns-then-records-readings c = (
  λ no. search (rules, no),
  λ same.
      let long = ap (λ (cells : List Cell). length cells) same in
      let records = length-map c.args.records.now (λ (x : Record). x.cell) in
      let readings = length-map (readings_of c.args.readings.now) (λ (x : TapeReading). x.cell) in
      let given = length-map c.args.readings.now reading_of in
      let no : ⊥ = omega (arith, long, records, readings, given) in
      absurd no,
)
