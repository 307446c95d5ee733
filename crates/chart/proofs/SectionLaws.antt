-- The panels of cells, one after the other.
use Rattle.std.proofs.Common.{◌≡◌, ◌≢◌, ◌<◌, ◌+◌, ◌++◌, ◌∙◌, ◌∷◌, ℕ, List, ap, ap₂, append_assoc, drop, get_or}
use Rattle.std.proofs.Common.{length, subst, sym}
use Rattle.std.proofs.lemmas.List.{drop_more, get_or-map, length-map}
use Rattle.cbsp_wire.specs.declared.message.Cell.{Cell}
use Rattle.bsc_table.specs.Record.{Record}
use Rattle.handset.specs.declared.tape.Reading.{Reading}
use Rattle.handset.specs.Keeping.{messages_shown}
use Rattle.handset.specs.Tape.{TapeReading, reading_of, readings_of}
use Rattle.report.specs.Rows.{AreOfOneCells}
use Rattle.report.specs.Sources.{Orders}
use Rattle.chart.specs.declared.panel.Panel.{Panel}
use Rattle.chart.specs.declared.view.View.{View}
use Rattle.chart.specs.ChartText.{panel_if, panels_of}

-- a panel that was added, and those after it, are those from it on
pub panel_added : (view : View) (orders : Orders) (records : List Record) (readings : List Reading) (place : ℕ)
    (r : Record) (reading : Reading) (panels after whole : List Panel)
    → place < length records
    → place < length readings
    → r ≡ get_or records place r
    → reading ≡ get_or readings place reading
    → after ≡ panels ++ panel_if view r orders (messages_shown reading.shown.items)
    → panels ++ panels_of view orders (drop place records) (readings_of (drop place readings)) ≡ whole
    → after ++ panels_of view orders (drop (place + 1) records) (readings_of (drop (place + 1) readings)) ≡ whole
panel_added view orders records readings place r reading panels after whole in_records in_readings r_is reading_is is
    so_far =
    let left = panels_of view orders (drop (place + 1) records) (readings_of (drop (place + 1) readings)) in
    let front : drop place records ≡ r ∷ drop (place + 1) records =
    drop_more records place r in_records ∙ ap (λ (x : Record). x ∷ drop (place + 1) records) (sym r_is) in
    let read : drop place readings ≡ reading ∷ drop (place + 1) readings =
    drop_more readings place reading in_readings
    ∙ ap (λ (x : Reading). x ∷ drop (place + 1) readings) (sym reading_is) in
    ap (λ (ps : List Panel). ps ++ left) is
    ∙ append_assoc panels (panel_if view r orders (messages_shown reading.shown.items)) left
    ∙ ap₂ (λ (rs : List Record) (xs : List Reading). panels ++ panels_of view orders rs (readings_of xs)) (sym front)
    (sym read)
    ∙ so_far

-- where one cell differs, the cells do
pub cells_differ : (records : List Record) (readings : List Reading) (place : ℕ) (r : Record) (reading : Reading)
    → place < length records
    → place < length readings
    → r ≡ get_or records place r
    → reading ≡ get_or readings place reading
    → r.cell ≢ reading.cell
    → ¬ AreOfOneCells records (readings_of readings)
cells_differ records readings place r reading in_records in_readings r_is reading_is differ same =
    let inside : place < length (readings_of readings) =
    subst (λ (n : ℕ). place < n) (sym (length-map readings reading_of)) in_readings in
    differ (ap (λ (x : Record). x.cell) r_is
    ∙ sym (get_or-map (λ (x : Record). x.cell) records place r r.cell in_records)
    ∙ ap (λ (cells : List Cell). get_or cells place r.cell) same
    ∙ get_or-map (λ (x : TapeReading). x.cell) (readings_of readings) place (reading_of reading) r.cell inside
    ∙ ap (λ (x : TapeReading). x.cell) (get_or-map reading_of readings place reading (reading_of reading) in_readings)
    ∙ ap (λ (x : Reading). x.cell) (sym reading_is))
