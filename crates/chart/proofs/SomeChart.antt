-- A chart has octets.
use Rattle.std.proofs.Common.{◌<◌, ℕ, Bool, List, length, arith}
use Rattle.bsc_table.specs.Record.{Record}
use Rattle.handset.specs.Tape.{TapeReading}
use Rattle.report.specs.Sources.{Orders}
use Rattle.chart.specs.declared.view.View.{View}
use Rattle.chart.specs.ChartText.{chart_front, chart_part, chart_text, head}

-- a chart is never empty: it has a front
pub some_chart : (slots : ℕ) (view : View) (orders : Orders) (records : List Record) (readings : List TapeReading)
    → 0 < length (chart_text slots view orders records readings)
unfolding chart_front head
some_chart slots view orders records readings = omega arith

-- nor is the part of a first group
pub some_part : (slots : ℕ) (last : Bool) (view : View) (orders : Orders) (records : List Record)
    (readings : List TapeReading)
    → 0 < length (chart_part slots 0 last view orders records readings)
unfolding chart_front head
some_part slots last view orders records readings = omega arith
