use Rattle.std.proofs.Common.{◌++◌, ℕ, List, arith, subst, take}
use Rattle.std.specs.List.{flat_map}
use Rattle.std.proofs.lemmas.List.{take_all}
use Rattle.report.proofs.ListLaws.{flat_map-next}
use Rattle.bsc_table.specs.Record.{Record}
use Rattle.cell_loads.specs.LoadsText.{cell_text}
use Rattle.cell_loads.specs.TableSteps.{IsTable}
use Rattle.cell_loads.proofs.text.push_cells.Goals as goal

pub loop-run-preserved : goal.loop-run-preserved
loop-run-preserved c octets table =
    subst (λ (xs : List ℕ). IsTable c.push_cell.new.table xs)
    (flat_map-next (cell_text c.args.start) c.args.records.now c.loop-run.run-index c.run-item.result octets
    (omega arith) c.run-item.is)
    (c.in_ok-push_cell.ensures
    (octets ++ flat_map (cell_text c.args.start) (take c.loop-run.run-index c.args.records.now))
    (c.loop-run.invariant octets table))

pub returns : goal.returns
returns c octets table =
    subst (λ (records : List Record). IsTable c.loop-run.table (octets ++ flat_map (cell_text c.args.start) records))
    (take_all c.loop-run.run-index c.args.records.now (omega arith))
    (c.loop-run.invariant octets table)
