use Rattle.std.proofs.Common.{◌++◌, ℕ, List, arith, subst, take}
use Rattle.std.specs.List.{flat_map}
use Rattle.std.proofs.lemmas.List.{take_all}
use Rattle.report.proofs.ListLaws.{flat_map-next}
use Rattle.bsc_table.specs.Record.{Record}
use Rattle.book_remarks.specs.RemarksText.{fullest_line}
use Rattle.book_remarks.specs.TableSteps.{IsTable}
use Rattle.book_remarks.proofs.text.push_each_fullest.Goals as goal

pub loop-run-preserved : goal.loop-run-preserved
loop-run-preserved c octets table =
    subst (λ (xs : List ℕ). IsTable c.push_fullest.new.table xs)
    (flat_map-next (fullest_line c.args.group c.args.start) c.args.records.now c.loop-run.run-index c.run-item.result
    octets
    (omega arith) c.run-item.is)
    (c.in_ok-push_fullest.ensures
    (octets ++ flat_map (fullest_line c.args.group c.args.start) (take c.loop-run.run-index c.args.records.now))
    (c.loop-run.invariant octets table))

pub returns : goal.returns
returns c octets table =
    subst (λ (records : List Record). IsTable c.loop-run.table
    (octets ++ flat_map (fullest_line c.args.group c.args.start) records))
    (take_all c.loop-run.run-index c.args.records.now (omega arith))
    (c.loop-run.invariant octets table)
