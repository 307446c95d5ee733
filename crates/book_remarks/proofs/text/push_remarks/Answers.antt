use Rattle.std.proofs.Common.{◌++◌, ℕ, List, arith, subst, take}
use Rattle.std.specs.List.{flat_map}
use Rattle.std.proofs.lemmas.List.{take_all}
use Rattle.report.proofs.ListLaws.{flat_map-next}
use Rattle.book_remarks.specs.declared.remarks.Remark.{Remark}
use Rattle.book_remarks.specs.RemarksText.{remark_line}
use Rattle.book_remarks.specs.TableSteps.{IsTable}
use Rattle.book_remarks.proofs.text.push_remarks.Goals as goal

pub loop-remark-preserved : goal.loop-remark-preserved
loop-remark-preserved c octets table =
    subst (λ (xs : List ℕ). IsTable c.push_remark.new.table xs)
    (flat_map-next (remark_line c.args.group c.args.start) c.args.remarks.now c.loop-remark.remark-index
    c.remark-item.result octets
    (omega arith) c.remark-item.is)
    (c.in_ok-push_remark.ensures
    (octets ++ flat_map (remark_line c.args.group c.args.start) (take c.loop-remark.remark-index c.args.remarks.now))
    (c.loop-remark.invariant octets table))

pub returns : goal.returns
returns c octets table =
    subst (λ (remarks : List Remark). IsTable c.loop-remark.table
    (octets ++ flat_map (remark_line c.args.group c.args.start) remarks))
    (take_all c.loop-remark.remark-index c.args.remarks.now (omega arith))
    (c.loop-remark.invariant octets table)
