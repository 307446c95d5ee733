use Rattle.std.proofs.Common.{◌++◌, ℕ, List, take}
use Rattle.std.specs.List.{flat_map}
use Rattle.book_remarks.specs.RemarksText.{remark_line}
use Rattle.book_remarks.specs.TableSteps.{IsTable}
use Rattle.book_remarks.proofs.text.push_remarks.Given as goal

abbrev pub invariant-loop-remark : goal.invariant-loop-remark
invariant-loop-remark l =
    (octets : List ℕ) → IsTable l.fn.table octets
    → IsTable l.table (octets ++ flat_map (remark_line l.group l.start) (take l.remark-index l.remarks))
