use Rattle.std.proofs.Common.{◌++◌, ℕ, List, take}
use Rattle.std.specs.List.{flat_map}
use Rattle.book_remarks.specs.RemarksText.{fullest_line}
use Rattle.book_remarks.specs.TableSteps.{IsTable}
use Rattle.book_remarks.proofs.text.push_each_fullest.Given as goal

abbrev pub invariant-loop-run : goal.invariant-loop-run
invariant-loop-run l =
    (octets : List ℕ) → IsTable l.fn.table octets
    → IsTable l.table (octets ++ flat_map (fullest_line l.group l.start) (take l.run-index l.records))
