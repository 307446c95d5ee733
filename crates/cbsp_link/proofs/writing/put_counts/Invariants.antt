use Rattle.std.proofs.Common.{◌≡◌, ◌++◌, take}
use Rattle.std.specs.List.{flat_map}
use Rattle.cbsp_link.specs.Written.{counted_octets}
use Rattle.cbsp_link.proofs.writing.put_counts.Given as goal

abbrev pub invariant-loop-count : goal.invariant-loop-count
invariant-loop-count l = l.out.items ≡ l.fn.out.items ++ flat_map counted_octets (take l.count-index l.counts)
