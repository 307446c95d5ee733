use Rattle.std.proofs.Common.{◌≡◌, ◌++◌, take, vec_capacity}
use Rattle.cbsp_wire.proofs.writing.put.Given as goal

abbrev pub invariant-loop-octet : goal.invariant-loop-octet
invariant-loop-octet l = record {
  so_far : l.out.items ≡ l.fn.out.items ++ take l.octet-index l.octets;
  room : vec_capacity l.out ≡ vec_capacity l.fn.out;
}
