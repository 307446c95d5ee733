use Rattle.std.proofs.Common.{◌≡◌, ◌++◌, take, vec_capacity}
use Rattle.std.specs.List.{flat_map}
use Rattle.cbsp_wire.specs.WritingSteps.{field_octets}
use Rattle.cbsp_wire.proofs.writing.put_elements.Given as goal

abbrev pub invariant-loop-number : goal.invariant-loop-number
invariant-loop-number l = record {
  so_far : l.out.items
      ≡ l.fn.out.items ++ flat_map (field_octets l.fields) (take l.number-index l.numbers);
  room : vec_capacity l.out ≡ vec_capacity l.fn.out;
}
