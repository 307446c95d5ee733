use Rattle.std.proofs.Common.{◌≡◌, ◌≤◌, ◌++◌, ◌+◌, length, map, vec_capacity, vec_len}
use Rattle.cbsp_wire.specs.Written.{content_body}
use Rattle.cbsp_wire.specs.WritingSteps.{element_octets}
use Rattle.cbsp_wire.proofs.writing.put_contents.Given as goal

abbrev pub invariant-contents : goal.invariant-contents
invariant-contents l = record {
  so_far : l.out.items ++ element_octets l.element (map content_body l.left)
      ≡ l.fn.out.items ++ element_octets l.element (map content_body l.contents);
  room : vec_capacity l.out ≡ vec_capacity l.fn.out;
  fits : vec_len l.out + length (element_octets l.element (map content_body l.left)) ≤ vec_capacity l.out;
}

abbrev pub decreases-contents : goal.decreases-contents
decreases-contents l = length l.left
