use Rattle.std.proofs.Common.{◌≡◌, drop}
use Rattle.link_streams.specs.Stream.{first_octet_at}
use Rattle.link_streams.proofs.waiting.first_octet_at.Given as goal

abbrev pub invariant-loop-part : goal.invariant-loop-part
invariant-loop-part l = first_octet_at (drop l.part-index l.waiting) l.place ≡ first_octet_at l.waiting l.place
