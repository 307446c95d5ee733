use Rattle.std.proofs.Common.{◌≡◌, drop}
use Rattle.link_streams.specs.Stream.{cut_of, with_octets}
use Rattle.link_streams.proofs.messages.take_octets.Given as goal

abbrev pub invariant-loop-octet : goal.invariant-loop-octet
invariant-loop-octet l =
    with_octets l.heading (cut_of l.begun l.messages.items) (drop l.octet-index l.octets)
    ≡ with_octets l.heading (cut_of l.fn.begun l.fn.messages.items) l.octets
