use Rattle.std.proofs.Common.{◌≡◌, ◌-◌, ◌++◌}
use Rattle.link_streams.specs.Stream.{most_octets, octets_from}
use Rattle.link_streams.proofs.waiting.octets_from.Given as goal

abbrev pub invariant-loop : goal.invariant-loop
invariant-loop l =
    l.octets.items ++ octets_from (most_octets - l.counter) l.waiting l.here
    ≡ octets_from most_octets l.waiting l.place
