use Rattle.std.proofs.Common.{◌≡◌, ◌-◌, length}
use Rattle.link_streams.specs.Directions.{may_be_messages}
use Rattle.link_streams.proofs.messages.may_be_messages.Given as goal

abbrev pub invariant-loop : goal.invariant-loop
invariant-loop l =
    may_be_messages (length l.octets - l.counter) l.left ≡ may_be_messages (length l.octets) l.octets
