-- What a taker has of a capture file's packets. Contracts of steps speak of it.
use Rattle.std.specs.Prelude.{◌≡◌, ℕ, ◌+◌, ◌⊎◌, List, length, Ok, Err}
use Rattle.gsmtap.specs.File.{Packet}
use Rattle.gsmtap.specs.Taken.{taken}
use Rattle.gsmtap.specs.Taker.{HasTakenAll}
use Rattle.gsmtap.specs.TapeSteps.{IsPacketKind}
use Rattle.gsmtap.specs.declared.fault.AirFault.{AirFault}
use Rattle.gsmtap.specs.declared.fault.AirFaultKind.TheVariants as kind
use Rattle.link_streams.specs.Streams.{Followed, follow, for_messages}
use Rattle.link_streams.specs.declared.streams.LinkStreams.{LinkStreams}

-- what a taker knows after so many packets
abbrev pub followed_by : (packets : ℕ) → LinkStreams → Followed
followed_by packets streams =
    record { packets = packets; directions = streams.directions.items; messages = streams.messages.items }

-- it has these packets
abbrev pub HaveFollowed : List Packet → LinkStreams → Type 0
HaveFollowed packets streams = taken for_messages packets ≡ Ok (followed_by (length packets) streams)

-- it has all of a file
abbrev pub HaveFollowedAll : (input : List ℕ) → LinkStreams → Type 0
HaveFollowedAll input streams = HasTakenAll for_messages HaveFollowed input streams

-- why a packet isn't followed, before which so many came: it is at fault, or memory was refused
abbrev pub IsUnfollowed : (before : ℕ) → LinkStreams → Packet → AirFault → Type 0
IsUnfollowed before streams packet fault =
    (fault ≡ record { packet = 0; kind = kind.Refused })
    ⊎ ((fault.packet ≡ before + 1) × (follow (followed_by before streams) packet ≡ Err fault.kind)
    × IsPacketKind fault.kind)
