-- What comes of the packets of a capture file that has the link and the air: the messages of the one, and the clock of
-- the other.
use Rattle.std.specs.Prelude.{ℕ, List, [], Result, Ok, Err}
use Rattle.gsmtap.specs.File.{Packet}
use Rattle.gsmtap.specs.Taken.{IsFileFault, Taking}
use Rattle.gsmtap.specs.declared.fault.AirFault.{AirFault}
use Rattle.gsmtap.specs.declared.fault.AirFaultKind.{AirFaultKind}
use Rattle.gsmtap.specs.declared.tape.Sender.{Sender}
use Rattle.link_orders.specs.Clock.{Clocked, clock_packet, not_clocked}
use Rattle.link_streams.specs.Streams.{Followed, follow, for_messages}

-- what is known after packets
pub record Overhearing : Type 0 where
  pub followed : Followed
  pub clocked : Clocked

abbrev pub with_clock : Followed → Result Clocked AirFaultKind → Result Overhearing AirFaultKind
with_clock followed (Err why) = Err why
with_clock followed (Ok clocked) = Ok (record { followed = followed; clocked = clocked })

abbrev pub with_link : Sender → Clocked → Packet → Result Followed AirFaultKind → Result Overhearing AirFaultKind
with_link from clocked packet (Err why) = Err why
with_link from clocked packet (Ok followed) = with_clock followed (clock_packet from clocked packet)

unfoldable pub overhear : Sender → Overhearing → Packet → Result Overhearing AirFaultKind
overhear from known packet = with_link from known.clocked packet (follow known.followed packet)

abbrev pub nothing_overheard : Overhearing
nothing_overheard = record { followed = for_messages.start; clocked = not_clocked }

-- how packets are taken for both, where the air is this sender's
abbrev pub for_overhearing : Sender → Taking Overhearing
for_overhearing from = record { start = nothing_overheard; step = overhear from }

-- why an input comes to neither, but for out of memory: the file is at fault
abbrev pub IsOverhearingFault : Sender → List ℕ → AirFault → Type 0
IsOverhearingFault from input fault = IsFileFault (for_overhearing from) input fault.packet fault.kind
