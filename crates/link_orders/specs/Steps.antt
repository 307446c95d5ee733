-- What a taker has of a capture file's packets. Contracts of steps speak of it.
use Rattle.std.specs.Prelude.{◌≡◌, ℕ, ◌*◌, ◌≤◌, ◌⊎◌, List, length, Ok, Err}
use Rattle.gsmtap.specs.File.{Packet}
use Rattle.gsmtap.specs.Taken.{taken}
use Rattle.gsmtap.specs.Taker.{HasTakenAll}
use Rattle.gsmtap.specs.TapeSteps.{IsPacketKind, last_slot}
use Rattle.gsmtap.specs.Walk.{IsWalkOf}
use Rattle.gsmtap.specs.declared.fault.AirFault.{AirFault}
use Rattle.gsmtap.specs.declared.fault.AirFaultKind.{AirFaultKind}
use Rattle.gsmtap.specs.declared.fault.AirFaultKind.TheVariants as kind
use Rattle.gsmtap.specs.declared.tape.Sender.{Sender}
use Rattle.gsmtap.specs.declared.walk.Walk.{Walk}
use Rattle.link_orders.specs.Clock.{Clocked, clock_packet}
use Rattle.link_orders.specs.Overhearing.{Overhearing, for_overhearing}
use Rattle.link_orders.specs.declared.clock.SlotClock.{SlotClock}
use Rattle.link_orders.specs.declared.overheard.Overheard.{Overheard}
use Rattle.link_streams.specs.StreamsSteps.{followed_by}
use Rattle.link_streams.specs.declared.message.LinkPacket.{LinkPacket}

-- what a clock knows
abbrev pub clocked_of : SlotClock → Clocked
clocked_of clock = record { track = clock.track; begins = clock.begins.items }

-- why a packet isn't taken for the clock: it is at fault, or memory was refused
abbrev pub IsUnclocked : Sender → Clocked → Packet → AirFaultKind → Type 0
IsUnclocked from known packet why =
    (why ≡ kind.Refused) ⊎ ((clock_packet from known packet ≡ Err why) × IsPacketKind why)

-- what a taker knows after so many packets
abbrev pub overheard_by : (packets : ℕ) → Overheard → Overhearing
overheard_by packets it = record { followed = followed_by packets it.streams; clocked = clocked_of it.clock }

-- it is for the air of this sender, and has these packets, of which each leads on by half a hyperframe at most
pub record HaveOverheard (from : Sender) (packets : List Packet) (it : Overheard) : Type 0 where
  pub from_is : it.from ≡ from
  pub comes : taken (for_overhearing from) packets ≡ Ok (overheard_by (length packets) it)
  pub near : last_slot it.clock.track ≤ 3328 * length packets

-- it has all of a file
abbrev pub HaveOverheardAll : Sender → (input : List ℕ) → Overheard → Type 0
HaveOverheardAll from input it = HasTakenAll (for_overhearing from) (HaveOverheard from) input it

-- a walk for this is over a file of which these octets came by now
abbrev pub IsOverhearing : Sender → (input : List ℕ) → Walk Overheard → Type 0
IsOverhearing from input walk = IsWalkOf for_overhearing HaveOverheard from input walk

-- the messages that a taker has, and what the blocks say of the tape's begin
abbrev pub link_messages_in : Overheard → List LinkPacket
link_messages_in it = (followed_by 0 it.streams).messages

abbrev pub begins_in : Overheard → List ℕ
begins_in it = it.clock.begins.items

-- the fault of a packet of this number, name by name as in the code: out of memory is of none
abbrev pub fault_of : (number : ℕ) → AirFaultKind → AirFault
fault_of number kind.Refused = record { packet = 0; kind = kind.Refused }
fault_of number why = record { packet = number; kind = why }
