-- What is known of senders after some packets. Contracts of private functions alone speak of it.
use Rattle.std.specs.Prelude.{◌≡◌, ℕ, ◌+◌, ◌-◌, ◌<◌, ◌≤◌, ◌^◌, ◌⊎◌, List, [], ◌∷◌, ◌++◌, length, map, slice_get}
use Rattle.std.specs.Prelude.{slice_index_or}
use Rattle.std.specs.Prelude.{slice_set, position, All, Option, Some, None, Result, Ok, Err}
use Rattle.std.specs.List.{AllByRecursion}
use Rattle.std.specs.Option.{option_and_then, option_map}
use Rattle.gsmtap.specs.Carried.{Summary, summary_in, summary_of, wanted_of}
use Rattle.gsmtap.specs.File.{Packet}
use Rattle.gsmtap.specs.Heard.{for_hearing, hear, heard_in, is_station}
use Rattle.gsmtap.specs.HeardSteps.{heard_again, newly_heard}
use Rattle.gsmtap.specs.Listening.{IsListening, IsListeningToSome}
use Rattle.gsmtap.specs.Taken.{taken}
use Rattle.gsmtap.specs.TapeOfCapture.{after_sent, for_tape, nothing_known}
use Rattle.gsmtap.specs.TapeSteps.{IsBlockKind, IsPacketKind}
use Rattle.gsmtap.specs.Track.{Known}
use Rattle.gsmtap.specs.declared.carried.Carried.{Carried}
use Rattle.gsmtap.specs.declared.fault.AirFault.{AirFault}
use Rattle.gsmtap.specs.declared.fault.AirFaultKind.{AirFaultKind}
use Rattle.gsmtap.specs.declared.fault.AirFaultKind.TheVariants as kind
use Rattle.gsmtap.specs.declared.listener.Listener.{Listener}
use Rattle.gsmtap.specs.declared.sender_table.SenderRow.{SenderRow}
use Rattle.gsmtap.specs.declared.sender_table.SenderState.{SenderState}
use Rattle.gsmtap.specs.declared.tap.Sent.{Sent}
use Rattle.gsmtap.specs.declared.tap.Station.{Station}

-- when the packet of a number came, from 1 on
abbrev pub time_numbered : List Packet → (number : ℕ) → Option ℕ
time_numbered packets number = option_and_then (λ (packet : Packet). packet.time) (slice_get packets (number - 1))

-- a sender is listened to as long as its blocks make a tape
abbrev pub IsListenerFor : Option Listener → Result Known AirFaultKind → Type 0
IsListenerFor (Some listener) (Ok known) = IsListening known listener
IsListenerFor (Some listener) (Err why) = ⊥
IsListenerFor None (Ok known) = ⊥
IsListenerFor None (Err why) = IsBlockKind why

-- what is taken, or why it isn't, of whichever packet
abbrev pub without_number : Result Known AirFault → Result Known AirFaultKind
without_number (Ok known) = Ok known
without_number (Err fault) = Err fault.kind

-- what a sender's blocks come to
abbrev pub tape_after : Station → List Packet → Result Known AirFaultKind
tape_after station packets = without_number (taken (for_tape (wanted_of station)) packets)

-- what is known of a sender after packets
pub record IsSenderAfter (packets : List Packet) (sender : SenderState) : Type 0 where
  pub first : (0 < sender.heard.first) × (sender.heard.first ≤ length packets)
  pub last : (0 < sender.heard.last) × (sender.heard.last ≤ length packets)
  pub first_time : sender.first_time ≡ time_numbered packets sender.heard.first
  pub last_time : sender.last_time ≡ time_numbered packets sender.heard.last
  pub listens : IsListenerFor sender.listener (tape_after sender.heard.station packets)

-- and of all of them
pub record AreSendersAfter (packets : List Packet) (stations : List (Option Station)) (senders : List SenderState)
    : Type 0
  where
    pub heard : map (λ (one : SenderState). one.heard) senders ≡ heard_in stations
    pub each : AllByRecursion (IsSenderAfter packets) senders

-- the same of packets whose stations are known
abbrev pub HaveHeard : List Packet → List SenderState → Type 0
HaveHeard packets senders =
    (stations : List (Option Station)) × (taken for_hearing packets ≡ Ok stations)
    × AreSendersAfter packets stations senders

-- a listener, if there is one, whose slots can be counted
abbrev pub CanListen : Option Listener → Type 0
CanListen None = Unit {0}
CanListen (Some listener) = IsListeningToSome listener

-- a sender's first block came in the packet of this number
pub record IsFirstHeard (number : ℕ) (station : Station) (time : Option ℕ) (sent : Option Sent) (new : SenderState)
    : Type 0
  where
    pub heard : new.heard ≡ newly_heard number station
    pub first_time : new.first_time ≡ time
    pub last_time : new.last_time ≡ time
    pub listens : IsListenerFor new.listener (after_sent (nothing_known 65535) sent)

-- and one more
pub record IsHeardAgain (number : ℕ) (time : Option ℕ) (sent : Option Sent) (old new : SenderState) : Type 0 where
  pub heard : new.heard ≡ heard_again number old.heard
  pub first_time : new.first_time ≡ old.first_time
  pub last_time : new.last_time ≡ time
  pub listens :
      (known : Known) → IsListenerFor old.listener (Ok known) → IsListenerFor new.listener (after_sent known sent)
  pub gone : (why : AirFaultKind) → IsListenerFor old.listener (Err why) → IsListenerFor new.listener (Err why)

-- senders after a block of this one, which is at this place of them, or new
abbrev pub HearAt : (number : ℕ) → Station → (time : Option ℕ) → Option Sent → (old new : List SenderState) →
    (place : Option ℕ) → Type 0
HearAt number station time sent old new None =
    (one : SenderState) × IsFirstHeard number station time sent one × (new ≡ old ++ one ∷ [])
HearAt number station time sent old new (Some place) =
    (one : SenderState) × IsHeardAgain number time sent (slice_index_or old place one) one
    × (new ≡ slice_set old place one)

-- where a sender is among them
abbrev pub place_among : Station → List SenderState → Option ℕ
place_among station senders = position (λ (one : SenderState). is_station station one.heard.station) senders

abbrev pub Hear : (number : ℕ) → Station → (time : Option ℕ) → Option Sent → (old new : List SenderState) → Type 0
Hear number station time sent old new = HearAt number station time sent old new (place_among station old)

-- all senders can be listened to
abbrev pub AllCanListen : List SenderState → Type 0
AllCanListen senders = All (λ (one : SenderState). CanListen one.listener) senders

-- what is written of a sender after packets

abbrev pub CarriesAfter : Station → List Packet → Option Summary → Type 0
CarriesAfter station packets None =
    (fault : AirFault) × (taken (for_tape (wanted_of station)) packets ≡ Err fault) × IsBlockKind fault.kind
CarriesAfter station packets (Some summary) =
    (known : Known) × (taken (for_tape (wanted_of station)) packets ≡ Ok known) × (summary ≡ summary_in known.blocks)

pub record IsRowAfter (packets : List Packet) (row : SenderRow) : Type 0 where
  pub first_time : row.first_time ≡ time_numbered packets row.heard.first
  pub last_time : row.last_time ≡ time_numbered packets row.heard.last
  pub carries : CarriesAfter row.heard.station packets (option_map summary_of row.carried)

pub record AreRowsAfter (packets : List Packet) (stations : List (Option Station)) (rows : List SenderRow) : Type 0
  where
    pub heard : map (λ (row : SenderRow). row.heard) rows ≡ heard_in stations
    pub each : AllByRecursion (IsRowAfter packets) rows

-- the packet of this number is the next one, and so few came before that slots can be counted
abbrev pub HearsSome : (number : ℕ) → List SenderState → Type 0
HearsSome number senders =
    (packets : List Packet) × HaveHeard packets senders × (length packets + 1 ≡ number) × (number < 2 ^ 46)

-- a packet is heard after others
abbrev pub HearsPacket : (number : ℕ) → Packet → (old new : List SenderState) → Type 0
HearsPacket number packet old new =
    (packets : List Packet) (stations : List (Option Station)) → length packets + 1 ≡ number → number < 2 ^ 46 →
    taken for_hearing packets ≡ Ok stations → AreSendersAfter packets stations old →
    (next : List (Option Station)) × (hear stations packet ≡ Ok next)
    × AreSendersAfter (packets ++ packet ∷ []) next new

-- why it isn't: it is at fault, or memory was refused
abbrev pub IsUnheardPacket : (number : ℕ) → Packet → AirFault → Type 0
IsUnheardPacket number packet fault =
    ((fault.kind ≡ kind.Refused) × (fault.packet ≡ 0))
    ⊎ ((fault.packet ≡ number) × ((stations : List (Option Station)) → hear stations packet ≡ Err fault.kind)
    × IsPacketKind fault.kind)

-- what was heard of a sender is in its row
abbrev pub IsCarriedFor : Option Listener → Option Carried → Type 0
IsCarriedFor None None = Unit {0}
IsCarriedFor None (Some carried) = ⊥
IsCarriedFor (Some listener) None = ⊥
IsCarriedFor (Some listener) (Some carried) =
    (known : Known) → IsListening known listener → summary_of carried ≡ summary_in known.blocks

pub record IsRowOf (sender : SenderState) (row : SenderRow) : Type 0 where
  pub heard : row.heard ≡ sender.heard
  pub first_time : row.first_time ≡ sender.first_time
  pub last_time : row.last_time ≡ sender.last_time
  pub carried : IsCarriedFor sender.listener row.carried

abbrev pub AreRowsOf : List SenderState → List SenderRow → Type 0
AreRowsOf [] [] = Unit {0}
AreRowsOf [] (row ∷ rows) = ⊥
AreRowsOf (sender ∷ senders) [] = ⊥
AreRowsOf (sender ∷ senders) (row ∷ rows) = IsRowOf sender row × AreRowsOf senders rows
