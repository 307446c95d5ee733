-- The tape that a capture file is: a block that the file doesn't have is idle.
use Rattle.std.specs.Prelude.{◌≡◌, ℕ, ◌+◌, ◌-◌, ◌*◌, ◌/◌, min, true, List, ◌++◌, length, map, replicate, take}
use Rattle.std.specs.Prelude.{unwrap_or}
use Rattle.std.specs.Prelude.{Option, Some, None, is_none, is_some, Result, Ok, Err}
use Rattle.std.specs.List.{suffix_len}
use Rattle.cbch_blocks.specs.Blocks.{idle_block}
use Rattle.handset.specs.Tape.{max_slots, tape_octets}
use Rattle.gsmtap.specs.File.{Packet, link_numbered}
use Rattle.gsmtap.specs.Taken.{ComesTo, IsFileFault, Taking}
use Rattle.gsmtap.specs.Tap.{sent_in}
use Rattle.gsmtap.specs.Track.{Known, with_block}
use Rattle.gsmtap.specs.declared.fault.AirFault.{AirFault}
use Rattle.gsmtap.specs.declared.fault.AirFaultKind.{AirFaultKind}
use Rattle.gsmtap.specs.declared.fault.AirFaultKind.TheVariants as kind
use Rattle.gsmtap.specs.declared.file.Link.{Link}
use Rattle.gsmtap.specs.declared.tap.Sent.{Sent}
use Rattle.gsmtap.specs.declared.tape.Sender.{Sender}
use Rattle.gsmtap.specs.declared.tape.Wanted.{Wanted}

-- what is known before the first packet: there are four blocks for each slot
abbrev pub nothing_known : (slots : ℕ) → Known
nothing_known slots = record { track = None; blocks = replicate (4 * slots) None }

-- what is known after a packet, which may carry no block
abbrev pub after_sent : Known → Option Sent → Result Known AirFaultKind
after_sent known None = Ok known
after_sent known (Some sent) = with_block known sent

-- a packet of a link type that isn't known is at fault
abbrev pub after_linked : Sender → Known → Packet → Option Link → Result Known AirFaultKind
after_linked from known packet None = Err (kind.OtherLink packet.link)
after_linked from known packet (Some link) = after_sent known (sent_in link from packet.octets)

unfoldable pub after_packet : Sender → Known → Packet → Result Known AirFaultKind
after_packet from known packet = after_linked from known packet (link_numbered packet.link)

-- how many slots the tape may have: as many as are wanted, or as many as a tape can have
abbrev pub most_slots : Option ℕ → ℕ
most_slots None = max_slots
most_slots (Some slots) = slots

-- the slots of the tape from the first block's on
abbrev pub slots_taken : Wanted → ℕ
slots_taken wanted = most_slots wanted.slots - wanted.first_slot

-- how packets are taken for a tape
abbrev pub for_tape : Wanted → Taking Known
for_tape wanted = record { start = nothing_known (slots_taken wanted); step = after_packet wanted.from }

-- the blocks of a tape, and those of its slots before the first block's, of which none is known
abbrev pub blocks_in : List (Option (List ℕ)) → List (List ℕ)
blocks_in blocks = map (λ block. unwrap_or block idle_block) blocks

abbrev pub blocks_before : Wanted → List (Option (List ℕ))
blocks_before wanted = replicate (4 * min wanted.first_slot (most_slots wanted.slots)) None

-- how many slots, of four blocks each, there are up to the last block that is known
abbrev pub slots_filled : List (Option (List ℕ)) → ℕ
slots_filled blocks = (length blocks - suffix_len is_none blocks + 3) / 4

-- the slots of the tape, and its blocks from the first one's slot on. If no number is wanted, they end with the slot of
-- the last block that is known
abbrev pub slots_on_tape : (wanted : Option ℕ) (first_slot : ℕ) → List (Option (List ℕ)) → ℕ
slots_on_tape None first_slot blocks = first_slot + slots_filled blocks
slots_on_tape (Some slots) first_slot blocks = slots

abbrev pub blocks_on_tape : (wanted : Option ℕ) → List (Option (List ℕ)) → List (Option (List ℕ))
blocks_on_tape None blocks = take (4 * slots_filled blocks) blocks
blocks_on_tape (Some slots) blocks = blocks

-- the octets of the tape of which these blocks are known from the first one's slot on
abbrev pub tape_of_known : Wanted → List (Option (List ℕ)) → List ℕ
tape_of_known wanted blocks =
    tape_octets wanted.cell (slots_on_tape wanted.slots wanted.first_slot blocks)
    (blocks_in (blocks_before wanted ++ blocks_on_tape wanted.slots blocks))

-- the input is a capture file of whole pieces, whose packets have a block, and the output is the tape that they are
pub record IsTapeOfCapture (wanted : Wanted) (input output : List ℕ) : Type 0 where
  pub known : Known
  pub file : ComesTo (for_tape wanted) input known
  pub some : is_some known.track ≡ true
  pub written : output ≡ tape_of_known wanted known.blocks

-- the input is a capture file of whole pieces, whose packets have no block
pub record HasNoBlock (wanted : Wanted) (input : List ℕ) : Type 0 where
  pub known : Known
  pub file : ComesTo (for_tape wanted) input known
  pub none : known.track ≡ None

-- why an input has no tape, but for out of memory
abbrev pub IsAirFaultOf : Wanted → List ℕ → (packet : ℕ) → AirFaultKind → Type 0
IsAirFaultOf wanted input packet kind.NoBlock = (packet ≡ 0) × HasNoBlock wanted input
IsAirFaultOf wanted input packet why = IsFileFault (for_tape wanted) input packet why

abbrev pub IsAirFault : Wanted → List ℕ → AirFault → Type 0
IsAirFault wanted input fault = IsAirFaultOf wanted input fault.packet fault.kind
