-- The capture of tapes: the classic capture file of libpcap, in which each block is a packet.
use Rattle.std.specs.Prelude.{◌≡◌, ℕ, ◌+◌, ◌≤◌, Bool, true, not, if◌then◌else◌, List, [], ◌∷◌, ◌++◌, length}
use Rattle.std.specs.List.{flat_map, AllByRecursion}
use Rattle.std.specs.Simd.{first_chunks}
use Rattle.std.specs.Str.{bytes_eq}
use Rattle.byteorder.specs.Endian.{little_bytes}
use Rattle.cbch_blocks.specs.Blocks.{idle_blocks}
use Rattle.cbsp_wire.specs.declared.message.Cell.{Cell}
use Rattle.handset.specs.Tape.{IsShort, IsLong, cell_in, max_slots, max_tapes, octets_of_blocks, slots_in}
use Rattle.gsmtap.specs.Packet.{packet}
use Rattle.gsmtap.specs.declared.capture.CaptureFault.{CaptureFault}
use Rattle.gsmtap.specs.declared.capture.CaptureFault.TheVariants as fault
use Rattle.gsmtap.specs.declared.capture.Settings.{Settings}
use Rattle.gsmtap.specs.declared.capture.Slots.{Slots}
use Rattle.gsmtap.specs.declared.capture.Slots.TheVariants.{All, Used}
use Rattle.gsmtap.specs.declared.packet.Channel.{Channel}
use Rattle.gsmtap.specs.declared.packet.Start.{Start}

-- a tape: the eight octets of its header, and the 92 octets of each of its slots
pub record Tape : Type 0 where
  pub header : List ℕ
  pub slots : List (List ℕ)

abbrev pub octets_of_tape : Tape → List ℕ
octets_of_tape tape = tape.header ++ flat_map (λ slot. slot) tape.slots

abbrev pub octets_of_tapes : List Tape → List ℕ
octets_of_tapes tapes = flat_map octets_of_tape tapes

-- it has as many slots as its header says
pub record IsWhole (tape : Tape) : Type 0 where
  pub eight : length tape.header ≡ 8
  pub few : slots_in tape.header ≤ max_slots
  pub many : length tape.slots ≡ slots_in tape.header
  pub each : AllByRecursion (λ slot. length slot ≡ 92) tape.slots

abbrev pub AreWhole : List Tape → Type 0
AreWhole tapes = AllByRecursion IsWhole tapes

-- the four blocks of a slot
abbrev pub blocks_in_slot : List ℕ → List (List ℕ)
blocks_in_slot slot = first_chunks 23 4 slot

-- the file's header: the magic number of microseconds, version 2.4, zone and accuracy 0, at most 65,535 octets of a
-- packet, and link type 228, raw IPv4. Low octets stand first
unfoldable pub file_header : List ℕ
file_header =
    little_bytes 4 0xA1B2C3D4 ++ little_bytes 2 2 ++ little_bytes 2 4 ++ little_bytes 4 0 ++ little_bytes 4 0
    ++ little_bytes 4 65535 ++ little_bytes 4 228

-- whether a slot is in the capture: an idle one may be left out
abbrev pub is_in : Slots → List ℕ → Bool
is_in All slot = true
is_in Used slot = not (bytes_eq slot (octets_of_blocks idle_blocks))

-- the packets of blocks that follow each other in a slot, from this one on
abbrev pub packets_of_blocks : Start → Channel → (tape : ℕ) → Cell → (slot block : ℕ) → List (List ℕ) → List ℕ
packets_of_blocks start channel tape cell slot block [] = []
packets_of_blocks start channel tape cell slot block (octets ∷ rest) =
    packet start channel (record { tape = tape; cell = cell; slot = slot; block = block }) octets
    ++ packets_of_blocks start channel tape cell slot (block + 1) rest

unfoldable pub packets_of_slot : Start → Channel → (tape : ℕ) → Cell → (slot : ℕ) → List ℕ → List ℕ
packets_of_slot start channel tape cell slot octets =
    packets_of_blocks start channel tape cell slot 0 (blocks_in_slot octets)

-- the packets of slots that follow each other on a tape, from this one on
abbrev pub packets_of_slots : Settings → (tape : ℕ) → Cell → (slot : ℕ) → List (List ℕ) → List ℕ
packets_of_slots settings tape cell slot [] = []
packets_of_slots settings tape cell slot (octets ∷ rest) =
    (if is_in settings.slots octets then packets_of_slot settings.start settings.channel tape cell slot octets else [])
    ++ packets_of_slots settings tape cell (slot + 1) rest

-- the packets of tapes that follow each other, from this one on
abbrev pub packets_of_tapes : Settings → (number : ℕ) → List Tape → List ℕ
packets_of_tapes settings number [] = []
packets_of_tapes settings number (tape ∷ rest) =
    packets_of_slots settings number (cell_in tape.header) 0 tape.slots ++ packets_of_tapes settings (number + 1) rest

-- the capture of tapes
abbrev pub capture : Settings → List Tape → List ℕ
capture settings tapes = file_header ++ packets_of_tapes settings 0 tapes

-- the input is whole tapes, and the output is their capture
pub record IsCapture (settings : Settings) (input output : List ℕ) : Type 0 where
  pub tapes : List Tape
  pub whole : AreWhole tapes
  pub few : length tapes ≤ max_tapes
  pub joined : input ≡ octets_of_tapes tapes
  pub written : output ≡ capture settings tapes

-- why an input has no capture, but for out of memory
abbrev pub IsCaptureFault : List ℕ → CaptureFault → Type 0
IsCaptureFault input fault.Short = IsShort input
IsCaptureFault input fault.Long = IsLong input
IsCaptureFault input fault.Refused = Unit {0}
