-- The pieces of a tape, which are made one by one (own): the first has the header and the first slots, and each further
-- one the slots after it.
use Rattle.std.specs.Prelude.{ℕ, ◌+◌, ◌*◌, ◌==◌, if◌then◌else◌, List, [], ◌++◌, take, drop}
use Rattle.bsc_table.specs.Record.{Record}
use Rattle.cbch_blocks.specs.RecordBlocks.{blocks_of_uses, octets_of_blocks, tape_header}

-- the most slots of a piece
abbrev pub most_piece_slots : ℕ
most_piece_slots = 256

-- the most octets of a piece: a header of 8, and 92 for each slot
abbrev pub piece_size : ℕ
piece_size = 8 + 92 * most_piece_slots

-- the header stands before slot 0
abbrev pub header_before : (first : ℕ) → Record → List ℕ
header_before first r = if first == 0 then tape_header r.cell r.slots else []

-- the piece of a record's tape that begins with this slot
abbrev pub piece_from : (first : ℕ) → Record → List ℕ
piece_from first r =
    header_before first r ++ octets_of_blocks (blocks_of_uses r.log (take most_piece_slots (drop first r.air)))

-- all that a record's tape has from a slot on
abbrev pub tape_from : (first : ℕ) → Record → List ℕ
tape_from first r = header_before first r ++ octets_of_blocks (blocks_of_uses r.log (drop first r.air))

-- how many octets of the tape are before the piece that begins with this slot
abbrev pub piece_start : (first : ℕ) → ℕ
piece_start first = if first == 0 then 0 else 8 + 92 * first
