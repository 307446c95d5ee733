-- Laws of the pieces of a tape: one after the other, they are the tape. Own.
use Rattle.std.specs.Prelude.{◌≡◌, ℕ, ◌+◌, ◌*◌, ◌<◌, ◌≤◌, [], ◌++◌, length}
use Rattle.bsc_table.specs.Record.{Record}
use Rattle.cbch_blocks.specs.Pieces.{piece_from, piece_size, most_piece_slots, piece_start, tape_from}
use Rattle.cbch_blocks.specs.RecordBlocks.{tape_of_record}

-- from slot 0 on it is the tape
abbrev pub TapesBegin : Type 0
TapesBegin = (r : Record) → tape_from 0 r ≡ tape_of_record r

-- from any slot on it is a piece, and what the tape has behind it
abbrev pub PiecesFollow : Type 0
PiecesFollow = (r : Record) (first : ℕ)
    → tape_from first r ≡ piece_from first r ++ tape_from (first + most_piece_slots) r

-- there is nothing behind the last slot
abbrev pub TapesEnd : Type 0
TapesEnd = (r : Record) (first : ℕ) → 0 < first → length r.air ≤ first → tape_from first r ≡ []

-- no piece but one behind the last slot is empty
abbrev pub PiecesHaveOctets : Type 0
PiecesHaveOctets = (r : Record) (first : ℕ) → first < length r.air → 0 < length (piece_from first r)

-- where a tape has 92 octets for each slot, and so many before a slot, the rest is what it has from there on
abbrev pub PiecesStart : Type 0
PiecesStart = (r : Record) (first : ℕ) → length (tape_of_record r) ≡ 8 + 92 * length r.air → first ≤ length r.air
    → piece_start first + length (tape_from first r) ≡ length (tape_of_record r)

-- a piece has room for each
abbrev pub PiecesAreShort : Type 0
PiecesAreShort = (r : Record) (first : ℕ) → length (piece_from first r) ≤ piece_size
