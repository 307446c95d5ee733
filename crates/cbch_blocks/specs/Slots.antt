-- The slots of a tape (own).
use Rattle.std.specs.Prelude.{ℕ, ◌+◌, ◌*◌, None, List, [], ◌++◌, take, drop, replicate}
use Rattle.cbsp_wire.specs.declared.message.Cell.{Cell}
use Rattle.bsc_table.specs.Record.{Record}
use Rattle.cbch_blocks.specs.RecordBlocks.{octets_of_blocks}

-- the record of a run in which nothing is asked: each slot is idle
abbrev pub silent_record : Cell → ℕ → Record
silent_record cell slots =
    record { cell = cell; slots = slots; clock = slots; log = []; air = replicate slots None }

-- a tape with these blocks in a slot, and no other octet changed: 8 octets of header come before the first slot, and
-- each slot has 92
abbrev pub with_slot : ℕ → List (List ℕ) → List ℕ → List ℕ
with_slot slot blocks tape =
    take (8 + 92 * slot) tape ++ octets_of_blocks blocks ++ drop (8 + 92 * (slot + 1)) tape
