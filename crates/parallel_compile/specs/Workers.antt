-- What workers do, and which fault this many of them meet.
use Rattle.std.specs.Prelude.{◌≡◌, ◌<◌, ◌≤◌, ◌+◌, ◌⊎◌, ℕ, Bool, List, [], All, map}
use Rattle.cbch_blocks.specs.RecordBlocks.{tape_of_record}
use Rattle.bsc_table.specs.Record.{Record}
use Rattle.tickets.specs.Draws.{CounterState, SeatState, IsSeatOf, all_parts, all_splits}
use Rattle.parallel_compile.specs.Gathered.{piece_numbers, IsAmongPieces}
use Rattle.parallel_compile.specs.declared.fault.CompileFault.{CompileFault}
use Rattle.parallel_compile.specs.declared.fault.CompileFault.TheVariants as fault

-- the most workers of a call
abbrev pub max_workers : ℕ
max_workers = 64

-- a fault of a call with this many workers
abbrev pub IsOfWorkers : ℕ → CompileFault → Type 0
IsOfWorkers workers fault.Workers = (workers ≡ 0) ⊎ (max_workers < workers)
IsOfWorkers workers fault.Refused = (0 < workers) × (workers ≤ max_workers)
IsOfWorkers workers (fault.Piece index) = ⊥

-- the piece's tape is that of the record with its number
abbrev pub IsPieceOfRecord : List Record → (ℕ × List ℕ) → Type 0
IsPieceOfRecord records piece = IsAmongPieces (map tape_of_record records) piece

-- a counter's first seat after this many splits
abbrev pub IsSplit : CounterState → ℕ → SeatState → Type 0
IsSplit counter splits seat =
    IsSeatOf counter seat × (seat.parts + splits ≡ all_parts) × (seat.spare + splits ≡ all_splits) × (seat.drawn ≡ [])

-- A seat with this many of the counter's parts, and the pieces that were made by it: of each number that it drew, in
-- order.
pub record IsDone (counter : CounterState) (records : List Record) (parts : ℕ) (over : Bool) (seat : SeatState)
    (pieces : List (ℕ × List ℕ)) : Type 0 where
  pub of : IsSeatOf counter seat
  pub parts_are : seat.parts ≡ parts
  pub over_is : seat.over ≡ over
  pub drawn : piece_numbers pieces ≡ seat.drawn
  pub made : All (IsPieceOfRecord records) pieces
