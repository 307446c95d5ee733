-- The tapes that workers make of the cells of an open desk, and the faults that this many workers meet (own). No
-- contract tells what a cell aired, since a lock's book is known by its type alone: the tapes are compared with the
-- records.
use Rattle.std.specs.Prelude.{◌≡◌, ◌<◌, ◌≤◌, ◌+◌, ◌*◌, ◌⊎◌, ℕ, List, length, map, take, All}
use Rattle.cbch_blocks.specs.RecordBlocks.{tape_header}
use Rattle.order_desk.specs.Desk.{DeskState}
use Rattle.parallel_compile.specs.declared.fault.CompileFault.{CompileFault}
use Rattle.parallel_compile.specs.declared.fault.CompileFault.TheVariants as fault
use Rattle.parallel_compile.specs.Workers.{max_workers}

-- tapes have the headers of a desk's cells, in their order, and as many slots as its runs
pub record AreTapesFor (desk : DeskState) (tapes : List (List ℕ)) : Type 0 where
  pub headed : map (take 8) tapes ≡ map (λ cell. tape_header cell desk.slots) desk.cells
  pub long : All (λ tape. length tape ≡ 8 + 92 * desk.slots) tapes

-- a fault of a stream by this many workers
abbrev pub IsOfStream : ℕ → CompileFault → Type 0
IsOfStream workers fault.Workers = (workers ≡ 0) ⊎ (max_workers < workers)
IsOfStream workers fault.Refused = (0 < workers) × (workers ≤ max_workers)
IsOfStream workers (fault.Piece index) = (0 < workers) × (workers ≤ max_workers)
