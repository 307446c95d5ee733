use Rattle.std.proofs.Common.{ℕ, ◌<◌, slice_index_or}
use Rattle.cbsp_wire.specs.declared.message.Cell.{Cell}
use Rattle.bsc_table.specs.Record.{Record}
use Rattle.order_desk.specs.Settled.{IsBookOf}
use Rattle.order_desk.proofs.settle.first_wrong.Given as goal

abbrev pub invariant-loop-place : goal.invariant-loop-place
invariant-loop-place l = (k : ℕ) (c : Cell) (r : Record) → k < l.place
    → IsBookOf l.fn.slots (slice_index_or l.fn.cells k c) (slice_index_or l.fn.books k r)
