-- What the lines of a cell are made of (own). The contracts of private functions alone speak of it.
use Rattle.std.specs.Prelude.{◌≡◌, length}
use Rattle.bsc_table.specs.Record.{accepted_in}
use Rattle.chart.specs.declared.line.CellContext.{CellContext}
use Rattle.chart.specs.Kept.{all_kept, HavePeriods}

-- the messages are those that the log of the run's record accepted, and all slots were played
pub record IsContext (context : CellContext) : Type 0 where
  pub all : all_kept context.messages.now ≡ accepted_in context.run.now.log
  pub periods : HavePeriods context.messages.now
  pub played : length context.run.now.air ≡ context.run.now.slots
