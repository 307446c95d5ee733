-- Rows whose order, if they give one, has a serial number (own). Contracts of private functions alone speak of it.
use Rattle.std.specs.Prelude.{⊤}
use Rattle.alert_book.specs.declared.book.row.Row.{Row}
use Rattle.alert_book.specs.declared.book.row.Row.TheVariants as rows
use Rattle.alert_book.specs.SendableSteps.{IsSendable}

abbrev pub IsFine : Row → Type 0
IsFine (rows.Declare cell) = ⊤
IsFine (rows.Give order) = IsSendable order
