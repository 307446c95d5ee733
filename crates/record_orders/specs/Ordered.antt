-- What a cell of a run was ordered and what it answered, by its record, as the rows of an orders file. Own, in the
-- terms of 3GPP TS 48.049: clause 8.1.3 has the orders and their answers.
use Rattle.std.specs.Prelude.{ℕ, if◌then◌else◌, List, [], ◌∷◌, Option, Some, None}
use Rattle.std.specs.List.{flat_map}
use Rattle.bsc_table.specs.declared.command.Category.{Category}
use Rattle.bsc_table.specs.declared.command.Category.TheVariants.{High, Normal, Background}
use Rattle.bsc_table.specs.declared.command.Command.{Command}
use Rattle.bsc_table.specs.declared.command.Command.TheVariants as commands
use Rattle.bsc_table.specs.declared.entry.Answer.{Answer}
use Rattle.bsc_table.specs.declared.entry.Answer.TheVariants as answers
use Rattle.bsc_table.specs.declared.entry.Entry.{Entry}
use Rattle.bsc_table.specs.Record.{Record}
use Rattle.cbsp_wire.specs.declared.message.Cell.{Cell}
use Rattle.cbsp_wire.specs.Range.{is_cell}
use Rattle.cell_orders.specs.declared.row.CellAnswer.{CellAnswer}
use Rattle.cell_orders.specs.declared.row.CellOrder.{CellOrder}
use Rattle.cell_orders.specs.declared.row.CellOrder.TheVariants as rows
use Rattle.cell_orders.specs.declared.row.OrderRow.{OrderRow}
use Rattle.cell_orders.specs.Text.{orders_text}

-- the category of an order (clause 8.2.7)
abbrev pub category_number : Category → ℕ
category_number High = 0
category_number Background = 1
category_number Normal = 2

-- what a cell answered: that it took the order, with how many broadcasts of the message that went it had completed, if
-- one went; or the cause for which it refused (clauses 8.2.10 and 8.2.11). What is said of a status answers no order
abbrev pub took_order : (done : Option ℕ) → Option CellAnswer
took_order done = Some (record { cause = None; done = done })

abbrev pub answer_said : Answer → Option CellAnswer
answer_said (answers.Started slot) = took_order None
answer_said (answers.Replaced slot completed) = took_order (Some completed)
answer_said (answers.Stopped completed) = took_order (Some completed)
answer_said (answers.Cause cause) = Some (record { cause = Some cause; done = None })
answer_said other = None

-- the row of an order, at the slot of its answer. A run has no packets
abbrev pub row_in_slot : (slot : ℕ) → CellOrder → OrderRow
row_in_slot slot order = record { at = slot; time = 0; packet = 0; order = order }

-- the row of a command that was answered: a status is no order
abbrev pub rows_of_command : (slot : ℕ) → Option CellAnswer → Command → List OrderRow
rows_of_command slot answer (commands.Write id serial replaces category dcs period broadcasts contents) =
    row_in_slot slot (rows.Write id serial replaces (category_number category) period broadcasts dcs contents answer)
    ∷ []
rows_of_command slot answer (commands.Kill id serial) = row_in_slot slot (rows.Kill id serial answer) ∷ []
rows_of_command slot answer (commands.Status id serial) = []

abbrev pub rows_of_entry : Entry → List OrderRow
rows_of_entry e = rows_of_command e.slot (answer_said e.answer) e.command

-- the rows of a cell, in the order of its answers
abbrev pub rows_of_record : Record → List OrderRow
rows_of_record r = flat_map rows_of_entry r.log

-- those of one cell, of the records of a run: none if it is no cell of the run
abbrev pub rows_if : Cell → Record → List OrderRow
rows_if cell r = if is_cell cell r.cell then rows_of_record r else []

abbrev pub rows_in : Cell → List Record → List OrderRow
rows_in cell records = flat_map (rows_if cell) records

-- and their orders file
abbrev pub orders_in : Cell → List Record → List ℕ
orders_in cell records = orders_text (rows_in cell records)
