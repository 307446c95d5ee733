-- Worked values: the messages of a link as osmo-bsc answered them, and the rows of cell 1-1.
use Rattle.std.proofs.Common.{◌≡◌, ◌∷◌, [], List, ℕ, Some, None, refl}
use Rattle.cbsp_link.specs.declared.message.Answered.TheVariants as orders
use Rattle.cbsp_link.specs.declared.message.LinkCell.TheVariants as cells
use Rattle.cbsp_link.specs.declared.message.LinkMessage.{LinkMessage}
use Rattle.cbsp_link.specs.declared.message.LinkMessage.TheVariants as messages
use Rattle.cell_orders.specs.declared.heard.Heard.{Heard}
use Rattle.cell_orders.specs.declared.row.CellOrder.{CellOrder}
use Rattle.cell_orders.specs.declared.row.CellOrder.TheVariants as rows
use Rattle.cell_orders.specs.declared.row.OrderRow.{OrderRow}
use Rattle.cell_orders.specs.Rows.{rows_of}

abbrev heard : ℕ → ℕ → LinkMessage → Heard
heard slot packet message = record { slot = slot; time = 0; packet = packet; connection = 7; message = message }

abbrev row : ℕ → ℕ → CellOrder → OrderRow
row at packet order = record { at = at; time = 0; packet = packet; order = order }

-- RESTART with loss; an order to all cells, answered two slots later; and another that has no answer in between
abbrev link : List Heard
link =
    heard 0 8 (messages.Restart (cells.All ∷ []) 0 1)
    ∷ heard 4 30 (messages.Write 4370 0x10 None (cells.All ∷ []) 0 None 4 100 (record { 0 = 1 }) [])
    ∷ heard 5 31 (messages.Kill 4383 0x20 (cells.LacCi 1 1 ∷ []) None)
    ∷ heard 6 32 (messages.Done 4370 (orders.Write 0x10 None) [] [] (Some 0))
    ∷ []

rows_of_link : rows_of (record { lac = 1; ci = 1 }) link
    ≡ row 0 8 rows.Clear
    ∷ row 5 31 (rows.Kill 4383 0x20 None)
    ∷ row 6 32 (rows.Write 4370 0x10 None 2 4 100 (record { 0 = 1 }) [] (Some (record { cause = None; done = None })))
    ∷ []
rows_of_link = refl

-- RESET that is answered clears when the answer comes; one that the answer refuses doesn't
resets : rows_of (record { lac = 1; ci = 1 })
    (heard 1 10 (messages.Reset (cells.All ∷ [])) ∷ heard 2 11 (messages.ResetDone (cells.Lac 1 ∷ [])) ∷ [])
    ≡ row 2 11 rows.Clear ∷ []
resets = refl

refused : rows_of (record { lac = 1; ci = 1 })
    (heard 1 10 (messages.Reset (cells.All ∷ []))
    ∷ heard 2 11 (messages.ResetFailed (record { cell = cells.Ci 1; cause = 6 } ∷ []) []) ∷ [])
    ≡ []
refused = refl
