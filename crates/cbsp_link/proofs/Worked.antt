-- Worked values: messages of osmo-cbc and osmo-bsc, as they were captured.
use Rattle.std.proofs.Common.{◌≡◌, [], ◌∷◌, Some, Ok, Err, refl}
use Rattle.cbsp_link.specs.declared.fault.LinkFault.TheVariants.{CutMessage, UnknownElement, MissingElement}
use Rattle.cbsp_link.specs.declared.message.Answered.TheVariants as orders
use Rattle.cbsp_link.specs.declared.message.LinkCell.TheVariants as cells
use Rattle.cbsp_link.specs.declared.message.LinkMessage.TheVariants as messages
use Rattle.cbsp_link.specs.Element.{table, size_of, element_at}
use Rattle.cbsp_link.specs.Item.{cell_at, cells_of_body, counts_of_body}
use Rattle.cbsp_link.specs.Meaning.{front_of, link_message, message_of, kill_answered, done, restart}
use Rattle.cbsp_link.specs.Run.{run_of, run_within}
use Rattle.cbsp_link.specs.Value.{needed_cells}

-- osmo-bsc begins with this: all cells broadcast again, and their messages are lost
restart_of_osmo_bsc : link_message (0x13 ∷ 0 ∷ 0 ∷ 8 ∷ 0x04 ∷ 0 ∷ 1 ∷ 6 ∷ 0x16 ∷ 0 ∷ 0x0D ∷ 1 ∷ [])
    ≡ Ok (messages.Restart (cells.All ∷ []) 0 1, [])
unfolding link_message front_of run_of run_within element_at size_of table message_of restart needed_cells cells_of_body
restart_of_osmo_bsc = refl

-- message 4383 was stopped in cell 1-1 of network 001-01, after three broadcasts
kill_complete_of_osmo_bsc : link_message
    (0x05 ∷ 0 ∷ 0 ∷ 22 ∷ 0x0E ∷ 0x11 ∷ 0x1F ∷ 0x02 ∷ 0 ∷ 0x20 ∷ 0x08 ∷ 0 ∷ 11 ∷ 0 ∷ 0x00 ∷ 0xF1 ∷ 0x10 ∷ 0 ∷ 1 ∷ 0
    ∷ 1 ∷ 0 ∷ 3 ∷ 0 ∷ 0x12 ∷ 0 ∷ []) ≡ Ok (
      messages.Done 4383 (orders.Kill 0x20) (record {
        cell = cells.Global (record { 0 = 0x00; 1 = 0xF1; 2 = 0x10 }) 1 1;
        number = 3;
        info = 0;
      } ∷ []) [] (Some 0),
      [],
    )
unfolding link_message front_of run_of run_within element_at size_of table message_of kill_answered done cell_at
    counts_of_body
kill_complete_of_osmo_bsc = refl

-- a header that is cut, an element of no known length, and a KILL COMPLETE without a serial number
cut : link_message (0x05 ∷ 0 ∷ 0 ∷ []) ≡ Err CutMessage
unfolding link_message front_of
cut = refl

unknown : link_message (0x05 ∷ 0 ∷ 0 ∷ 1 ∷ 0x19 ∷ []) ≡ Err (UnknownElement 0x19)
unfolding link_message front_of run_of run_within element_at size_of table message_of
unknown = refl

without_serial : link_message (0x05 ∷ 0 ∷ 0 ∷ 3 ∷ 0x0E ∷ 0 ∷ 1 ∷ []) ≡ Err (MissingElement 2)
unfolding link_message front_of run_of run_within element_at size_of table message_of kill_answered done
without_serial = refl
