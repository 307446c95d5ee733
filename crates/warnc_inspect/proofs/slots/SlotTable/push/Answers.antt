use Rattle.warnc_inspect.proofs.slots.SlotTable.push.Goals as goal

pub returns-clause-rows : goal.returns-clause-rows
returns-clause-rows c = rw (← c.cell.ensures, ← c.blocks-2.ensures) c.push_slots.ensures
