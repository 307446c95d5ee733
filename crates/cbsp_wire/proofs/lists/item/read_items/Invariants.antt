use Rattle.std.proofs.Common.{◌≡◌, ◌++◌, length}
use Rattle.cbsp_wire.proofs.lists.item.read_items.Given as goal

abbrev pub invariant-items : goal.invariant-items
invariant-items g l = l.items.items ++ g.T.ListItem.items_in l.left ≡ g.T.ListItem.items_in l.octets

abbrev pub decreases-items : goal.decreases-items
decreases-items g l = length l.left
