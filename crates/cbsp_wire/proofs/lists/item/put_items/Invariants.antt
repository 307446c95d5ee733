use Rattle.std.proofs.Common.{◌≡◌, ◌++◌, take, vec_capacity}
use Rattle.std.specs.List.{flat_map}
use Rattle.cbsp_wire.proofs.lists.item.put_items.Given as goal

abbrev pub invariant-loop-item : goal.invariant-loop-item
invariant-loop-item g l = record {
  so_far : l.out.items ≡ l.fn.out.items ++ flat_map g.T.ListItem.octets_of (take l.item-index l.items);
  room : vec_capacity l.out ≡ vec_capacity l.fn.out;
}
