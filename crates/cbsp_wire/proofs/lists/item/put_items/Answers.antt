use Rattle.std.proofs.Common.{length, ap, arith, length-append}
use Rattle.std.proofs.lemmas.List.Folds.{length-flat_map-take}
use Rattle.cbsp_wire.proofs.lists.item.put_items.Goals as goal

pub put_in-requires : goal.put_in-requires
put_in-requires g c =
    let next = c.item-item.result in
    let fits =
    length-flat_map-take g.T.ListItem.octets_of c.args.items.now c.loop-item.item-index next c.loop-item-test.true in
    let is_next = ap (λ x. length (g.T.ListItem.octets_of x)) c.item-item.is in
    omega (arith, fits, is_next, simp length-append at (ap length c.loop-item.invariant.so_far))
