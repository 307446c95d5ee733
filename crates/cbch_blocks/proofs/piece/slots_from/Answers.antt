use Rattle.std.proofs.Common.{◌∙◌, ◌-◌, ap, drop, length, min, take}
use Rattle.cbch_blocks.proofs.Pieces.{slots_are}
use Rattle.cbch_blocks.proofs.piece.slots_from.Goals as goal

pub returns : goal.returns
returns c =
    let air = c.args.air.now in
    let from = c.min-from.result in
    slots_are c.args.first from c.min-count.result air
    (c.min-from.ensures ∙ ap (λ n. min n (length air)) c.from.ensures)
    (c.min-count.ensures ∙ ap (λ n. min n (length (take (length air - from) (drop from air)))) c.from-2.ensures)
