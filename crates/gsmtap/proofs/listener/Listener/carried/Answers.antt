use Rattle.std.proofs.Common.{◌≡◌, ◌+◌, ◌∙◌, arith, subst}
use Rattle.gsmtap.specs.Listening.{IsKept, settled}
use Rattle.gsmtap.proofs.Listeners.{carried_is}
use Rattle.gsmtap.proofs.listener.Listener.carried.Goals as goal

pub returns : goal.returns
returns c known is =
    let two : settled known.track + 1 + 1 ≡ settled known.track + 2 = omega arith in
    carried_is known c.args.self c.settle_slot-2.new.self is
    (subst (λ n. IsKept known.blocks n c.settle_slot-2.new.self) two
    (c.in_ok-settle_slot-2.ensures.kept known.blocks (settled known.track + 1)
    (c.in_ok-settle_slot.ensures.kept known.blocks (settled known.track) is.kept)))
    (c.in_ok-settle_slot-2.ensures.end ∙ c.in_ok-settle_slot.ensures.end)
