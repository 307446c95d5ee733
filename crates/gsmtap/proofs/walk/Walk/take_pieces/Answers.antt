use Rattle.std.proofs.Common.{subst, sym}
use Rattle.gsmtap.specs.Walk.{AreLeft}
use Rattle.gsmtap.proofs.walk.Walk.take_pieces.Goals as goal

pub returns-in-Err-clause-fault : goal.returns-in-Err-clause-fault
returns-in-Err-clause-fault g c given input is =
    c.in-Err.ensures.fault given input
    (subst (λ octets. AreLeft (g.T.TakesPackets.taking given) (g.T.TakesPackets.HasTaken given) input
    c.args.self.now.front octets) (sym c.deref.ensures.value) is.left)
