use Rattle.std.proofs.lemmas.Result.{IfErr-weaker, on_ok_weaker}
use Rattle.gsmtap.specs.PieceSteps.{packet_of}
use Rattle.link_streams.proofs.Following.{has_fault, has_next}
use Rattle.link_streams.proofs.streams.LinkStreamsTakesPackets.take.Goals as goal

pub returns-clause-taken : goal.returns-clause-taken
returns-clause-taken c =
    on_ok_weaker c.follow.result
    (λ follows given packets known after.
    has_next packets (packet_of c.args.packet.now) known c.args.before c.args.self.now c.follow.new.self after.has
    after.many after.comes follows)
    c.follow.ensures.followed

pub returns-clause-fault : goal.returns-clause-fault
returns-clause-fault c =
    IfErr-weaker c.follow.result _ _
    (λ fault wrong. has_fault c.args.before c.args.self.now (packet_of c.args.packet.now) fault wrong)
    c.follow.ensures.fault
