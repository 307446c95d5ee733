use Rattle.std.proofs.Common.{◌+◌, ◌∙◌, List, Option, ap, arith, subst, sym}
use Rattle.std.proofs.lemmas.Result.{on_ok_weaker}
use Rattle.gsmtap.specs.Heard.{for_hearing}
use Rattle.gsmtap.specs.PieceSteps.{packet_of}
use Rattle.gsmtap.specs.SendersSteps.{AreSendersAfter}
use Rattle.gsmtap.specs.declared.tap.Station.{Station}
use Rattle.gsmtap.proofs.PacketSteps.{taken_next}
use Rattle.gsmtap.proofs.SenderRows.{one_state}
use Rattle.gsmtap.proofs.sender_table.SenderTableTakesPackets.take.Goals as goal

pub returns-clause-taken : goal.returns-clause-taken
returns-clause-taken c =
    on_ok_weaker c.hear_packet.result
    (λ hears given packets known after.
    let table : AreSendersAfter packets known c.args.self.now.list.items =
    subst (λ (it : List (Option Station)). AreSendersAfter packets it c.args.self.now.list.items)
    (one_state after.has.0 known (sym after.has.1 ∙ after.comes)) after.has.2 in
    let next = hears packets known (ap (λ n. n + 1) after.many) (omega (arith, c.requires.few)) after.comes table in (
      next.0,
      next.1,
      (
        next.0,
        taken_next for_hearing packets (packet_of c.args.packet.now) known next.0 after.comes next.1,
        next.2,
      ),
    ))
    c.hear_packet.ensures.heard
