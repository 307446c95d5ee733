use Rattle.std.proofs.Common.{◌<◌, ◌≤◌, drop, length, length-drop, arith, refl, subst, sym}
use Rattle.std.proofs.Math.ListN.{drop_of_length-le}
use Rattle.gsmtap.specs.PieceSteps.{section_of}
use Rattle.gsmtap.specs.Taken.{IsFileFault}
use Rattle.gsmtap.specs.declared.fault.AirFault.{AirFault}
use Rattle.gsmtap.proofs.Walks.{cut_left, cut_of, fault_now, few_left, first_left, none_left}
use Rattle.gsmtap.proofs.frontier.take_all.Goals as goal

pub take_pieces-requires : goal.take_pieces-requires
take_pieces-requires g c =
    let given = c.requires.0 in
    record {
      given = given;
      input = c.requires.1;
      are =
          first_left (g.T.TakesPackets.taking given) (g.T.TakesPackets.HasTaken given) c.requires.1 _
          c.args.octets.now c.requires.2 c.requires.3 refl;
      few = c.requires.4;
    }

pub overflow_add-front : goal.overflow_add-front
overflow_add-front g c =
    let given = c.requires.0 in
    let by = g.T.TakesPackets.taking given in
    let Has = g.T.TakesPackets.HasTaken given in
    let are = c.in-Ok.ensures.taken given c.requires.1
    (first_left by Has c.requires.1 _ c.args.octets.now c.requires.2 c.requires.3 refl) in
    omega (
      arith,
      c.requires.4,
      few_left by Has c.requires.1 c.take_pieces.new.self (drop c.in-Ok.taken c.args.octets.now) are,
    )

pub returns-then-taken-octets-clause-fault : goal.returns-then-taken-octets-clause-fault
returns-then-taken-octets-clause-fault g c given input opens none =
    let by = g.T.TakesPackets.taking given in
    let Has = g.T.TakesPackets.HasTaken given in
    let front = c.take_pieces.new.self in
    let octets = c.args.octets.now in
    let left = drop c.in-Ok.taken octets in
    let are = c.in-Ok.ensures.taken given input (first_left by Has input _ octets opens none refl) in
    let some : 0 < length left = omega (arith, length-drop c.in-Ok.taken octets, c.if-taken-octets.true) in
    subst (λ (fault : AirFault). IsFileFault by input fault.packet fault.kind) (sym c.fault_at.ensures)
    (cut_left by Has input front left are
    (cut_of (section_of front.reader) left c.in-Ok.ensures.whole some))

pub returns-clause-taken : goal.returns-clause-taken
returns-clause-taken g c given input opens none =
    let by = g.T.TakesPackets.taking given in
    let Has = g.T.TakesPackets.HasTaken given in
    let octets = c.args.octets.now in
    let are = c.in-Ok.ensures.taken given input (first_left by Has input _ octets opens none refl) in
    let all : length octets ≤ c.in-Ok.taken = omega (arith, c.if-taken-octets.false) in
    none_left by Has input c.take_pieces.new.self (drop c.in-Ok.taken octets) are (drop_of_length-le octets all)

pub returns-in-Err-clause-fault : goal.returns-in-Err-clause-fault
returns-in-Err-clause-fault g c given input opens none =
    let by = g.T.TakesPackets.taking given in
    fault_now by input c.in-Err.fault
    (c.in-Err.ensures.fault given input
    (first_left by (g.T.TakesPackets.HasTaken given) input _ c.args.octets.now opens none refl))
