use Rattle.std.proofs.Common.{◌≡◌, ◌<◌, [], length, arith, rules, subst, sym}
use Rattle.gsmtap.specs.PieceSteps.{section_of}
use Rattle.gsmtap.specs.Taken.{IsFileFault}
use Rattle.gsmtap.specs.declared.fault.AirFault.{AirFault}
use Rattle.gsmtap.proofs.Walks.{at_fault, at_pieces, cut_left, cut_of, fault_now, few_left, none_left}
use Rattle.gsmtap.proofs.walk.Walk.end.Goals as goal

pub returns-then-is_empty-clause-taken : goal.returns-then-is_empty-clause-taken
returns-then-is_empty-clause-taken g c given input is =
    let taking = g.T.TakesPackets.taking in
    let HasTaken = g.T.TakesPackets.HasTaken in
    let walk = c.args.self in
    let empty : walk.left.items ≡ [] = search rules in
    none_left (taking given) (HasTaken given) input walk.front walk.left.items
    (at_pieces taking HasTaken given input walk is c.in-Pieces.is).0 empty

pub overflow_add-self : goal.overflow_add-self
overflow_add-self g c =
    let some = c.requires in
    let taking = g.T.TakesPackets.taking in
    let HasTaken = g.T.TakesPackets.HasTaken in
    let walk = c.args.self in
    let at = at_pieces taking HasTaken some.given some.input walk some.is c.in-Pieces.is in
    omega (
      arith,
      some.few,
      few_left (taking some.given) (HasTaken some.given) some.input walk.front walk.left.items at.0,
    )

pub returns-else-is_empty-clause-fault : goal.returns-else-is_empty-clause-fault
returns-else-is_empty-clause-fault g c given input is =
    let taking = g.T.TakesPackets.taking in
    let HasTaken = g.T.TakesPackets.HasTaken in
    let walk = c.args.self in
    let some : 0 < length walk.left.items = search rules in
    let at = at_pieces taking HasTaken given input walk is c.in-Pieces.is in
    subst (λ (fault : AirFault). IsFileFault (taking given) input fault.packet fault.kind)
    (sym c.fault_at-else-is_empty.ensures)
    (cut_left (taking given) (HasTaken given) input walk.front walk.left.items at.0
    (cut_of (section_of walk.front.reader) walk.left.items at.1 some))

pub returns-in-Fault-clause-fault : goal.returns-in-Fault-clause-fault
returns-in-Fault-clause-fault g c given input is =
    fault_now (g.T.TakesPackets.taking given) input c.in-Fault.fault
    (at_fault g.T.TakesPackets.taking g.T.TakesPackets.HasTaken given input c.args.self c.in-Fault.fault is
    c.in-Fault.is)
