use Rattle.std.proofs.Common.{◌+◌, ◌∙◌, ◌++◌, arith, ap, subst, sym, append_assoc}
use Rattle.gsmtap.specs.PieceSteps.{BeginsWithPiece, section_of}
use Rattle.gsmtap.specs.Walk.{AreLeft, IsLastingFault}
use Rattle.gsmtap.specs.declared.fault.AirFault.{AirFault}
use Rattle.gsmtap.proofs.PacketSteps.{count_few}
use Rattle.gsmtap.proofs.Walks.{back_of, few_left, one_left, wrong_begin, wrong_left}
use Rattle.gsmtap.proofs.frontier.Frontier.take_pieces.Goals as goal

pub overflow_add-next : goal.overflow_add-next
overflow_add-next g c =
    let some = c.requires in
    let are = c.pieces.invariant.taken some.given some.input some.are in
    omega (
      arith,
      some.few,
      few_left (g.T.TakesPackets.taking some.given) (g.T.TakesPackets.HasTaken some.given) some.input c.pieces.self
          c.pieces.left.now are,
    )

pub returns-in-Ok-None-clause-taken : goal.returns-in-Ok-None-clause-taken
returns-in-Ok-None-clause-taken g c given input are =
    subst (λ left. AreLeft (g.T.TakesPackets.taking given) (g.T.TakesPackets.HasTaken given) input c.pieces.self left)
    (sym (back_of c.args.octets.now c.pieces.invariant.front.0 c.pieces.left.now c.pieces.invariant.front.1))
    (c.pieces.invariant.taken given input are)

pub returns-in-Err : goal.returns-in-Err
returns-in-Err g c = record {
  within = tt;
  taken = tt;
  whole = tt;
  fault = λ given input are.
      subst (λ (fault : AirFault). IsLastingFault (g.T.TakesPackets.taking given) input fault) (sym c.fault_at.ensures)
      (wrong_begin (g.T.TakesPackets.taking given) (g.T.TakesPackets.HasTaken given) input c.pieces.self
      c.pieces.left.now c.in-Err.kind (c.pieces.invariant.taken given input are) c.in-Err.ensures);
}

pub take_found-requires : goal.take_found-requires
take_found-requires g c =
    let some = c.requires in
    let are = c.pieces.invariant.taken some.given some.input some.are in
    record {
      given = some.given;
      packets = are.packets;
      known = are.known;
      is = are.is;
      few = omega (
        arith,
        some.few,
        few_left (g.T.TakesPackets.taking some.given) (g.T.TakesPackets.HasTaken some.given) some.input c.pieces.self
            c.pieces.left.now are,
      );
    }

pub overflow_add-self : goal.overflow_add-self
overflow_add-self g c =
    let some = c.requires in
    let are = c.pieces.invariant.taken some.given some.input some.are in
    omega (
      arith,
      some.few,
      c.in-Ok.ensures.many,
      count_few c.in_ok-found.found,
      few_left (g.T.TakesPackets.taking some.given) (g.T.TakesPackets.HasTaken some.given) some.input c.pieces.self
          c.pieces.left.now are,
    )

pub returns-in-Err-take_found-clause-fault : goal.returns-in-Err-take_found-clause-fault
returns-in-Err-take_found-clause-fault g c given input are =
    let begins : BeginsWithPiece (section_of c.pieces.self.reader) c.pieces.left.now c.in-Ok-Some.split.0.now
    c.in-Ok-Some.split.1.now = rw c.in-Ok-Some.field-0-is at c.in-Ok-Some.ensures in
    wrong_left g.T.TakesPackets.taking g.T.TakesPackets.HasTaken given input c.pieces.self c.pieces.left.now
    c.in-Ok-Some.split.0.now c.in-Ok-Some.split.1.now (section_of c.enter.new.self) c.in_ok-found.found
    c.in-Err-take_found.fault (c.pieces.invariant.taken given input are) begins c.in_ok-found.ensures
    c.in-Err-take_found.ensures.fault

pub pieces-preserved : goal.pieces-preserved
pieces-preserved g c =
    let begins : BeginsWithPiece (section_of c.pieces.self.reader) c.pieces.left.now c.in-Ok-Some.split.0.now
    c.in-Ok-Some.split.1.now = rw c.in-Ok-Some.field-0-is at c.in-Ok-Some.ensures in
    record {
      taken = λ given input are.
          one_left g.T.TakesPackets.taking g.T.TakesPackets.HasTaken given input c.pieces.self _ c.pieces.left.now
          c.in-Ok-Some.split.0.now c.in-Ok-Some.split.1.now c.in_ok-found.found
          (c.pieces.invariant.taken given input are) begins c.in_ok-found.ensures c.in-Ok.ensures.taken
          (ap (λ n. c.pieces.self.packets + n) c.in-Ok.ensures.many);
      front = (
        c.pieces.invariant.front.0 ++ c.in-Ok-Some.split.0.now,
        c.pieces.invariant.front.1 ∙ ap (λ left. c.pieces.invariant.front.0 ++ left) begins.split
            ∙ sym (append_assoc c.pieces.invariant.front.0 c.in-Ok-Some.split.0.now c.in-Ok-Some.split.1.now),
      );
    }
