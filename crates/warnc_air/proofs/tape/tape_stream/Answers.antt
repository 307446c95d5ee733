use Rattle.std.proofs.Common.{◌∷◌, [], List, ℕ, arith, rules, subst, sym}
use Rattle.device_ends.proofs.EndLaws.{ReadsUpTo-take}
use Rattle.gsmtap.specs.TapeOfCapture.{IsAirFault, IsTapeOfCapture}
use Rattle.gsmtap.specs.TapesTaken.{IsWalkFor}
use Rattle.gsmtap.specs.declared.fault.AirFault.{AirFault}
use Rattle.gsmtap.proofs.TapesFaults.{alone_fault, alone_tape}
use Rattle.warnc_air.specs.TapeOutput.{max_capture}
use Rattle.warnc_air.proofs.WholeInput.{fault_of_read, front_out, output_out, too_long}
use Rattle.warnc_air.proofs.tape.tape_stream.Goals as goal

pub returns-then-count-gt-MAX_INPUT-clause-err : goal.returns-then-count-gt-MAX_INPUT-clause-err
returns-then-count-gt-MAX_INPUT-clause-err g c =
    let walks = c.in-Ok-walk_over.ensures.walks in
    too_long (IsAirFault c.args.wanted.now) (IsTapeOfCapture c.args.wanted.now) _ walks.octets _ _
    (ReadsUpTo-take _ _ walks.octets max_capture walks.reads)
    (omega (arith, walks.many, c.if-count-gt-MAX_INPUT.true)) (search rules)

pub returns-in-Err-clause-err : goal.returns-in-Err-clause-err
returns-in-Err-clause-err g c =
    let walks = c.in-Ok-walk_over.ensures.walks in
    let wanted = c.args.wanted.now in
    let is : IsWalkFor (wanted ∷ []) walks.octets c.walk_over.new.walk =
    walks.taken (wanted ∷ []) [] c.in-Ok.ensures in
    let told : IsAirFault wanted walks.octets c.alone.result =
    subst (λ (fault : AirFault). IsAirFault wanted walks.octets fault) (sym c.alone.ensures)
    (alone_fault wanted walks.octets c.in-Err.fault (c.in-Err.ensures.fault (wanted ∷ []) walks.octets is)) in
    rw c.fault_of_air.ensures
    (fault_of_read (IsAirFault wanted) (IsTapeOfCapture wanted) _ walks.octets _ _ c.alone.result
    (ReadsUpTo-take _ _ walks.octets max_capture walks.reads)
    (omega (arith, walks.many, c.if-count-gt-MAX_INPUT.false)) told (search rules))

pub returns-in-Ok-write_all-clause-ok : goal.returns-in-Ok-write_all-clause-ok
returns-in-Ok-write_all-clause-ok g c =
    let walks = c.in-Ok-walk_over.ensures.walks in
    let wanted = c.args.wanted.now in
    let is : IsWalkFor (wanted ∷ []) walks.octets c.walk_over.new.walk =
    walks.taken (wanted ∷ []) [] c.in-Ok.ensures in
    let made : IsTapeOfCapture wanted walks.octets c.deref.result.now =
    subst (λ (octets : List ℕ). IsTapeOfCapture wanted walks.octets octets) (sym c.deref.ensures.value)
    (alone_tape wanted walks.octets c.in-Ok-tapes_of_walk.output.items
    (c.in-Ok-tapes_of_walk.ensures.tapes (wanted ∷ []) walks.octets is)) in
    output_out (IsTapeOfCapture wanted) _ walks.octets c.deref.result.now _ _
    (ReadsUpTo-take _ _ walks.octets max_capture walks.reads)
    (omega (arith, walks.many, c.if-count-gt-MAX_INPUT.false)) made c.in-Ok-write_all.ensures.ok

pub returns-clause-err : goal.returns-clause-err
returns-clause-err g c =
    let walks = c.in-Ok-walk_over.ensures.walks in
    let wanted = c.args.wanted.now in
    let is : IsWalkFor (wanted ∷ []) walks.octets c.walk_over.new.walk =
    walks.taken (wanted ∷ []) [] c.in-Ok.ensures in
    let made : IsTapeOfCapture wanted walks.octets c.deref.result.now =
    subst (λ (octets : List ℕ). IsTapeOfCapture wanted walks.octets octets) (sym c.deref.ensures.value)
    (alone_tape wanted walks.octets c.in-Ok-tapes_of_walk.output.items
    (c.in-Ok-tapes_of_walk.ensures.tapes (wanted ∷ []) walks.octets is)) in
    front_out (IsAirFault wanted) (IsTapeOfCapture wanted) _ walks.octets c.deref.result.now _ _
    (ReadsUpTo-take _ _ walks.octets max_capture walks.reads)
    (omega (arith, walks.many, c.if-count-gt-MAX_INPUT.false)) made c.in-Err-write_all.ensures.err
