use Rattle.std.proofs.Common.{◌≡◌, ◌-◌, ◌≤◌, ◌∙◌, drop, length, ap, arith, false, refl, rules, subst, sym}
use Rattle.std.proofs.lemmas.Result.{IfErr-weaker, on_ok_weaker}
use Rattle.gsmtap.specs.File.{is_pcapng}
use Rattle.gsmtap.specs.PieceSteps.{section_of}
use Rattle.gsmtap.specs.Taken.{Opens}
use Rattle.gsmtap.specs.TapeSteps.{IsBeginFault}
use Rattle.gsmtap.specs.Walk.{IsLastingFault}
use Rattle.gsmtap.specs.declared.fault.AirFault.{AirFault}
use Rattle.gsmtap.proofs.Walks.{after_begin, begin_fault, to_take}
use Rattle.gsmtap.proofs.walk.Walk.open.Goals as goal

pub returns-in-Err-clause-fault : goal.returns-in-Err-clause-fault
returns-in-Err-clause-fault g c given input is =
    let by = g.T.TakesPackets.taking given in
    let begin : IsBeginFault input c.in-Err.kind =
    subst (λ octets. IsBeginFault octets c.in-Err.kind) (c.deref-2.ensures.value ∙ is.unopened.left_are)
    c.in-Err.ensures in
    let enough : is_pcapng c.deref.result.now ≡ false → 24 ≤ length c.deref.result.now = search rules in
    subst (λ (fault : AirFault). IsLastingFault by input fault) (sym c.fault_at.ensures)
    (begin_fault by input c.in-Err.kind begin
    (subst (λ octets. is_pcapng octets ≡ false → 24 ≤ length octets)
    (c.deref.ensures.value ∙ is.unopened.left_are) enough))

pub overflow_sub-before : goal.overflow_sub-before
overflow_sub-before g c =
    let short = after_begin c.deref-2.result.now (section_of c.in-Ok.reader) c.in-Ok.after.now c.in-Ok.ensures in
    omega (arith, short.0, ap length c.deref-2.ensures.value, c.len.ensures)

pub take_pieces-requires : goal.take_pieces-requires
take_pieces-requires g c =
    let some = c.requires in
    let walk = c.args.self.now in
    let opens : Opens walk.left.items (section_of c.in-Ok.reader) c.in-Ok.after.now =
    subst (λ octets. Opens octets (section_of c.in-Ok.reader) c.in-Ok.after.now) c.deref-2.ensures.value
    c.in-Ok.ensures in
    let left : c.drop_front.new.octets.items
    ≡ drop (length walk.left.items - length c.in-Ok.after.now) walk.left.items = search rules in
    record {
      given = some.given;
      input = some.input;
      is =
          to_take g.T.TakesPackets.taking g.T.TakesPackets.HasTaken some.given some.input walk _
          c.in-Ok.after.now some.is refl refl refl opens left;
      few = some.few;
    }

pub returns-clause-walked : goal.returns-clause-walked
returns-clause-walked g c =
    let walk = c.args.self.now in
    let opens : Opens walk.left.items (section_of c.in-Ok.reader) c.in-Ok.after.now =
    subst (λ octets. Opens octets (section_of c.in-Ok.reader) c.in-Ok.after.now) c.deref-2.ensures.value
    c.in-Ok.ensures in
    let left : c.drop_front.new.octets.items
    ≡ drop (length walk.left.items - length c.in-Ok.after.now) walk.left.items = search rules in
    on_ok_weaker c.take_pieces.result
    (λ walks given input is.
    walks given input
    (to_take g.T.TakesPackets.taking g.T.TakesPackets.HasTaken given input walk _ c.in-Ok.after.now is refl
    refl refl opens left))
    c.take_pieces.ensures.walked

pub returns-clause-fault : goal.returns-clause-fault
returns-clause-fault g c =
    let walk = c.args.self.now in
    let opens : Opens walk.left.items (section_of c.in-Ok.reader) c.in-Ok.after.now =
    subst (λ octets. Opens octets (section_of c.in-Ok.reader) c.in-Ok.after.now) c.deref-2.ensures.value
    c.in-Ok.ensures in
    let left : c.drop_front.new.octets.items
    ≡ drop (length walk.left.items - length c.in-Ok.after.now) walk.left.items = search rules in
    IfErr-weaker c.take_pieces.result _ _
    (λ fault has given input is.
    has given input
    (to_take g.T.TakesPackets.taking g.T.TakesPackets.HasTaken given input walk _ c.in-Ok.after.now is refl
    refl refl opens left))
    c.take_pieces.ensures.fault
