use Rattle.std.proofs.Common.{◌≡◌, ◌<◌, ◌+◌, ◌^◌, ◌∙◌, length, set, drop, ap, refl, sym, subst, arith, List}
use Rattle.std.proofs.Math.ListN as lists
use Rattle.std.proofs.lemmas.List.{drop-set-lt, length-map, length-set, map-set}
use Rattle.gsmtap.specs.TapeSteps.{known_of}
use Rattle.gsmtap.specs.TapesSteps.{AreNear, known_of_each}
use Rattle.gsmtap.specs.Track.{Known}
use Rattle.gsmtap.proofs.TapesLaws.{near_at, offered_fault, offered_more}
use Rattle.gsmtap.proofs.tapes.offer.Goals as goal

pub take_packet-requires : goal.take_packet-requires
take_packet-requires c =
    let inv = c.loop-place.invariant in
    let many : length (known_of_each c.loop-place.airs.items) ≡ length c.loop-place.airs.items =
    length-map c.loop-place.airs.items known_of in
    let inside : c.loop-place.place < length (known_of_each c.loop-place.airs.items) =
    omega (arith, many, inv.many, c.loop-place-test.true) in
    let near = near_at (known_of_each c.loop-place.airs.items) c.loop-place.place (2 ^ 59)
    (known_of c.index_mut.result.now) (known_of c.index_mut.result.now) inside
    (ap known_of c.index_mut.ensures.value
    ∙ sym (lists.get_or-map known_of c.loop-place.airs.items c.loop-place.place c.index_mut.result.now)) inv.near in
    omega (arith, near.0)

pub returns-in-Err-clause-fault : goal.returns-in-Err-clause-fault
returns-in-Err-clause-fault c =
    let inv = c.loop-place.invariant in
    offered_fault c.args.wanted.now (known_of_each c.args.airs.now.items) (known_of_each c.loop-place.airs.items) _
    c.loop-place.place _ _ (known_of c.index_mut.result.now) (known_of c.index_mut.result.now) c.in-Err.kind
    inv.offered c.loop-place-test.true (length-map c.loop-place.airs.items known_of ∙ inv.many) refl
    (ap known_of c.index_mut.ensures.value
    ∙ sym (lists.get_or-map known_of c.loop-place.airs.items c.loop-place.place c.index_mut.result.now))
    c.in-Err.ensures.fault

pub loop-place-preserved : goal.loop-place-preserved
loop-place-preserved c =
    let inv = c.loop-place.invariant in
    let old = known_of_each c.loop-place.airs.items in
    let many : length old ≡ length c.loop-place.airs.items = length-map c.loop-place.airs.items known_of in
    let inside : c.loop-place.place < length old = omega (arith, many, inv.many, c.loop-place-test.true) in
    let here = ap known_of c.index_mut.ensures.value
    ∙ sym (lists.get_or-map known_of c.loop-place.airs.items c.loop-place.place c.index_mut.result.now) in
    let next : known_of_each (set c.loop-place.airs.items c.loop-place.place c.take_packet.new.air)
    ≡ set old c.loop-place.place (known_of c.take_packet.new.air) =
    map-set known_of c.loop-place.airs.items c.loop-place.place c.take_packet.new.air in
    let near = near_at old c.loop-place.place (2 ^ 59) (known_of c.index_mut.result.now)
    (known_of c.index_mut.result.now) inside here inv.near in
    record {
      offered =
          offered_more c.args.wanted.now (known_of_each c.args.airs.now.items) old _ _
          c.loop-place.place _ _ (known_of c.index_mut.result.now) (known_of c.index_mut.result.now)
          (known_of c.take_packet.new.air) inv.offered c.loop-place-test.true (many ∙ inv.many) refl here
          c.in_default.ensures.placed next;
      many = length-set c.loop-place.airs.items c.loop-place.place c.take_packet.new.air ∙ inv.many;
      near =
          subst (λ (known : List Known). AreNear (2 ^ 59) known)
          (sym (ap (λ (known : List Known). drop (c.loop-place.place + 1) known) next
          ∙ drop-set-lt (c.loop-place.place + 1) old c.loop-place.place (known_of c.take_packet.new.air)
          (omega arith)))
          near.1;
    }
