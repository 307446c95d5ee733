use Rattle.std.proofs.Common.{◌+◌, ◌++◌, ◌∙◌, drop, ap, get_or, refl, sym, arith, None}
use Rattle.std.proofs.Math.ListN as lists
use Rattle.std.proofs.lemmas.List.{length-map}
use Rattle.gsmtap.specs.TapeSteps.{known_of}
use Rattle.gsmtap.specs.TapesSteps.{known_of_each, tapes_of_known}
use Rattle.gsmtap.specs.declared.tape.ChannelType.TheVariants.{Cbch}
use Rattle.gsmtap.specs.declared.tape.Wanted.{Wanted}
use Rattle.gsmtap.proofs.TapesLaws.{long_at_place, long_many, written_more}
use Rattle.gsmtap.proofs.tapes.tapes_of.Goals as goal

-- the tape that stands for none in a place past the end
abbrev nobody : Wanted
nobody = record {
  cell = record { lac = 0; ci = 0 };
  slots = None;
  first_slot = 0;
  from = record { address = None; arfcn = None; channel = Cbch };
}

pub bounds-airs-place : goal.bounds-airs-place
bounds-airs-place c =
    omega (
      arith,
      length-map c.args.airs.now known_of,
      long_many c.args.wanted.now (known_of_each c.args.airs.now) c.requires,
      c.loop-place-test.true,
    )

pub tape_of-requires : goal.tape_of-requires
tape_of-requires c =
    (long_at_place c.args.wanted.now (known_of_each c.args.airs.now) c.loop-place.place
    (get_or c.args.wanted.now c.loop-place.place nobody) nobody (known_of c.index-airs-place.result)
    (known_of c.index-airs-place.result) c.loop-place-test.true
    (long_many c.args.wanted.now (known_of_each c.args.airs.now) c.requires) refl
    (ap known_of c.index-airs-place.is
    ∙ sym (lists.get_or-map known_of c.args.airs.now c.loop-place.place c.index-airs-place.result))
    c.loop-place.invariant.long).0

pub loop-place-preserved : goal.loop-place-preserved
loop-place-preserved c =
    let many = long_many c.args.wanted.now (known_of_each c.args.airs.now) c.requires in
    let here = ap known_of c.index-airs-place.is
    ∙ sym (lists.get_or-map known_of c.args.airs.now c.loop-place.place c.index-airs-place.result) in
    record {
      written =
          ap (λ octets. octets ++ tapes_of_known (drop (c.loop-place.place + 1) c.args.wanted.now)
          (drop (c.loop-place.place + 1) (known_of_each c.args.airs.now))) c.in_ok-extend_from_slice.ensures.items
          ∙ written_more c.args.wanted.now (known_of_each c.args.airs.now) c.loop-place.place
          (get_or c.args.wanted.now c.loop-place.place nobody) nobody (known_of c.index-airs-place.result)
          (known_of c.index-airs-place.result) c.loop-place.output.items c.deref.result.now
          (tapes_of_known c.args.wanted.now (known_of_each c.args.airs.now)) c.loop-place-test.true many refl here
          c.loop-place.invariant.written (c.deref.ensures.value ∙ c.in_ok-tape_of.ensures);
      long =
          (long_at_place c.args.wanted.now (known_of_each c.args.airs.now) c.loop-place.place
          (get_or c.args.wanted.now c.loop-place.place nobody) nobody (known_of c.index-airs-place.result)
          (known_of c.index-airs-place.result) c.loop-place-test.true many refl here c.loop-place.invariant.long).1;
    }
