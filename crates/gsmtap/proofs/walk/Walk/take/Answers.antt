use Rattle.std.proofs.Common.{◌++◌, ◌∙◌, length-append, arith, ap, subst, sym}
use Rattle.std.proofs.lemmas.Result.{IfErr-weaker, on_ok_weaker}
use Rattle.gsmtap.specs.Walk.{AreLeft, StandsAt}
use Rattle.gsmtap.specs.declared.walk.WalkStage.{WalkStage}
use Rattle.gsmtap.proofs.Walks.{at_begin, at_fault, at_pieces, fault_longer, left_longer}
use Rattle.gsmtap.proofs.walk.Walk.take.Goals as goal

pub take_pieces-requires : goal.take_pieces-requires
take_pieces-requires g c =
    let some = c.requires in
    let taking = g.T.TakesPackets.taking in
    let HasTaken = g.T.TakesPackets.HasTaken in
    let walk = c.args.self.now in
    record {
      given = some.given;
      input = some.input ++ c.args.octets.now;
      is = record {
        stage_is = c.in-Pieces.is;
        left =
            subst
            (λ octets. AreLeft (taking some.given) (HasTaken some.given) (some.input ++ c.args.octets.now) walk.front
            octets)
            (sym c.in_ok-extend_from_slice-in-Pieces.ensures.items)
            (left_longer (taking some.given) (HasTaken some.given) some.input walk.front walk.left.items
            c.args.octets.now
            (at_pieces taking HasTaken some.given some.input walk some.is c.in-Pieces.is).0);
      };
      few = omega (arith, some.few, length-append some.input c.args.octets.now);
    }

pub returns-in_ok-extend_from_slice-in-Begin-clause-fault :
    goal.returns-in_ok-extend_from_slice-in-Begin-clause-fault
returns-in_ok-extend_from_slice-in-Begin-clause-fault g c =
    let walk = c.args.self.now in
    IfErr-weaker c.open.result _ _
    (λ fault has given input is.
    let unopened = at_begin g.T.TakesPackets.taking g.T.TakesPackets.HasTaken given input walk is
    c.in-Begin.is in
    has given (input ++ c.args.octets.now) (record {
      stage_is = c.in-Begin.is;
      unopened = record {
        left_are =
            c.in_ok-extend_from_slice-in-Begin.ensures.items
            ∙ ap (λ front. front ++ c.args.octets.now) unopened.left_are;
        has = unopened.has;
        number = unopened.number;
      };
    }))
    c.open.ensures.fault

pub returns-in_ok-extend_from_slice-in-Pieces-clause-walked :
    goal.returns-in_ok-extend_from_slice-in-Pieces-clause-walked
returns-in_ok-extend_from_slice-in-Pieces-clause-walked g c =
    let walk = c.args.self.now in
    on_ok_weaker c.take_pieces.result
    (λ walks given input is.
    let taking = g.T.TakesPackets.taking in
    let HasTaken = g.T.TakesPackets.HasTaken in
    walks given (input ++ c.args.octets.now) (record {
      stage_is = c.in-Pieces.is;
      left =
          subst (λ octets. AreLeft (taking given) (HasTaken given) (input ++ c.args.octets.now) walk.front octets)
          (sym c.in_ok-extend_from_slice-in-Pieces.ensures.items)
          (left_longer (taking given) (HasTaken given) input walk.front walk.left.items c.args.octets.now
          (at_pieces taking HasTaken given input walk is c.in-Pieces.is).0);
    }))
    c.take_pieces.ensures.walked

pub returns-in_ok-extend_from_slice-in-Pieces-clause-fault :
    goal.returns-in_ok-extend_from_slice-in-Pieces-clause-fault
returns-in_ok-extend_from_slice-in-Pieces-clause-fault g c =
    let walk = c.args.self.now in
    IfErr-weaker c.take_pieces.result _ _
    (λ fault has given input is.
    let taking = g.T.TakesPackets.taking in
    let HasTaken = g.T.TakesPackets.HasTaken in
    has given (input ++ c.args.octets.now) (record {
      stage_is = c.in-Pieces.is;
      left =
          subst (λ octets. AreLeft (taking given) (HasTaken given) (input ++ c.args.octets.now) walk.front octets)
          (sym c.in_ok-extend_from_slice-in-Pieces.ensures.items)
          (left_longer (taking given) (HasTaken given) input walk.front walk.left.items c.args.octets.now
          (at_pieces taking HasTaken given input walk is c.in-Pieces.is).0);
    }))
    c.take_pieces.ensures.fault

pub returns-in-Fault-clause-walked : goal.returns-in-Fault-clause-walked
returns-in-Fault-clause-walked g c given input is =
    let taking = g.T.TakesPackets.taking in
    let HasTaken = g.T.TakesPackets.HasTaken in
    let walk = c.args.self.now in
    record {
      stands =
          subst
          (λ (it : WalkStage). StandsAt it (taking given) (HasTaken given) (input ++ c.args.octets.now) walk.front
          walk.left.items)
          (sym c.in-Fault.is)
          (fault_longer (taking given) input _ c.args.octets.now
          (at_fault taking HasTaken given input walk _ is c.in-Fault.is));
    }
