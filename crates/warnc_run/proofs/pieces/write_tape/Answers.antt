use Rattle.std.proofs.Common.{◌∙◌, ◌+◌, ◌*◌, ap, rules, subst, sym}
use native.Mathlib.Omega.{arith}
use Rattle.std.specs.Io.KnownBytes.{Appends}
use Rattle.warnc_run.proofs.PieceByPiece.{begins_within, stops_in_piece, under_way_begins}
use Rattle.warnc_run.proofs.PieceByPiece.{under_way_ends, under_way_goes}
use Rattle.warnc_run.proofs.pieces.write_tape.Goals as goal

pub loop-number-init : goal.loop-number-init
loop-number-init g c = (under_way_begins c.args.run.now _, c.requires.works)

pub loop-number-preserved : goal.loop-number-preserved
loop-number-preserved g c = (
  under_way_goes c.piece_laws.ensures.follow c.args.run.now (c.loop-number.number * 256)
      ((c.loop-number.number + 1) * 256) _ _ _ (omega arith) c.loop-number.invariant.0
      (subst (Appends _ _) c.become_that_of.ensures c.in-Ok.ensures.ok),
  search rules,
)

pub returns-in-Err-clause-err : goal.returns-in-Err-clause-err
returns-in-Err-clause-err g c =
    let first = c.loop-number.number * 256 in
    let out = c.in-Err.failed.written in
    let r = c.args.run.now in
    let played = c.slots.ensures.legal.played ∙ sym c.slots.ensures.clock ∙ c.slots.ensures.slots in
    let begins = begins_within c.loop-number.number c.count_pieces-number-end.result c.slots.result r.slots
    c.loop-number-test.true c.count_pieces-number-end.ensures.few c.slots.ensures.slots in
    let laws = c.piece_laws.ensures in
    let stops = stops_in_piece laws.follow laws.start laws.octets r first
    out (c.piece_start.result + out) c.become_that_of.new.self _ _ _ c.requires.sized played begins
    c.become_that_of.ensures c.in-Err.ensures.front (ap (λ start. start + out) c.piece_start.ensures)
    c.loop-number.invariant.0 c.in-Err.ensures.err in
    stops.taken

pub returns-in-Err-clause-front : goal.returns-in-Err-clause-front
returns-in-Err-clause-front g c =
    let first = c.loop-number.number * 256 in
    let out = c.in-Err.failed.written in
    let r = c.args.run.now in
    let played = c.slots.ensures.legal.played ∙ sym c.slots.ensures.clock ∙ c.slots.ensures.slots in
    let begins = begins_within c.loop-number.number c.count_pieces-number-end.result c.slots.result r.slots
    c.loop-number-test.true c.count_pieces-number-end.ensures.few c.slots.ensures.slots in
    let laws = c.piece_laws.ensures in
    let stops = stops_in_piece laws.follow laws.start laws.octets r first
    out (c.piece_start.result + out) c.become_that_of.new.self _ _ _ c.requires.sized played begins
    c.become_that_of.ensures c.in-Err.ensures.front (ap (λ start. start + out) c.piece_start.ensures)
    c.loop-number.invariant.0 c.in-Err.ensures.err in
    stops.less

pub returns-clause-ok : goal.returns-clause-ok
returns-clause-ok g c =
    let played = c.slots.ensures.legal.played ∙ sym c.slots.ensures.clock ∙ c.slots.ensures.slots in
    under_way_ends c.piece_laws.ensures.end c.args.run.now (c.loop-number.number * 256) _ _ played
    (omega (arith, c.count_pieces-number-end.ensures.some, c.loop-number-test.false))
    (omega (arith, c.count_pieces-number-end.ensures.enough, c.loop-number-test.false, c.slots.ensures.slots))
    c.loop-number.invariant.0
