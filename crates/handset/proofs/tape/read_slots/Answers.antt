use Rattle.std.proofs.Common.{arith, rules, ◌*◌}
use Rattle.std.proofs.lemmas.List.{length-take-le}
use Rattle.std.proofs.lemmas.Result.{err_from_is_err_and}
use Rattle.handset.proofs.TapeLaws.{Fed-more, Fed-short}
use Rattle.handset.proofs.TapeExtents.{fed-stops}
use Rattle.handset.proofs.tape.read_slots.Goals as goal

pub loop-left-preserved : goal.loop-left-preserved
loop-left-preserved g c = record {
  within = omega arith;
  fed =
      Fed-more _ _ _ _ c.min-wanted.result _ _ _ _ c.loop-left.invariant.fed c.in_ok-read_piece.ensures.piece
      (omega arith)
      (length-take-le (92 * c.min-wanted.result) c.loop-left.piece (omega arith));
  not_failed = search rules;
}

pub returns-in_err-read_piece-clause-short : goal.returns-in_err-read_piece-clause-short
returns-in_err-read_piece-clause-short g c =
    let failed = err_from_is_err_and c.from_residual.result c.from_residual.ensures.1 in
    rw (failed.1, failed.2)
    (λ is.
    Fed-short _ _ _ c.min-wanted.result _ _ _ c.loop-left.invariant.fed (c.in_err-read_piece.ensures.short is)
    (omega arith)
    (length-take-le (92 * c.min-wanted.result) c.loop-left.piece (omega arith)))

pub returns-in_err-read_piece-clause-extent : goal.returns-in_err-read_piece-clause-extent
returns-in_err-read_piece-clause-extent g c =
    let failed = err_from_is_err_and c.from_residual.result c.from_residual.ensures.1 in
    rw (failed.1, failed.2)
    (fed-stops _ _ _ _ c.min-wanted.result _ _ _ _ c.loop-left.invariant.fed c.in_err-read_piece.ensures.extent
    (omega arith) (length-take-le (92 * c.min-wanted.result) c.loop-left.piece (omega arith)))
