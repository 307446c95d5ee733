use Rattle.std.proofs.Common.{◌≤◌, [], List, arith}
use Rattle.std.proofs.lemmas.Result.{IfErr-weaker}
use Rattle.gsmtap.specs.TapesTaken.{IsWalkFor}
use Rattle.gsmtap.specs.declared.tape.Wanted.{Wanted}
use Rattle.warnc_air.specs.AllTapes.{all_wanted}
use Rattle.warnc_air.specs.TapeOutput.{max_capture}
use Rattle.warnc_air.proofs.Made.{had_more, making_fault}
use Rattle.warnc_air.proofs.all.make_tapes.Goals as goal

pub returns-then-count-gt-MAX_INPUT-clause-err : goal.returns-then-count-gt-MAX_INPUT-clause-err
returns-then-count-gt-MAX_INPUT-clause-err g c =
    had_more c.in_ok-walk.walk c.walk_over.new.walk c.in-Ok.count _ _ c.in-Ok.ensures.walks
    (omega (arith, c.if-count-gt-MAX_INPUT.true))

pub returns-clause-err : goal.returns-clause-err
returns-clause-err g c =
    let walks = c.in-Ok.ensures.walks in
    let wanted : List Wanted = all_wanted c.args.wanted.now c.args.rows.now in
    let is : IsWalkFor wanted walks.octets c.walk_over.new.walk = walks.taken wanted [] c.in_ok-walk.ensures in
    let few : c.in-Ok.count ≤ max_capture = omega (arith, c.if-count-gt-MAX_INPUT.false) in
    IfErr-weaker c.tapes_of.result _ _
    (λ fault told.
    making_fault c.args.wanted.now c.args.rows.now c.in_ok-walk.walk c.walk_over.new.walk c.in-Ok.count _ _ walks few
    fault (told wanted walks.octets is))
    c.tapes_of.ensures.err
