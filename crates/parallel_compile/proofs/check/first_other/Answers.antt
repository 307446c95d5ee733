use Rattle.std.proofs.Common.{◌≡◌, ℕ, List, length, map, arith, []}
use Rattle.std.proofs.lemmas.List.{length-map}
use Rattle.cbch_blocks.specs.RecordBlocks.{tape_of_record}
use Rattle.parallel_compile.proofs.Others.{same_lists}
use Rattle.parallel_compile.proofs.check.first_other.Goals as goal

pub returns-else-tapes-records : goal.returns-else-tapes-records
returns-else-tapes-records c =
    let wanted : List (List ℕ) = map tape_of_record c.args.records.now in
    let long : length wanted ≡ length c.args.records.now = length-map c.args.records.now tape_of_record in
    same_lists [] c.args.tapes.now wanted (omega (arith, long, c.if-tapes-records.false))
    (λ k within. c.loop-place.invariant.0 k (omega (arith, long, within, c.loop-place-test.false)))
