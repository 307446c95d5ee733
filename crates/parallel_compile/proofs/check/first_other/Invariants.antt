use Rattle.std.proofs.Common.{◌≡◌, ℕ, ◌<◌, ◌≤◌, map}
use Rattle.std.specs.List.{slice_get}
use Rattle.cbch_blocks.specs.RecordBlocks.{tape_of_record}
use Rattle.parallel_compile.proofs.check.first_other.Given as goal

abbrev pub invariant-loop-place : goal.invariant-loop-place
invariant-loop-place l =
    ((lesser : ℕ) → lesser < l.place → slice_get l.tapes lesser ≡ slice_get (map tape_of_record l.records) lesser)
    × (l.place ≤ l.place-end)
