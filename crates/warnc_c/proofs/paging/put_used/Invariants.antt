-- The first ones are put, and the others are as they were.
use Rattle.std.proofs.Common.{◌≡◌, drop, take, length}
use Rattle.warnc_c.specs.Calls.{used_of}
use Rattle.warnc_c.proofs.paging.put_used.Given as goal

abbrev pub invariant-loop-place : goal.invariant-loop-place
invariant-loop-place l =
    (length l.used ≡ length l.fn.used) × (take l.place l.used ≡ used_of (take l.place l.contents))
    × (drop l.place l.used ≡ drop l.place l.fn.used)
