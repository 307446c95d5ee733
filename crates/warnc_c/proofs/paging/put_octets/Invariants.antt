-- The first ones are put, and the others are as they were.
use Rattle.std.proofs.Common.{◌≡◌, drop, take, length}
use Rattle.warnc_c.specs.Calls.{octets_of}
use Rattle.warnc_c.proofs.paging.put_octets.Given as goal

abbrev pub invariant-loop-place : goal.invariant-loop-place
invariant-loop-place l =
    (length l.octets ≡ length l.fn.octets) × (take l.place l.octets ≡ octets_of (take l.place l.contents))
    × (drop l.place l.octets ≡ drop l.place l.fn.octets)
