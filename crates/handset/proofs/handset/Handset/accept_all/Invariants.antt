use Rattle.std.proofs.Common.{ℕ, List, ◌-◌, ◌++◌, length, take}
use Rattle.handset.specs.Keeping.{HasRead}
use Rattle.handset.proofs.handset.Handset.accept_all.Given as goal

abbrev pub invariant-loop-place : goal.invariant-loop-place
invariant-loop-place l = (before : List (List ℕ)) → HasRead l.initial.self before →
    HasRead l.self (before ++ take l.place l.blocks)

abbrev pub decreases-loop-place : goal.decreases-loop-place
decreases-loop-place l = length l.blocks - l.place
