use Rattle.std.proofs.Common.{◌≡◌, ◌+◌, ◌-◌, [], ℕ, length, slice_index_or}
use Rattle.alert_book.proofs.network.shares.Shares.make_place.Given as goal

abbrev pub invariant-loop-alloc : goal.invariant-loop-alloc
invariant-loop-alloc l =
    (other : ℕ) → slice_index_or l.self-inside.by_group.items other [] ≡ slice_index_or l.fn.self other []

abbrev pub decreases-loop-alloc : goal.decreases-loop-alloc
decreases-loop-alloc l = l.fn.group + 1 - length l.self-inside.by_group.items
