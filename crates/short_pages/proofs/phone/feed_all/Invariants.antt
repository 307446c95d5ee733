use Rattle.std.proofs.Common.{◌++◌, ℕ, List, take}
use Rattle.handset.specs.Keeping.{HasRead}
use Rattle.short_pages.proofs.phone.feed_all.Given as goal

abbrev pub invariant-loop-block : goal.invariant-loop-block
invariant-loop-block l =
    (before : List (List ℕ)) → HasRead l.fn.handset before → HasRead l.handset (before ++ take l.block-index l.blocks)
