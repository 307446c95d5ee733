use Rattle.std.proofs.Common.{◌≡◌, ◌*◌, ◌++◌, drop}
use Rattle.arrayvec.specs.ArrayVec.{array_vec_len}
use Rattle.handset.specs.Reception.{page_octets}
use Rattle.short_pages.proofs.slot.octets_of.Given as goal

abbrev pub invariant-loop-block : goal.invariant-loop-block
invariant-loop-block l =
    (l.octets.items ++ page_octets (drop l.block-index l.blocks) ≡ page_octets l.blocks)
    × (array_vec_len l.octets ≡ 22 * l.block-index)
