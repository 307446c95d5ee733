use Rattle.std.proofs.Common.{◌≡◌, ◌+◌, ◌++◌, drop}
use Rattle.std.specs.List.{flat_map}
use Rattle.cbch_blocks.specs.Blocks.{blocks_of_page}
use Rattle.warnc_inspect.specs.PageOutput.{page_octets_from, blocks_of_message}
use Rattle.warnc_inspect.proofs.page.blocks_of.Given as goal

abbrev pub invariant-loop-place : goal.invariant-loop-place
invariant-loop-place l =
    l.blocks.items ++ flat_map blocks_of_page (page_octets_from l.id l.serial l.paged.dcs.0 l.total (l.place + 1)
    (drop l.place l.paged.pages.items))
    ≡ blocks_of_message l.id l.serial l.paged
