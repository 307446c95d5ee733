use Rattle.std.proofs.Common.{◌≡◌, ◌++◌, drop, string_bytes}
use Rattle.std.specs.List.{flat_map}
use Rattle.warnc_inspect.specs.PageOutput.{block_line}
use Rattle.warnc_inspect.proofs.page.push_block_lines.Given as goal

abbrev pub invariant-loop-block : goal.invariant-loop-block
invariant-loop-block l =
    string_bytes l.output ++ flat_map block_line (drop l.block-index l.blocks)
    ≡ string_bytes l.fn.output ++ flat_map block_line l.blocks
