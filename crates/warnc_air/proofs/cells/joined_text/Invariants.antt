use Rattle.std.proofs.Common.{◌≡◌, ◌++◌, drop, string_bytes}
use Rattle.std.specs.Prelude.{codes}
use Rattle.std.specs.Fmt.{decimal}
use Rattle.std.specs.List.{flat_map}
use Rattle.warnc_air.specs.TapeOutput.{joined_text}
use Rattle.warnc_air.proofs.cells.joined_text.Given as goal

abbrev pub invariant-loop-next : goal.invariant-loop-next
invariant-loop-next l =
    string_bytes l.text ++ flat_map (λ next. codes " " ++ decimal next) (drop l.next-index l.rest)
    ≡ joined_text l.numbers
