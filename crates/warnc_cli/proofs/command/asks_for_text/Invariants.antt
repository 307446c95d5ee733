use Rattle.std.proofs.Common.{◌≡◌, drop, map}
use Rattle.warnc_cli.specs.CommandLine.{asks_for_text}
use Rattle.warnc_cli.proofs.command.asks_for_text.Given as goal

abbrev pub invariant-loop-word : goal.invariant-loop-word
invariant-loop-word g l =
    asks_for_text (map g.S.AsStr.text l.words) ≡ asks_for_text (map g.S.AsStr.text (drop l.word-index l.words))
