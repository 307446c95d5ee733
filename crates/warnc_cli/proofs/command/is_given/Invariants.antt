use Rattle.std.proofs.Common.{◌≡◌, drop, map}
use Rattle.warnc_cli.specs.CommandLine.{is_given}
use Rattle.warnc_cli.proofs.command.is_given.Given as goal

abbrev pub invariant-loop-word : goal.invariant-loop-word
invariant-loop-word g l =
    is_given (map g.S.AsStr.text l.words) l.name
    ≡ is_given (map g.S.AsStr.text (drop l.word-index l.words)) l.name
