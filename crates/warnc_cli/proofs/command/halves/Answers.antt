use Rattle.std.proofs.Common.{Some}
use Rattle.std.proofs.lemmas.Str.Pattern.{split_parts}
use Rattle.warnc_cli.proofs.command.halves.Goals as goal

pub returns-in-Some : goal.returns-in-Some
returns-in-Some c =
    (split_parts c.args.mark c.args.text.now (Some (c.in-Some.front, c.in-Some.back)) c.in-Some.ensures.cases
    c.requires).0
