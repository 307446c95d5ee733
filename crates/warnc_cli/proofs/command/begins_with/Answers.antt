use Rattle.std.proofs.lemmas.Str.Pattern.{starts_text}
use Rattle.warnc_cli.proofs.command.begins_with.Goals as goal

pub returns : goal.returns
returns c = starts_text c.starts_with.result c.args.name.now c.args.word.now c.starts_with.ensures.cases
