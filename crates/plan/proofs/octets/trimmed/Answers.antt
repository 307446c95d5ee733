use Rattle.std.proofs.Common.{refl}
use Rattle.std.proofs.lemmas.Str.Ascii.{trim_ascii_is}
use Rattle.plan.specs.PlanText.{without_front}
use Rattle.plan.proofs.octets.trimmed.Goals as goal

pub returns : goal.returns
returns c =
    trim_ascii_is c.args.text.now c.trim_ascii.result.now (without_front c.args.text.now) refl
    c.trim_ascii.ensures.value
