use Rattle.std.proofs.Common.{◌≡◌, ◌++◌, drop, string_bytes}
use Rattle.chart.specs.Message.{text_of_contents}
use Rattle.chart.proofs.message.text_of_contents.Given as goal

abbrev pub invariant-loop-content : goal.invariant-loop-content
invariant-loop-content l =
    string_bytes l.text ++ text_of_contents l.dcs.0 (drop l.content-index l.contents)
    ≡ text_of_contents l.dcs.0 l.contents
