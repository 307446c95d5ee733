use Rattle.std.proofs.Common.{◌≡◌, ◌∙◌, ℕ, List, [], ap, rules, sym}
use Rattle.std.specs.Map.{lookup}
use Rattle.std.proofs.lemmas.List.{nil_from_length}
use Rattle.report.specs.RowSteps.{Pair, is_pair}
use Rattle.report.proofs.StopLaws.{stops-nothing}
use Rattle.report.proofs.stops.Stops.of.Goals as goal

pub returns-then-is_empty : goal.returns-then-is_empty
returns-then-is_empty c = λ later are.
    let none : c.self.inside.by_pair.entries ≡ [] =
    nil_from_length c.self.inside.by_pair.entries (search (rules, c.is_empty.ensures, c.if-is_empty.true)) in
    stops-nothing c.args.self.now later c.args.command.now (sym c.self.view_is ∙ none) are

pub returns-in-Write : goal.returns-in-Write
returns-in-Write c = λ later are.
    rw c.in-Write.is
    (c.copied.ensures ∙ c.get.ensures.value
    ∙ ap (λ (n : ℕ). lookup (is_pair (c.in-Write.id, n)) c.self.inside.by_pair.entries) c.number.ensures
    ∙ ap (λ (entries : List (Pair × ℕ)). lookup (is_pair (c.in-Write.id, c.in-Write.serial)) entries) c.self.view_is
    ∙ are (c.in-Write.id, c.in-Write.serial))
