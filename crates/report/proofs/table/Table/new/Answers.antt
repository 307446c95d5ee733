use Rattle.std.proofs.Common.{◌≡◌, ℕ, List, [], true, rules, subst, sym, append-nil, ◌∙◌, ap, Bool}
use Rattle.report.specs.ReportText.{header_line, part_text}
use Rattle.report.specs.TextSteps.{IsTable}
use Rattle.report.proofs.table.Table.new.Goals as goal

pub returns : goal.returns
returns c =
    let headed : c.args.headed ≡ true = search (rules, c.if-not-headed.false) in
    subst (λ (xs : List ℕ). IsTable c.push_names.new.self xs)
    (sym (ap (λ (b : Bool). part_text b []) headed ∙ append-nil header_line))
    (c.in_ok-push_names.ensures [] c.in_ok-table.ensures)
