use Rattle.std.proofs.Common.{◌≡◌, ℕ, List, [], true, rules, subst, sym, append-nil, ◌∙◌, ap, Bool}
use Rattle.report.specs.ReportText.{full_header_line, full_part_text}
use Rattle.report.specs.TextSteps.{IsTable}
use Rattle.report.proofs.table.Table.full.Goals as goal

pub returns : goal.returns
returns c =
    let headed : c.args.headed ≡ true = search (rules, c.if-not-headed.false) in
    λ orders.
    subst (λ (xs : List ℕ). IsTable c.push_full_names.new.self xs)
    (sym (ap (λ (b : Bool). full_part_text b orders []) headed ∙ append-nil full_header_line))
    (c.in_ok-push_full_names.ensures [] c.in_ok-table.ensures)
