use Rattle.std.proofs.Common.{◌≡◌, ℕ, List, [], true, rules, subst, sym, append-nil, ◌∙◌, ap, Bool}
use Rattle.report.specs.ReportText.{timed_header_line, timed_part_text}
use Rattle.report.specs.TextSteps.{IsTable}
use Rattle.report.proofs.table.Table.timed.Goals as goal

pub returns : goal.returns
returns c =
    let headed : c.args.headed ≡ true = search (rules, c.if-not-headed.false) in
    λ start orders.
    subst (λ (xs : List ℕ). IsTable c.push_timed_names.new.self xs)
    (sym (ap (λ (b : Bool). timed_part_text c.args.columns start b orders []) headed
    ∙ append-nil (timed_header_line c.args.columns)))
    (c.in_ok-push_timed_names.ensures [] c.in_ok-table.ensures)
