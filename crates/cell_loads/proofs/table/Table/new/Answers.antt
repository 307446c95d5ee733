use Rattle.std.proofs.Common.{◌≡◌, ℕ, List, [], true, rules, subst, sym, ap, Bool}
use Rattle.cell_loads.specs.LoadsText.{heading}
use Rattle.cell_loads.specs.TableSteps.{IsTable}
use Rattle.cell_loads.proofs.table.Table.new.Goals as goal

pub returns : goal.returns
returns c =
    let headed : c.args.headed ≡ true = search (rules, c.if-not-headed.false) in
    subst (λ (xs : List ℕ). IsTable c.push_names.new.self xs)
    (sym (ap (λ (b : Bool). heading c.args.start b) headed))
    (c.in_ok-push_names.ensures [] c.in_ok-table.ensures)
