use Rattle.std.proofs.lemmas.Result.{IfOk-weaker}
use Rattle.cell_loads.specs.LoadsText.{heading, loads_text}
use Rattle.cell_loads.proofs.text.loads_text.Goals as goal

pub returns : goal.returns
returns c =
    IfOk-weaker c.into_octets.result _ _
    (λ octets is. is (loads_text c.args.start c.args.headed c.args.records.now)
    (c.in_ok-push_cells.ensures (heading c.args.start c.args.headed) c.in_ok-table.ensures))
    c.into_octets.ensures
