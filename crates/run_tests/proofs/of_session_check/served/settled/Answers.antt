use Rattle.std.proofs.Common.{◌∙◌}
use Rattle.session_check.proofs.Settled.{settled_agree, settled_cells}
use Rattle.run_tests.proofs.of_session_check.served.settled.Goals as goal

pub returns-in-Ok-settle-clause-cells : goal.returns-in-Ok-settle-clause-cells
returns-in-Ok-settle-clause-cells c =
    settled_cells c.in-Ok.closed c.args.passes.now c.in-Ok-settle.records.items c.in-Ok-settle.ensures.ok
    ∙ c.in-Ok.ensures.cells

pub returns-in-Ok-settle-clause-agree : goal.returns-in-Ok-settle-clause-agree
returns-in-Ok-settle-clause-agree c =
    settled_agree c.in-Ok.closed c.args.passes.now c.in-Ok-settle.records.items c.in-Ok-settle.ensures.ok
