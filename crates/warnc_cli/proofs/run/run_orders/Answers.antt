use Rattle.std.proofs.Common.{sym, ◌∙◌}
use Rattle.warnc_cli.proofs.NoOrders.{orders_written, refused_orders}
use Rattle.warnc_cli.proofs.run.run_orders.Goals as goal

pub returns-in-Ok-clause-done : goal.returns-in-Ok-clause-done
returns-in-Ok-clause-done g c = λ done. orders_written c.args.wanted c.args.packets _ _ _ _ c.in-Ok.ensures.ok

pub returns-in-Err-clause-refused : goal.returns-in-Err-clause-refused
returns-in-Err-clause-refused g c =
    λ is. refused_orders _ c.args.wanted c.args.packets _ _ c.in-Err.fault c.in-Err.ensures.err
    (sym c.failed.ensures ∙ is)
