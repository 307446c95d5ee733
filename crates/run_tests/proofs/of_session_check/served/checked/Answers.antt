use Rattle.std.proofs.Common.{All, List, sym, subst}
use Rattle.bsc_table.specs.Record.{Record}
use Rattle.session_check.specs.Checked.{HasRightNumbers}
use Rattle.run_tests.proofs.of_session_check.served.checked.Goals as goal

pub check_in-requires-clause-agree : goal.check_in-requires-clause-agree
check_in-requires-clause-agree c =
    subst (λ (records : List Record). All (HasRightNumbers c.args.passes.now) records) (sym c.deref.ensures.value)
    c.in_ok-records.ensures.agree
