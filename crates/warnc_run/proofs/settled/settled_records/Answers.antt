use Rattle.std.proofs.Common.{◌≡◌, List, All, refl, sym, subst, ◌∙◌}
use Rattle.bsc_table.specs.Record.{Record}
use Rattle.book_runs.specs.Sessions.{AreSessions}
use Rattle.session_check.specs.Checked.{HasRightNumbers}
use Rattle.session_check.specs.NotedSteps.{record_cells}
use Rattle.session_check.proofs.Settled.{settled_agree, settled_cells}
use Rattle.warnc_run.proofs.settled.settled_records.Goals as goal

pub check_sessions-requires-clause-cells : goal.check_sessions-requires-clause-cells
check_sessions-requires-clause-cells c =
    subst (λ (records : List Record). record_cells records ≡ c.args.book.now.cells) (sym c.deref.ensures.value)
    (settled_cells c.in_ok-closed.closed c.args.passes.now c.in_ok-records.records.items c.in_ok-records.ensures.ok
    ∙ c.in_ok-closed.ensures.cells ∙ c.requires.cells)

pub check_sessions-requires-clause-agree : goal.check_sessions-requires-clause-agree
check_sessions-requires-clause-agree c =
    subst (All (HasRightNumbers c.args.passes.now)) (sym c.deref.ensures.value)
    (settled_agree c.in_ok-closed.closed c.args.passes.now c.in_ok-records.records.items c.in_ok-records.ensures.ok)

pub returns-clause-ok : goal.returns-clause-ok
returns-clause-ok c =
    let run = c.cells_law.ensures.settled c.args.book.now c.args.desk.slots c.args.sessions.number
    c.in_ok-closed.closed c.args.passes.now c.in_ok-records.records.items c.requires.book c.args.sessions.some
    (c.in_ok-closed.ensures.cells ∙ c.requires.cells) c.in_ok-closed.ensures.slots c.in_ok-records.ensures.ok
    (subst (λ (records : List Record). AreSessions c.args.book.now c.args.sessions.number records c.args.passes.now)
    c.deref.ensures.value (c.in_ok-check_sessions.ensures.ok refl)) in
    record { sessions = run.0; parted = run.1; run = run.2 }
