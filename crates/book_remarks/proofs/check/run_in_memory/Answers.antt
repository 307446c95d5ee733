use Rattle.std.proofs.Common.{rules, subst, sym}
use Rattle.book_remarks.specs.RemarkedSteps.{IsStop, extent_of}
use Rattle.book_remarks.proofs.RunRecords.{of_memory, stopped}
use Rattle.book_remarks.proofs.check.run_in_memory.Goals as goal

pub returns-in-Ok-clause-ok : goal.returns-in-Ok-clause-ok
returns-in-Ok-clause-ok g c =
    of_memory c.args.origin c.args.slots c.args.octets.now _ _ c.in-Ok.ran.book c.in-Ok.ran.records.items
    c.in-Ok.ensures.ok
    (search rules)

pub returns-in-Err-clause-err : goal.returns-in-Err-clause-err
returns-in-Err-clause-err g c =
    subst (IsStop (extent_of c.args.origin) c.args.slots c.args.octets.now) (sym c.stop_of.ensures)
    (stopped c.args.origin c.args.slots c.args.octets.now _ _ c.in-Err.fault c.in-Err.ensures.err (search rules))
