use Rattle.report.proofs.table.Table.push_timed_shown.Goals as goal

pub returns-in-Plain : goal.returns-in-Plain
returns-in-Plain c = rw c.in-Plain.is c.push_plain_timed.ensures

pub returns-in-Full : goal.returns-in-Full
returns-in-Full c = rw c.in-Full.is c.push_full_timed.ensures
