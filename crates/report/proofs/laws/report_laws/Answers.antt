use Rattle.report.proofs.TableLaws.{plain-is-cut}
use Rattle.report.proofs.TimedLaws.{untimed-is-cut}
use Rattle.report.proofs.laws.report_laws.Goals as goal

pub returns-clause-columns : goal.returns-clause-columns
returns-clause-columns c = plain-is-cut

pub returns-clause-times : goal.returns-clause-times
returns-clause-times c = untimed-is-cut
