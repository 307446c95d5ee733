use Rattle.warnc_run.proofs.ReportColumns.{plain_is_cut, untimed_is_cut}
use Rattle.warnc_run.proofs.laws.report_column_laws.Goals as goal

pub returns-clause-columns : goal.returns-clause-columns
returns-clause-columns c =
    plain_is_cut c.one_run_law.ensures c.session_laws.ensures.one c.report_laws.ensures.columns

pub returns-clause-times : goal.returns-clause-times
returns-clause-times c =
    untimed_is_cut c.book_laws.ensures.one_book c.one_run_law.ensures c.session_laws.ensures.one
    c.report_laws.ensures.times
