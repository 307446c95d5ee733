use Rattle.book_remarks.proofs.OneTable.{remarked_are_clean, remarks_are_one}
use Rattle.book_remarks.proofs.TimedRun.{untimed-lacks-times}
use Rattle.book_remarks.proofs.Unremarked.{unremarked_are_kept}
use Rattle.book_remarks.proofs.laws.remark_laws.Goals as goal

pub returns-clause-kept : goal.returns-clause-kept
returns-clause-kept c = unremarked_are_kept

pub returns-clause-one : goal.returns-clause-one
returns-clause-one c =
    remarks_are_one c.book_laws.ensures.one_book c.one_run_law.ensures c.session_laws.ensures.one
    c.network_laws.ensures.one_count

pub returns-clause-clean : goal.returns-clause-clean
returns-clause-clean c = remarked_are_clean c.check_laws.ensures.books c.check_laws.ensures.networks

pub returns-clause-times : goal.returns-clause-times
returns-clause-times c = untimed-lacks-times
