use Rattle.warnc_run.proofs.OneOutput.{output_is_one}
use Rattle.warnc_run.proofs.laws.output_laws.Goals as goal

pub returns : goal.returns
returns c = output_is_one c.book_laws.ensures.one_book c.one_run_law.ensures c.session_laws.ensures.one
    c.network_laws.ensures.one_count
