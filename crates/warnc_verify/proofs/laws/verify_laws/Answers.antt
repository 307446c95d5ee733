use Rattle.warnc_verify.proofs.CompiledTapes.{compiled-differs-nowhere}
use Rattle.warnc_verify.proofs.OneTable.{verdicts-exclude, verified-is-one}
use Rattle.warnc_verify.proofs.laws.verify_laws.Goals as goal

pub returns : goal.returns
returns c =
    let one = verified-is-one c.one_run_law.ensures c.session_laws.ensures.one c.recording_laws.ensures.one
    c.verification_laws.ensures.tapes_have_one_table in record {
      verified_is_one = one;
      verdicts_exclude = verdicts-exclude one;
      compiled_differs_nowhere = compiled-differs-nowhere c.book_laws.ensures.cells
          c.verification_laws.ensures.records_are_recorded c.verification_laws.ensures.own_tapes_have_no_rows
          c.verification_laws.ensures.no_rows_are_an_empty_table;
    }
