use Rattle.std.proofs.lemmas.Result.{IfOk-weaker}
use Rattle.book_remarks.specs.RemarksText.{header_line, remarks_text, checked_run_text}
use Rattle.book_remarks.proofs.text.run_text_of.Goals as goal

pub returns : goal.returns
returns c =
    IfOk-weaker c.into_octets.result _ _
    (λ octets is. is (checked_run_text c.args.start c.args.remarks.now c.args.records.now)
    (c.in_ok-push_each_fullest.ensures (remarks_text c.args.start c.args.remarks.now)
    (c.in_ok-push_remarks.ensures (header_line c.args.start) c.in_ok-table.ensures)))
    c.into_octets.ensures
