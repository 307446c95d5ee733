use Rattle.std.proofs.lemmas.Result.{IfOk-weaker}
use Rattle.book_remarks.specs.RemarksText.{header_line, remarks_text}
use Rattle.book_remarks.proofs.text.text_of.Goals as goal

pub returns : goal.returns
returns c =
    IfOk-weaker c.into_octets.result _ _
    (λ octets is. is (remarks_text c.args.start c.args.remarks.now)
    (c.in_ok-push_remarks.ensures (header_line c.args.start) c.in_ok-table.ensures))
    c.into_octets.ensures
