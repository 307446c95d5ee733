use Rattle.std.proofs.lemmas.Result.{IfOk-weaker}
use Rattle.book_texts.proofs.table.Table.new.Goals as goal

pub returns-in-Some : goal.returns-in-Some
returns-in-Some c =
    rw c.in-Some.is (IfOk-weaker c.with_all_names.result _ _ (λ table holds. holds c.in-Some.field-0)
    c.with_all_names.ensures)
