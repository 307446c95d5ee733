use Rattle.std.proofs.lemmas.Result.{IfOk-weaker}
use Rattle.gsmtap.proofs.SenderRows.{few_all, have_heard_can, rows_all}
use Rattle.gsmtap.proofs.sender_table.SenderTable.rows.Goals as goal

pub rows_of-requires : goal.rows_of-requires
rows_of-requires c =
    have_heard_can c.requires.1.packets c.args.self.list.items
    (few_all c.requires.0 c.args.self c.requires.1 c.requires.2) c.requires.1.has

pub returns : goal.returns
returns c =
    IfOk-weaker c.rows_of.result _ _ (λ rows are input all. rows_all input c.args.self rows.items all are)
    c.rows_of.ensures
