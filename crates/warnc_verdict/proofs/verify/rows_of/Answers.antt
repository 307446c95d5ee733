use Rattle.std.proofs.Common.{arith}
use Rattle.warnc_verdict.proofs.Judged.{long-input}
use Rattle.warnc_verdict.proofs.verify.rows_of.Goals as goal

pub returns-then-len-gt-MAX_ORDERS_FILE-clause-err : goal.returns-then-len-gt-MAX_ORDERS_FILE-clause-err
returns-then-len-gt-MAX_ORDERS_FILE-clause-err g c = long-input _ _ 16777216 c.in-Ok.ensures.value (omega arith)
