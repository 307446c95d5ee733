use Rattle.std.proofs.Common.{not, ap, sym, ◌∙◌, arith}
use Rattle.std.proofs.lemmas.Bool.{false≢true}
use Rattle.bsc_table.proofs.Cell.TableByPair.{none_less_from}
use Rattle.bsc_table.proofs.table.is_none_lesser_from.Goals as goal

pub returns-then-at-pairs : goal.returns-then-at-pairs
returns-then-at-pairs c = λ says k d from inside.
    none_less_from c.args.pairs.now (c.args.id, c.args.serial) c.requires c.args.at _
    (omega (arith, c.if-at-pairs.true))
    (λ less. false≢true (sym (ap not (c.is_before.ensures.1 less)) ∙ says)) k d from inside
