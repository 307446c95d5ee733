use Rattle.std.proofs.Common.{refl}
use Rattle.csv.specs.Records.{AllText, fields_of}
use Rattle.warnc_air.proofs.TextLaws.{texts_pass, others_fail}
use Rattle.warnc_air.proofs.cell_table.texts_of.Goals as goal

pub returns-in-Ok-clause-ok : goal.returns-in-Ok-clause-ok
returns-in-Ok-clause-ok c =
    (c.in-Ok.ensures.same, texts_pass _ (rw c.in-Ok.ensures.same at c.in-Ok.ensures.text))

pub returns-clause-err : goal.returns-clause-err
returns-clause-err c =
    (refl, others_fail _ (λ (texts : AllText (fields_of c.args.fields)). cc (c.in-Err.ensures.refused texts)))
