-- The table is that of the tapes.
use Rattle.std.proofs.Common.{rules}
use Rattle.warnc_c.proofs.tapes.table_of.Goals as goal

pub returns-in-Ok-into_octets-clause-ok : goal.returns-in-Ok-into_octets-clause-ok
returns-in-Ok-into_octets-clause-ok c =
    let is = c.in-Ok.ensures.table in
    record {
      readings = is.readings;
      tapes = search (rules, is.of_input);
      written = c.in-Ok-into_octets.ensures _ is.holds;
    }
