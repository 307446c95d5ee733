use Rattle.std.proofs.Common.{[]}
use Rattle.verification.proofs.lines.line.Goals as goal

pub returns : goal.returns
returns c = c.in_ok-octets.ensures _ (c.in_ok-write.ensures [] c.nothing_written-writer.ensures)
