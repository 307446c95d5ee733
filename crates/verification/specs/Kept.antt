-- A message that a cell accepted, as it is kept (own).
use Rattle.verification.specs.declared.asked.Asked.{Asked}
use Rattle.verification.specs.Asked.{AskedMessage}

abbrev pub asked_kept : Asked → AskedMessage
asked_kept k = record {
  id = k.id;
  serial = k.serial;
  dcs = k.dcs.0;
  contents = k.contents.now;
  start = k.start;
  period = k.period;
  broadcasts = k.broadcasts;
  stop = k.stop;
  background = k.background;
}
