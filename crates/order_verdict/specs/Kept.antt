-- How orders and pages are kept (own).
use Rattle.verification.specs.Kept.{asked_kept}
use Rattle.order_verdict.specs.declared.air.AirPage.{AirPage}
use Rattle.order_verdict.specs.declared.ordered.Ordered.{Ordered}
use Rattle.order_verdict.specs.Air.{AirOctets}
use Rattle.order_verdict.specs.Ordered.{OrderedMessage}

abbrev pub air_kept : AirPage → AirOctets
air_kept k = record { slot = k.slot; octets = k.octets.items }

abbrev pub ordered_kept : Ordered → OrderedMessage
ordered_kept k = record {
  row = k.row;
  early = asked_kept k.early;
  late = asked_kept k.late;
  since = k.since;
  until = k.until;
  ended = k.ended;
  told = k.told;
}
