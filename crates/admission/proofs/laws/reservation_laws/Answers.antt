use Rattle.admission.proofs.Reservations.{loads_at-le, loads_at-le_standing, end_of_stopped-boundary}
use Rattle.admission.proofs.Reservations.{end_of_stopped-early, end_of_stopped-no_later, end_of_stopped-covers}
use Rattle.admission.proofs.Rising.{no_slot_over_now, no_slot_over_scale, held_never_rises, passed_is_held}
use Rattle.admission.proofs.Rising.{passed_keeps_later}
use Rattle.admission.proofs.laws.reservation_laws.Goals as goal

pub returns : goal.returns
returns c = record {
  no_slot_over = loads_at-le;
  no_slot_over_standing = loads_at-le_standing;
  stop_on_boundary = end_of_stopped-boundary;
  stop_before_start = end_of_stopped-early;
  stop_no_later = end_of_stopped-no_later;
  stop_covers = end_of_stopped-covers;
  no_slot_over_now = no_slot_over_now;
  no_slot_over_scale = no_slot_over_scale;
  held_never_rises = held_never_rises;
  passed_is_held = passed_is_held;
  passed_keeps_later = passed_keeps_later;
}
