use Rattle.std.proofs.Common.{arith, refl}
use Rattle.std.proofs.lemmas.Slice.Eq.{bytes_eq-Decides}
use Rattle.chart.proofs.AxisLaws.{ticks_reach_the_end}
use Rattle.chart.proofs.EscapeLaws.{escaped_is_plain}
use Rattle.chart.proofs.FullestLaws.{fullest_has_most}
use Rattle.chart.proofs.MarkLaws.{marks_are_completed, marks_of_parts_are_completed, Laws}
use Rattle.chart.proofs.StrokeLaws.{strokes_are_marks}
use Rattle.chart.proofs.laws.chart_laws.Goals as goal

pub returns : goal.returns
returns c = let laws : Laws = record {
  rise = c.legal_histories.ensures.accepted_rise;
  loads = c.legal_histories.ensures.accepted_have_loads;
  cover = c.guarantee.ensures.reservations_cover_broadcasts;
  order = c.air_laws.ensures.in_order;
  last = c.air_laws.ensures.last_page_counts;
} in record {
  escaped = escaped_is_plain;
  marks = marks_are_completed laws;
  parts = marks_of_parts_are_completed laws;
  strokes = strokes_are_marks;
  sections = λ p other. bytes_eq-Decides other.contents p.contents;
  ticks = ticks_reach_the_end;
  fullest = fullest_has_most;
  heights = (refl, refl, refl, λ load more less. omega (arith, less));
}
