use Rattle.scheduler.proofs.Choice.{IsChosen-choice}
use Rattle.scheduler.proofs.Rule.{IsChosen-only, IsAirOf-next, IsAirOf-add, IsAirOf-stop, aired_is_pending}
use Rattle.scheduler.proofs.Rule.{pages_aired-at_most, IsCompleted-below}
use Rattle.scheduler.proofs.OneAir.{IsAirOf-front, IsAirOf-only}
use Rattle.scheduler.proofs.Renumbering.{IsAirOf-renumbered}
use Rattle.scheduler.proofs.PagesOnce.{pages_come_once, completed_is_each_page_once}
use Rattle.scheduler.proofs.PageCounts.{last_page_counts, no_page_less}
use Rattle.scheduler.proofs.laws.air_laws.Goals as goal

pub returns : goal.returns
returns c = record {
  one_choice = IsChosen-only;
  some_choice = IsChosen-choice;
  grows = IsAirOf-next;
  front = IsAirOf-front;
  one_air = IsAirOf-only;
  renumbered = IsAirOf-renumbered;
  later_message = IsAirOf-add;
  later_stop = IsAirOf-stop;
  in_order = aired_is_pending;
  at_most_its_pages = pages_aired-at_most;
  pages_come_once = pages_come_once;
  completed_is_each_page_once = completed_is_each_page_once;
  last_page_counts = last_page_counts;
  no_page_less = no_page_less;
  all_counted = IsCompleted-below;
}
