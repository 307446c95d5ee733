use Rattle.bsc_table.proofs.Load.Demand.{demand_is_no_more_than_the_slots}
use Rattle.bsc_table.proofs.Load.Reservations.{reservations_cover_broadcasts}
use Rattle.bsc_table.proofs.Load.BusyPeriod.{lack_means_a_busy_period}
use Rattle.bsc_table.proofs.Load.Guarantee.{admitted_load_is_a_guarantee, admitted_broadcasts_are_completed}
use Rattle.bsc_table.proofs.Load.Foreground.{foreground_is_served}
use Rattle.bsc_table.proofs.laws.guarantee.Goals as goal

pub returns : goal.returns
returns c = record {
  reservations_cover_broadcasts = reservations_cover_broadcasts;
  lack_means_a_busy_period = lack_means_a_busy_period;
  demand_is_no_more_than_the_slots = demand_is_no_more_than_the_slots;
  admitted_load_is_a_guarantee = admitted_load_is_a_guarantee;
  admitted_broadcasts_are_completed = admitted_broadcasts_are_completed;
  foreground_is_served = foreground_is_served;
}
