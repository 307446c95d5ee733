use Rattle.bsc_table.proofs.History.LegalIsSound.{IsSound-legal}
use Rattle.bsc_table.proofs.History.EntryNumbers.{numbers_rise}
use Rattle.bsc_table.proofs.History.Promises.{legal_loads_fit, legal_histories_are_served, legal_histories_are_bounded}
use Rattle.bsc_table.proofs.History.Promises.{legal_pages_are_aired_once}
use Rattle.bsc_table.proofs.History.ReportedCounts.{legal_answers_are_true}
use Rattle.bsc_table.proofs.History.Refusals.{refusals_change_nothing}
use Rattle.bsc_table.proofs.History.SameMessages.{accepted_entries_are_all}
use Rattle.bsc_table.proofs.History.Written.{accepted_are_writes, uses_are_of_writes}
use Rattle.bsc_table.proofs.laws.legal_histories.Goals as goal

pub returns : goal.returns
returns c = record {
  refusals_change_nothing = refusals_change_nothing;
  accepted_entries_are_all = accepted_entries_are_all;
  accepted_are_writes = accepted_are_writes;
  uses_are_of_writes = uses_are_of_writes;
  accepted_rise = numbers_rise;
  accepted_have_loads = λ r legal. (IsSound-legal r legal).loaded;
  legal_pairs_come_once = λ r legal. (IsSound-legal r legal).once;
  legal_claims_fit = λ r legal. ((IsSound-legal r legal).order, (IsSound-legal r legal).fit);
  legal_loads_fit = legal_loads_fit;
  legal_histories_are_served = legal_histories_are_served;
  legal_pages_are_aired_once = legal_pages_are_aired_once c.air_laws.ensures.pages_come_once;
  legal_histories_are_bounded = legal_histories_are_bounded;
  legal_answers_are_true = legal_answers_are_true;
}
