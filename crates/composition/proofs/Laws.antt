-- What the crates below promise, as clauses of their public laws: all that the proofs here know of them.
use Rattle.std.specs.Prelude.{◌≡◌, ◌<◌, false}
use Rattle.scheduler.specs.AirLaws.{OneAirList, NumbersOnlyOrder, SomeChoice, GrowsByTheChoice, PagesComeInOrder}
use Rattle.scheduler.specs.AirLaws.{LastPagesAreCompletedBroadcasts, NoPageLessOften}
use Rattle.handset.specs.Laws.{ShownAreTheComplete, OnePageShowsOne}
use Rattle.handset.specs.Laws.{CompleteIsWhole, WholeIsTheLeastCount, TextIsTheMessages}
use Rattle.handset.specs.Laws.{MadeAreTapes}
use Rattle.bsc_table.specs.Record.{Accepted, is_of_pair}
use Rattle.bsc_table.specs.Refusals.{AcceptedEntriesAreAll}
use Rattle.bsc_table.specs.Written.{AcceptedAreWrites, AcceptedRise, AcceptedHaveLoads}
use Rattle.bsc_table.specs.Promised.{LegalPairsComeOnce, LegalHistoriesAreBounded}
use Rattle.bsc_table.specs.Reported.{LegalAnswersAreTrue}

-- the laws of the crates below on which those of this one stand
pub record Laws : Type 0 where
  pub last_page_counts : LastPagesAreCompletedBroadcasts
  pub no_page_less : NoPageLessOften
  pub in_order : PagesComeInOrder
  pub one_air : OneAirList
  pub renumbering : NumbersOnlyOrder
  pub some_choice : SomeChoice
  pub grows : GrowsByTheChoice
  pub accepted_entries_are_all : AcceptedEntriesAreAll
  pub accepted_are_writes : AcceptedAreWrites
  pub accepted_rise : AcceptedRise
  pub accepted_have_loads : AcceptedHaveLoads
  pub legal_pairs_come_once : LegalPairsComeOnce
  pub legal_histories_are_bounded : LegalHistoriesAreBounded
  pub legal_answers_are_true : LegalAnswersAreTrue
  pub shown_are_the_complete : ShownAreTheComplete
  pub one_page_shows_one : OnePageShowsOne
  pub complete_is_whole : CompleteIsWhole
  pub whole_is_the_least_count : WholeIsTheLeastCount
  pub text_is_the_messages : TextIsTheMessages
  pub made : MadeAreTapes

-- accepted messages with another identifier or serial number
abbrev pub OfAnotherPair : Accepted → Accepted → Type 0
OfAnotherPair a b = is_of_pair a.id a.serial b ≡ false

-- accepted messages with a lower number
abbrev pub BelowIt : Accepted → Accepted → Type 0
BelowIt a b = a.message.entry < b.message.entry

-- an accepted message that reserves a load
abbrev pub HasLoad : Accepted → Type 0
HasLoad a = (0 < a.message.pages) × (0 < a.message.period)
