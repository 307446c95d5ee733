use Rattle.handset.proofs.Showing.{shown_are_the_complete, one_page_shows_one}
use Rattle.handset.proofs.OneMessage.{complete_is_whole, whole_is_the_least_count, text_is_the_messages}
use Rattle.handset.proofs.laws.reading_laws.Goals as goal

pub returns : goal.returns
returns c = record {
  shown_are_the_complete = shown_are_the_complete;
  one_page_shows_one = one_page_shows_one;
  complete_is_whole = complete_is_whole;
  whole_is_the_least_count = whole_is_the_least_count;
  text_is_the_messages = text_is_the_messages;
}
