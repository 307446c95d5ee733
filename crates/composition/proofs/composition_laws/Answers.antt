use Rattle.composition.proofs.Composed.{completed_is_whole_in_blocks, shown_are_the_broadcast}
use Rattle.composition.proofs.Same.{same_accepted_same_blocks}
use Rattle.composition.proofs.Meaning.{accepted_are_meant, none_after_the_stop, pages_read_are_those_aired}
use Rattle.composition.proofs.Meaning.{reported_is_whole_in_blocks, shown_grow_by_one, records_are_tapes}
use Rattle.composition.proofs.Meaning.{texts_are_those_of_contents}
use Rattle.composition.proofs.Laws.{Laws}
use Rattle.composition.proofs.composition_laws.Goals as goal

pub returns : goal.returns
returns c =
    let laws : Laws = record {
      last_page_counts = c.air_laws.ensures.last_page_counts;
      no_page_less = c.air_laws.ensures.no_page_less;
      in_order = c.air_laws.ensures.in_order;
      one_air = c.air_laws.ensures.one_air;
      renumbering = c.air_laws.ensures.renumbered;
      some_choice = c.air_laws.ensures.some_choice;
      grows = c.air_laws.ensures.grows;
      accepted_entries_are_all = c.legal_histories.ensures.accepted_entries_are_all;
      accepted_are_writes = c.legal_histories.ensures.accepted_are_writes;
      accepted_rise = c.legal_histories.ensures.accepted_rise;
      accepted_have_loads = c.legal_histories.ensures.accepted_have_loads;
      legal_pairs_come_once = c.legal_histories.ensures.legal_pairs_come_once;
      legal_histories_are_bounded = c.legal_histories.ensures.legal_histories_are_bounded;
      legal_answers_are_true = c.legal_histories.ensures.legal_answers_are_true;
      shown_are_the_complete = c.reading_laws.ensures.shown_are_the_complete;
      one_page_shows_one = c.reading_laws.ensures.one_page_shows_one;
      complete_is_whole = c.reading_laws.ensures.complete_is_whole;
      whole_is_the_least_count = c.reading_laws.ensures.whole_is_the_least_count;
      text_is_the_messages = c.reading_laws.ensures.text_is_the_messages;
      made = c.tape_laws.ensures.made;
    } in
    record {
      completed_is_whole_in_blocks = completed_is_whole_in_blocks laws;
      shown_are_the_broadcast = shown_are_the_broadcast laws;
      same_accepted_same_blocks = same_accepted_same_blocks laws;
      pages_read_are_those_aired = pages_read_are_those_aired laws;
      accepted_are_meant = accepted_are_meant laws;
      none_after_the_stop = none_after_the_stop laws;
      reported_is_whole_in_blocks = reported_is_whole_in_blocks laws;
      shown_grow_by_one = shown_grow_by_one laws;
      records_are_tapes = records_are_tapes laws;
      texts_are_those_of_contents = texts_are_those_of_contents;
    }
