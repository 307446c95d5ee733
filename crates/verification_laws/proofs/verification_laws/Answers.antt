use Rattle.verification_laws.proofs.OwedShown.{owed-shown}
use Rattle.verification_laws.proofs.ShownAsked.{shown-asked}
use Rattle.composition.proofs.Laws.{Laws}
use Rattle.bsc_table.specs.Promised.{LegalPagesAreAiredOnce}
use Rattle.verification_laws.specs.OwnTapes.{NothingIsFound, OwnTapesKeepTheirCells}
use Rattle.verification_laws.proofs.NoOthers.{no-others}
use Rattle.verification_laws.proofs.OneOrder.{one-list-of-differences}
use Rattle.verification_laws.proofs.OneRows.{one-list-of-rows}
use Rattle.verification_laws.proofs.OneTables.{empty-table, one-table}
use Rattle.verification_laws.proofs.OwnRuns.{kept-cells, no-rows-found, runs-kept}
use Rattle.verification_laws.proofs.OwnSlots.{recorded}
use Rattle.verification_laws.proofs.OwnTapes.{nothing-found, own-tapes}
use Rattle.verification_laws.proofs.WithinRun.{differences-are-within}
use Rattle.verification_laws.proofs.verification_laws.Goals as goal

pub returns : goal.returns
returns c =
    let laws : Laws = record {
      last_page_counts = c.air_laws.ensures.last_page_counts;
      no_page_less = c.air_laws.ensures.no_page_less;
      in_order = c.air_laws.ensures.in_order;
      one_air = c.air_laws.ensures.one_air;
      renumbering = c.air_laws.ensures.renumbered;
      some_choice = c.air_laws.ensures.some_choice;
      grows = c.air_laws.ensures.grows;
      accepted_entries_are_all = c.legal_histories.ensures.accepted_entries_are_all;
      accepted_are_writes = c.legal_histories.ensures.accepted_are_writes;
      accepted_rise = c.legal_histories.ensures.accepted_rise;
      accepted_have_loads = c.legal_histories.ensures.accepted_have_loads;
      legal_pairs_come_once = c.legal_histories.ensures.legal_pairs_come_once;
      legal_histories_are_bounded = c.legal_histories.ensures.legal_histories_are_bounded;
      legal_answers_are_true = c.legal_histories.ensures.legal_answers_are_true;
      shown_are_the_complete = c.reading_laws.ensures.shown_are_the_complete;
      one_page_shows_one = c.reading_laws.ensures.one_page_shows_one;
      complete_is_whole = c.reading_laws.ensures.complete_is_whole;
      whole_is_the_least_count = c.reading_laws.ensures.whole_is_the_least_count;
      text_is_the_messages = c.reading_laws.ensures.text_is_the_messages;
      made = c.tape_laws.ensures.made;
    } in
    let once : LegalPagesAreAiredOnce = c.legal_histories.ensures.legal_pages_are_aired_once in
    let kept : OwnTapesKeepTheirCells = kept-cells (own-tapes laws once) in
    let nothing : NothingIsFound = nothing-found laws once in
    record {
      cells_differ_in_one_list = one-list-of-differences;
      tapes_have_one_list_of_rows = one-list-of-rows one-list-of-differences;
      tapes_have_one_table = one-table one-list-of-differences;
      no_rows_are_an_empty_table = empty-table;
      differences_are_within = differences-are-within;
      own_tapes_differ_nowhere = own-tapes laws once;
      own_tapes_keep_their_cells = kept;
      nothing_is_found = nothing;
      own_tapes_have_no_rows = runs-kept kept;
      no_rows_are_found = no-rows-found nothing;
      records_are_recorded = recorded laws c.recording_laws.ensures.made;
      no_others_are_shown = no-others c.reading_laws.ensures.shown_are_the_complete;
      all_shown_are_asked = shown-asked c.reading_laws.ensures.shown_are_the_complete;
      owed_are_shown = owed-shown laws;
    }
