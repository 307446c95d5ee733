use Rattle.book_runs.proofs.Laws.{Laws}
use Rattle.book_runs.proofs.Ordered.{runs_accept_what_was_ordered}
use Rattle.book_runs.proofs.order_laws.Goals as goal

pub returns : goal.returns
returns c =
    let laws : Laws = record {
      texts_come_back = c.text_laws.ensures.comes_back;
      texts_are_utf8 = c.text_laws-2.ensures;
      come_of_orders = c.session_laws.ensures.come_of_orders;
      accepted_are_writes = c.legal_histories.ensures.accepted_are_writes;
      shown_are_the_broadcast = c.composition_laws.ensures.shown_are_the_broadcast;
      completed_is_whole = c.composition_laws.ensures.completed_is_whole_in_blocks;
      accepted_are_meant = c.composition_laws.ensures.accepted_are_meant;
      reported_is_whole = c.composition_laws.ensures.reported_is_whole_in_blocks;
      none_after_the_stop = c.composition_laws.ensures.none_after_the_stop;
      records_are_tapes = c.composition_laws.ensures.records_are_tapes;
      texts_are_those_of_contents = c.composition_laws.ensures.texts_are_those_of_contents;
    } in
    runs_accept_what_was_ordered laws
