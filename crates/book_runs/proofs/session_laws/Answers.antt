use Rattle.book_runs.proofs.Laws.{BookLaws, Laws}
use Rattle.book_runs.proofs.Meant.{live_runs_show_the_book}
use Rattle.book_runs.proofs.OneSession.{one_session_is_a_run}
use Rattle.book_runs.proofs.Ordered.{live_runs_accept_what_was_ordered}
use Rattle.book_runs.proofs.Settled.{settled_sessions_are_runs}
use Rattle.book_runs.proofs.session_laws.Goals as goal

pub returns : goal.returns
returns c =
    let laws : Laws = record {
      texts_come_back = c.text_laws.ensures.comes_back;
      texts_are_utf8 = c.text_laws-2.ensures;
      come_of_orders = c.session_laws.ensures.come_of_orders;
      accepted_are_writes = c.legal_histories.ensures.accepted_are_writes;
      shown_are_the_broadcast = c.composition_laws.ensures.shown_are_the_broadcast;
      completed_is_whole = c.composition_laws.ensures.completed_is_whole_in_blocks;
      accepted_are_meant = c.composition_laws.ensures.accepted_are_meant;
      reported_is_whole = c.composition_laws.ensures.reported_is_whole_in_blocks;
      none_after_the_stop = c.composition_laws.ensures.none_after_the_stop;
      records_are_tapes = c.composition_laws.ensures.records_are_tapes;
      texts_are_those_of_contents = c.composition_laws.ensures.texts_are_those_of_contents;
    } in
    let of_books : BookLaws = record {
      orders_are_few = c.book_laws.ensures.orders;
      cells_are_valid = c.book_laws.ensures.cells;
      writable = c.session_laws.ensures.writable;
      once_per_order = c.session_laws.ensures.once_per_order;
    } in
    record {
      settled = settled_sessions_are_runs of_books;
      one = one_session_is_a_run;
      shown = live_runs_show_the_book laws;
      accepted = live_runs_accept_what_was_ordered laws;
    }
