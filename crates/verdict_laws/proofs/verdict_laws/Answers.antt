use Rattle.composition.proofs.Laws.{Laws}
use Rattle.verdict_laws.specs.OwnOrders.{OwnOrdersAreKept, OwnOrdersDifferNowhere}
use Rattle.verdict_laws.proofs.OwnOrders.{kept, live-runs-keep, nothing, own-orders, runs-keep}
use Rattle.verdict_laws.proofs.ReadBack.{read-back}
use Rattle.verdict_laws.proofs.verdict_laws.Goals as goal

pub returns : goal.returns
returns c =
    let laws : Laws = record {
      last_page_counts = c.air_laws.ensures.last_page_counts;
      no_page_less = c.air_laws.ensures.no_page_less;
      in_order = c.air_laws.ensures.in_order;
      one_air = c.air_laws.ensures.one_air;
      renumbering = c.air_laws.ensures.renumbered;
      some_choice = c.air_laws.ensures.some_choice;
      grows = c.air_laws.ensures.grows;
      accepted_entries_are_all = c.legal_histories.ensures.accepted_entries_are_all;
      accepted_are_writes = c.legal_histories.ensures.accepted_are_writes;
      accepted_rise = c.legal_histories.ensures.accepted_rise;
      accepted_have_loads = c.legal_histories.ensures.accepted_have_loads;
      legal_pairs_come_once = c.legal_histories.ensures.legal_pairs_come_once;
      legal_histories_are_bounded = c.legal_histories.ensures.legal_histories_are_bounded;
      legal_answers_are_true = c.legal_histories.ensures.legal_answers_are_true;
      shown_are_the_complete = c.reading_laws.ensures.shown_are_the_complete;
      one_page_shows_one = c.reading_laws.ensures.one_page_shows_one;
      complete_is_whole = c.reading_laws.ensures.complete_is_whole;
      whole_is_the_least_count = c.reading_laws.ensures.whole_is_the_least_count;
      text_is_the_messages = c.reading_laws.ensures.text_is_the_messages;
      made = c.tape_laws.ensures.made;
    } in
    let nowhere : OwnOrdersDifferNowhere =
    own-orders laws c.verification_laws.ensures.own_tapes_differ_nowhere
    c.legal_histories.ensures.legal_answers_are_true in
    let all_kept : OwnOrdersAreKept = kept nowhere in
    record {
      own_orders_differ_nowhere = nowhere;
      own_orders_are_kept = all_kept;
      nothing_is_found = nothing nowhere;
      runs_keep_their_orders = runs-keep all_kept;
      live_runs_keep_their_orders = live-runs-keep all_kept;
      own_orders_are_read_back = read-back c.orders_file_laws.ensures.read_back
          c.legal_histories.ensures.legal_answers_are_true;
    }
