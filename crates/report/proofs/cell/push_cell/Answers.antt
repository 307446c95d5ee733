use Rattle.std.proofs.Common.{◌≡◌, ◌∙◌, ◌++◌, ◌<◌, ℕ, List, Option, length, ap, sym, subst}
use Rattle.std.proofs.lemmas.Result.{on_ok_weaker}
use Rattle.cbsp_wire.specs.declared.message.Cell.{Cell}
use Rattle.bsc_table.specs.declared.entry.Entry.{Entry}
use Rattle.bsc_table.specs.Record.{Record}
use Rattle.handset.specs.declared.messages.Shown.{Shown}
use Rattle.handset.specs.Keeping.{messages_shown}
use Rattle.handset.specs.Reception.{ShownMessage}
use Rattle.report.specs.declared.row.Row.{Row}
use Rattle.report.specs.Rows.{is_shown}
use Rattle.report.specs.RowSteps.{rows_by}
use Rattle.report.proofs.CellRows.{AreNoted, Laws, cell-is}
use Rattle.report.proofs.cell.push_cell.Goals as goal

laws : goal.After-drop-stops-2 → Laws
laws c = record {
  written = c.legal_histories.ensures.accepted_are_writes;
  rise = c.legal_histories.ensures.accepted_rise;
  loads = c.legal_histories.ensures.accepted_have_loads;
  last = c.air_laws.ensures.last_page_counts;
}

noted : (c : goal.After-drop-stops-2) →
    AreNoted c.args.run.now c.in_ok-stops.stops.items c.in_ok-completed.completed.items c.in_ok-firsts.firsts.items
noted c =
    let stops = rw c.log.ensures at c.in_ok-stops.ensures.each in
    let counts = rw (c.log-2.ensures, c.air.ensures) at c.in_ok-completed.ensures.each in
    let firsts = rw (c.log-3.ensures, c.air-2.ensures) at c.in_ok-firsts.ensures.each in
    let long : length c.in_ok-completed.completed.items ≡ length c.args.run.now.log =
    c.in_ok-completed.ensures.places ∙ ap (λ (log : List Entry). length log) c.log-2.ensures in
    record {
      stops_are = stops;
      counts_are = λ place within. counts place (subst (λ (n : ℕ). place < n) (sym long) within);
      firsts_are = firsts;
    }

pub returns : goal.returns
returns c =
    let r : Record = c.args.run.now in
    let shown : List ShownMessage = messages_shown c.args.reading.now.shown.items in
    let stops = c.in_ok-stops.stops.items in
    let counts = c.in_ok-completed.completed.items in
    let firsts = c.in_ok-firsts.firsts.items in
    let ended : r.slots ≡ length r.air =
    sym c.slots-slots.ensures.slots ∙ c.slots-slots.ensures.clock ∙ sym c.slots-slots.ensures.legal.played in
    let same : rows_by c.cell.result c.slots-slots.result shown c.as_slice.result.now c.as_slice-2.result.now
    c.as_slice-3.result.now c.log-4.result.now ≡ rows_by r.cell r.slots shown stops counts firsts r.log =
    ap (λ (x : Cell). rows_by x c.slots-slots.result shown c.as_slice.result.now c.as_slice-2.result.now
    c.as_slice-3.result.now c.log-4.result.now) c.cell.ensures
    ∙ ap (λ (n : ℕ). rows_by r.cell n shown c.as_slice.result.now c.as_slice-2.result.now c.as_slice-3.result.now
    c.log-4.result.now) c.slots-slots.ensures.slots
    ∙ ap (λ (xs : List (Option ℕ)). rows_by r.cell r.slots shown xs c.as_slice-2.result.now c.as_slice-3.result.now
    c.log-4.result.now) c.as_slice.ensures.value
    ∙ ap (λ (xs : List ℕ). rows_by r.cell r.slots shown stops xs c.as_slice-3.result.now c.log-4.result.now)
    c.as_slice-2.ensures.value
    ∙ ap (λ (xs : List (Option ℕ)). rows_by r.cell r.slots shown stops counts xs c.log-4.result.now)
    c.as_slice-3.ensures.value
    ∙ ap (λ (log : List Entry). rows_by r.cell r.slots shown stops counts firsts log) c.log-4.ensures in
    on_ok_weaker c.push_rows.result
    (λ more. more shown
    (λ id serial. c.in_ok-shown.ensures id serial
    ∙ ap (λ (xs : List Shown). is_shown (messages_shown xs) id serial) c.deref.ensures.value)
    ∙ ap (λ (rows : List Row). c.args.rows.now.items ++ rows)
    (same ∙ sym (cell-is (laws c) r shown stops counts firsts c.slots-slots.ensures.legal ended (noted c))))
    c.push_rows.ensures
