use Rattle.std.proofs.Common.{◌∙◌, [], refl, string_bytes}
use Rattle.warnc_verdict.proofs.Judged.{judges-of, lags-of, unasked}
use Rattle.warnc_verdict.proofs.verify.table_of.Goals as goal

pub returns-clause-ok : goal.returns-clause-ok
returns-clause-ok g c =
    let recorded = c.in_ok-record_each.ensures.ok in
    judges-of c.args.cell c.args.terms _ c.in_ok-rows.rows.items c.deref.result.now c.record_each.new.taker.tape
    recorded.recordings c.in_ok-table.table.count (string_bytes c.in_ok-table.table.text) c.in_ok-rows.ensures.ok
    c.deref.ensures.value recorded.of_input recorded.of_some c.in_ok-record_each.ensures.whole
    (recorded.taken c.args.cell [] (refl, refl)).1 c.in_ok-table.ensures.verdict

pub returns-clause-lags : goal.returns-clause-lags
returns-clause-lags g c =
    let recorded = c.in_ok-record_each.ensures.ok in
    lags-of c.args.cell c.args.terms _ c.in_ok-rows.rows.items c.deref.result.now c.record_each.new.taker.tape
    recorded.recordings (string_bytes c.in_ok-table.table.lags) c.in_ok-rows.ensures.ok c.deref.ensures.value
    recorded.of_input recorded.of_some (recorded.taken c.args.cell [] (refl, refl)).1 c.in_ok-table.ensures.lags

pub returns-clause-nothing_asked : goal.returns-clause-nothing_asked
returns-clause-nothing_asked g c =
    λ isnt.
    c.in_ok-table.ensures.lags ∙ unasked c.args.terms c.deref.result.now c.record_each.new.taker.tape isnt
