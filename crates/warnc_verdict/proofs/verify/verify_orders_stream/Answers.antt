use Rattle.std.proofs.Common.{◌≡◌, ◌∙◌, ◌<◌, Err, rules, string_bytes}
use native.Mathlib.Omega.{arith}
use Rattle.warnc_verdict.proofs.Judged.{lags-told, none-written, table-fault, table-written, where_it_is}
use Rattle.warnc_verdict.proofs.verify.verify_orders_stream.Goals as goal

pub returns-in_err-write_table-clause-err : goal.returns-in_err-write_table-clause-err
returns-in_err-write_table-clause-err g c =
    let fault = c.in_err-write_table.field-0.0 in
    let is : c.from_residual-in_err-write_table.result ≡ Err fault =
    search (rules, c.from_residual-in_err-write_table.ensures) in
    where_it_is _ c.from_residual-in_err-write_table.result fault is
    (table-fault c.args.cell c.args.terms _ _ _ c.in_ok-table.table.count (string_bytes c.in_ok-table.table.text)
    c.deref.result.now fault c.deref.ensures c.in_ok-table.ensures.ok c.in_err-write_table.ensures.err)

pub returns-in-0-clause-ok : goal.returns-in-0-clause-ok
returns-in-0-clause-ok g c =
    none-written c.args.cell c.args.terms _ _ _ c.in_ok-table.table.count (string_bytes c.in_ok-table.table.text)
    c.deref.result.now c.deref.ensures c.in-0.is c.in_ok-table.ensures.ok c.in_ok-write_table.ensures.ok

pub returns-clause-err : goal.returns-clause-err
returns-clause-err g c =
    let some : 0 < c.in_ok-table.table.count = search (rules, arith) in (
      table-written c.args.cell c.args.terms _ _ _ c.in_ok-table.table.count (string_bytes c.in_ok-table.table.text)
          c.deref.result.now c.deref.ensures c.in_ok-table.ensures.ok c.in_ok-write_table.ensures.ok,
      some,
    )

pub returns-in-0-clause-lags : goal.returns-in-0-clause-lags
returns-in-0-clause-lags g c =
    lags-told c.args.cell c.args.terms _ _ _ _ (string_bytes c.in_ok-table.table.lags) c.deref-2.result.now
    c.deref-2.ensures c.in_ok-table.ensures.lags c.tell_lags.ensures.told

pub returns-in-0-clause-nothing_asked : goal.returns-in-0-clause-nothing_asked
returns-in-0-clause-nothing_asked g c =
    λ isnt. c.tell_lags.ensures.nothing (c.deref-2.ensures ∙ c.in_ok-table.ensures.nothing_asked isnt)

pub returns-clause-lags_of_differences : goal.returns-clause-lags_of_differences
returns-clause-lags_of_differences g c =
    λ told. lags-told c.args.cell c.args.terms _ _ _ _ (string_bytes c.in_ok-table.table.lags) c.deref-2.result.now
    c.deref-2.ensures c.in_ok-table.ensures.lags c.tell_lags.ensures.told

pub returns-clause-nothing_asked : goal.returns-clause-nothing_asked
returns-clause-nothing_asked g c =
    λ isnt. c.tell_lags.ensures.nothing (c.deref-2.ensures ∙ c.in_ok-table.ensures.nothing_asked isnt)
