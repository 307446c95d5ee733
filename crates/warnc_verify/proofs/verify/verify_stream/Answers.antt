use Rattle.std.proofs.Common.{◌≡◌, ◌<◌, Err, length, rules}
use native.Mathlib.Omega.{arith}
use Rattle.warnc_run.proofs.Written.{where_it_is}
use Rattle.warnc_verify.proofs.Tables.{none_found, some_found, text_fault}
use Rattle.warnc_verify.proofs.verify.verify_stream.Goals as goal

pub returns-in_err-write_text-clause-err : goal.returns-in_err-write_text-clause-err
returns-in_err-write_text-clause-err g c =
    let fault = c.in_err-write_text.field-0.0 in
    let is : c.from_residual-in_err-write_text.result ≡ Err fault =
    search (rules, c.from_residual-in_err-write_text.ensures) in
    where_it_is _ c.from_residual-in_err-write_text.result fault is
    (text_fault c.args.origin c.args.slots c.args.pages c.args.layout _ _ _ c.in_ok-table.table.rows.items
    c.in_ok-table.table.text.items c.deref.result.now fault
    c.deref.ensures.value
    c.in_ok-table.ensures.ok c.in_err-write_text.ensures.err)

pub returns-in-0-clause-ok : goal.returns-in-0-clause-ok
returns-in-0-clause-ok g c =
    let none : length c.in_ok-table.table.rows.items ≡ 0 = search (rules, c.len.ensures, c.in-0.is) in
    none_found c.args.origin c.args.slots c.args.pages c.args.layout _ _ _ c.in_ok-table.table.rows.items
    c.in_ok-table.table.text.items c.deref.result.now
    c.deref.ensures.value none
    c.in_ok-table.ensures.ok c.in_ok-write_text.ensures.ok

pub returns-clause-err : goal.returns-clause-err
returns-clause-err g c =
    let many : length c.in_ok-table.table.rows.items ≡ c.len.result = search (rules, c.len.ensures) in
    let some : 0 < c.len.result = search (rules, arith) in
    some_found c.args.origin c.args.slots c.args.pages c.args.layout _ _ _ c.in_ok-table.table.rows.items
    c.in_ok-table.table.text.items c.deref.result.now c.len.result
    c.deref.ensures.value many
    some c.in_ok-table.ensures.ok c.in_ok-write_text.ensures.ok
