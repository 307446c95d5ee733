use Rattle.std.proofs.Common.{◌≡◌, ◌∙◌, ◌++◌, List, ap₂, length, rules, subst, sym}
use Rattle.alert_book.specs.declared.judging.bounds.Extent.TheVariants as extent
use Rattle.bsc_table.specs.Record.{Record}
use Rattle.book_remarks.proofs.GroupsTold.{one_told}
use Rattle.book_remarks.proofs.RunRecords.{stopped_group}
use Rattle.book_remarks.specs.Remarks.{remarks_in}
use Rattle.book_remarks.specs.RemarkedSteps.{IsStop}
use Rattle.book_remarks.specs.RemarksText.{RemarkedGroup, group_lines, remarked_group}
use Rattle.book_remarks.specs.TableSteps.{IsTable}
use Rattle.book_remarks.specs.declared.remarks.Remark.{Remark}
use Rattle.book_remarks.proofs.check.tell_group.Goals as goal

pub returns-in-Err-clause-err : goal.returns-in-Err-clause-err
returns-in-Err-clause-err g c =
    λ input means. subst (IsStop extent.Network c.args.slots input) (sym c.stop_of.ensures)
    (stopped_group c.args.network.now c.args.group c.args.slots input c.in-Err.fault c.in-Err.ensures.err means)

pub returns-clause-ok : goal.returns-clause-ok
returns-clause-ok g c count before =
    let remarks : List Remark = c.in-Ok-remarks_of.remarks.items in
    let records : List Record = c.in-Ok.ran.records.items in
    let given : c.given.result.now ≡ c.in-Ok.ran.book.orders = search rules in
    let first : c.deref.result.now ≡ records = search rules in
    let again : c.deref-3.result.now ≡ records = search rules in
    let many : c.len.result ≡ length remarks = search rules in
    one_told c.args.network.now c.args.slots c.args.start c.args.group count c.len.result c.in-Ok.ran.book remarks
    records c.args.table.now c.push_group.new.table c.in-Ok.ensures.ok
    (c.in-Ok-remarks_of.ensures ∙ ap₂ remarks_in given first)
    many
    (λ octets table.
    subst (λ (one : RemarkedGroup).
    IsTable c.push_group.new.table (octets ++ group_lines c.args.start c.args.group one))
    (ap₂ remarked_group c.deref-2.ensures.value again) (c.in_ok-push_group.ensures octets table))
    before
