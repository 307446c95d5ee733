use Rattle.std.proofs.Common.{◌≡◌, ◌∙◌, List, ap₂, rules}
use Rattle.bsc_table.specs.Record.{Record}
use Rattle.book_remarks.specs.Remarks.{remarks_in}
use Rattle.book_remarks.specs.RemarksText.{checked_run_text}
use Rattle.book_remarks.proofs.check.remarked_from.Goals as goal

pub returns-clause-ok : goal.returns-clause-ok
returns-clause-ok g c =
    let ran = c.in_ok-book.ensures.ok in
    let records : List Record = c.in_ok-book.field-0.records.items in
    let given : c.given.result.now ≡ ran.run.book.orders = search (rules, ran.of_book) in
    let first : c.deref.result.now ≡ records = search rules in
    let again : c.deref-3.result.now ≡ records = search rules in
    record {
      all = c.in-Ok.remarks.items;
      records = records;
      remarked = record { run = ran.run; remarked = c.in-Ok.ensures ∙ ap₂ remarks_in given first };
      counted = search rules;
      written = c.in-Ok-run_text_of.ensures ∙ ap₂ (checked_run_text c.args.start) c.deref-2.ensures.value again;
    }
