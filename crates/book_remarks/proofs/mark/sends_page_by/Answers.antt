use Rattle.std.proofs.Common.{◌∙◌, sym}
use Rattle.std.proofs.lemmas.Bool.{le-leb}
use Rattle.bsc_table.specs.Book.{air_pairs}
use Rattle.book_remarks.proofs.FirstSends.{none-from, some-from}
use Rattle.book_remarks.proofs.mark.sends_page_by.Goals as goal

pub returns-in-None : goal.returns-in-None
returns-in-None c =
    sym (none-from (air_pairs c.args.air.now) c.args.slot c.args.place c.args.page (sym c.requires ∙ c.in-None.is))

pub returns-then-slot-first : goal.returns-then-slot-first
returns-then-slot-first c =
    le-leb c.args.slot c.in-Some.first c.if-slot-first.true
    ∙ sym (some-from (air_pairs c.args.air.now) c.args.slot c.args.place c.args.page c.in-Some.first
    (sym c.requires ∙ c.in-Some.is) c.if-slot-first.true)
