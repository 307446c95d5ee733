use Rattle.std.proofs.Common.{◌∙◌, ap, length, sym}
use Rattle.alert_book.specs.Judging.{Counted}
use Rattle.alert_book.specs.Network.{groups_of}
use Rattle.book_check.proofs.check.table_within.Goals as goal

pub returns : goal.returns
returns c =
    let told = c.in_ok-told.ensures in
    record {
      is = record {
        bounded = c.requires;
        verdicts = told.verdicts;
        are = told.are;
        counted = told.counted;
        written = c.in_ok-text.ensures _ told.table;
      };
      many = c.groups.ensures ∙ ap (λ (j : Counted). groups_of (length j.known.cells)) (sym told.left);
    }
