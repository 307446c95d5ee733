use Rattle.std.proofs.Common.{sym, subst}
use Rattle.std.proofs.lemmas.List.Elements.{All-filter}
use Rattle.alert_book.specs.Book.{HavePages}
use Rattle.alert_book.specs.Network.{has_cells}
use Rattle.alert_book.specs.NetworkSteps.{RowsKept}
use Rattle.alert_book.specs.SendableSteps.{IsSendable}
use Rattle.alert_book.proofs.KeptLaws.{kept_have}
use Rattle.alert_book.proofs.PageLaws.{pages_length}
use Rattle.alert_book.proofs.network.book_of.Goals as goal

pub invariant_of-result : goal.invariant_of-result
invariant_of-result c =
    let have = subst (λ (k : RowsKept). HavePages k.orders c.args.network.pages.items) (sym c.rows.view_is) c.requires
    in (
      rw c.in_ok-orders.ensures
          (All-filter has_cells IsSendable c.rows.inside.orders.items c.rows.invariant.0),
      pages_length c.in_ok-orders.orders.items c.in_ok-pages.pages.items
          (rw (c.in_ok-orders.ensures, c.in_ok-pages.ensures, c.deref.ensures.value) (kept_have _ _ have)),
    )

pub returns-clause-pages : goal.returns-clause-pages
returns-clause-pages c =
    let have = subst (λ (k : RowsKept). HavePages k.orders c.args.network.pages.items) (sym c.rows.view_is) c.requires
    in
    rw (c.in_ok-orders.ensures, c.in_ok-pages.ensures, c.deref.ensures.value) (kept_have _ _ have)
