use Rattle.plan.proofs.Books.{decided}
use Rattle.plan.proofs.book.is_book.Goals as goal

pub returns : goal.returns
returns c =
    decided c.check_laws.ensures.clean c.check_laws.ensures.books c.args.octets.now
    c.in_ok-checked.checked.text.items c.in_ok-checked.checked.count c.in_ok-checked.ensures
