use Rattle.std.proofs.Common.{List, [], ◌∷◌, ◌++◌, sym, subst}
use Rattle.std.specs.List.{AllZip}
use Rattle.std.proofs.lemmas.List.Elements.{AllZip-push}
use Rattle.bsc_table.specs.Record.{Record}
use Rattle.order_desk.specs.Settled.{IsPlayedOut}
use Rattle.session_check.proofs.alone.records_of.Goals as goal

pub loop-book-preserved : goal.loop-book-preserved
loop-book-preserved c =
    subst (λ (records : List Record). AllZip IsPlayedOut (c.loop-book.yielded ++ c.in-Some.book ∷ []) records)
    (sym c.in_ok-push.ensures.items)
    (AllZip-push IsPlayedOut c.loop-book.yielded c.loop-book.records.items c.in-Some.book c.played_out.result
    c.loop-book.invariant c.played_out.ensures)
