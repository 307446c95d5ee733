use Rattle.std.proofs.Common.{subst}
use Rattle.bsc_table.specs.Promised.{IsServed, IsBounded}
use Rattle.bsc_table.specs.Book.{record_of}
use Rattle.bsc_table.proofs.History.Promises.{legal_histories_are_served, legal_histories_are_bounded}
use Rattle.bsc_table.proofs.book.CellBook.clock.Goals as goal

pub returns-clause-served : goal.returns-clause-served
returns-clause-served c =
    subst IsServed c.self.view_is (legal_histories_are_served (record_of c.self.inside) c.self.invariant.legal)

pub returns-clause-bounded : goal.returns-clause-bounded
returns-clause-bounded c =
    subst IsBounded c.self.view_is (legal_histories_are_bounded (record_of c.self.inside) c.self.invariant.legal)
