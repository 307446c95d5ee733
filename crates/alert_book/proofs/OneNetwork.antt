-- All groups see one network: the same cells, as many groups, and the same fault.
use Rattle.std.proofs.Common.{◌≡◌, ◌∙◌, Result, Ok, Err, length, ap, subst, sym, refl}
use Rattle.alert_book.specs.declared.fault.BookFault.{BookFault}
use Rattle.alert_book.specs.Book.{rows_by, HavePages, Rows}
use Rattle.alert_book.specs.Network.{groups_of, row_in_group, IsNetwork}
use Rattle.alert_book.specs.NetworkLaws.{CountsAreOne, NetworkFaultsAreOne, NetworksAreOne, NetworksAreRight}
use Rattle.alert_book.proofs.BareRows.{bare_are, bare_meaning, bare_result, bare_rows, fault_bare, pages_bare}
use Rattle.alert_book.proofs.BareRows.{records_bare}
use Rattle.alert_book.proofs.OneAnswer.{one_meaning, one_ok}
use Rattle.alert_book.proofs.OneBook.{one_fault, right_rows}

-- a network book has no fault, whichever group reads it
pub networks_are_right : NetworksAreRight
networks_are_right group other input groups f has wrong =
    let network = has.network in
    right_rows bare_meaning input (bare_rows has.rows) network.pages f (bare_are group input has.rows network.meant)
    ((pages_bare has.rows.orders network.pages).0 network.paged) (fault_bare other input f wrong.1)

-- all groups count as many groups
pub counts_are_one : CountsAreOne
counts_are_one group other input groups others one two =
    let same = one_meaning bare_meaning input (bare_rows one.rows) (bare_rows two.rows)
    (bare_are group input one.rows one.network.meant) (bare_are other input two.rows two.network.meant) in
    one.count ∙ ap (λ (r : Rows). groups_of (length r.cells)) same ∙ sym two.count

-- octets have one fault at most, the same for all groups
pub network_faults_are_one : NetworkFaultsAreOne
network_faults_are_one group other input f others one two =
    one_fault bare_meaning input f others (fault_bare group input f one.1) (fault_bare other input others two.1)

-- a result is rows, of which these are the bare ones
pub record HasBare (r : Result Rows BookFault) (bares : Rows) : Type 0 where
  pub rows : Rows
  pub comes : r ≡ Ok rows
  pub same : bare_rows rows ≡ bares

-- where the bare rows are right, the rows are
pub has_bare : (r : Result Rows BookFault) (bares : Rows) → bare_result r ≡ Ok bares → HasBare r bares
has_bare (Ok rows) bares is =
    record { rows = rows; comes = refl; same = one_ok (Ok (bare_rows rows)) (bare_rows rows) bares refl is }
has_bare (Err f) bares is = absurd (cc is)

-- octets that are a network book for one group are one for each, with the same cells
pub networks_are_one : NetworksAreOne
networks_are_one group other input rows network =
    let records = network.meant.records in
    let has = has_bare (rows_by (row_in_group other) records) (bare_rows rows)
    (records_bare other records ∙ sym (records_bare group records) ∙ ap bare_result network.meant.meant) in
    let read : IsNetwork other input has.rows = record {
      bounded = network.bounded;
      meant = record { records = records; read = network.meant.read; meant = has.comes };
      pages = network.pages;
      paged = (pages_bare has.rows.orders network.pages).1
          (subst (λ (r : Rows). HavePages r.orders network.pages) (sym has.same)
          ((pages_bare rows.orders network.pages).0 network.paged));
    } in
    (has.rows, read, ap (λ (r : Rows). r.cells) has.same)
