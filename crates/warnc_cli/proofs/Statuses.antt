-- Which statuses faults have.
use Rattle.std.proofs.Common.{◌≡◌, ◌⊎◌, ℕ, ap, inl, inr, refl, rules, suc, zero}
use Rattle.alert_book.specs.Book.{fault_at, unread}
use Rattle.alert_book.specs.declared.fault.BookFault.{BookFault}
use Rattle.alert_book.specs.declared.fault.BookFaultKind.{BookFaultKind}
use Rattle.alert_book.specs.declared.fault.BookFaultKind.TheVariants as kinds
use Rattle.cbs_page.specs.declared.paging.TextFault.TheVariants as text
use Rattle.order_desk.specs.declared.fault.DeskFault.{DeskFault}
use Rattle.order_desk.specs.declared.fault.DeskFault.TheVariants as desk
use Rattle.order_desk.specs.declared.settle.SettleFault.{SettleFault}
use Rattle.order_desk.specs.declared.settle.SettleFault.TheVariants as settle
use Rattle.parallel_compile.specs.declared.fault.CompileFault.TheVariants as compile
use Rattle.warnc_run.specs.Faults.{IsWriteFault}
use Rattle.warnc_run.specs.declared.fault.RunFault.{RunFault}
use Rattle.warnc_run.specs.declared.fault.RunFault.TheVariants as run
use Rattle.warnc_cli.specs.Status.{status_of_book_fault, status_of_desk_fault, status_of_run_fault}
use Rattle.warnc_cli.specs.Status.{status_of_settle_fault}

-- a status of 1 or 4
abbrev pub OneOrFour : ℕ → Type 0
OneOrFour status = (status ≡ 1) ⊎ (status ≡ 4)

book_status : (row : ℕ) (kind : BookFaultKind)
    → (fault_at row kind ≡ unread) ⊎ OneOrFour (status_of_book_fault (fault_at row kind))
book_status zero kinds.ReadFailed = inl refl
book_status (suc row) kinds.ReadFailed = inr (inl (search rules))
book_status row kinds.Refused = inr (inr refl)
book_status row (kinds.Text text.Refused) = inr (inr refl)
book_status row (kinds.Text fault) = inr (inl refl)
book_status row kind = inr (inl refl)

-- a fault of the desk is of memory, or of what it holds
pub desk_status : (f : DeskFault) → OneOrFour (status_of_desk_fault f)
desk_status (desk.Memory done) = inr refl
desk_status other = inl refl

-- and so is one of its settlement
pub settle_status : (f : SettleFault) → OneOrFour (status_of_settle_fault f)
settle_status settle.Refused = inr refl
settle_status other = inl refl

-- a fault of a run is that of a book that wasn't read, or the writer's, or has one of these statuses
pub run_kind : (f : RunFault) → (f ≡ run.Book unread) ⊎ (IsWriteFault f ⊎ OneOrFour (status_of_run_fault f))
run_kind (run.Book f) = by_book (book_status f.row f.kind)
  where
    by_book : (f ≡ unread) ⊎ OneOrFour (status_of_book_fault f)
        → (run.Book f ≡ run.Book unread) ⊎ (IsWriteFault (run.Book f) ⊎ OneOrFour (status_of_run_fault (run.Book f)))
    by_book (inl same) = inl (ap (λ (b : BookFault). run.Book b) same)
    by_book (inr other) = inr (inr other)
run_kind (run.NoGroup groups) = inr (inr (inl refl))
run_kind (run.Desk f) = inr (inr (desk_status f))
run_kind (run.Settle f) = inr (inr (settle_status f))
run_kind (run.Compile compile.Refused) = inr (inr (inr refl))
run_kind (run.Compile compile.Workers) = inr (inr (inl refl))
run_kind (run.Compile (compile.Piece index)) = inr (inr (inl refl))
run_kind (run.Write failed) = inr (inl tt)
run_kind run.Refused = inr (inr (inr refl))
