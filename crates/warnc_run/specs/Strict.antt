-- What is made of a book's run only if every order was done. Own.
use Rattle.std.specs.Prelude.{◌≡◌, ◌≢◌, ℕ, List, Option}
use Rattle.std.specs.Io.KnownBytes.{Consumes, IsAtEnd, Keeps}
use Rattle.alert_book.specs.declared.network.Origin.{Origin}
use Rattle.alert_book.specs.Book.{unread}
use Rattle.asked_orders.specs.Lacks.{lacks_of, no_lacks}
use Rattle.asked_orders.specs.declared.lacks.Lacks.{Lacks}
use Rattle.bsc_table.specs.Record.{Record}
use Rattle.warnc_run.specs.declared.fault.RunFault.TheVariants as run
use Rattle.warnc_run.specs.declared.product.Product.{Product}
use Rattle.warnc_run.specs.declared.product.ProductFault.TheVariants as fault
use Rattle.warnc_run.specs.declared.run.BookRun.{BookRun}
use Rattle.warnc_run.specs.declared.strict.StrictFault.{StrictFault}
use Rattle.warnc_run.specs.declared.strict.StrictFault.TheVariants as strict
use Rattle.warnc_run.specs.Engine.{IsOfWriter, IsText}
use Rattle.warnc_run.specs.Faults.{IsOfProduct, IsPieceFault, IsRunFault}
use Rattle.warnc_run.specs.Made.{MakesFront}
use Rattle.warnc_run.specs.Products.{IsOutput, RunOf}

-- what is written for the octets that were read: what is made of a run in which no cell refused an order, and each
-- order asked some cell
pub record IsStrictOutput (made : Product) (from : Origin) (slots parts : ℕ) (input output : List ℕ) : Type 0 where
  pub is_output : IsOutput made from slots parts input output
  pub done : lacks_of is_output.run.book.orders is_output.records ≡ no_lacks

-- all of the octets were read, and in a run of their book so many orders, and at least one, weren't done
pub record HasLacks (from : Origin) (slots parts : ℕ) (lacks : Lacks) (first last : Option (List ℕ)) : Type 0 where
  pub input : List ℕ
  pub read : Consumes first last input
  pub ended : IsAtEnd last
  pub records : List Record
  pub run : RunOf from slots parts input records
  pub counted : lacks_of run.book.orders records ≡ lacks
  pub some : lacks ≢ no_lacks

-- why nothing, or not all, was written: as without a wish for all orders to be done; or some weren't, and nothing was
abbrev pub IsStrictFault : Product → (from : Origin) (slots parts : ℕ) (first last old new : Option (List ℕ))
    → StrictFault → Type 0
IsStrictFault made from slots parts first last old new (strict.Product (fault.Run f)) =
    IsOfProduct f made × IsRunFault from slots parts (IsStrictOutput made from slots parts) first last old new f
IsStrictFault made from slots parts first last old new (strict.Product (fault.Group group f)) = ⊥
IsStrictFault made from slots parts first last old new (strict.Product fault.WriteFailed) =
    IsText made × MakesFront (IsStrictOutput made from slots parts) first last old new
IsStrictFault made from slots parts first last old new (strict.Undone refused idle) =
    HasLacks from slots parts (record { refused = refused; idle = idle }) first last × Keeps old new

-- what a run of one book writes strictly for the octets that were read, and why it doesn't
abbrev pub IsStrictlyMadeBy : BookRun → Product → (input output : List ℕ) → Type 0
IsStrictlyMadeBy r made = IsStrictOutput made r.origin r.slots r.sessions.number

abbrev pub IsStrictlyUnmadeBy : BookRun → Product → (first last old new : Option (List ℕ)) → StrictFault → Type 0
IsStrictlyUnmadeBy r made = IsStrictFault made r.origin r.slots r.sessions.number

-- the reader failed
abbrev pub strictly_unread : StrictFault
strictly_unread = strict.Product (fault.Run (run.Book unread))

-- a fault of the writer
abbrev pub IsStrictlyOfWriter : StrictFault → Type 0
IsStrictlyOfWriter (strict.Product f) = IsOfWriter f
IsStrictlyOfWriter (strict.Undone refused idle) = ⊥

-- a fault of several workers' pages: none has one
abbrev pub IsStrictlyOfPiece : StrictFault → Type 0
IsStrictlyOfPiece (strict.Product (fault.Run f)) = IsPieceFault f
IsStrictlyOfPiece (strict.Product (fault.Group group f)) = ⊥
IsStrictlyOfPiece (strict.Product fault.WriteFailed) = ⊥
IsStrictlyOfPiece (strict.Undone refused idle) = ⊥
