-- What the engine of all commands over a book promises: by which books are run, and by what is made of them. Own.
use Rattle.std.specs.Prelude.{◌≡◌, ◌↔◌, ⊤, ℕ, List, Option, Result, IfErr, IsErrOf, IsTrue, OnOk, true, false}
use Rattle.std.specs.Io.KnownBytes.{Keeps}
use Rattle.device_ends.specs.Sink.{sink_failed, writer_of}
use Rattle.device_ends.specs.Source.{source_failed}
use Rattle.device_ends.specs.declared.reading.Source.{Source}
use Rattle.device_ends.specs.declared.writing.Sink.{Sink}
use Rattle.alert_book.specs.Book.{unread}
use Rattle.warnc_run.specs.declared.fault.RunFault.TheVariants as run
use Rattle.warnc_run.specs.declared.run.Books.{Books}
use Rattle.warnc_run.specs.declared.run.Books.TheVariants as books
use Rattle.warnc_run.specs.declared.product.Product.{Product}
use Rattle.warnc_run.specs.declared.product.Product.TheVariants as product
use Rattle.warnc_run.specs.declared.product.ProductFault.{ProductFault}
use Rattle.warnc_run.specs.declared.product.ProductFault.TheVariants as fault
use Rattle.warnc_run.specs.declared.run.Run.{Run}
use Rattle.warnc_run.specs.Faults.{IsOfProduct, IsPieceFault, IsRunFault, IsWriteFault}
use Rattle.warnc_run.specs.Made.{MakesFront}
use Rattle.warnc_run.specs.Network.{IsNetworkFault, IsOfNetwork}
use Rattle.warnc_run.specs.Products.{IsOutput}

-- what is written for the octets that were read
abbrev pub IsProductOf : Product → Books → (slots sessions : ℕ) (input output : List ℕ) → Type 0
IsProductOf made (books.One from) slots sessions = IsOutput made from slots sessions
IsProductOf made books.EachGroup slots sessions = IsOfNetwork made slots sessions

-- what a run writes for the octets that were read
abbrev pub IsMadeBy : Run → Product → (input output : List ℕ) → Type 0
IsMadeBy r made = IsProductOf made r.books r.slots r.sessions.number

-- it is a text, and no tapes
abbrev pub IsText : Product → Type 0
IsText product.Tapes = ⊥
IsText other = ⊤

-- why not all of a text was written: the writer failed with a front of it
abbrev pub IsOutputFault : Product → Books → (slots sessions : ℕ) (first last old new : Option (List ℕ)) → ProductFault
    → Type 0
IsOutputFault made (books.One from) slots sessions first last old new (fault.Run f) =
    IsOfProduct f made × IsRunFault from slots sessions (IsOutput made from slots sessions) first last old new f
IsOutputFault made (books.One from) slots sessions first last old new (fault.Group group f) = ⊥
IsOutputFault made (books.One from) slots sessions first last old new fault.WriteFailed =
    IsText made × MakesFront (IsOutput made from slots sessions) first last old new
IsOutputFault made books.EachGroup slots sessions first last old new f =
    IsNetworkFault made slots sessions first last old new f

-- why a run didn't write all of it
abbrev pub IsUnmadeBy : Run → Product → (first last old new : Option (List ℕ)) → ProductFault → Type 0
IsUnmadeBy r made = IsOutputFault made r.books r.slots r.sessions.number

-- a fault of the writer
abbrev pub IsOfWriter : ProductFault → Type 0
IsOfWriter (fault.Run f) = IsWriteFault f
IsOfWriter (fault.Group group f) = ⊥
IsOfWriter fault.WriteFailed = ⊤

-- a fault of several workers: a tape of the book's cells isn't that of its record
abbrev pub IsOfPiece : ProductFault → Type 0
IsOfPiece (fault.Run f) = IsPieceFault f
IsOfPiece (fault.Group group f) = ⊥
IsOfPiece fault.WriteFailed = ⊥

-- a fault with which something may be written: the writer's, or that of a group, whose network's first groups were
abbrev pub MayBeWritten : ProductFault → Type 0
MayBeWritten (fault.Run f) = IsWriteFault f
MayBeWritten (fault.Group group f) = ⊤
MayBeWritten fault.WriteFailed = ⊤

-- what is so of it at any reader and any writer
pub record IsEngineAtEnds {R W : Type 0} (result : Result (Unit {0}) ProductFault) (held : W → Option (List ℕ))
    (first last : Source R) (old new : Sink W) : Type 0 where
  -- what is done left a sink that has not failed
  pub not_failed : OnOk result (sink_failed new ≡ false)
  -- nothing is written with most faults, nor is the sink touched
  pub nothing_written : IfErr result (λ f. (MayBeWritten f → ⊥) → Keeps (held (writer_of old)) (held (writer_of new)))
  pub untouched : IfErr result (λ f. (MayBeWritten f → ⊥) → new ≡ old)
  -- a failed reader is reported exactly if the source has failed
  pub read : IsErrOf result (fault.Run (run.Book unread)) ↔ IsTrue (source_failed last)
  -- a failed writer is reported only if the sink has failed, and no other fault has it fail
  pub write : IfErr result (λ f. IsOfWriter f → sink_failed new ≡ true)
  pub others : IfErr result (λ f. (IsOfWriter f → ⊥) → sink_failed new ≡ sink_failed old)
  -- an end that had failed before is as it was
  pub source_stays : source_failed first ≡ true → last ≡ first
  pub sink_stays : sink_failed old ≡ true → new ≡ old
