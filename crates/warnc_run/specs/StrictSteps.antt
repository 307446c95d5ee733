-- Steps of a run that is written only if every order was done (own). The contracts of private functions alone speak of
-- them.
use Rattle.std.specs.Prelude.{◌≡◌, ◌≢◌, ℕ, ◌≤◌, List, length, map, All, Option}
use Rattle.alert_book.specs.declared.book.order.Order.{Order}
use Rattle.alert_book.specs.declared.network.Origin.{Origin}
use Rattle.alert_book.specs.Book.{Contents}
use Rattle.asked_orders.specs.Lacks.{lacks_of, no_lacks}
use Rattle.asked_orders.specs.declared.lacks.Lacks.{Lacks}
use Rattle.bsc_table.specs.Record.{Record}
use Rattle.cbch_blocks.specs.RecordBlocks.{tape_of_record}
use Rattle.cbsp_wire.specs.Range.{max_listed}
use Rattle.device_ends.specs.Moves.{AppendsFront}
use Rattle.handset.specs.Tape.{IsTape}
use Rattle.warnc_run.specs.declared.fault.RunFault.{RunFault}
use Rattle.warnc_run.specs.declared.fault.RunFault.TheVariants as run
use Rattle.warnc_run.specs.declared.product.Product.{Product}
use Rattle.warnc_run.specs.declared.product.Product.TheVariants as product
use Rattle.warnc_run.specs.declared.product.ProductFault.{ProductFault}
use Rattle.warnc_run.specs.declared.product.ProductFault.TheVariants as fault
use Rattle.warnc_run.specs.declared.strict.StrictFault.{StrictFault}
use Rattle.warnc_run.specs.declared.strict.StrictFault.TheVariants as strict
use Rattle.warnc_run.specs.Engine.{IsText}
use Rattle.warnc_run.specs.Faults.{IsOfBook, IsOfRun}
use Rattle.warnc_run.specs.Made.{tape_size}
use Rattle.warnc_run.specs.Products.{octets_of, reading_of_record}
use Rattle.warnc_run.specs.RunSteps.{HasItsSize, HaveRunLive, TakesFront}

-- the records of a run of a book in which every order was done
pub record AreDone (book : Contents) (slots parts : ℕ) (records : List Record) : Type 0 where
  pub live : HaveRunLive book slots parts records
  pub done : lacks_of book.orders records ≡ no_lacks

-- in some run of a book so many orders, and at least one, weren't done
pub record HasUndone (book : Contents) (slots parts : ℕ) (lacks : Lacks) : Type 0 where
  pub records : List Record
  pub live : HaveRunLive book slots parts records
  pub counted : lacks_of book.orders records ≡ lacks
  pub some : lacks ≢ no_lacks

-- why there are no such records
abbrev pub IsNotDone : (book : Contents) (slots parts : ℕ) → StrictFault → Type 0
IsNotDone book slots parts (strict.Product (fault.Run f)) = IsOfBook book slots parts f
IsNotDone book slots parts (strict.Product (fault.Group group f)) = ⊥
IsNotDone book slots parts (strict.Product fault.WriteFailed) = ⊥
IsNotDone book slots parts (strict.Undone refused idle) =
    HasUndone book slots parts (record { refused = refused; idle = idle })

-- records of which tapes of so many slots can be made and read
pub record GiveTapes (slots : ℕ) (records : List Record) : Type 0 where
  pub few : length records ≤ max_listed
  pub tapes : All (λ r. IsTape (tape_of_record r) (reading_of_record r)) records
  pub sized : All (λ r. length (tape_of_record r) ≡ tape_size slots) records
  pub own : All HasItsSize records

-- why the tapes of records aren't all written
abbrev pub StopsAtRecord : List Record → (old new : Option (List ℕ)) → RunFault → Type 0
StopsAtRecord records old new (run.Write failed) = TakesFront (map tape_of_record records) failed.written old new
StopsAtRecord records old new other = other ≡ run.Refused

-- why what is made of orders and records isn't all written
abbrev pub StopsAtProduct : Product → (from : Origin) (slots : ℕ) → List Order → List Record
    → (old new : Option (List ℕ)) → ProductFault → Type 0
StopsAtProduct made from slots orders records old new (fault.Run (run.Write failed)) =
    (made ≡ product.Tapes) × TakesFront (map tape_of_record records) failed.written old new
StopsAtProduct made from slots orders records old new (fault.Run other) = IsOfRun other
StopsAtProduct made from slots orders records old new (fault.Group group f) = ⊥
StopsAtProduct made from slots orders records old new fault.WriteFailed =
    IsText made × AppendsFront old new (octets_of made from slots orders records)
