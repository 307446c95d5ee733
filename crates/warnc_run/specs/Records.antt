-- The run of a book whose records are wanted, and nothing is written. Own.
use Rattle.std.specs.Prelude.{◌≡◌, ℕ, List, Option, None}
use Rattle.std.specs.Io.KnownBytes.{Consumes, IsAtEnd}
use Rattle.alert_book.specs.declared.network.Origin.{Origin}
use Rattle.alert_book.specs.declared.network.Origin.TheVariants as origin
use Rattle.alert_book.specs.Book.{Contents}
use Rattle.alert_book.specs.Network.{MeansNetwork, NetworkRows}
use Rattle.bsc_table.specs.Record.{Record}
use Rattle.device_ends.specs.Stream.{Reads}
use Rattle.device_ends.specs.declared.reading.Source.{Source}
use Rattle.report.specs.declared.row.Columns.TheVariants as columns
use Rattle.warnc_run.specs.Faults.{IsOfProduct, IsRunFault}
use Rattle.warnc_run.specs.Network.{HasNoPart}
use Rattle.warnc_run.specs.Products.{RunOf, untimed}
use Rattle.warnc_run.specs.declared.fault.RunFault.{RunFault}
use Rattle.warnc_run.specs.declared.product.Product.TheVariants as product

-- the octets are this book, or a network book whose group has it, and these are the records of its run with one session
pub record IsRunWith (from : Origin) (slots : ℕ) (input : List ℕ) (book : Contents) (records : List Record) : Type 0
  where
    pub run : RunOf from slots 1 input records
    pub of_book : run.book ≡ book

-- all of the octets were read, and this is their book with the records of its run
pub record HasRunWith (from : Origin) (slots : ℕ) (first last : Option (List ℕ)) (book : Contents)
    (records : List Record) : Type 0
  where
    pub input : List ℕ
    pub read : Consumes first last input
    pub ended : IsAtEnd last
    pub made : IsRunWith from slots input book records

-- a call has read the book's octets from its reader, and this is the book with the records of its run
abbrev pub HasBookAndRecords : {R : Type 0} → (left : R → Option (List ℕ)) → (from : Origin) (slots : ℕ)
    → (first last : Source R) → Contents → List Record → Type 0
HasBookAndRecords left from slots first last book records =
    Reads left (λ old new. HasRunWith from slots old new book records) first last

-- this is the book of a group of the network that octets are, whichever have these rows, and these are the records of
-- its run
abbrev pub IsRunOfGroup : NetworkRows → (group slots : ℕ) → Contents → List Record → Type 0
IsRunOfGroup network group slots book records =
    (input : List ℕ) → MeansNetwork input network → IsRunWith (origin.Group group) slots input book records

-- or why it has none
abbrev pub HasNoRunOfGroup : NetworkRows → (group slots : ℕ) → RunFault → Type 0
HasNoRunOfGroup network group slots f =
    (input : List ℕ) → MeansNetwork input network → HasNoPart slots 1 group input f

-- all of the octets were read, and these are the records of their book's run with one session
pub record HasRunBook (from : Origin) (slots : ℕ) (first last : Option (List ℕ)) (records : List Record) : Type 0 where
  pub input : List ℕ
  pub read : Consumes first last input
  pub ended : IsAtEnd last
  pub made : RunOf from slots 1 input records

-- a call has read the book's octets from its reader, and these are the records
abbrev pub HasRecords : {R : Type 0} → (left : R → Option (List ℕ)) → (from : Origin) (slots : ℕ)
    → (first last : Source R) → List Record → Type 0
HasRecords left from slots first last records = Reads left (λ old new. HasRunBook from slots old new records) first last

-- why there are no records: a fault of the run as for a report
abbrev pub IsRecordsFault : (from : Origin) (slots : ℕ) (first last : Option (List ℕ)) → RunFault → Type 0
IsRecordsFault from slots first last f =
    IsOfProduct f (product.Report (untimed columns.Plain)) × IsRunFault from slots 1 (λ input output. ⊥) first last
    None None f

-- a call has no records, by what its reader had before and after it
abbrev pub HasNoRecords : {R : Type 0} → (left : R → Option (List ℕ)) → (from : Origin) (slots : ℕ)
    → (first last : Source R) → RunFault → Type 0
HasNoRecords left from slots first last f = Reads left (λ old new. IsRecordsFault from slots old new f) first last
