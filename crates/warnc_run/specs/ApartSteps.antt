-- Steps of a run whose cells are run apart (own). The contracts of private functions alone speak of them.
use Rattle.std.specs.Prelude.{◌≡◌, ⊤, ℕ, ◌+◌, ◌/◌, ◌%◌, ◌<◌, min, List, [], length, All, Option, Some, None}
use Rattle.std.specs.Prelude.{Vec}
use Rattle.std.specs.Prelude.{IfSome, slice_index_or}
use Rattle.std.specs.Fork.{slice_chunk}
use Rattle.std.specs.Global.{Global}
use Rattle.alert_book.specs.Book.{Contents}
use Rattle.bsc_table.specs.Record.{Record}
use Rattle.cbsp_wire.specs.declared.message.Cell.{Cell}
use Rattle.book_runs.specs.ServedParts.{IsServedPart, ServedPart}

-- these cells with these records
abbrev pub served_with : List Cell → List Record → ServedPart
served_with cells records = record { cells = cells; records = records }

-- what came of the cells of a part: their records, if there are some
abbrev pub PartRecords : Type 0
PartRecords = Option (Vec Record Global)

abbrev pub records_in : PartRecords → List Record
records_in None = []
records_in (Some records) = records.items

abbrev pub IsSomePart : PartRecords → Type 0
IsSomePart None = ⊥
IsSomePart (Some records) = ⊤

abbrev pub AreSome : List PartRecords → Type 0
AreSome parts = All IsSomePart parts

-- what came of the parts of a book's cells, each of so many but for the last
pub record AreServedParts (book : Contents) (slots size : ℕ) (parts : List PartRecords) : Type 0 where
  pub count : length parts ≡ length book.cells / size + min 1 (length book.cells % size)
  pub each : (n : ℕ) (d : PartRecords) → n < length parts
      → IfSome (slice_index_or parts n d)
      (λ records. IsServedPart book slots (served_with (slice_chunk book.cells size n) records.items))
