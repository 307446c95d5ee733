-- What `warnc plan` makes of the octets that it reads: the book that they are or plan, or a fault. Own.
use Rattle.std.specs.Prelude.{◌≡◌, ◌≢◌, ◌⊎◌, ℕ, ◌<◌, ◌≤◌, true, List, [], ◌∷◌, ◌++◌, length, Option}
use Rattle.std.specs.Io.KnownBytes.{Keeps}
use Rattle.std.specs.List.{flat_map}
use Rattle.csv.specs.Writing.{default_writer, row_text, with_flexible}
use Rattle.csv.specs.declared.writer.WriterBuilder.{WriterBuilder}
use Rattle.device_ends.specs.Moves.{AppendsFront}
use Rattle.alert_book.specs.Book.{max_book, Contents, IsBook}
use Rattle.alert_book.specs.Judging.{Counted, counted_after, none_counted, IsVerdict}
use Rattle.alert_book.specs.Row.{verb_of}
use Rattle.alert_book.specs.declared.judging.Verdict.TheVariants as verdict
use Rattle.plan.specs.PlanRow.{planned_rows, text_at}
use Rattle.plan.specs.PlanText.{ArePlanRows}
use Rattle.plan.specs.declared.fault.PlanFault.{PlanFault}
use Rattle.plan.specs.declared.fault.PlanFault.TheVariants as fault
use Rattle.plan.specs.declared.fault.PlanRowFault.{PlanRowFault}
use Rattle.plan.specs.declared.rows.Planned.{Planned}

-- rows as CSV, with commas, quotes where CSV needs them, and LF after each row; rows may differ in length
abbrev pub book_writer : WriterBuilder
book_writer = with_flexible default_writer true

abbrev pub row_line : Planned → List ℕ
row_line planned = row_text book_writer planned.fields

abbrev pub rows_text : List Planned → List ℕ
rows_text rows = flat_map row_line rows

-- octets are a book
abbrev pub IsSomeBook : List ℕ → Type 0
IsSomeBook octets = (book : Contents) × IsBook octets book

-- octets are no book, but as a plan they come to these rows
pub record ArePlanned (input : List ℕ) (rows : List Planned) : Type 0 where
  pub other : IsSomeBook input → ⊥
  pub records : List (List (List ℕ))
  pub read : ArePlanRows input records
  pub made : rows ≡ planned_rows records

-- the output is a book: the input itself, if that is one, and else the one that is planned
pub record IsBookOfPlan (input output : List ℕ) : Type 0 where
  pub rows : List Planned
  pub planned : ArePlanned input rows
  pub written : output ≡ rows_text rows
  pub book : IsSomeBook output

abbrev pub IsPlanOutput : (input output : List ℕ) → Type 0
IsPlanOutput input output = (IsSomeBook input × (output ≡ input)) ⊎ IsBookOfPlan input output

-- rows without a fault, one after the other, where this counts before them
abbrev pub AreRight : Counted → List Planned → Type 0
AreRight before [] = Unit {0}
AreRight before (planned ∷ rows) =
    IsVerdict before planned.fields verdict.Right × AreRight (counted_after before planned.fields) rows

-- what counts after rows
abbrev pub counted_rows : Counted → List Planned → Counted
counted_rows before [] = before
counted_rows before (planned ∷ rows) = counted_rows (counted_after before planned.fields) rows

-- the fault of the first of these rows that has one, with the number of the plan's row
pub record IsFirstFault (rows : List Planned) (f : PlanRowFault) : Type 0 where
  pub front : List Planned
  pub wrong : Planned
  pub after : List Planned
  pub split : rows ≡ front ++ wrong ∷ after
  pub right : AreRight none_counted front
  pub told : f.verdict ≢ verdict.Right
  pub judged : IsVerdict (counted_rows none_counted front) wrong.fields f.verdict
  pub row : f.row ≡ wrong.row
  pub verb : f.verb ≡ verb_of (text_at wrong.fields 0)

-- the planned rows are no book, and this is the fault of the first that has one
pub record IsPlanRowFault (input : List ℕ) (f : PlanRowFault) : Type 0 where
  pub rows : List Planned
  pub planned : ArePlanned input rows
  pub no_book : IsSomeBook (rows_text rows) → ⊥
  pub first : IsFirstFault rows f

-- the input has more octets than a book, or the planned rows have
pub record IsPlannedTooLong (input : List ℕ) : Type 0 where
  pub rows : List Planned
  pub planned : ArePlanned input rows
  pub long : max_book < length (rows_text rows)

abbrev pub IsTooLong : List ℕ → Type 0
IsTooLong input = (max_book < length input) ⊎ IsPlannedTooLong input

-- why nothing is written, out of memory and devices aside; after a fault of the writer a front of the book was written,
-- and after any other fault nothing
abbrev pub IsPlanFault : (input : List ℕ) (old new : Option (List ℕ)) → PlanFault → Type 0
IsPlanFault input old new fault.ReadFailed = Keeps old new
IsPlanFault input old new fault.TooLong = IsTooLong input × Keeps old new
IsPlanFault input old new (fault.Row why) = (length input ≤ max_book) × IsPlanRowFault input why × Keeps old new
IsPlanFault input old new fault.Refused = Keeps old new
IsPlanFault input old new fault.WriteFailed =
    (output : List ℕ) × IsPlanOutput input output × AppendsFront old new output

-- the fault of a failed writer
abbrev pub IsPlanWriteFault : PlanFault → Type 0
IsPlanWriteFault f = f ≡ fault.WriteFailed
