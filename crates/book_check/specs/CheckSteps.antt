-- Steps of a check (own). The contracts of private functions alone speak of them.
use Rattle.std.specs.Prelude.{◌≡◌, ⊤, ℕ, ◌+◌, ◌==◌, ◌&&◌, ◌<◌, List, [], ◌∷◌, ◌++◌, Option, IfSome, None, Some}
use Rattle.std.specs.Prelude.{count_by, false}
use Rattle.std.specs.Prelude.{if◌then◌else◌, length, nat_le}
use Rattle.csv.specs.Reading.{strip_bom}
use Rattle.alert_book.specs.Judging.{Counted, counted_after, is_past, none_within, IsVerdict}
use Rattle.alert_book.specs.Network.{groups_of}
use Rattle.alert_book.specs.declared.judging.bounds.Bounds.{Bounds}
use Rattle.alert_book.specs.declared.judging.bounds.Extent.{Extent}
use Rattle.alert_book.specs.declared.judging.bounds.Extent.TheVariants as extent
use Rattle.alert_book.specs.declared.judging.Verdict.{Verdict}
use Rattle.alert_book.specs.Extent.{most_octets}
use Rattle.book_check.specs.Checked.{counted_of, AreVerdictsBy, IsCheckedBy}
use Rattle.book_check.specs.Lines.{Stand, at_start, one_if}
use Rattle.book_check.specs.TableSteps.{IsTable}
use Rattle.book_check.specs.Told.{AreVerdicts, header_row, is_told, told_of_row, told_of_rows}
use Rattle.book_check.specs.declared.check.Told.{Told}
use Rattle.book_check.specs.declared.fault.CheckFault.{CheckFault}
use Rattle.book_check.specs.declared.fault.CheckFault.TheVariants as faults

-- why a book isn't read, where a reader had this left
abbrev pub IsReadFault : Bounds → (left : Option (List ℕ)) → CheckFault → Type 0
IsReadFault bound left (faults.Faults count) = ⊥
IsReadFault bound left (faults.NoGroup groups) = ⊥
IsReadFault bound left faults.TooLong = IfSome left (λ input. most_octets bound < length input)
IsReadFault bound left faults.ReadFailed = ⊤
IsReadFault bound left faults.Refused = ⊤
IsReadFault bound left faults.WriteFailed = ⊥

-- how many groups there are where no row has a fault, if the one that is asked for isn't among them
abbrev pub missing : Extent → (count groups : ℕ) → Option ℕ
missing extent.Book count groups = None
missing extent.Network count groups = None
missing (extent.Group group) count groups =
    if (count == 0) && nat_le groups group then Some groups else None

-- one more row was judged and told, which begins on this line
pub record Tells (old new : Counted) (line : ℕ) (fields : List (List ℕ)) (before after : Told) : Type 0 where
  pub verdict : Verdict
  pub is : IsVerdict old fields verdict
  pub next : new ≡ counted_after old fields
  pub counted : after.count ≡ before.count + one_if (is_told verdict)
  pub table : (octets : List ℕ) → IsTable before.table octets → IsTable after.table (octets
      ++ told_of_row (old.rows + 1) line (counted_after old fields) fields verdict)

-- no row is one too many
abbrev pub AreNotPast : Counted → List (List (List ℕ)) → Type 0
AreNotPast before [] = ⊤
AreNotPast before (fields ∷ records) =
    (is_past before fields ≡ false) × AreNotPast (counted_after before fields) records

-- what is told of the rows so far, whatever rows come after them
pub record IsSoFar (bound : Bounds) (text : List ℕ) (seen : List (List (List ℕ))) (stand : Stand) (now : Counted)
    (told : Told) : Type 0 where
  pub verdicts : List Verdict
  pub each : (more : List (List (List ℕ))) (later : List Verdict) → AreVerdicts now more later
      → AreVerdicts (none_within bound) (seen ++ more) (verdicts ++ later)
  pub counted : count_by is_told verdicts ≡ told.count
  pub octets : List ℕ
  pub table : IsTable told.table octets
  pub written : (more : List (List (List ℕ))) (later : List Verdict)
      → octets ++ told_of_rows text stand now more later
      ≡ header_row ++ told_of_rows text (at_start text) (none_within bound) (seen ++ more) (verdicts ++ later)

-- what is told of all rows, after which this counts
pub record IsToldOf (bound : Bounds) (input : List ℕ) (told : Told) (now : Counted) : Type 0 where
  pub verdicts : List Verdict
  pub are : AreVerdictsBy bound input verdicts
  pub counted : count_by is_told verdicts ≡ told.count
  pub table : IsTable told.table (header_row
      ++ told_of_rows (strip_bom input) (at_start (strip_bom input)) (none_within bound) are.records verdicts)
  pub left : counted_of (none_within bound) are.records ≡ now

-- octets were checked, and this many groups has a network that declares the cells that count
pub record IsCheckedWith (bound : Bounds) (input : List ℕ) (count : ℕ) (output : List ℕ) (groups : ℕ) : Type 0 where
  pub is : IsCheckedBy bound input count output
  pub many : groups ≡ groups_of (length (counted_of (none_within bound) is.are.records).known.cells)
