-- What `warnc check` makes of the octets that it reads: the faults of all rows of a book, or of a network book. Own.
use Rattle.std.specs.Prelude.{◌≡◌, ⊤, ◌⊎◌, ℕ, ◌<◌, ◌≤◌, List, ◌∷◌, ◌++◌, [], Option, IfSome, None, count_by}
use Rattle.std.specs.Prelude.{length}
use Rattle.std.specs.Prelude.{false, true}
use Rattle.csv.specs.Machine.{next_record}
use Rattle.csv.specs.Reading.{Reached, default_config, strip_bom}
use Rattle.csv.specs.declared.parser.State.{State}
use Rattle.csv.specs.declared.parser.State.TheVariants as st
use Rattle.device_ends.specs.Moves.{AppendsFront, WritesOutput}
use Rattle.alert_book.specs.Extent.{bounds_of, most_octets}
use Rattle.alert_book.specs.Judging.{counted_after, is_past, none_within, Counted}
use Rattle.alert_book.specs.Network.{HasGroups}
use Rattle.alert_book.specs.declared.judging.bounds.Bounds.{Bounds}
use Rattle.alert_book.specs.declared.judging.bounds.Bounds.TheVariants as bounds
use Rattle.alert_book.specs.declared.judging.bounds.Extent.{Extent}
use Rattle.alert_book.specs.declared.judging.bounds.Extent.TheVariants as extent
use Rattle.alert_book.specs.declared.judging.Verdict.{Verdict}
use Rattle.book_check.specs.Lines.{at_start}
use Rattle.book_check.specs.Told.{AreVerdicts, header_row, is_told, told_of_rows}
use Rattle.book_check.specs.declared.fault.CheckFault.{CheckFault}
use Rattle.book_check.specs.declared.fault.CheckFault.TheVariants as faults

-- what counts after rows
abbrev pub counted_of : Counted → List (List (List ℕ)) → Counted
counted_of before [] = before
counted_of before (fields ∷ records) = counted_of (counted_after before fields) records

-- no row is one too many, but for the last
abbrev pub IsUpToPast : Counted → List (List (List ℕ)) → Type 0
IsUpToPast before [] = ⊤
IsUpToPast before (fields ∷ records) =
    (records ≡ []) ⊎ ((is_past before fields ≡ false) × IsUpToPast (counted_after before fields) records)

-- the last row is one too many
abbrev pub EndsPast : Counted → List (List (List ℕ)) → Type 0
EndsPast before [] = ⊥
EndsPast before (fields ∷ records) =
    ((records ≡ []) × (is_past before fields ≡ true)) ⊎ EndsPast (counted_after before fields) records

-- the verdicts of the rows, as CSV reads them: of all, or up to the first that is one too many
pub record AreVerdictsBy (bound : Bounds) (input : List ℕ) (verdicts : List Verdict) : Type 0 where
  pub records : List (List (List ℕ))
  pub state : State
  pub rest : List ℕ
  pub read : Reached default_config st.StartRecord (strip_bom input) records state rest
  pub few : IsUpToPast (none_within bound) records
  pub whole : (next_record default_config state [] [] rest ≡ None) ⊎ EndsPast (none_within bound) records
  pub each : AreVerdicts (none_within bound) records verdicts

-- of a book
abbrev pub AreVerdictsOf : (input : List ℕ) → List Verdict → Type 0
AreVerdictsOf input verdicts = AreVerdictsBy bounds.Book input verdicts

-- the octets were checked: this many rows have a fault, and this is the table of what is told of them
pub record IsCheckedBy (bound : Bounds) (input : List ℕ) (count : ℕ) (output : List ℕ) : Type 0 where
  pub bounded : length input ≤ most_octets bound
  pub verdicts : List Verdict
  pub are : AreVerdictsBy bound input verdicts
  pub counted : count_by is_told verdicts ≡ count
  pub written : output
      ≡ header_row
      ++ told_of_rows (strip_bom input) (at_start (strip_bom input)) (none_within bound) are.records verdicts

-- the octets of a book were
abbrev pub IsChecked : (input : List ℕ) (count : ℕ) (output : List ℕ) → Type 0
IsChecked input count output = IsCheckedBy bounds.Book input count output

-- no row has a fault, and the table has none
abbrev pub IsCleanBy : Bounds → (input output : List ℕ) → Type 0
IsCleanBy bound input output = IsCheckedBy bound input 0 output

abbrev pub IsClean : (input output : List ℕ) → Type 0
IsClean input output = IsCleanBy bounds.Book input output

-- this many have one, and one at least
abbrev pub HasFaultsBy : Bounds → (count : ℕ) → (input output : List ℕ) → Type 0
HasFaultsBy bound count input output = IsCheckedBy bound input count output × (0 < count)

abbrev pub HasFaults : (count : ℕ) → (input output : List ℕ) → Type 0
HasFaults count input output = HasFaultsBy bounds.Book count input output

-- the table of some book's check
pub record IsFrontBy (bound : Bounds) (left old new : Option (List ℕ)) : Type 0 where
  pub input : List ℕ
  pub input_is : IfSome left (λ octets. octets ≡ input)
  pub count : ℕ
  pub output : List ℕ
  pub checked : IsCheckedBy bound input count output
  pub written : AppendsFront old new output

abbrev pub IsFrontOf : (left old new : Option (List ℕ)) → Type 0
IsFrontOf left old new = IsFrontBy bounds.Book left old new

-- the group that is asked for is there, if one is
abbrev pub IsThere : Extent → (input : List ℕ) → Type 0
IsThere extent.Book input = ⊤
IsThere extent.Network input = ⊤
IsThere (extent.Group group) input = (groups : ℕ) × HasGroups group input groups × (group < groups)

-- no row has a fault, and the group is there
abbrev pub IsCleanFor : Extent → (input output : List ℕ) → Type 0
IsCleanFor what input output = IsCleanBy (bounds_of what) input output × IsThere what input

-- the octets are a network book that has this many groups: too few for the one that is asked for
abbrev pub LacksGroup : Extent → (groups : ℕ) → (input : List ℕ) → Type 0
LacksGroup extent.Book groups input = ⊥
LacksGroup extent.Network groups input = ⊥
LacksGroup (extent.Group group) groups input = HasGroups group input groups × (groups ≤ group)

-- why a book is not clean, or nobody knows; `left` is what the reader had, and `old` and `new` are what the writer held
-- before and after. After a fault of the writer a front of the table was written
abbrev pub IsCheckFault : Extent → (left old new : Option (List ℕ)) → CheckFault → Type 0
IsCheckFault what left old new (faults.Faults count) = WritesOutput (HasFaultsBy (bounds_of what) count) left old new
IsCheckFault what left old new (faults.NoGroup groups) = IfSome left (LacksGroup what groups)
IsCheckFault what left old new faults.TooLong = IfSome left (λ input. most_octets (bounds_of what) < length input)
IsCheckFault what left old new faults.ReadFailed = ⊤
IsCheckFault what left old new faults.Refused = ⊤
IsCheckFault what left old new faults.WriteFailed = IsFrontBy (bounds_of what) left old new

-- faults with which something may have been written, and the one with which all was
abbrev pub HasWritten : CheckFault → Type 0
HasWritten (faults.Faults count) = ⊤
HasWritten (faults.NoGroup groups) = ⊥
HasWritten faults.TooLong = ⊥
HasWritten faults.ReadFailed = ⊥
HasWritten faults.Refused = ⊥
HasWritten faults.WriteFailed = ⊤

abbrev pub HasTold : CheckFault → Type 0
HasTold (faults.Faults count) = ⊤
HasTold (faults.NoGroup groups) = ⊥
HasTold faults.TooLong = ⊥
HasTold faults.ReadFailed = ⊥
HasTold faults.Refused = ⊥
HasTold faults.WriteFailed = ⊥
