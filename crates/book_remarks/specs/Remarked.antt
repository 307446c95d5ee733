-- What `warnc check --slots` makes of the octets that it reads: the faults of a book's rows, or if there is none, what
-- is remarked of the book and of its run, and how full its cells get; of a network book that of each group by itself.
-- Own.
use Rattle.std.specs.Prelude.{◌≡◌, ⊤, ◌⊎◌, ℕ, ◌+◌, ◌<◌, Bool, true, false, List, [], ◌∷◌, Option, IfSome, length}
use Rattle.device_ends.specs.Moves.{AppendsFront, WritesOutput}
use Rattle.alert_book.specs.declared.judging.bounds.Extent.{Extent}
use Rattle.alert_book.specs.declared.judging.bounds.Extent.TheVariants as extent
use Rattle.alert_book.specs.declared.network.Origin.{Origin}
use Rattle.alert_book.specs.declared.network.Origin.TheVariants as origin
use Rattle.alert_book.specs.Book.{Contents}
use Rattle.alert_book.specs.Extent.{bounds_of, most_octets}
use Rattle.alert_book.specs.Network.{HasGroups}
use Rattle.alert_book.specs.Origin.{IsBookFrom}
use Rattle.bsc_table.specs.Record.{Record}
use Rattle.book_check.specs.Checked.{HasFaultsBy, IsFrontBy, LacksGroup}
use Rattle.warnc_run.specs.declared.fault.RunFault.{RunFault}
use Rattle.warnc_run.specs.Faults.{StopsRun}
use Rattle.warnc_run.specs.Products.{RunOf}
use Rattle.book_remarks.specs.Remarks.{remarks_in}
use Rattle.book_remarks.specs.RemarksText.{RemarkedGroup, checked_run_text, checked_network_text}
use Rattle.book_remarks.specs.declared.fault.RemarkFault.{RemarkFault}
use Rattle.book_remarks.specs.declared.fault.RemarkFault.TheVariants as faults
use Rattle.book_remarks.specs.declared.remarks.Remark.{Remark}
use Rattle.slot_times.specs.declared.start.Start.{Start}

-- the octets are a book, or a network book whose group has one, with a run of these slots; these are the records of its
-- cells, and all that is remarked
pub record IsRemarkedRun (from : Origin) (slots : ℕ) (input : List ℕ) (all : List Remark)
    (records : List Record) : Type 0
  where
    pub run : RunOf from slots 1 input records
    pub remarked : all ≡ remarks_in run.book.orders records

-- there are this many remarks of it, and this is the table of them and of how full each cell gets, with times if slot 0
-- has one
pub record IsRemarkedFrom (from : Origin) (slots : ℕ) (start : Option Start) (input : List ℕ) (count : ℕ)
    (output : List ℕ) : Type 0
  where
    pub all : List Remark
    pub records : List Record
    pub remarked : IsRemarkedRun from slots input all records
    pub counted : length all ≡ count
    pub written : output ≡ checked_run_text start all records

-- these are the groups of a network book from this number on
abbrev pub AreRemarkedGroups : (slots : ℕ) (input : List ℕ) (group : ℕ) → List RemarkedGroup → Type 0
AreRemarkedGroups slots input group [] = ⊤
AreRemarkedGroups slots input group (one ∷ more) =
    IsRemarkedRun (origin.Group group) slots input one.remarks one.records
    × AreRemarkedGroups slots input (group + 1) more

-- how many remarks there are of groups
abbrev pub remarks_count : List RemarkedGroup → ℕ
remarks_count [] = 0
remarks_count (one ∷ more) = length one.remarks + remarks_count more

-- the octets are a network book; there are this many remarks of all its groups, and this is their table
pub record IsRemarkedNetwork (slots : ℕ) (start : Option Start) (input : List ℕ) (count : ℕ) (output : List ℕ) : Type 0
  where
    pub each : List RemarkedGroup
    pub groups : HasGroups 0 input (length each)
    pub remarked : AreRemarkedGroups slots input 0 each
    pub counted : remarks_count each ≡ count
    pub written : output ≡ checked_network_text start each

-- of what is looked at there are this many remarks, and this is the table
abbrev pub IsRemarked : Extent → (slots : ℕ) (start : Option Start) (input : List ℕ) (count : ℕ) (output : List ℕ)
    → Type 0
IsRemarked extent.Book slots start input count output = IsRemarkedFrom origin.Book slots start input count output
IsRemarked extent.Network slots start input count output = IsRemarkedNetwork slots start input count output
IsRemarked (extent.Group group) slots start input count output =
    IsRemarkedFrom (origin.Group group) slots start input count output

-- there is one at least
abbrev pub HasRemarks : Extent → (slots : ℕ) (start : Option Start) (count : ℕ) → (input output : List ℕ) → Type 0
HasRemarks what slots start count input output = IsRemarked what slots start input count output × (0 < count)

-- what is written where there is no fault: remarks are none of these, unless it is strict
abbrev pub IsRemarkedFor : Extent → (slots : ℕ) (start : Option Start) (strict : Bool) → (input output : List ℕ)
    → Type 0
IsRemarkedFor what slots start false input output = (count : ℕ) × IsRemarked what slots start input count output
IsRemarkedFor what slots start true input output = IsRemarked what slots start input 0 output

-- the octets are a book, or a network book with one for its group, whose run ends early
abbrev pub IsStoppedFrom : Origin → (slots : ℕ) (input : List ℕ) → RunFault → Type 0
IsStoppedFrom from slots input f = (book : Contents) × IsBookFrom from input book × StopsRun book slots 1 f

-- a run of what is looked at ends early
abbrev pub IsStopped : Extent → (slots : ℕ) (input : List ℕ) → RunFault → Type 0
IsStopped extent.Book slots input f = IsStoppedFrom origin.Book slots input f
IsStopped extent.Network slots input f = (group : ℕ) × IsStoppedFrom (origin.Group group) slots input f
IsStopped (extent.Group group) slots input f = IsStoppedFrom (origin.Group group) slots input f

-- a front of the table of some book's remarks was written
pub record IsFrontOfRemarks (what : Extent) (slots : ℕ) (start : Option Start) (left old new : Option (List ℕ)) : Type 0
  where
    pub input : List ℕ
    pub input_is : IfSome left (λ octets. octets ≡ input)
    pub count : ℕ
    pub output : List ℕ
    pub remarked : IsRemarked what slots start input count output
    pub written : AppendsFront old new output

-- why it isn't so that a book has no fault, and no remark if it is strict; `left` is what the reader had, and `old` and
-- `new` are what the writer held before and after. After a fault of the writer a front of the one table or of the other
-- was written
abbrev pub IsRemarkFault : Extent → (slots : ℕ) (start : Option Start) (strict : Bool) (left old new : Option (List ℕ))
    → RemarkFault → Type 0
IsRemarkFault what slots start strict left old new (faults.Faults count) =
    WritesOutput (HasFaultsBy (bounds_of what) count) left old new
IsRemarkFault what slots start strict left old new (faults.NoGroup groups) = IfSome left (LacksGroup what groups)
IsRemarkFault what slots start strict left old new faults.TooLong =
    IfSome left (λ input. most_octets (bounds_of what) < length input)
IsRemarkFault what slots start strict left old new faults.ReadFailed = ⊤
IsRemarkFault what slots start strict left old new (faults.Run f) = IfSome left (λ input. IsStopped what slots input f)
IsRemarkFault what slots start strict left old new (faults.Remarks count) =
    (strict ≡ true) × WritesOutput (HasRemarks what slots start count) left old new
IsRemarkFault what slots start strict left old new faults.Refused = ⊤
IsRemarkFault what slots start strict left old new faults.WriteFailed =
    IsFrontBy (bounds_of what) left old new ⊎ IsFrontOfRemarks what slots start left old new

-- faults with which something may have been written, and those with which all was
abbrev pub HasWritten : RemarkFault → Type 0
HasWritten (faults.Faults count) = ⊤
HasWritten (faults.NoGroup groups) = ⊥
HasWritten faults.TooLong = ⊥
HasWritten faults.ReadFailed = ⊥
HasWritten (faults.Run f) = ⊥
HasWritten (faults.Remarks count) = ⊤
HasWritten faults.Refused = ⊥
HasWritten faults.WriteFailed = ⊤

abbrev pub HasTold : RemarkFault → Type 0
HasTold (faults.Faults count) = ⊤
HasTold (faults.NoGroup groups) = ⊥
HasTold faults.TooLong = ⊥
HasTold faults.ReadFailed = ⊥
HasTold (faults.Run f) = ⊥
HasTold (faults.Remarks count) = ⊤
HasTold faults.Refused = ⊥
HasTold faults.WriteFailed = ⊥
