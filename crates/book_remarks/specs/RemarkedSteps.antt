-- Steps of the engine of `check --slots` (own). The contracts of private functions alone speak of them.
use Rattle.std.specs.Prelude.{◌≡◌, ⊤, ℕ, ◌<◌, List, Option, IfSome, length}
use Rattle.std.specs.Io.KnownBytes.{Appends}
use Rattle.device_ends.specs.Moves.{AppendsFront}
use Rattle.alert_book.specs.declared.judging.bounds.Bounds.{Bounds}
use Rattle.alert_book.specs.declared.judging.bounds.Extent.{Extent}
use Rattle.alert_book.specs.declared.judging.bounds.Extent.TheVariants as extent
use Rattle.alert_book.specs.declared.network.Origin.{Origin}
use Rattle.alert_book.specs.declared.network.Origin.TheVariants as origin
use Rattle.alert_book.specs.Extent.{most_octets}
use Rattle.alert_book.specs.Network.{NetworkRows, MeansNetwork}
use Rattle.order_desk.specs.declared.fault.DeskFault.TheVariants as desk
use Rattle.order_desk.specs.declared.settle.SettleFault.TheVariants as settle
use Rattle.warnc_run.specs.declared.fault.RunFault.{RunFault}
use Rattle.warnc_run.specs.declared.fault.RunFault.TheVariants as run
use Rattle.book_check.specs.Checked.{HasFaultsBy, IsCheckedBy, LacksGroup}
use Rattle.book_remarks.specs.Remarked.{AreRemarkedGroups, IsStopped, remarks_count}
use Rattle.book_remarks.specs.RemarksText.{RemarkedGroup, checked_network_text}
use Rattle.book_remarks.specs.TableSteps.{IsTable}
use Rattle.book_remarks.specs.declared.fault.RemarkFault.{RemarkFault}
use Rattle.book_remarks.specs.declared.fault.RemarkFault.TheVariants as faults
use Rattle.book_remarks.specs.declared.table.Table.{Table}
use Rattle.slot_times.specs.declared.start.Start.{Start}

-- why a book isn't read, where a reader had this left
abbrev pub IsReadFault : Bounds → (left : Option (List ℕ)) → RemarkFault → Type 0
IsReadFault bound left faults.TooLong = IfSome left (λ input. most_octets bound < length input)
IsReadFault bound left faults.ReadFailed = ⊤
IsReadFault bound left faults.Refused = ⊤
IsReadFault bound left other = ⊥

-- what a fault of a run comes to: memory ran out, unless the network lacks the group, or it is one of those that no
-- contract excludes
abbrev pub stop_of : RunFault → RemarkFault
stop_of (run.NoGroup groups) = faults.NoGroup groups
stop_of (run.Desk desk.Unknown) = faults.Run (run.Desk desk.Unknown)
stop_of (run.Desk other) = faults.Refused
stop_of (run.Settle settle.Refused) = faults.Refused
stop_of (run.Settle f) = faults.Run (run.Settle f)
stop_of other = faults.Refused

-- what is looked at: a book, or a group of a network book
abbrev pub extent_of : Origin → Extent
extent_of origin.Book = extent.Book
extent_of (origin.Group group) = extent.Group group

-- why a book has no remarks
abbrev pub IsStop : Extent → (slots : ℕ) (input : List ℕ) → RemarkFault → Type 0
IsStop what slots input (faults.NoGroup groups) = LacksGroup what groups input
IsStop what slots input (faults.Run f) = IsStopped what slots input f
IsStop what slots input faults.Refused = ⊤
IsStop what slots input other = ⊥

-- the groups of a network before this one were remarked in a table
pub record AreToldBefore (network : NetworkRows) (slots : ℕ) (start : Option Start) (group count : ℕ) (table : Table) :
    Type 0
  where
    pub each : List RemarkedGroup
    pub as_many : length each ≡ group
    pub remarked : (input : List ℕ) → MeansNetwork input network → AreRemarkedGroups slots input 0 each
    pub counted : remarks_count each ≡ count
    pub told : IsTable table (checked_network_text start each)

-- the table of the faults of a book's rows was written, or a front of it; or memory ran out
abbrev pub IsFaultOfRows : Bounds → (octets : List ℕ) → (old new : Option (List ℕ)) → RemarkFault → Type 0
IsFaultOfRows bound octets old new (faults.Faults count) =
    (output : List ℕ) × HasFaultsBy bound count octets output × Appends old new output
IsFaultOfRows bound octets old new faults.WriteFailed =
    (count : ℕ) × (output : List ℕ) × IsCheckedBy bound octets count output × AppendsFront old new output
IsFaultOfRows bound octets old new faults.Refused = ⊤
IsFaultOfRows bound octets old new other = ⊥
