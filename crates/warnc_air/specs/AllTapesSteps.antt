-- Steps of `warnc tape --all`. Contracts of private functions alone speak of them.
use Rattle.std.specs.Prelude.{◌≡◌, ◌≢◌, ⊤, ℕ, ◌+◌, List, Option}
use Rattle.gsmtap.specs.TapesOfCapture.{IsTapesFault}
use Rattle.gsmtap.specs.declared.fault.AirFaultKind.TheVariants as kind
use Rattle.gsmtap.specs.declared.tape.Wanted.{Wanted}
use Rattle.gsmtap.specs.declared.tapes.TapesFault.TheVariants as tapes
use Rattle.warnc_air.specs.AllTapes.{HadMore, ReadsWith, RefusesTable}
use Rattle.warnc_air.specs.CellTable.{max_table}
use Rattle.warnc_air.specs.declared.all.AllTapesFault.{AllTapesFault}
use Rattle.warnc_air.specs.declared.all.AllTapesFault.TheVariants as faults

-- a reader gave these octets, and no more
abbrev pub ReadsOctets : (most : ℕ) (octets : List ℕ) → (old new : Option (List ℕ)) → Type 0
ReadsOctets most octets old new = ReadsWith most (λ read. read ≡ octets) old new

-- why no cells come of a table that is read
abbrev pub IsTableReadingFault : (old new : Option (List ℕ)) → AllTapesFault → Type 0
IsTableReadingFault old new faults.TableReadFailed = ⊤
IsTableReadingFault old new faults.TableTooLong = HadMore max_table old
IsTableReadingFault old new (faults.Table why) = RefusesTable why old new
IsTableReadingFault old new faults.Refused = ⊤
IsTableReadingFault old new other = ⊥

-- why the octets of a capture haven't these tapes
abbrev pub IsMakingFault : List Wanted → (capture : List ℕ) → AllTapesFault → Type 0
IsMakingFault wanted capture (faults.Air why) =
    IsTapesFault wanted capture (tapes.Air why) × (why.kind ≢ kind.Refused)
IsMakingFault wanted capture (faults.NoBlock row) =
    (place : ℕ) × IsTapesFault wanted capture (tapes.NoBlock place) × (row ≡ place + 2)
IsMakingFault wanted capture faults.Refused = ⊤
IsMakingFault wanted capture other = ⊥
