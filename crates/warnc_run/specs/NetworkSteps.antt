-- Steps of a network's run (own). The contracts of private functions alone speak of them.
use Rattle.std.specs.Prelude.{◌≡◌, ⊤, ℕ, ◌+◌, ◌*◌, ◌<◌, ◌≤◌, Bool, false, true, List, length, slice_index_or, All}
use Rattle.std.specs.Prelude.{Option, Result, Ok, Err, take}
use Rattle.std.specs.Io.KnownBytes.{Appends}
use Rattle.alert_book.specs.Network.{groups_of, MeansNetwork, NetworkRows}
use Rattle.warnc_run.specs.declared.fault.RunFault.{RunFault}
use Rattle.warnc_run.specs.declared.product.ProductFault.{ProductFault}
use Rattle.warnc_run.specs.declared.product.ProductFault.TheVariants as fault
use Rattle.warnc_run.specs.declared.product.Product.{Product}
use Rattle.warnc_run.specs.declared.product.Product.TheVariants as product
use Rattle.warnc_run.specs.declared.network.NetworkRun.{NetworkRun}
use Rattle.warnc_run.specs.declared.parts.Part.{Part}
use Rattle.warnc_run.specs.declared.parts.Part.TheVariants as parts
use Rattle.warnc_run.specs.Network.{joined_parts, ArePartsFrom, GroupRuns, HasNoPart, IsPartOf}

-- the runs of a network
abbrev pub runs_of : NetworkRun → GroupRuns
runs_of n = record { made = n.made; slots = n.slots; parts = n.sessions.number; groups = n.groups }

-- the octets of a part
abbrev pub octets_of_part : Part → List ℕ
octets_of_part (parts.Tapes tapes) = joined_parts tapes.items
octets_of_part (parts.Text text) = text.items

-- no tape of it is empty
abbrev pub HasNoEmptyTape : Part → Type 0
HasNoEmptyTape (parts.Tapes tapes) = All (λ (tape : List ℕ). 0 < length tape) tapes.items
HasNoEmptyTape (parts.Text text) = ⊤

-- what came of a group is its part, or why it has none
abbrev pub IsMadeOf : GroupRuns → (group : ℕ) (input : List ℕ) → Result Part RunFault → Type 0
IsMadeOf runs group input (Ok part) = IsPartOf runs group input (octets_of_part part) × HasNoEmptyTape part
IsMadeOf runs group input (Err f) = HasNoPart runs.slots runs.parts group input f

-- some octets are a network book that means this
abbrev pub IsRead : NetworkRows → Type 0
IsRead network = (input : List ℕ) × MeansNetwork input network

-- and it has this many groups
abbrev pub AreGroupsOf : NetworkRows → (groups : ℕ) → Type 0
AreGroupsOf network groups = groups ≡ groups_of (length network.cells)

-- what came of a group, whatever the octets are that mean this
pub record IsMadeFor (runs : GroupRuns) (group : ℕ) (network : NetworkRows) (came : Result Part RunFault) : Type 0
  where
    pub made : (input : List ℕ) → MeansNetwork input network → IsMadeOf runs group input came

-- and of the groups from this one on
abbrev pub AreMadeFor : GroupRuns → (group : ℕ) → NetworkRows → List (Result Part RunFault) → Type 0
AreMadeFor runs group network all =
    (i : ℕ) (other : Result Part RunFault) → i < length all
    → IsMadeFor runs (group + i) network (slice_index_or all i other)

-- the parts of this many groups from this one on were written
pub record WritesParts (runs : GroupRuns) (group count : ℕ) (input : List ℕ) (old new : Option (List ℕ)) : Type 0
  where
    pub parts : List (List ℕ)
    pub count_is : length parts ≡ count
    pub each : ArePartsFrom runs input group parts
    pub appended : Appends old new (joined_parts parts)

-- this many of the octets were written, and no more, and not all
abbrev pub WritesFrontOf : List ℕ → (old new : Option (List ℕ)) → Type 0
WritesFrontOf octets old new = (taken : ℕ) × (taken < length octets) × Appends old new (take taken octets)

-- how many groups are run before their parts are written: one for each worker where these are tapes, and eight where
-- they are texts
abbrev pub groups_together : Product → (workers : ℕ) → ℕ
groups_together product.Tapes workers = workers
groups_together other workers = 8 * workers

-- a front of the parts of at most this many was written, and not all of them
pub record WritesPartsFront (runs : GroupRuns) (group most : ℕ) (input : List ℕ) (old new : Option (List ℕ)) : Type
    0
  where
    pub parts : List (List ℕ)
    pub few : length parts ≤ most
    pub each : ArePartsFrom runs input group parts
    pub front : WritesFrontOf (joined_parts parts) old new

-- why not all of this many were written: after some there is one that has no part, or the writer failed
abbrev pub StopsParts : GroupRuns → (group count : ℕ) (input : List ℕ) (old new : Option (List ℕ)) → ProductFault
    → Type 0
StopsParts runs group count input old new (fault.Run f) = ⊥
StopsParts runs group count input old new (fault.Group g f) =
    (done : ℕ) × (g ≡ group + done) × (done < count) × WritesParts runs group done input old new
    × HasNoPart runs.slots runs.parts g input f
StopsParts runs group count input old new fault.WriteFailed = WritesPartsFront runs group count input old new

-- the same, whatever the octets are that mean this
abbrev pub WritesPartsOf : GroupRuns → (group count : ℕ) → NetworkRows → (old new : Option (List ℕ)) → Type 0
WritesPartsOf runs group count network old new =
    (input : List ℕ) → MeansNetwork input network → WritesParts runs group count input old new

abbrev pub StopsPartsOf : GroupRuns → (group count : ℕ) → NetworkRows → (old new : Option (List ℕ)) → ProductFault
    → Type 0
StopsPartsOf runs group count network old new f =
    (input : List ℕ) → MeansNetwork input network → StopsParts runs group count input old new f

-- a fault of the writer
abbrev pub is_of_writer : ProductFault → Bool
is_of_writer (fault.Run f) = false
is_of_writer (fault.Group g f) = false
is_of_writer fault.WriteFailed = true

-- the part that came of a group was written
abbrev pub IsWritten : Result Part RunFault → (old new : Option (List ℕ)) → Type 0
IsWritten (Ok part) old new = Appends old new (octets_of_part part)
IsWritten (Err f) old new = ⊥

-- why it wasn't: there is none, or the writer failed
abbrev pub StopsAt : Result Part RunFault → (group : ℕ) → (old new : Option (List ℕ)) → ProductFault → Type 0
StopsAt made group old new (fault.Run f) = ⊥
StopsAt made group old new (fault.Group g f) = (g ≡ group) × (made ≡ Err f) × (old ≡ new)
StopsAt made group old new fault.WriteFailed =
    (part : Part) × (made ≡ Ok part) × WritesFrontOf (octets_of_part part) old new
