-- What `warnc groups` makes of the octets that it reads: the number of a network's groups. Own.
use Rattle.std.specs.Prelude.{◌≡◌, ℕ, List, [], ◌∷◌, ◌++◌, Option}
use Rattle.std.specs.Fmt.{decimal}
use Rattle.std.specs.Io.KnownBytes.{Keeps}
use Rattle.alert_book.specs.Network.{HasGroups, RefusesNetwork}
use Rattle.warnc_run.specs.Made.{MakesFront}
use Rattle.warnc_run.specs.declared.fault.RunFault.TheVariants as run
use Rattle.warnc_run.specs.declared.product.ProductFault.{ProductFault}
use Rattle.warnc_run.specs.declared.product.ProductFault.TheVariants as fault

-- the number in decimal digits, and the end of the line
abbrev pub group_line : (groups : ℕ) → List ℕ
group_line groups = decimal groups ++ 10 ∷ []

-- what is written for the octets that were read: they are a network book of this many groups
abbrev pub IsGroupCount : (input output : List ℕ) → Type 0
IsGroupCount input output = (groups : ℕ) × HasGroups 0 input groups × (output ≡ group_line groups)

-- why the number wasn't written: the network book is refused, or memory ran out, with nothing written; or the writer
-- failed with a front of the line
abbrev pub IsGroupsFault : (first last old new : Option (List ℕ)) → ProductFault → Type 0
IsGroupsFault first last old new (fault.Run (run.Book f)) = RefusesNetwork first last 0 f × Keeps old new
IsGroupsFault first last old new (fault.Run run.Refused) = Keeps old new
IsGroupsFault first last old new (fault.Run other) = ⊥
IsGroupsFault first last old new (fault.Group group f) = ⊥
IsGroupsFault first last old new fault.WriteFailed = MakesFront IsGroupCount first last old new
