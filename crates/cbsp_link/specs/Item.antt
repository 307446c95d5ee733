-- What the lists of messages hold. 3GPP TS 48.049, clauses 8.2.6, 8.2.10 and 8.2.11; networks by TS 24.008, 10.5.1.3.
use Rattle.std.specs.Prelude.{ℕ, ◌+◌, ◌*◌, ◌%◌, ◌==◌, if◌then◌else◌, List, [], ◌∷◌, Option, Some, None, Result, Ok, Err}
use Rattle.cbsp_link.specs.declared.fault.LinkFault.{LinkFault}
use Rattle.cbsp_link.specs.declared.fault.LinkFault.TheVariants.{WrongElement}
use Rattle.cbsp_link.specs.declared.iei.TheConstants.{CELL_LIST, BROADCASTS_COMPLETED, FAILURE_LIST}
use Rattle.cbsp_link.specs.declared.items.Naming.{Naming}
use Rattle.cbsp_link.specs.declared.items.Naming.TheVariants as namings
use Rattle.cbsp_link.specs.declared.message.Plmn.{Plmn}
use Rattle.cbsp_link.specs.declared.message.LinkCell.{LinkCell}
use Rattle.cbsp_link.specs.declared.message.LinkCell.TheVariants as cells
use Rattle.cbsp_link.specs.declared.message.LinkCount.{LinkCount}
use Rattle.cbsp_link.specs.declared.message.LinkFailure.{LinkFailure}
use Rattle.cbsp_link.specs.Outcome.{or_wrong}
use Rattle.cbsp_link.specs.Run.{all_of}

-- how cells are named, by the low four bits of the discriminator's octet; the others are spare
abbrev pub naming_of_bits : ℕ → Option Naming
naming_of_bits bits =
    if bits == 0 then Some namings.Global
    else if bits == 1 then Some namings.LacCi
    else if bits == 2 then Some namings.Ci
    else if bits == 3 then Some namings.Nothing
    else if bits == 4 then Some namings.Area
    else if bits == 5 then Some namings.Lac
    else if bits == 6 then Some namings.All
    else None

abbrev pub naming_of : ℕ → Option Naming
naming_of octet = naming_of_bits (octet % 16)

abbrev pub plmn_at : ℕ → ℕ → ℕ → Plmn
plmn_at p q r = record { 0 = p; 1 = q; 2 = r }

-- the number of two octets, the high one first
abbrev pub pair_at : ℕ → ℕ → ℕ
pair_at a b = a * 256 + b

-- what is named without octets
abbrev pub short_cell : Naming → Option LinkCell
short_cell namings.Nothing = Some cells.Nothing
short_cell namings.All = Some cells.All
short_cell naming = None

-- the cell that is named by the octets at the front, and the octets after it
abbrev pub long_cell_at : Naming → List ℕ → Option (LinkCell × List ℕ)
long_cell_at namings.Global (p ∷ q ∷ r ∷ a ∷ b ∷ c ∷ d ∷ rest) =
    Some (cells.Global (plmn_at p q r) (pair_at a b) (pair_at c d), rest)
long_cell_at namings.LacCi (a ∷ b ∷ c ∷ d ∷ rest) = Some (cells.LacCi (pair_at a b) (pair_at c d), rest)
long_cell_at namings.Ci (c ∷ d ∷ rest) = Some (cells.Ci (pair_at c d), rest)
long_cell_at namings.Area (p ∷ q ∷ r ∷ a ∷ b ∷ rest) = Some (cells.Area (plmn_at p q r) (pair_at a b), rest)
long_cell_at namings.Lac (a ∷ b ∷ rest) = Some (cells.Lac (pair_at a b), rest)
long_cell_at naming octets = None

-- what is named either way
abbrev pub or_long_cell : Option LinkCell → Naming → List ℕ → Option (LinkCell × List ℕ)
or_long_cell (Some cell) naming octets = Some (cell, octets)
or_long_cell None naming octets = long_cell_at naming octets

unfoldable pub cell_at : Naming → List ℕ → Option (LinkCell × List ℕ)
cell_at naming octets = or_long_cell (short_cell naming) naming octets

-- an item of the cell list: the cell alone, where it takes octets
abbrev pub cell_item : Naming → ℕ → List ℕ → Result (LinkCell × List ℕ) LinkFault
cell_item naming a octets = or_wrong CELL_LIST (long_cell_at naming (a ∷ octets))

-- an item of the completed list: the cell, the number in two octets, the information
abbrev pub count_after : Option (LinkCell × List ℕ) → Option (LinkCount × List ℕ)
count_after None = None
count_after (Some (cell, high ∷ low ∷ info ∷ rest)) =
    Some (record { cell = cell; number = pair_at high low; info = info }, rest)
count_after (Some (cell, octets)) = None

abbrev pub count_item : Naming → ℕ → List ℕ → Result (LinkCount × List ℕ) LinkFault
count_item naming a octets = or_wrong BROADCASTS_COMPLETED (count_after (cell_at naming (a ∷ octets)))

-- an item of the failure list: a discriminator, the cell, the cause
abbrev pub failure_after : Option (LinkCell × List ℕ) → Option (LinkFailure × List ℕ)
failure_after None = None
failure_after (Some (cell, cause ∷ rest)) = Some (record { cell = cell; cause = cause }, rest)
failure_after (Some (cell, [])) = None

abbrev pub failure_by : Option Naming → List ℕ → Option (LinkFailure × List ℕ)
failure_by None octets = None
failure_by (Some naming) octets = failure_after (cell_at naming octets)

abbrev pub failure_item : ℕ → List ℕ → Result (LinkFailure × List ℕ) LinkFault
failure_item discriminator octets = or_wrong FAILURE_LIST (failure_by (naming_of discriminator) octets)

-- the cells of a list, after its discriminator: what takes no octets is named once, by none
abbrev pub cells_by : Option LinkCell → Naming → List ℕ → Result (List LinkCell) LinkFault
cells_by (Some cell) naming [] = Ok (cell ∷ [])
cells_by (Some cell) naming (a ∷ octets) = Err (WrongElement CELL_LIST)
cells_by None naming octets = all_of (cell_item naming) octets

abbrev pub cells_named : Option Naming → List ℕ → Result (List LinkCell) LinkFault
cells_named None octets = Err (WrongElement CELL_LIST)
cells_named (Some naming) octets = cells_by (short_cell naming) naming octets

abbrev pub counts_named : Option Naming → List ℕ → Result (List LinkCount) LinkFault
counts_named None octets = Err (WrongElement BROADCASTS_COMPLETED)
counts_named (Some naming) octets = all_of (count_item naming) octets

-- the body of a list: two octets of length, the one discriminator if all items share it, and the items
unfoldable pub cells_of_body : List ℕ → Result (List LinkCell) LinkFault
cells_of_body (high ∷ low ∷ discriminator ∷ octets) = cells_named (naming_of discriminator) octets
cells_of_body body = Err (WrongElement CELL_LIST)

unfoldable pub counts_of_body : List ℕ → Result (List LinkCount) LinkFault
counts_of_body (high ∷ low ∷ discriminator ∷ octets) = counts_named (naming_of discriminator) octets
counts_of_body body = Err (WrongElement BROADCASTS_COMPLETED)

unfoldable pub failures_of_body : List ℕ → Result (List LinkFailure) LinkFault
failures_of_body (high ∷ low ∷ octets) = all_of failure_item octets
failures_of_body body = Err (WrongElement FAILURE_LIST)
