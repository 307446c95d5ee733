-- What a session keeps of the versions that it believes live (own). Contracts of private functions alone speak of it.
use Rattle.std.specs.Prelude.{◌≡◌, ◌≢◌, ◌<◌, ℕ, ◌==◌, ◌&&◌, Bool, true, if◌then◌else◌, Option, Some, None, is_some}
use Rattle.std.specs.Prelude.{List, [], length, slice_index_or}
use Rattle.std.specs.List.{AllPairs, find, position_or_len}
use Rattle.cbsp_wire.specs.declared.message.Cell.{Cell}
use Rattle.cbsp_wire.specs.Range.{is_cell}
use Rattle.alert_book.specs.declared.session.request.CellVersion.{CellVersion}

-- a version is that of a cell; no cell has two
abbrev pub is_of_cell : Cell → CellVersion → Bool
is_of_cell cell one = is_cell cell one.cell

abbrev pub AreApart : List CellVersion → Type 0
AreApart list = AllPairs (λ a b. a.cell ≢ b.cell) list

-- the first version of a cell stands at a place
pub record IsPlaceOf (list : List CellVersion) (cell : Cell) (place : ℕ) : Type 0 where
  pub within : place < length list
  pub first : position_or_len (is_of_cell cell) list ≡ place

abbrev pub version_of : Option CellVersion → Option ℕ
version_of None = None
version_of (Some one) = one.version

-- the version that a list keeps for a cell, and whether there is a place for one
abbrev pub version_in_list : List CellVersion → Cell → Option ℕ
version_in_list list cell = version_of (find (is_of_cell cell) list)

abbrev pub has_cell : List CellVersion → Cell → Bool
has_cell list cell = is_some (find (is_of_cell cell) list)

-- the version that is kept for an alert and a cell, and whether there is a place for one, by the lists of the alerts
abbrev pub kept_version : List (List CellVersion) → (number : ℕ) → Cell → Option ℕ
kept_version lists number cell = version_in_list (slice_index_or lists number []) cell

abbrev pub has_place : List (List CellVersion) → (number : ℕ) → Cell → Bool
has_place lists number cell = has_cell (slice_index_or lists number []) cell

-- each alert has the same list, which has nothing where there is none
abbrev pub HasSameLists : (old new : List (List CellVersion)) → Type 0
HasSameLists old new = (number : ℕ) → slice_index_or new number [] ≡ slice_index_or old number []

-- the same versions are kept, and no place was lost
pub record KeepsVersions (old new : List (List CellVersion)) : Type 0 where
  pub same : (number : ℕ) (cell : Cell) → kept_version new number cell ≡ kept_version old number cell
  pub places : (number : ℕ) (cell : Cell) → has_place old number cell ≡ true → has_place new number cell ≡ true

-- whether a version is that of an alert in a cell
abbrev pub is_version_of : (number : ℕ) → Cell → (n : ℕ) → Cell → Bool
is_version_of number cell n c = (number == n) && (cell.lac == c.lac) && (cell.ci == c.ci)

-- the version of one alert in one cell was set
pub record SetsVersion (old new : List (List CellVersion)) (number : ℕ) (cell : Cell) (version : Option ℕ) : Type 0
  where
    pub kept : (n : ℕ) (c : Cell) → kept_version new n c
        ≡ (if is_version_of number cell n c then version else kept_version old n c)
    pub places : (n : ℕ) (c : Cell) → has_place new n c ≡ has_place old n c
