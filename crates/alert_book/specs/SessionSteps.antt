-- What a session believes and does (own). Contracts of private functions alone speak of it.
use Rattle.std.specs.Prelude.{◌≡◌, ℕ, Bool, false, true, Option, Some, None, List, [], filter, if◌then◌else◌, map}
use Rattle.std.specs.Prelude.{slice_index_or}
use Rattle.cbs_page.specs.declared.paging.Paged.{Paged}
use Rattle.cbsp_wire.specs.declared.message.Cell.{Cell}
use Rattle.alert_book.specs.declared.session.live_versions.LiveVersions.{LiveVersions}
use Rattle.alert_book.specs.declared.book.order.Order.{Order}
use Rattle.reply_outcome.specs.declared.outcome.Outcome.{Outcome}
use Rattle.alert_book.specs.declared.session.request.CellVersion.{CellVersion}
use Rattle.alert_book.specs.declared.session.request.Request.{Request}
use Rattle.alert_book.specs.Session.{is_of_part, is_version, requests_of, version_after}
use Rattle.reply_outcome.specs.Replies.{cells_asked}
use Rattle.alert_book.specs.VersionSteps.{kept_version}

-- the versions that are believed live, with what the last reply says
abbrev pub live_with : List (List CellVersion) → Option Request → Option Outcome → (number : ℕ) → Cell → Option ℕ
live_with entries None outcome number cell = kept_version entries number cell
live_with entries (Some request) None number cell = kept_version entries number cell
live_with entries (Some request) (Some outcome) number cell =
    version_after request outcome (cells_asked request.message) number cell (kept_version entries number cell)

abbrev pub live_by : LiveVersions → (number : ℕ) → Cell → Option ℕ
live_by live number cell =
    live_with live.versions.now live.sent.now live.outcome.now number cell

-- a cell with the version of an alert that is believed live there; the cells among those found that have a version
abbrev pub cell_version : (live : ℕ → Cell → Option ℕ) → (number : ℕ) → Cell → CellVersion
cell_version live number cell = record { cell = cell; version = live number cell }

abbrev pub cells_found : (version : ℕ) → List CellVersion → List Cell
cells_found version found = map (λ f. f.cell) (filter (λ f. is_version version f.version) found)

-- marks by version: of those without one no cell was found
abbrev pub AreMarked : List Bool → List CellVersion → Type 0
AreMarked marks found = (version : ℕ) → slice_index_or marks version true ≡ false → cells_found version found ≡ []

-- the requests that a row gives, if its order is of this part
abbrev pub requests_in : (live : ℕ → Cell → Option ℕ) → (part parts : ℕ) → Order → Option Paged → List Request
requests_in live part parts order paged =
    if is_of_part part parts (order, paged) then requests_of live order paged else []

-- the versions that are kept are those believed live with what a reply says
abbrev pub AreBelievedWith : (old new : List (List CellVersion)) → Option Request → Option Outcome → Type 0
AreBelievedWith old new sent outcome =
    (number : ℕ) (cell : Cell) → kept_version new number cell ≡ live_with old sent outcome number cell
