-- A book that is served part by part (own): some of its cells each, by a session of a copy of their book.
use Rattle.std.specs.Prelude.{◌≡◌, ℕ, List, [], ◌∷◌, length, All}
use Rattle.std.specs.List.{flat_map}
use Rattle.alert_book.specs.declared.network.Origin.{Origin}
use Rattle.alert_book.specs.Book.{Contents}
use Rattle.alert_book.specs.Origin.{IsBookFrom}
use Rattle.alert_book.specs.Restricted.{IsCopyOf, in_part, restricted}
use Rattle.bsc_table.specs.Record.{Record}
use Rattle.cbsp_wire.specs.declared.message.Cell.{Cell}
use Rattle.book_runs.specs.Live.{IsLiveRun}
use Rattle.book_runs.specs.Run.{Exchange}

-- some of a book's cells, and a record of each
pub record ServedPart : Type 0 where
  pub cells : List Cell
  pub records : List Record

-- the records are those of a run of a copy of their book, which one session served
pub record IsServedPart (book : Contents) (slots : ℕ) (part : ServedPart) : Type 0 where
  pub copy : Contents
  pub is_copy : IsCopyOf (restricted (in_part part.cells) book) copy
  pub sessions : List (List Exchange)
  pub one : length sessions ≡ 1
  pub run : IsLiveRun copy slots sessions part.records

-- parts that have a book's cells one after the other have the records of a run of the book that one session serves
abbrev pub ServedPartsInARow : Type 0
ServedPartsInARow = (from : Origin) (input : List ℕ) (book : Contents) (slots : ℕ) (parts : List ServedPart)
    → IsBookFrom from input book
    → book.cells ≡ flat_map (λ part. part.cells) parts
    → All (IsServedPart book slots) parts
    → (all : List Exchange) × IsLiveRun book slots (all ∷ []) (flat_map (λ part. part.records) parts)
