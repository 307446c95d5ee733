-- Some of a book's cells apart from the others (own): their book, what of a run concerns them, and that this is the run
-- of their book.
use Rattle.std.specs.Prelude.{◌≡◌, ℕ, Bool, not, if◌then◌else◌, List, [], ◌∷◌, ◌++◌, filter, map, All}
use Rattle.std.specs.List.{flat_map}
use Rattle.cbsp_wire.specs.declared.message.Cell.{Cell}
use Rattle.cbsp_wire.specs.declared.message.Message.{Message}
use Rattle.cbsp_wire.specs.declared.message.Message.TheVariants as messages
use Rattle.cbsp_wire.specs.Range.{is_nothing}
use Rattle.cbch_blocks.specs.RecordBlocks.{tape_of_record}
use Rattle.alert_book.specs.declared.session.request.Request.{Request}
use Rattle.alert_book.specs.declared.network.Origin.{Origin}
use Rattle.alert_book.specs.Book.{Contents}
use Rattle.alert_book.specs.Origin.{IsBookFrom}
use Rattle.alert_book.specs.Restricted.{Keep, in_part, restricted}
use Rattle.reply_outcome.specs.Replies.{cells_asked}
use Rattle.bsc_table.specs.declared.entry.Answer.{Answer}
use Rattle.bsc_table.specs.Record.{Record}
use Rattle.order_desk.specs.Reply.{reply_message}
use Rattle.book_runs.specs.Run.{Exchange, IsRun}

-- what a message, and a request, asks of these cells
abbrev pub kept_message : Keep → Message → Message
kept_message keep (messages.Write id new old cells channel category period broadcasts dcs contents) =
    messages.Write id new old (filter keep cells) channel category period broadcasts dcs contents
kept_message keep (messages.Kill id old cells channel) = messages.Kill id old (filter keep cells) channel
kept_message keep reply = reply

abbrev pub kept_request : Keep → Request → Request
kept_request keep r = record {
  row = r.row;
  at = r.at;
  number = r.number;
  version = r.version;
  message = kept_message keep r.message;
}

abbrev pub asks_some : Request → Bool
asks_some r = not (is_nothing (cells_asked r.message))

-- the requests that ask some of these cells, each of those alone
abbrev pub kept_requests : Keep → List Request → List Request
kept_requests keep requests = filter asks_some (map (kept_request keep) requests)

-- what came of a turn in these cells, with the reply of these alone
abbrev pub kept_answers : Keep → List (Cell × Answer) → List (Cell × Answer)
kept_answers keep answers = filter (λ a. keep a.0) answers

abbrev pub kept_exchange : Keep → Exchange → Exchange
kept_exchange keep x = record {
  turn = record {
    request = kept_request keep x.turn.request;
    reply = reply_message x.command (kept_answers keep x.answers);
  };
  command = x.command;
  answers = kept_answers keep x.answers;
}

abbrev pub is_of_some : Exchange → Bool
is_of_some x = asks_some x.turn.request

abbrev pub kept_exchanges : Keep → List Exchange → List Exchange
kept_exchanges keep exchanges = filter is_of_some (map (kept_exchange keep) exchanges)

abbrev pub kept_records : Keep → List Record → List Record
kept_records keep records = filter (λ r. keep r.cell) records

-- what concerns some cells of a book's run is a run of their book: the same records, of the same answers
abbrev pub CellsRunApart : Type 0
CellsRunApart = (keep : Keep) (book : Contents) (slots : ℕ) (exchanges : List Exchange) (records : List Record)
    → IsRun book slots exchanges records
    → IsRun (restricted keep book) slots (kept_exchanges keep exchanges) (kept_records keep records)

-- so each run of the book of some cells has of these the records that each run of the whole book has
abbrev pub RecordsAreThoseOfTheWhole : Type 0
RecordsAreThoseOfTheWhole = (keep : Keep) (book : Contents) (slots : ℕ) (exchanges others : List Exchange)
    (records rest : List Record)
    → IsRun book slots exchanges records
    → IsRun (restricted keep book) slots others rest
    → (others ≡ kept_exchanges keep exchanges) × (rest ≡ kept_records keep records)

-- the other cells
abbrev pub leave : Keep → Keep
leave keep cell = not (keep cell)

-- what is of some cells, and what is of the others, in the order of all cells
abbrev pub first_in : {X : Type 0} → List X → List X
first_in [] = []
first_in (x ∷ xs) = x ∷ []

abbrev pub rest_in : {X : Type 0} → List X → List X
rest_in [] = []
rest_in (x ∷ xs) = xs

abbrev pub merged : {X : Type 0} → Keep → List Cell → List X → List X → List X
merged keep [] xs ys = []
merged keep (cell ∷ cells) xs ys =
    first_in (if keep cell then xs else ys)
    ++ merged keep cells (if keep cell then rest_in xs else xs) (if keep cell then ys else rest_in ys)

-- runs of the book of some cells and of the book of the others are a run of the whole book, which has the records of
-- both in the order of its cells
abbrev pub PartsMakeTheWhole : Type 0
PartsMakeTheWhole = (from : Origin) (input : List ℕ) (keep : Keep) (book : Contents) (slots : ℕ)
    (exchanges others : List Exchange) (records rest : List Record)
    → IsBookFrom from input book
    → IsRun (restricted keep book) slots exchanges records
    → IsRun (restricted (leave keep) book) slots others rest
    → (all : List Exchange) × IsRun book slots all (merged keep book.cells records rest)

-- a part of a book's cells, and a run of their book
pub record PartRun : Type 0 where
  pub cells : List Cell
  pub exchanges : List Exchange
  pub records : List Record

abbrev pub IsPartRun : Contents → (slots : ℕ) → PartRun → Type 0
IsPartRun book slots part = IsRun (restricted (in_part part.cells) book) slots part.exchanges part.records

-- runs of the parts of a book, which have its cells one after the other, are a run of the book, which has their records
-- one after the other; and their tapes are its tapes
abbrev pub PartsInARow : Type 0
PartsInARow = (from : Origin) (input : List ℕ) (book : Contents) (slots : ℕ) (parts : List PartRun)
    → IsBookFrom from input book
    → book.cells ≡ flat_map (λ part. part.cells) parts
    → All (IsPartRun book slots) parts
    → (all : List Exchange) × IsRun book slots all (flat_map (λ part. part.records) parts)

abbrev pub TapesInARow : Type 0
TapesInARow = (parts : List PartRun)
    → flat_map tape_of_record (flat_map (λ part. part.records) parts)
    ≡ flat_map (λ part. flat_map tape_of_record part.records) parts
