-- What a session asked of a cell, with the numbers that its pass noted: the pass's entries are of it.
use Rattle.std.proofs.Common.{◌≡◌, ℕ, ◌<◌, ◌≤◌, ◌||◌, Bool, true, false, cond, List, [], ◌∷◌, length}
use Rattle.std.proofs.Common.{filter, map, refl, ap, sym, ◌∙◌, arith}
use Rattle.std.specs.List.{AllZip, list_any}
use Rattle.std.proofs.lemmas.Bool.{false≢true, or_parts}
use Rattle.cbsp_wire.specs.declared.message.Cell.{Cell}
use Rattle.cbsp_wire.specs.Range.{is_cell}
use Rattle.bsc_table.specs.declared.entry.Entry.{Entry}
use Rattle.bsc_table.specs.Record.{Record}
use Rattle.order_desk.specs.declared.note.Note.{Note}
use Rattle.order_desk.specs.declared.note.Note.TheVariants as notes
use Rattle.order_desk.specs.Agreement.{is_full_of}
use Rattle.book_runs.specs.Run.{Asked}
use Rattle.book_runs.specs.Sessions.{IsNoteOf, slot_in}
use Rattle.cbsp_wire.proofs.CellLists.{same_cell}
use Rattle.book_runs.proofs.Events.{events_of}

-- what a cell was asked, each with the number that its note has
abbrev pub numbered : Cell → List (Cell × Asked) → List Note → List (ℕ × Asked)
numbered cell [] list = []
numbered cell (ask ∷ asks) [] = []
numbered cell (ask ∷ asks) (notes.Event c number entry ∷ later) =
    cond (is_cell cell c) ((number, ask.1) ∷ numbered cell asks later) (numbered cell asks later)
numbered cell (ask ∷ asks) (notes.Played c from to ∷ later) = numbered cell asks later
numbered cell (ask ∷ asks) (notes.Full c ∷ later) = numbered cell asks later

-- the cell's entries are those of what it was asked
abbrev pub noted_entry : List Record → Cell → ℕ × Asked → Entry
noted_entry records cell x = record {
  command = x.1.command;
  slot = slot_in records cell x.0 x.1.at;
  answer = x.1.answer;
}

-- the events that a pass noted of a cell are those of the cell's numbered commands
pub events_are : (records : List Record) (cell : Cell) (asks : List (Cell × Asked)) (list : List Note)
    → AllZip (IsNoteOf records) asks list
    → events_of cell list ≡ map (λ x. (x.0, noted_entry records cell x)) (numbered cell asks list)
events_are records cell [] [] zip = refl
events_are records cell [] (note ∷ later) zip = absurd zip
events_are records cell (ask ∷ asks) [] zip = absurd zip
events_are records cell (ask ∷ asks) (notes.Event c number entry ∷ later) zip =
    by_cell (is_cell cell c) refl (events_are records cell asks later zip.1)
  where
    made : List (ℕ × Asked) → List (ℕ × Entry)
    made items = map (λ x. (x.0, noted_entry records cell x)) items

    by_cell : (own : Bool) → is_cell cell c ≡ own
        → events_of cell later ≡ map (λ x. (x.0, noted_entry records cell x)) (numbered cell asks later)
        → cond own ((number, entry) ∷ events_of cell later) (events_of cell later)
        ≡ map (λ x. (x.0, noted_entry records cell x))
        (cond own ((number, ask.1) ∷ numbered cell asks later) (numbered cell asks later))
    by_cell true own rest =
        let is : entry ≡ noted_entry records cell (number, ask.1) =
        zip.0.1 ∙ ap (λ (d : Cell). noted_entry records d (number, ask.1)) (sym (same_cell cell c own)) in
        ap (λ (e : Entry). (number, e) ∷ events_of cell later) is
        ∙ ap (λ more. (number, noted_entry records cell (number, ask.1)) ∷ more) rest
    by_cell false other rest = rest
events_are records cell (ask ∷ asks) (notes.Played c from to ∷ later) zip = absurd zip.0
events_are records cell (ask ∷ asks) (notes.Full c ∷ later) zip = events_are records cell asks later zip.1

-- they are at most what the cell was asked, and all of it where no note says that its log was full
abbrev pub asks_of_cell : Cell → List (Cell × Asked) → List (Cell × Asked)
asks_of_cell cell asks = filter (λ a. is_cell cell a.0) asks

-- at most as many commands of a cell are numbered as it was asked
pub numbered_few : (records : List Record) (cell : Cell) (asks : List (Cell × Asked)) (list : List Note)
    → AllZip (IsNoteOf records) asks list
    → length (numbered cell asks list) ≤ length (asks_of_cell cell asks)
numbered_few records cell [] list zip = omega arith
numbered_few records cell (ask ∷ asks) [] zip = omega arith
numbered_few records cell (ask ∷ asks) (notes.Event c number entry ∷ later) zip =
    by_cell (is_cell cell c) (is_cell cell ask.0) (ap (is_cell cell) zip.0.0)
    (numbered_few records cell asks later zip.1)
  where
    by_cell : (a b : Bool) → a ≡ b → length (numbered cell asks later) ≤ length (asks_of_cell cell asks)
        → length (cond a ((number, ask.1) ∷ numbered cell asks later) (numbered cell asks later))
        ≤ length (cond b (ask ∷ asks_of_cell cell asks) (asks_of_cell cell asks))
    by_cell true true same rest = omega (arith, rest)
    by_cell true false same rest = absurd (cc)
    by_cell false true same rest = absurd (cc)
    by_cell false false same rest = rest
numbered_few records cell (ask ∷ asks) (notes.Played c from to ∷ later) zip = absurd zip.0
numbered_few records cell (ask ∷ asks) (notes.Full c ∷ later) zip =
    more (is_cell cell ask.0) (numbered_few records cell asks later zip.1)
  where
    more : (b : Bool) → length (numbered cell asks later) ≤ length (asks_of_cell cell asks)
        → length (numbered cell asks later)
        ≤ length (cond b (ask ∷ asks_of_cell cell asks) (asks_of_cell cell asks))
    more true rest = omega (arith, rest)
    more false rest = rest

-- and fewer, if a note says that the log is full
pub numbered_fewer : (records : List Record) (cell : Cell) (asks : List (Cell × Asked)) (list : List Note)
    → AllZip (IsNoteOf records) asks list → list_any (is_full_of cell) list ≡ true
    → length (numbered cell asks list) < length (asks_of_cell cell asks)
numbered_fewer records cell [] [] zip full = absurd (false≢true full)
numbered_fewer records cell [] (note ∷ later) zip full = absurd zip
numbered_fewer records cell (ask ∷ asks) [] zip full = absurd zip
numbered_fewer records cell (ask ∷ asks) (notes.Event c number entry ∷ later) zip full =
    by_cell (is_cell cell c) (is_cell cell ask.0) (ap (is_cell cell) zip.0.0)
    (numbered_fewer records cell asks later zip.1 full)
  where
    by_cell : (a b : Bool) → a ≡ b → length (numbered cell asks later) < length (asks_of_cell cell asks)
        → length (cond a ((number, ask.1) ∷ numbered cell asks later) (numbered cell asks later))
        < length (cond b (ask ∷ asks_of_cell cell asks) (asks_of_cell cell asks))
    by_cell true true same rest = omega (arith, rest)
    by_cell true false same rest = absurd (cc)
    by_cell false true same rest = absurd (cc)
    by_cell false false same rest = rest
numbered_fewer records cell (ask ∷ asks) (notes.Played c from to ∷ later) zip full = absurd zip.0
numbered_fewer records cell (ask ∷ asks) (notes.Full c ∷ later) zip full =
    by_cell (is_cell cell c) (is_cell cell ask.0) (ap (is_cell cell) zip.0.0) full
    (numbered_few records cell asks later zip.1) (numbered_fewer records cell asks later zip.1)
  where
    by_cell : (a b : Bool) → a ≡ b → (a || list_any (is_full_of cell) later) ≡ true
        → length (numbered cell asks later) ≤ length (asks_of_cell cell asks)
        → (list_any (is_full_of cell) later ≡ true
        → length (numbered cell asks later) < length (asks_of_cell cell asks))
        → length (numbered cell asks later)
        < length (cond b (ask ∷ asks_of_cell cell asks) (asks_of_cell cell asks))
    by_cell true true same here few fewer = omega (arith, few)
    by_cell true false same here few fewer = absurd (cc)
    by_cell false true same here few fewer = omega (arith, few)
    by_cell false false same here few fewer = fewer here

-- if no note says that the log is full, all commands of the cell are numbered
pub numbered_all : (records : List Record) (cell : Cell) (asks : List (Cell × Asked)) (list : List Note)
    → AllZip (IsNoteOf records) asks list → list_any (is_full_of cell) list ≡ false
    → map (λ x. x.1) (numbered cell asks list) ≡ map (λ a. a.1) (asks_of_cell cell asks)
numbered_all records cell [] list zip room = refl
numbered_all records cell (ask ∷ asks) [] zip room = absurd zip
numbered_all records cell (ask ∷ asks) (notes.Event c number entry ∷ later) zip room =
    by_cell (is_cell cell c) (is_cell cell ask.0) (ap (is_cell cell) zip.0.0)
    (numbered_all records cell asks later zip.1 room)
  where
    by_cell : (a b : Bool) → a ≡ b
        → map (λ x. x.1) (numbered cell asks later) ≡ map (λ x. x.1) (asks_of_cell cell asks)
        → map (λ x. x.1) (cond a ((number, ask.1) ∷ numbered cell asks later) (numbered cell asks later))
        ≡ map (λ x. x.1) (cond b (ask ∷ asks_of_cell cell asks) (asks_of_cell cell asks))
    by_cell true true same rest = ap (λ more. ask.1 ∷ more) rest
    by_cell true false same rest = absurd (cc)
    by_cell false true same rest = absurd (cc)
    by_cell false false same rest = rest
numbered_all records cell (ask ∷ asks) (notes.Played c from to ∷ later) zip room = absurd zip.0
numbered_all records cell (ask ∷ asks) (notes.Full c ∷ later) zip room =
    let parts = or_parts (is_cell cell c) (list_any (is_full_of cell) later) room in
    let other : is_cell cell ask.0 ≡ false = sym (ap (is_cell cell) zip.0.0) ∙ parts.0 in
    numbered_all records cell asks later zip.1 parts.1
    ∙ sym (ap (λ b. map (λ (a : Cell × Asked). a.1) (cond b (ask ∷ asks_of_cell cell asks) (asks_of_cell cell asks)))
    other)
