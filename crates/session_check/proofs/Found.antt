-- The record of a cell among the records of a run, and what a note of the cell says by it.
use Rattle.std.proofs.Common.{◌≡◌, ℕ, Bool, true, false, cond, ◌||◌, List, [], ◌∷◌, ◌++◌, All, refl, sym, subst, ap}
use Rattle.std.proofs.Common.{◌∙◌, zero, suc, ◌<◌, Some, length, get_or, arith, inl, inr}
use Rattle.std.specs.List.{slice_get}
use Rattle.std.proofs.lemmas.Bool.{cases_Bool}
use Rattle.std.proofs.lemmas.List.{get_or-map, length-map}
use Rattle.std.proofs.lemmas.List.Elements.{All-cons}
use Rattle.std.proofs.lemmas.Option.{get_or_from_slice_get, none-some, slice_get_within}
use Rattle.cbsp_wire.specs.CellLists.{AreDistinct}
use Rattle.cbsp_wire.proofs.CellLists.{same_cell}
use Rattle.std.specs.List.{AllByRecursion}
use Rattle.std.proofs.lemmas.List.Elements.{recursion_from_All}
use Rattle.cbsp_wire.specs.declared.message.Cell.{Cell}
use Rattle.cbsp_wire.specs.Range.{is_cell}
use Rattle.bsc_table.specs.declared.command.Command.{Command}
use Rattle.bsc_table.specs.declared.entry.Answer.{Answer}
use Rattle.bsc_table.specs.declared.entry.Entry.{Entry}
use Rattle.bsc_table.specs.Record.{Record}
use Rattle.order_desk.specs.declared.note.Note.{Note}
use Rattle.order_desk.specs.declared.note.Note.TheVariants as notes
use Rattle.book_runs.specs.Run.{is_among, given_slot}
use Rattle.book_runs.specs.Sessions.{IsNoteOf, slot_before, slot_in}
use Rattle.session_check.specs.NotedSteps.{IsRecordOf, NotesAnswer, asked_at, record_cells}

-- what holds of each record holds of one of them
at_split : (P : Record → Type 0) (before after : List Record) (r : Record) → AllByRecursion P (before ++ r ∷ after)
    → P r
at_split P [] after r all = all.0
at_split P (b ∷ before) after r all = at_split P before after r all.1

-- what all records are, the record of a cell is
pub of_found : (P : Record → Type 0) (records : List Record) (cell : Cell) (r : Record) → IsRecordOf records cell r
    → All P records
    → P r
of_found P records cell r found all =
    at_split P found.before found.after r
    (recursion_from_All P (found.before ++ r ∷ found.after) (subst (All P) found.split all))

-- a cell with a record is among the cells
or_true : (a : Bool) → (a || true) ≡ true
or_true true = refl
or_true false = refl

among_split : (before after : List Record) (r : Record) (cell : Cell) → is_cell cell r.cell ≡ true
    → is_among (record_cells (before ++ r ∷ after)) cell ≡ true
among_split [] after r cell own = ap (λ b. b || is_among (record_cells after) cell) own
among_split (b ∷ before) after r cell own =
    ap (λ t. is_cell cell b.cell || t) (among_split before after r cell own) ∙ or_true (is_cell cell b.cell)

-- the cell of a record is among the records' cells
pub among_found : (records : List Record) (cell : Cell) (r : Record) → IsRecordOf records cell r
    → is_among (record_cells records) cell ≡ true
among_found records cell r found =
    ap (λ (rs : List Record). is_among (record_cells rs) cell) found.split
    ∙ among_split found.before found.after r cell found.own

-- and one without isn't
none_by : (records : List Record) (cell : Cell) → AllByRecursion (λ r. is_cell cell r.cell ≡ false) records
    → is_among (record_cells records) cell ≡ false
none_by [] cell others = refl
none_by (r ∷ records) cell others =
    ap (λ b. b || is_among (record_cells records) cell) others.0 ∙ none_by records cell others.1

-- a cell of no record isn't among the records' cells
pub among_none : (records : List Record) (cell : Cell) → All (λ r. is_cell cell r.cell ≡ false) records
    → is_among (record_cells records) cell ≡ false
among_none records cell others =
    none_by records cell (recursion_from_All (λ r. is_cell cell r.cell ≡ false) records others)

-- the slot of a command in the cell's log
slot_split : (before after : List Record) (r : Record) (cell : Cell) (number at : ℕ)
    → AllByRecursion (λ other. is_cell cell other.cell ≡ false) before
    → is_cell cell r.cell ≡ true
    → slot_in (before ++ r ∷ after) cell number at ≡ given_slot r.slots (slot_before r.log number) at
slot_split [] after r cell number at others own =
    ap (λ b. cond b (given_slot r.slots (slot_before r.log number) at) (slot_in after cell number at)) own
slot_split (b ∷ before) after r cell number at others own =
    ap (λ t. cond t (given_slot b.slots (slot_before b.log number) at)
    (slot_in (before ++ r ∷ after) cell number at)) others.0
    ∙ slot_split before after r cell number at others.1 own

slot_found : (records : List Record) (cell : Cell) (r : Record) (number at : ℕ) → IsRecordOf records cell r
    → slot_in records cell number at ≡ given_slot r.slots (slot_before r.log number) at
slot_found records cell r number at found =
    ap (λ (rs : List Record). slot_in rs cell number at) found.split
    ∙ slot_split found.before found.after r cell number at
    (recursion_from_All (λ other. is_cell cell other.cell ≡ false) found.before found.others) found.own

-- what a note says by the record of its cell is what it says by all records
pub note_by_all : (records : List Record) (cell : Cell) (r : Record) (at : ℕ) (command : Command) (note : Note)
    (answer : Answer)
    → IsRecordOf records cell r
    → NotesAnswer r at cell command note answer
    → IsNoteOf records (cell, asked_at at command answer) note
note_by_all records cell r at command (notes.Event of number entry) answer found noted =
    let slot : entry.slot ≡ slot_in records of number at =
    noted.1.placed ∙ sym (slot_found records cell r number at found)
    ∙ ap (λ (c : Cell). slot_in records c number at) (sym noted.0) in
    (noted.0, λ i. record { command = noted.1.ordered i; slot = slot i; answer = noted.2 i })
note_by_all records cell r at command (notes.Played of from to) answer found noted = noted
note_by_all records cell r at command (notes.Full of) answer found noted = noted

-- the note of an answer by the records is its note by the cell's own record
pub note_by_one : (records : List Record) (cell : Cell) (r : Record) (at : ℕ) (command : Command) (note : Note)
    (answer : Answer)
    → IsRecordOf records cell r
    → IsNoteOf records (cell, asked_at at command answer) note
    → NotesAnswer r at cell command note answer
note_by_one records cell r at command (notes.Event of number entry) answer found noted =
    let slot : entry.slot ≡ given_slot r.slots (slot_before r.log number) at =
    ap (λ (e : Entry). e.slot) noted.1 ∙ ap (λ (c : Cell). slot_in records c number at) noted.0
    ∙ slot_found records cell r number at found in (
      noted.0,
      record { ordered = ap (λ (e : Entry). e.command) noted.1; placed = slot },
      ap (λ (e : Entry). e.answer) noted.1,
    )
note_by_one records cell r at command (notes.Played of from to) answer found noted = noted
note_by_one records cell r at command (notes.Full of) answer found noted = noted

some_is : (x r : Record) → Some x ≡ Some r → x ≡ r
some_is x r is = cc

-- of records of different cells the one at a place is the first of its cell
pub record_at : (records : List Record) (place : ℕ) (cell : Cell) (r : Record) → AreDistinct (record_cells records)
    → slice_get records place ≡ Some r → is_cell cell r.cell ≡ true → IsRecordOf records cell r
record_at [] place cell r distinct there own = absurd (none-some r there)
record_at (x ∷ records) zero cell r distinct there own = record {
  before = [];
  after = records;
  split = ap (λ (y : Record). y ∷ records) (some_is x r there);
  others = λ k d less. absurd (omega (arith, less));
  own = own;
}
record_at (x ∷ records) (suc place) cell r distinct there own =
    let rest = record_at records place cell r (λ i j d less inside. distinct (suc i) (suc j) d (omega (arith, less))
    (omega (arith, inside))) there own in
    let inside : place < length records = slice_get_within records place r there in
    let here : get_or (record_cells records) place r.cell ≡ r.cell =
    get_or-map (λ (y : Record). y.cell) records place r r.cell inside
    ∙ ap (λ (y : Record). y.cell) (get_or_from_slice_get records place r r there) in
    let apart : x.cell ≡ r.cell → ⊥ = λ same. distinct 0 (suc place) r.cell (omega arith)
    (omega (arith, inside, length-map records (λ (y : Record). y.cell))) (same ∙ sym here) in
    record {
      before = x ∷ rest.before;
      after = rest.after;
      split = ap (λ (ys : List Record). x ∷ ys) rest.split;
      others = All-cons (λ (other : Record). is_cell cell other.cell ≡ false) x rest.before (other_cell x apart)
          rest.others;
      own = own;
    }
  where
    other_cell : (x : Record) → (x.cell ≡ r.cell → ⊥) → is_cell cell x.cell ≡ false
    other_cell x apart = elim (cases_Bool (is_cell cell x.cell)) [
      | inl is ↦ absurd (apart (sym (same_cell cell x.cell is) ∙ same_cell cell r.cell own))
      | inr other ↦ other
    ]
