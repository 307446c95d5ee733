-- When the notes of passes agree with a cell (own). Everything that was noted is there, and everything that is there
-- was noted: each entry of the log once, at its number, and each played slot once.
use Rattle.std.specs.Prelude.{◌≡◌, ⊤, ℕ, ◌<◌, ◌≤◌, ◌==◌, ◌&&◌, Bool, true, false, nat_le, nat_lt}
use Rattle.std.specs.Prelude.{if◌then◌else◌}
use Rattle.std.specs.Prelude.{Some, List, [], ◌∷◌, ◌++◌, length, filter, All}
use Rattle.std.specs.List.{flat_map, list_all, list_any, slice_get}
use Rattle.cbsp_wire.specs.declared.message.Cell.{Cell}
use Rattle.cbsp_wire.specs.Range.{is_cell}
use Rattle.bsc_table.specs.declared.entry.Entry.{Entry}
use Rattle.bsc_table.specs.Record.{Record}
use Rattle.order_desk.specs.declared.note.Note.{Note}
use Rattle.order_desk.specs.declared.note.Note.TheVariants as notes

-- the notes of some passes, one pass after the other
abbrev pub all_notes : List (List Note) → List Note
all_notes passes = flat_map (λ (pass : List Note). pass) passes

-- whether a note is no entry of this cell with that number or a greater one
abbrev pub is_below : Cell → ℕ → Note → Bool
is_below cell k (notes.Event c number entry) = if is_cell cell c then nat_lt number k else true
is_below cell k (notes.Played c from to) = true
is_below cell k (notes.Full c) = true

-- whether a note is no range of this cell's played slots that ends after that slot
abbrev pub is_ended : Cell → ℕ → Note → Bool
is_ended cell slot (notes.Event c number entry) = true
is_ended cell slot (notes.Played c from to) = if is_cell cell c then nat_le to slot else true
is_ended cell slot (notes.Full c) = true

-- whether a note is of this cell's entry of that number
abbrev pub is_event_at : Cell → ℕ → Note → Bool
is_event_at cell k (notes.Event c number entry) = is_cell cell c && (number == k)
is_event_at cell k (notes.Played c from to) = false
is_event_at cell k (notes.Full c) = false

-- whether a note is of a range of this cell's played slots with that slot in it
abbrev pub is_play_of : Cell → ℕ → Note → Bool
is_play_of cell slot (notes.Event c number entry) = false
is_play_of cell slot (notes.Played c from to) = is_cell cell c && (nat_le from slot && nat_lt slot to)
is_play_of cell slot (notes.Full c) = false

-- whether a note says that this cell's log was full
abbrev pub is_full_of : Cell → Note → Bool
is_full_of cell (notes.Event c number entry) = false
is_full_of cell (notes.Played c from to) = false
is_full_of cell (notes.Full c) = is_cell cell c

-- how often the entry of a number was noted, and a slot as played
abbrev pub times_noted : Cell → ℕ → List Note → ℕ
times_noted cell k given = length (filter (is_event_at cell k) given)

abbrev pub times_played : Cell → ℕ → List Note → ℕ
times_played cell slot given = length (filter (is_play_of cell slot) given)

-- a noted entry is in its place, after what the same pass noted before it: it stands in the log at its number, all
-- entries of the cell noted before it have lesser numbers, and no range of the cell noted before it ends after its slot
pub record IsInPlace (cell : Cell) (log : List Entry) (before : List Note) (k : ℕ) (entry : Entry) : Type 0 where
  pub stands : slice_get log k ≡ Some entry
  pub rises : All (λ note. is_below cell k note ≡ true) before
  pub follows : All (λ note. is_ended cell entry.slot note ≡ true) before

-- a note is in its place, if it is of this cell's entry of number k
abbrev pub IsInPlaceAt : Cell → List Entry → ℕ → List Note → Note → Type 0
IsInPlaceAt cell log k before (notes.Event c number entry) =
    is_event_at cell k (notes.Event c number entry) ≡ true → IsInPlace cell log before k entry
IsInPlaceAt cell log k before (notes.Played c from to) = ⊤
IsInPlaceAt cell log k before (notes.Full c) = ⊤

-- each of a pass's notes is, after those before it
abbrev pub AreInPlaceAt : Cell → List Entry → ℕ → (before later : List Note) → Type 0
AreInPlaceAt cell log k before [] = ⊤
AreInPlaceAt cell log k before (note ∷ later) =
    IsInPlaceAt cell log k before note × AreInPlaceAt cell log k (before ++ note ∷ []) later

-- what was noted of a number of a cell's log is right: each entry noted at it is in its place; if the log has an entry
-- of that number, then it was noted once; and who noted the log as full found 4,096 entries, which is judged at the
-- number 4,096
pub record IsRightNumber (cell : Cell) (log : List Entry) (passes : List (List Note)) (k : ℕ) : Type 0 where
  pub placed : All (AreInPlaceAt cell log k []) passes
  pub once : k < length log → times_noted cell k (all_notes passes) ≡ 1
  pub full : k ≡ 4096 → list_any (list_any (is_full_of cell)) passes ≡ true → 4096 ≤ length log

-- what was noted of a slot is right: before the clock the slot was noted once as played, and from the clock on no noted
-- range ends after it, so that it wasn't
pub record IsRightSlot (cell : Cell) (clock : ℕ) (passes : List (List Note)) (slot : ℕ) : Type 0 where
  pub once : slot < clock → times_played cell slot (all_notes passes) ≡ 1
  pub beyond : clock ≤ slot → list_all (list_all (is_ended cell slot)) passes ≡ true

-- the notes of the passes agree with a cell's record
pub record Agrees (passes : List (List Note)) (r : Record) : Type 0 where
  pub numbers : (k : ℕ) → IsRightNumber r.cell r.log passes k
  pub slots : (slot : ℕ) → IsRightSlot r.cell r.clock passes slot
