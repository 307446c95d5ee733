-- Steps of a stream: which pieces a run has, and what becomes of a tape as they come (own). The contracts of private
-- functions alone speak of them.
use Rattle.std.specs.Prelude.{◌≡◌, ◌<◌, ◌+◌, ◌-◌, ◌*◌, ◌/◌, ◌⊎◌, ⊤, ℕ, min, true, false, Option, Some, None}
use Rattle.std.specs.Prelude.{List, [], ◌∷◌, length, map, take, set, vec_len, All}
use Rattle.std.specs.List.{slice_get}
use Rattle.cbsp_wire.specs.declared.message.Cell.{Cell}
use Rattle.cbch_blocks.specs.Blocks.{blocks_of_page}
use Rattle.cbch_blocks.specs.RecordBlocks.{tape_header}
use Rattle.cbch_blocks.specs.Slots.{with_slot}
use Rattle.order_desk.specs.declared.desk.piece.Piece.{Piece}
use Rattle.order_desk.specs.Desk.{DeskState}
use Rattle.order_desk.specs.SettleSteps.{IsLeastFailing, lesser}
use Rattle.order_desk.specs.Pieces.{piece_slots}
use Rattle.parallel_compile.specs.declared.board.Board.{Board}
use Rattle.parallel_compile.specs.declared.board.Numbered.{Numbered}
use Rattle.parallel_compile.specs.declared.filling.Filling.{Filling}
use Rattle.parallel_compile.specs.declared.fault.CompileFault.{CompileFault}
use Rattle.parallel_compile.specs.declared.fault.CompileFault.TheVariants as fault

-- how many pieces a run has: each has 64 slots, and the last one what remains
abbrev pub pieces_in : ℕ → ℕ
pieces_in slots = (slots + 63) / 64

-- a piece is the one with this place in the run of a cell
pub record FitsTape (cell : Cell) (slots place : ℕ) (piece : Piece) : Type 0 where
  pub of_cell : piece.cell ≡ cell
  pub begins : piece.from ≡ piece_slots * place
  pub within : piece.from < slots
  pub long : vec_len piece.pages ≡ min piece_slots (slots - piece.from)

-- a tape with these pages in its slots from one on; a slot without a page stays as it was
abbrev pub with_pages : ℕ → List (Option (List ℕ)) → List ℕ → List ℕ
with_pages slot [] tape = tape
with_pages slot (None ∷ pages) tape = with_pages (slot + 1) pages tape
with_pages slot (Some page ∷ pages) tape = with_pages (slot + 1) pages (with_slot slot (blocks_of_page page) tape)

-- a piece was put in its place
pub record IsPut (place : ℕ) (piece : Piece) (before after : Filling) : Type 0 where
  pub tape : after.tape ≡ with_pages piece.from piece.pages.items before.tape
  pub came : after.came.items ≡ set before.came.items place true

-- a tape keeps its header, its length, and its number of pieces
pub record IsFilledOn (before after : Filling) : Type 0 where
  pub headed : take 8 after.tape ≡ take 8 before.tape
  pub long : length after.tape ≡ length before.tape
  pub places : length after.came.items ≡ length before.came.items

-- tapes under way for the cells of a desk: each has the header of its cell, the slots of a run, and a place for each
-- piece
pub record AreFillings (desk : DeskState) (fillings : List Filling) : Type 0 where
  pub headed : map (λ (f : Filling). take 8 f.tape) fillings ≡ map (λ cell. tape_header cell desk.slots) desk.cells
  pub long : All (λ f. length f.tape ≡ 8 + 92 * desk.slots) fillings
  pub places : All (λ f. length f.came.items ≡ pieces_in desk.slots) fillings

-- all pieces of a tape have come
abbrev pub IsComplete : Filling → Type 0
IsComplete f = All (λ came. came ≡ true) f.came.items

-- no piece of the tape of this number is missing, if there is one
abbrev pub IsCompleteAt : List Filling → ℕ → Type 0
IsCompleteAt fillings number = (f : Filling) → slice_get fillings number ≡ Some f → IsComplete f

-- a piece of the cell of this number fits a place that is free
pub record HasFilling (desk : DeskState) (fillings : List Filling) (number place : ℕ) (piece : Piece) : Type 0 where
  pub cell : Cell
  pub filling : Filling
  pub named : slice_get desk.cells number ≡ Some cell
  pub there : slice_get fillings number ≡ Some filling
  pub fits : FitsTape cell desk.slots place piece
  pub free : slice_get filling.came.items place ≡ Some false

-- and was put in it
pub record IsTaken (desk : DeskState) (number : ℕ) (piece : Piece) (before after : List Filling) : Type 0 where
  pub place : ℕ
  pub has : HasFilling desk before number place piece
  pub filled : Filling
  pub put : IsPut place piece has.filling filled
  pub now : after ≡ set before number filled

-- a piece of the cell of this number came: it was put in its place, or has none that is free, and spoils its number
abbrev pub HasCome : DeskState → Numbered → (before : Board) → (after : Board) → Type 0
HasCome desk n before after =
    (IsTaken desk n.number n.piece before.fillings.items after.fillings.items × (after.spoilt ≡ before.spoilt))
    ⊎ (((k : ℕ) → HasFilling desk before.fillings.items n.number k n.piece → ⊥)
    × (after.fillings.items ≡ before.fillings.items)
    × (after.spoilt ≡ lesser before.spoilt (Some n.number)))

-- these pieces came, one after the other
abbrev pub HaveCome : DeskState → List Numbered → Board → Board → Type 0
HaveCome desk [] before after = after ≡ before
HaveCome desk (n ∷ later) before after =
    (between : Board) × HasCome desk n before between × HaveCome desk later between after

-- the least number that is spoilt, or of which a piece is missing; the first argument after the tapes is the least one
-- that is spoilt
abbrev pub IsLeastFaulty : List Filling → Option ℕ → ℕ → Type 0
IsLeastFaulty fillings spoilt index =
    (missing : Option ℕ) × IsLeastFailing (IsCompleteAt fillings) missing × (lesser spoilt missing ≡ Some index)

-- why there are no tapes of a board
abbrev pub IsOfBoard : List Filling → Option ℕ → CompileFault → Type 0
IsOfBoard fillings spoilt fault.Workers = ⊥
IsOfBoard fillings spoilt fault.Refused = ⊤
IsOfBoard fillings spoilt (fault.Piece index) = IsLeastFaulty fillings spoilt index
