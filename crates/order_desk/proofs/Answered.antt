-- The cells of an order that answer one after the other.
use Rattle.std.proofs.Common.{◌≡◌, ℕ, ◌+◌, ◌<◌, List, [], ◌∷◌, ◌++◌, get_or, length, take, refl, sym, subst, ap, ◌∙◌}
use Rattle.std.proofs.Common.{Bool, true, false, Some, Result, Ok, Err, append_assoc, inl, slice_get}
use Rattle.std.specs.Prelude.{IfErr, IfOk, OnErr, OnOk}
use Rattle.std.proofs.lemmas.List.{append-nil, map_push, take_more}
use Rattle.std.proofs.lemmas.Option.{slice_get-get_or}
use Rattle.cbsp_wire.specs.declared.message.Cell.{Cell}
use Rattle.bsc_table.specs.declared.command.Command.{Command}
use Rattle.bsc_table.specs.declared.entry.Answer.{Answer}
use Rattle.bsc_table.specs.Record.{Record}
use Rattle.order_desk.specs.declared.desk.order.CellFault.{CellFault}
use Rattle.order_desk.specs.declared.desk.order.CellFault.TheVariants as halts
use Rattle.order_desk.specs.declared.desk.order.PreparedOrder.{PreparedOrder}
use Rattle.order_desk.specs.declared.fault.DeskFault.TheVariants as faults
use Rattle.order_desk.specs.declared.note.Note.{Note}
use Rattle.order_desk.specs.Desk.{AreAnswered, DeskState, IsAnswered, IsAtMostPlayed}
use Rattle.order_desk.specs.Desk.{IsCutShort, IsHeld, IsRefusedOrder, IsStopped, has_cell}
use Rattle.order_desk.specs.DeskSteps.{IsGivenUp, IsHalted, IsPrepared}
use Rattle.order_desk.specs.Notes.{IsOrderServed, IsRunOf}
use Rattle.order_desk.specs.Reply.{cells_answered}
use Rattle.order_desk.proofs.Holding.{given_up, has_placed, run_on}

-- a test is one or the other
clash : (b : Bool) → b ≡ true → b ≡ false → ⊥
clash b h k = cc

-- a cell with a place at the desk that served the order has answered
pub own_answered : (desk : DeskState) (at : ℕ) (command : Command) (cell : Cell) (place : ℕ) (answer : Answer)
    (before after : Record) (notes : List Note)
    → slice_get desk.cells place ≡ Some cell
    → IsHeld desk cell before
    → IsHeld desk cell after
    → IsOrderServed at command answer before after notes
    → IsAnswered desk at command cell answer notes
own_answered desk at command cell place answer before after notes there held left served = record {
  own = λ _. (before, after, held, left, served);
  foreign = λ none. absurd (clash (has_cell desk cell) (has_placed desk cell place there) none);
}

-- so has it if the order was served by the book that was lent for the cell
pub answered_by : (desk : DeskState) (at : ℕ) (command : Command) (cell : Cell) (place : ℕ)
    (slots : ℕ) (result : Result Answer CellFault) (before after : Record) (old new : List Note)
    → slice_get desk.cells place ≡ Some cell
    → slots ≡ desk.slots
    → IsRunOf before.cell before.slots after
    → OnOk result (IfOk result (λ answer. (added : List Note)
    × IsRunOf cell slots before × IsOrderServed at command answer before after added × (new ≡ old ++ added)))
    → OnOk result (IfOk result (λ answer. (added : List Note)
    × IsAnswered desk at command cell answer added × (new ≡ old ++ added)))
answered_by desk at command cell place slots (Ok answer) before after old new there run left served =
    let held = subst (λ n. IsRunOf cell n before) run served.1 in (
      served.0,
      own_answered desk at command cell place answer before after served.0 there held
          (run_on cell desk.slots before after held left) served.2,
      served.3,
    )
answered_by desk at command cell place slots (Err halt) before after old new there run left served = tt

-- and if it was not, it halted
pub halted_at : (desk : DeskState) (at : ℕ) (cell : Cell) (place : ℕ)
    (slots : ℕ) (result : Result Answer CellFault) (before after : Record) (old new : List Note)
    → slice_get desk.cells place ≡ Some cell
    → slots ≡ desk.slots
    → IsRunOf before.cell before.slots after
    → OnErr result (IfErr result (λ halt. (added : List Note)
    × IsGivenUp halt slots at cell before after added × (new ≡ old ++ added)))
    → OnErr result (IfErr result (λ halt. (added : List Note)
    × IsHalted desk at cell halt added × (new ≡ old ++ added)))
halted_at desk at cell place slots (Ok answer) before after old new there run left given = tt
halted_at desk at cell place slots (Err halts.WrongBook) before after old new there run left given =
    (given.0, (has_placed desk cell place there, given.1), given.2)
halted_at desk at cell place slots (Err halts.Refused) before after old new there run left given = (
  given.0,
  given_up desk at cell place before after given.0 there (subst (λ n. IsRunOf cell n before) run given.1.0) left
      given.1.1,
  given.2,
)

-- one more cell has answered
answered_more : (desk : DeskState) (at : ℕ) (command : Command) (answers : List (Cell × Answer)) (cell : Cell)
    (answer : Answer) (notes own : List Note)
    → AreAnswered desk at command answers notes
    → IsAnswered desk at command cell answer own
    → AreAnswered desk at command (answers ++ (cell, answer) ∷ []) (notes ++ own)
answered_more desk at command [] cell answer notes own so_far is = (
  own,
  [],
  ap (λ (n : List Note). n ++ own) so_far ∙ sym (append-nil own),
  is,
  refl,
)
answered_more desk at command (first ∷ later) cell answer notes own so_far is = (
  so_far.0,
  so_far.1 ++ own,
  ap (λ (n : List Note). n ++ own) so_far.2 ∙ append_assoc so_far.0 so_far.1 own,
  so_far.3,
  answered_more desk at command later cell answer so_far.1 own so_far.4 is,
)

-- the next cell of the list has answered
pub named_more : (cells : List Cell) (n : ℕ) (other : Cell) (answer : Answer) (answers pushed : List (Cell × Answer))
    → n < length cells
    → pushed ≡ answers ++ (get_or cells n other, answer) ∷ []
    → cells_answered answers ≡ take n cells
    → cells_answered pushed ≡ take (n + 1) cells
named_more cells n other answer answers pushed within push named =
    let cell = get_or cells n other in
    ap cells_answered push ∙ map_push (λ (a : Cell × Answer). a.0) answers (cell, answer)
    ∙ ap (λ (cs : List Cell). cs ++ cell ∷ []) named ∙ sym (take_more cells n other within)

-- and this is what was noted after it
pub answered_next : (desk : DeskState) (at : ℕ) (command : Command) (cell : Cell) (answer : Answer)
    (answers pushed : List (Cell × Answer)) (start before after so own : List Note)
    → pushed ≡ answers ++ (cell, answer) ∷ []
    → before ≡ start ++ so
    → after ≡ before ++ own
    → AreAnswered desk at command answers so
    → IsAnswered desk at command cell answer own
    → (added : List Note) × AreAnswered desk at command pushed added × (after ≡ start ++ added)
answered_next desk at command cell answer answers pushed start before after so own push was is so_far answered = (
  so ++ own,
  subst (λ (given : List (Cell × Answer)). AreAnswered desk at command given (so ++ own)) (sym push)
      (answered_more desk at command answers cell answer so own so_far answered),
  is ∙ ap (λ (n : List Note). n ++ own) was ∙ append_assoc start so own,
)

-- a cell gave an order up for a known cause
pub halted_by : (desk : DeskState) (at : ℕ) (cell : Cell) (halt known : CellFault) (before after : List Note)
    → halt ≡ known
    → (added : List Note) × IsHalted desk at cell halt added × (after ≡ before ++ added)
    → (added : List Note) × IsHalted desk at cell known added × (after ≡ before ++ added)
halted_by desk at cell halt known before after is halted =
    (halted.0, subst (λ (h : CellFault). IsHalted desk at cell h halted.0) is halted.1, halted.2)

-- the next cell of the list ended the order after a play at most
pub cut_short : (desk : DeskState) (at : ℕ) (cells : List Cell) (command : Command) (n : ℕ) (other : Cell)
    (answers : List (Cell × Answer)) (notes rest : List Note)
    → n < length cells
    → cells_answered answers ≡ take n cells
    → AreAnswered desk at command answers notes
    → has_cell desk (get_or cells n other) ≡ true
    → IsAtMostPlayed desk at (get_or cells n other) rest
    → IsCutShort desk at cells command n (notes ++ rest)
cut_short desk at cells command n other answers notes rest within named so_far own played = record {
  noted = notes;
  rest = rest;
  cell = get_or cells n other;
  first = record { answers = answers; first = named; within = within; answered = so_far };
  next = slice_get-get_or cells n other within;
  own = own;
  at_most_played = played;
  notes_are = refl;
}

-- it stopped the order, with nothing noted of it
pub stopped : (desk : DeskState) (at : ℕ) (cells : List Cell) (command : Command) (n : ℕ) (other : Cell)
    (answers : List (Cell × Answer)) (notes : List Note)
    → n < length cells
    → cells_answered answers ≡ take n cells
    → AreAnswered desk at command answers notes
    → has_cell desk (get_or cells n other) ≡ true
    → IsStopped desk at cells command n notes
stopped desk at cells command n other answers notes within named so_far own = record {
  cell = get_or cells n other;
  first = record { answers = answers; first = named; within = within; answered = so_far };
  next = slice_get-get_or cells n other within;
  own = own;
}

-- an order that had no room for its notes
pub no_room : (desk : DeskState) (at : ℕ) (octets : List ℕ) (order : PreparedOrder) → IsPrepared octets order
    → IsRefusedOrder desk at octets (faults.Memory 0) []
no_room desk at octets order prepared = inl ((refl, (prepared.order_is.message, prepared.order_is.meant)), refl)

-- nothing was noted: the notes are as they were
pub none_added : (start inside reserved : List Note) → reserved ≡ inside → inside ≡ start → reserved ≡ start ++ []
none_added start inside reserved room view = room ∙ view ∙ sym (append-nil start)
