-- What was noted of logs stands in them: so the answers that were noted are those that commands can get.
use Rattle.std.proofs.Common.{◌≡◌, ℕ, ◌<◌, ◌≤◌, true, List, [], ◌∷◌, ◌++◌, All, refl, sym, subst, ◌∙◌, inl}
use Rattle.std.proofs.Common.{inr, length, take, get_or, slice_get, Some, ◌==◌, eq-eqb, min}
use native.Mathlib.Omega.{arith}
use Rattle.std.specs.List.{AllByRecursion}
use Rattle.std.proofs.lemmas.Bool.{and_from, cases_Bool}
use Rattle.std.proofs.lemmas.List.{length-take}
use Rattle.std.proofs.lemmas.List.Elements.{All-filter, All-from_recursion, All-tail}
use Rattle.std.proofs.lemmas.Option.{same_Some, slice_get-get_or, slice_get_within}
use Rattle.cbsp_wire.specs.declared.message.Cell.{Cell}
use Rattle.cbsp_wire.specs.Range.{is_cell}
use Rattle.bsc_table.specs.declared.command.Command.{Command}
use Rattle.bsc_table.specs.declared.entry.Answer.{Answer}
use Rattle.bsc_table.specs.declared.entry.Entry.{Entry}
use Rattle.bsc_table.specs.Legal.{HasItsAnswer, IsLegal}
use Rattle.bsc_table.specs.Record.{Record}
use Rattle.order_desk.specs.Agreement.{AreInPlaceAt, IsInPlaceAt}
use Rattle.order_desk.specs.declared.note.Note.{Note}
use Rattle.order_desk.specs.declared.note.Note.TheVariants as notes
use Rattle.order_desk.specs.Reply.{IsAnswerTo}
use Rattle.order_desk.specs.ReplyLaws.{CellsAnswerTheirCommands, IsOrdered}
use Rattle.cbsp_wire.proofs.CellLists.{is_itself, same_cell}
use Rattle.book_runs.specs.Run.{is_among}
use Rattle.book_runs.specs.Sessions.{is_of_command}
use Rattle.session_check.specs.Checked.{HasRightNumbers}
use Rattle.session_check.specs.NotedSteps.{AreAnswersNoted, AreStanding, IsAnswerNoted, StandsIn, record_cells}
use Rattle.session_check.specs.NotedSteps.{commands_in}

-- a note that is in its place stands in the log
in_place_stands : (r : Record) (before : List Note) (note : Note)
    → ((k : ℕ) → IsInPlaceAt r.cell r.log k before note)
    → StandsIn note r
in_place_stands r before (notes.Event cell number entry) placed = λ own.
    let itself : is_cell r.cell cell ≡ true =
    subst (λ (c : Cell). is_cell r.cell c ≡ true) (sym (same_cell cell r.cell own)) (is_itself r.cell) in
    (placed number (and_from (is_cell r.cell cell) (number == number) itself (eq-eqb number number refl))).stands
in_place_stands r before (notes.Played cell from to) placed = tt
in_place_stands r before (notes.Full cell) placed = tt

are_in_place_stand : (r : Record) (before later : List Note)
    → ((k : ℕ) → AreInPlaceAt r.cell r.log k before later)
    → AllByRecursion (λ note. StandsIn note r) later
are_in_place_stand r before [] placed = tt
are_in_place_stand r before (note ∷ later) placed = (
  in_place_stands r before note (λ k. (placed k).0),
  are_in_place_stand r (before ++ note ∷ []) later (λ k. (placed k).1),
)

-- so what a pass notes stands in the logs with which the passes agree
pub pass_stands : (passes : List (List Note)) (records : List Record) (place : ℕ) (none : List Note)
    → place < length passes
    → All (HasRightNumbers passes) records
    → AreStanding records (commands_in (get_or passes place none))
pass_stands passes records place none within agree =
    All-filter is_of_command (λ note. All (StandsIn note) records) (get_or passes place none)
    (λ i n i_within j r j_within. All-from_recursion (λ note. StandsIn note (get_or records j r))
    (get_or passes place none) (are_in_place_stand (get_or records j r) [] (get_or passes place none)
    (λ k. (agree j r j_within k).placed place none within)) i n i_within)

-- what is left of notes that stand, stands
pub left_stand : (records : List Record) (at : ℕ) (command : Command) (given : Cell × Answer) (before left : List Note)
    → IsAnswerNoted records at command given before left
    → AreStanding records before
    → AreStanding records left
left_stand records at command given before left is standing =
    elim (cases_Bool (is_among (record_cells records) given.0)) [
      | inl among ↦
          let own = is.own among in
          All-tail (λ note. All (StandsIn note) records) own.0 left (subst (AreStanding records) own.1 standing)
      | inr foreign ↦ subst (AreStanding records) (sym (is.foreign foreign).1) standing
    ]

-- the notes that are left after some answers stand in the records, as all did
pub all_left_stand : (records : List Record) (at : ℕ) (command : Command) (given : List (Cell × Answer))
    (before left : List Note)
    → AreAnswersNoted records at command given before left
    → AreStanding records before
    → AreStanding records left
all_left_stand records at command [] before left are standing = subst (AreStanding records) (sym are) standing
all_left_stand records at command (a ∷ given) before left are standing =
    all_left_stand records at command given are.0 left are.2
    (left_stand records at command a before are.0 are.1 standing)

-- an entry of a legal log has an answer that its command can get
pub answer_fits : CellsAnswerTheirCommands → (r : Record) (number : ℕ) (entry : Entry)
    → IsLegal r
    → slice_get r.log number ≡ Some entry
    → IsOrdered entry.command
    → IsAnswerTo entry.command entry.answer
answer_fits law r number entry legal stands ordered =
    let within = slice_get_within r.log number entry stands in
    let is : get_or r.log number entry ≡ entry =
    same_Some _ _ (sym (slice_get-get_or r.log number entry within) ∙ stands) in
    let answered : HasItsAnswer r.slots (take number r.log) r.air entry =
    subst (HasItsAnswer r.slots (take number r.log) r.air) is (legal.answered number entry within) in
    subst (IsAnswerTo entry.command) (sym answered)
    (law r.slots (take number r.log) (take entry.slot r.air) entry.slot entry.command ordered
    (few (length r.log) (length (take number r.log)) within legal.few (length-take number r.log))).0
  where
    few : (n k : ℕ) → number < n → n ≤ 4096 → k ≡ min number n → k < 4096
    few n k within most is = omega (arith, within, most, is)
