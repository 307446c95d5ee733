-- The replies to orders: what the cells of a WRITE-REPLACE or a KILL answered, as the COMPLETE or the FAILURE of it.
-- 3GPP TS 48.049, clause 8.1; which lists a reply has is own.
use Rattle.std.specs.Prelude.{⊤, ℕ, Option, Some, None, List, [], ◌∷◌, filter_map, map}
use Rattle.cbsp_wire.specs.declared.message.Cell.{Cell}
use Rattle.cbsp_wire.specs.declared.message.Count.{Count}
use Rattle.cbsp_wire.specs.declared.message.Failure.{Failure}
use Rattle.cbsp_wire.specs.declared.message.Message.{Message}
use Rattle.cbsp_wire.specs.declared.message.Message.TheVariants as messages
use Rattle.bsc_table.specs.declared.command.Command.{Command}
use Rattle.bsc_table.specs.declared.command.Command.TheVariants as commands
use Rattle.bsc_table.specs.declared.entry.Answer.{Answer}
use Rattle.bsc_table.specs.declared.entry.Answer.TheVariants as answers

-- the answers that a plain write, a replacement and a kill can get: acceptance, or refusal with a cause
abbrev pub IsAnswerToWrite : Answer → Type 0
IsAnswerToWrite (answers.Started slot) = ⊤
IsAnswerToWrite (answers.Cause cause) = ⊤
IsAnswerToWrite other = ⊥

abbrev pub IsAnswerToReplacement : Answer → Type 0
IsAnswerToReplacement (answers.Replaced slot completed) = ⊤
IsAnswerToReplacement (answers.Cause cause) = ⊤
IsAnswerToReplacement other = ⊥

abbrev pub IsAnswerToKill : Answer → Type 0
IsAnswerToKill (answers.Stopped completed) = ⊤
IsAnswerToKill (answers.Cause cause) = ⊤
IsAnswerToKill other = ⊥

-- the answers that a command of an order can get; a status is of no order
abbrev pub IsAnswerTo : Command → Answer → Type 0
IsAnswerTo (commands.Write id serial None category dcs period broadcasts contents) answer = IsAnswerToWrite answer
IsAnswerTo (commands.Write id serial (Some old) category dcs period broadcasts contents) answer =
    IsAnswerToReplacement answer
IsAnswerTo (commands.Kill id serial) answer = IsAnswerToKill answer
IsAnswerTo (commands.Status id serial) answer = ⊥

-- the cells that answered
abbrev pub cells_answered : List (Cell × Answer) → List Cell
cells_answered answers = map (λ answer. answer.0) answers

-- what the answer of a cell comes to in a reply: a failure for a refusal, the cell itself where it accepted, and its
-- completed broadcasts where it replaced or stopped a message
abbrev pub failure_by : Cell → Answer → Option Failure
failure_by cell (answers.Cause cause) = Some (record { cell = cell; cause = cause })
failure_by cell other = None

abbrev pub cell_by : Cell → Answer → Option Cell
cell_by cell (answers.Started slot) = Some cell
cell_by cell (answers.Replaced slot completed) = Some cell
cell_by cell (answers.Stopped completed) = Some cell
cell_by cell other = None

abbrev pub count_by : Cell → Answer → Option Count
count_by cell (answers.Replaced slot completed) = Some (record { cell = cell; number = completed; info = 0 })
count_by cell (answers.Stopped completed) = Some (record { cell = cell; number = completed; info = 0 })
count_by cell other = None

-- the lists of a reply, in the order of the answers
abbrev pub refused_in : List (Cell × Answer) → List Failure
refused_in answers = filter_map (λ answer. failure_by answer.0 answer.1) answers

abbrev pub accepting_cells : List (Cell × Answer) → List Cell
accepting_cells answers = filter_map (λ answer. cell_by answer.0 answer.1) answers

abbrev pub counted_in : List (Cell × Answer) → List Count
counted_in answers = filter_map (λ answer. count_by answer.0 answer.1) answers

-- the reply to a write: complete where no cell refused
abbrev pub write_reply : (id new : ℕ) → (old : Option ℕ) → List Failure → List Count → List Cell → Message
write_reply id new old [] completed cells = messages.WriteDone id new old completed cells None
write_reply id new old (failure ∷ failures) completed cells =
    messages.WriteFailed id new old (failure ∷ failures) completed cells None

-- the reply to a kill
abbrev pub kill_reply : (id old : ℕ) → List Failure → List Count → Message
kill_reply id old [] completed = messages.KillDone id old completed [] None
kill_reply id old (failure ∷ failures) completed = messages.KillFailed id old (failure ∷ failures) completed [] None

-- the reply to an order. A plain write has its accepting cells in the list of cells; a replacement and a kill have them
-- with the completed broadcasts of the message that went. A status is of no order: what stands for it says nothing.
abbrev pub reply_message : Command → List (Cell × Answer) → Message
reply_message (commands.Write id serial None category dcs period broadcasts contents) answers =
    write_reply id serial None (refused_in answers) [] (accepting_cells answers)
reply_message (commands.Write id serial (Some old) category dcs period broadcasts contents) answers =
    write_reply id serial (Some old) (refused_in answers) (counted_in answers) []
reply_message (commands.Kill id serial) answers = kill_reply id serial (refused_in answers) (counted_in answers)
reply_message (commands.Status id serial) answers = kill_reply id serial [] []
