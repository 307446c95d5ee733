-- The numbers of completed broadcasts that a cell reports (own): each is that of the message that was asked about, in
-- the end too.
use Rattle.std.specs.Prelude.{◌≡◌, ℕ, ◌≤◌, Option, Some, None, All, Any}
use Rattle.scheduler.specs.Air.{Air, layer}
use Rattle.scheduler.specs.Completed.{completed}
use Rattle.bsc_table.specs.declared.command.Command.{Command}
use Rattle.bsc_table.specs.declared.command.Command.TheVariants as commands
use Rattle.bsc_table.specs.declared.entry.Answer.{Answer}
use Rattle.bsc_table.specs.declared.entry.Answer.TheVariants as answers
use Rattle.bsc_table.specs.declared.entry.Entry.{Entry}
use Rattle.bsc_table.specs.Bounds.{least_completed, most_completed}
use Rattle.bsc_table.specs.Record.{Record, Accepted, accepted_in}
use Rattle.bsc_table.specs.Legal.{IsLegal}

-- how many broadcasts an answer reports as completed, if it reports that
abbrev pub completed_in : Answer → Option ℕ
completed_in (answers.Replaced slot completed) = Some completed
completed_in (answers.Stopped completed) = Some completed
completed_in (answers.Told completed state) = Some completed
completed_in other = None

-- the command is about the message of this pair: a write that replaces it, a kill of it, or a status of it
abbrev pub IsAbout : ℕ → ℕ → Command → Type 0
IsAbout id serial (commands.Write of_id new replaces category dcs period broadcasts contents) = (of_id ≡ id)
    × (replaces ≡ Some serial)
IsAbout id serial (commands.Kill of_id of_serial) = (of_id ≡ id) × (of_serial ≡ serial)
IsAbout id serial (commands.Status of_id of_serial) = (of_id ≡ id) × (of_serial ≡ serial)

-- the number that an entry reports is that of the message's broadcasts that are completed before its slot, and lies
-- between its bounds; of a background message it may be less
pub record IsTrulyReported (air : Air) (e : Entry) (reported : ℕ) (a : Accepted) : Type 0 where
  pub about : IsAbout a.id a.serial e.command
  pub exact : reported ≡ completed a.message air e.slot
  pub least : layer a.message ≡ 0 → least_completed a.message e.slot ≤ reported
  pub most : reported ≤ most_completed a.message e.slot

-- each number that a legal history reports is true of an accepted message in this sense, whatever was entered and aired
-- after it
abbrev pub LegalAnswersAreTrue : Type 0
LegalAnswersAreTrue = (r : Record)
    → IsLegal r
    → All (λ e. (reported : ℕ) → completed_in e.answer ≡ Some reported
    → Any (IsTrulyReported r.air e reported) (accepted_in r.log))
    r.log
