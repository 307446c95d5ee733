-- What a legal history answers: to a write in the place of no message that this starts, in the place of one that it is
-- replaced, to a kill that the message is stopped, or why it is refused.
use Rattle.std.proofs.Common.{◌≡◌, ℕ, ◌+◌, ◌≤◌, Bool, true, false, cond, Option, Some, None, List, length, take}
use Rattle.std.proofs.Common.{filter, get_or, sym, subst}
use Rattle.std.specs.Prelude.{⊤, ◌==◌, nat_le, nat_lt, Any}
use Rattle.std.specs.List.{AllByRecursion}
use Rattle.std.proofs.lemmas.List.Elements.{recursion_from_All}
use Rattle.admission.specs.declared.measure.TheConstants.{SCALE}
use Rattle.admission.specs.Load.{load_of}
use Rattle.admission.specs.Table.{max_reserved}
use Rattle.cbsp_wire.specs.declared.cause.TheConstants.{BSC_CAPACITY_EXCEEDED, BSC_MEMORY_EXCEEDED}
use Rattle.cbsp_wire.specs.declared.cause.TheConstants.{CELL_BROADCAST_NOT_OPERATIONAL, CELL_MEMORY_EXCEEDED}
use Rattle.cbsp_wire.specs.declared.cause.TheConstants.{MESSAGE_REFERENCE_ALREADY_USED}
use Rattle.cbsp_wire.specs.declared.cause.TheConstants.{MESSAGE_REFERENCE_NOT_IDENTIFIED}
use Rattle.scheduler.specs.Air.{Air}
use Rattle.scheduler.specs.Completed.{completed}
use Rattle.scheduler.specs.Message.{ScheduledMessage}
use Rattle.bsc_table.specs.declared.command.Category.{Category}
use Rattle.bsc_table.specs.declared.command.Command.{Command}
use Rattle.bsc_table.specs.declared.command.Command.TheVariants as commands
use Rattle.bsc_table.specs.declared.entry.Answer.{Answer}
use Rattle.bsc_table.specs.declared.entry.Answer.TheVariants as answers
use Rattle.bsc_table.specs.declared.entry.Entry.{Entry}
use Rattle.bsc_table.specs.Answer.{admit_or_refuse, answer_at, answer_for, answer_of, answer_to_kill, answer_to_new}
use Rattle.bsc_table.specs.Answer.{answer_to_replacement, answer_to_write, answer_with_room, if_live, unless_accepted}
use Rattle.bsc_table.specs.Claim.{Claim, claimed_at, is_claimed_at, stop_claims}
use Rattle.bsc_table.specs.Handover.{Place}
use Rattle.bsc_table.specs.Orders.{IsWellFormed}
use Rattle.bsc_table.specs.Record.{Accepted, Record, accepted_in, accepted_named, claims_in, is_background_category}
use Rattle.bsc_table.specs.Record.{is_live, message_named, place_after}
use Rattle.bsc_table.specs.Reported.{IsTrulyReported, LegalAnswersAreTrue, completed_in}
use Rattle.verdict_laws.specs.OwnOrders.{IsPlain, StandsAtOnce}

-- an answer to a write in the place of no message
abbrev pub IsNewAnswer : Answer → Type 0
IsNewAnswer (answers.Started slot) = ⊤
IsNewAnswer (answers.Cause cause) = ⊤
IsNewAnswer other = ⊥

-- to one in the place of a message
abbrev pub IsReplacing : Answer → Type 0
IsReplacing (answers.Replaced slot completed) = ⊤
IsReplacing (answers.Cause cause) = ⊤
IsReplacing other = ⊥

-- to a kill
abbrev pub IsKilling : Answer → Type 0
IsKilling (answers.Stopped completed) = ⊤
IsKilling (answers.Cause cause) = ⊤
IsKilling other = ⊥

-- an answer that fits its command
abbrev pub Fits : Command → Answer → Type 0
Fits (commands.Write id serial None category dcs period broadcasts contents) answer = IsNewAnswer answer
Fits (commands.Write id serial (Some old) category dcs period broadcasts contents) answer = IsReplacing answer
Fits (commands.Kill id serial) answer = IsKilling answer
Fits (commands.Status id serial) answer = ⊤

-- of two answers either
either : (P : Answer → Type 0) (first : Bool) (a b : Answer) → P a → P b → P (cond first a b)
either P true a b one two = one
either P false a b one two = two

-- what is taken or refused is one of the two
at-place : (P : Answer → Type 0) (accepts : ℕ → Answer) (claims : List Claim) (slot : ℕ) (place : Option Place) →
    ((cause : ℕ) → P (answers.Cause cause)) → ((start : ℕ) → P (accepts start)) →
    P (answer_at claims slot accepts place)
at-place P accepts claims slot None refused taken = refused BSC_CAPACITY_EXCEEDED
at-place P accepts claims slot (Some place) refused taken =
    either P (nat_lt SCALE (claimed_at claims slot + place.excess)) (answers.Cause BSC_CAPACITY_EXCEEDED)
    (accepts place.start) (refused BSC_CAPACITY_EXCEEDED) (taken place.start)

taken-or : (P : Answer → Type 0) (accepts : ℕ → Answer) (category : Category) (claims : List Claim) (slot load : ℕ)
    (place : Option Place) → ((cause : ℕ) → P (answers.Cause cause)) → ((start : ℕ) → P (accepts start)) →
    P (answer_for category claims slot load place accepts)
taken-or P accepts category claims slot load place refused taken =
    either P (is_background_category category) (accepts slot) (admit_or_refuse claims slot load place accepts)
    (taken slot)
    (either P (nat_le max_reserved (length (filter (is_claimed_at slot) claims))) (answers.Cause CELL_MEMORY_EXCEEDED)
    (cond (nat_lt SCALE (claimed_at claims slot + load)) (answer_at claims slot accepts place) (accepts slot))
    (refused CELL_MEMORY_EXCEEDED)
    (either P (nat_lt SCALE (claimed_at claims slot + load)) (answer_at claims slot accepts place) (accepts slot)
    (at-place P accepts claims slot place refused taken) (taken slot)))

unless : (P : Answer → Type 0) (known : Option ScheduledMessage) (answer : Answer) →
    ((cause : ℕ) → P (answers.Cause cause)) → P answer → P (unless_accepted known answer)
unless P (Some m) answer refused is = refused MESSAGE_REFERENCE_ALREADY_USED
unless P None answer refused is = is

live : (P : Answer → Type 0) (slot : ℕ) (found : Option Accepted) (answer : Accepted → Answer) →
    ((cause : ℕ) → P (answers.Cause cause)) → ((a : Accepted) → P (answer a)) → P (if_live slot found answer)
live P slot None answer refused each = refused MESSAGE_REFERENCE_NOT_IDENTIFIED
live P slot (Some a) answer refused each =
    either P (is_live slot a.message) (answer a) (answers.Cause MESSAGE_REFERENCE_NOT_IDENTIFIED) (each a)
    (refused MESSAGE_REFERENCE_NOT_IDENTIFIED)

with-room : (slots : ℕ) (log : List Entry) (air : Air) (slot : ℕ) (command : Command) →
    Fits command (answer_with_room slots log air slot command)
with-room slots log air slot (commands.Status id serial) = tt
with-room slots log air slot (commands.Kill id serial) =
    either IsKilling (slot == slots) (answers.Cause CELL_BROADCAST_NOT_OPERATIONAL)
    (answer_to_kill log air slot id serial) tt
    (live IsKilling slot (accepted_named id serial log) (λ a. answers.Stopped (completed a.message air slot)) (λ c. tt)
    (λ a. tt))
with-room slots log air slot (commands.Write id serial None category dcs period broadcasts contents) =
    either IsNewAnswer (slot == slots) (answers.Cause CELL_BROADCAST_NOT_OPERATIONAL)
    (answer_to_write log air slot id serial None category (load_of (length contents) period)) tt
    (unless IsNewAnswer (message_named id serial log)
    (answer_to_new log slot category (load_of (length contents) period)) (λ c. tt)
    (taken-or IsNewAnswer (λ start. answers.Started start) category (claims_in log) slot
    (load_of (length contents) period) None (λ c. tt) (λ start. tt)))
with-room slots log air slot (commands.Write id serial (Some old) category dcs period broadcasts contents) =
    either IsReplacing (slot == slots) (answers.Cause CELL_BROADCAST_NOT_OPERATIONAL)
    (answer_to_write log air slot id serial (Some old) category (load_of (length contents) period)) tt
    (live IsReplacing slot (accepted_named id old log)
    (λ a. unless_accepted (message_named id serial log)
    (answer_to_replacement log air slot category (load_of (length contents) period) a)) (λ c. tt)
    (λ a. unless IsReplacing (message_named id serial log)
    (answer_to_replacement log air slot category (load_of (length contents) period) a) (λ c. tt)
    (taken-or IsReplacing (λ start. answers.Replaced start (completed a.message air slot)) category
    (stop_claims a.message.entry slot (claims_in log)) slot (load_of (length contents) period)
    (place_after (stop_claims a.message.entry slot (claims_in log)) slot a (load_of (length contents) period))
    (λ c. tt) (λ start. tt))))

refusal-fits : (command : Command) (cause : ℕ) → Fits command (answers.Cause cause)
refusal-fits (commands.Status id serial) cause = tt
refusal-fits (commands.Kill id serial) cause = tt
refusal-fits (commands.Write id serial None category dcs period broadcasts contents) cause = tt
refusal-fits (commands.Write id serial (Some old) category dcs period broadcasts contents) cause = tt

-- each answer fits its command
pub answers-fit : (slots : ℕ) (log : List Entry) (air : Air) (slot : ℕ) (command : Command) →
    Fits command (answer_of slots log air slot command)
answers-fit slots log air slot command =
    either (Fits command) (nat_le 4096 (length log)) (answers.Cause BSC_MEMORY_EXCEEDED)
    (answer_with_room slots log air slot command) (refusal-fits command BSC_MEMORY_EXCEEDED)
    (with-room slots log air slot command)

-- what is known of an entry of such a history
pub record IsKnown (r : Record) (e : Entry) : Type 0 where
  pub fits : Fits e.command e.answer
  pub formed : IsWellFormed e.command
  pub by_end : e.slot ≤ r.clock
  pub at_once : StandsAtOnce e
  pub told : (reported : ℕ) → completed_in e.answer ≡ Some reported
      → Any (IsTrulyReported r.air e reported) (accepted_in r.log)

-- of each
pub all-known : LegalAnswersAreTrue → (r : Record) → IsPlain r → AllByRecursion (IsKnown r) r.log
all-known true_answers r plain =
    recursion_from_All (IsKnown r) r.log (λ k d within. record {
      fits = subst (Fits (get_or r.log k d).command) (sym (plain.legal.answered k d within))
          (answers-fit r.slots (take k r.log) (take (get_or r.log k d).slot r.air) (get_or r.log k d).slot
          (get_or r.log k d).command);
      formed = plain.legal.formed k d within;
      by_end = plain.legal.known k d within;
      at_once = plain.at_once k d within;
      told = true_answers r plain.legal k d within;
    })
