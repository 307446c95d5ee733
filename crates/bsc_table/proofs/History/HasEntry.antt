-- Each answer but cause 08 has an entry.
use Rattle.std.proofs.Common.{◌≡◌, ℕ, ◌+◌, ◌==◌, true, cond, leb, ltb, Option, Some, None, List, length, filter, refl}
use Rattle.std.proofs.lemmas.Bool.{cond_both}
use Rattle.admission.specs.declared.measure.TheConstants.{SCALE}
use Rattle.scheduler.specs.Message.{ScheduledMessage}
use Rattle.scheduler.specs.Air.{Air}
use Rattle.scheduler.specs.Completed.{completed}
use Rattle.admission.specs.Load.{load_of}
use Rattle.bsc_table.specs.declared.command.Category.{Category}
use Rattle.bsc_table.specs.declared.command.Command.{Command}
use Rattle.bsc_table.specs.declared.command.Command.TheVariants as commands
use Rattle.bsc_table.specs.declared.entry.Answer.{Answer}
use Rattle.bsc_table.specs.declared.entry.Answer.TheVariants as answers
use Rattle.bsc_table.specs.declared.entry.Entry.{Entry}
use Rattle.bsc_table.specs.Claim.{Claim, is_claimed_at, claimed_at, stop_claims}
use Rattle.bsc_table.specs.Handover.{Place}
use Rattle.bsc_table.specs.Record.{Accepted, accepted_named, message_named, claims_in, is_background_category}
use Rattle.bsc_table.specs.Record.{place_after}
use Rattle.bsc_table.specs.Record.{is_live}
use Rattle.bsc_table.specs.Answer.{answer_at, admit_or_refuse, answer_for, answer_to_new, answer_to_replacement}
use Rattle.bsc_table.specs.Answer.{unless_accepted, if_live, answer_to_write, answer_to_kill, status_answer}
use Rattle.bsc_table.specs.Answer.{answer_with_room}
use Rattle.bsc_table.specs.Transitions.{has_entry}

abbrev HasOne : Answer → Type 0
HasOne answer = has_entry answer ≡ true

of_place : (claims : List Claim) (slot : ℕ) (accepts : ℕ → Answer) (place : Option Place)
    → ((start : ℕ) → HasOne (accepts start))
    → HasOne (answer_at claims slot accepts place)
of_place claims slot accepts None has = refl
of_place claims slot accepts (Some p) has =
    cond_both (ltb SCALE (claimed_at claims slot + p.excess)) (answers.Cause 0x06) (accepts p.start) HasOne (λ _. refl)
    (λ _. has p.start)

of_category : (category : Category) (claims : List Claim) (slot load : ℕ) (place : Option Place) (accepts : ℕ → Answer)
    → ((start : ℕ) → HasOne (accepts start))
    → HasOne (answer_for category claims slot load place accepts)
of_category category claims slot load place accepts has =
    let later : Answer = answer_at claims slot accepts place in
    let now : Answer = cond (ltb SCALE (claimed_at claims slot + load)) later (accepts slot) in
    let fits : HasOne now = cond_both (ltb SCALE (claimed_at claims slot + load)) later (accepts slot) HasOne
    (λ _. of_place claims slot accepts place has) (λ _. has slot) in
    let beside : HasOne (admit_or_refuse claims slot load place accepts) = cond_both
    (leb 64 (length (filter (is_claimed_at slot) claims))) (answers.Cause 0x07) now HasOne (λ _. refl) (λ _. fits)
    in
    cond_both (is_background_category category) (accepts slot) (admit_or_refuse claims slot load place accepts) HasOne
    (λ _. has slot) (λ _. beside)

of_pair : (named : Option ScheduledMessage) (answer : Answer) → HasOne answer → HasOne (unless_accepted named answer)
of_pair None answer has = has
of_pair (Some m) answer has = refl

of_one : (slot : ℕ) (found : Option Accepted) (answer : Accepted → Answer)
    → ((a : Accepted) → HasOne (answer a))
    → HasOne (if_live slot found answer)
of_one slot None answer has = refl
of_one slot (Some a) answer has =
    cond_both (is_live slot a.message) (answer a) (answers.Cause 0x02) HasOne (λ _. has a) (λ _. refl)

of_write : (log : List Entry) (air : Air) (slot id serial : ℕ) (replaces : Option ℕ) (category : Category) (load : ℕ)
    → HasOne (answer_to_write log air slot id serial replaces category load)
of_write log air slot id serial None category load =
    of_pair (message_named id serial log) (answer_to_new log slot category load)
    (of_category category (claims_in log) slot load None (λ start. answers.Started start) (λ start. refl))
of_write log air slot id serial (Some replaced) category load =
    of_one slot (accepted_named id replaced log) (λ old. unless_accepted (message_named id serial log)
    (answer_to_replacement log air slot category load old)) (λ old.
    let left = stop_claims old.message.entry slot (claims_in log) in
    of_pair (message_named id serial log) (answer_to_replacement log air slot category load old)
    (of_category category left slot load (place_after left slot old load)
    (λ start. answers.Replaced start (completed old.message air slot)) (λ start. refl)))

of_status : (air : Air) (slot : ℕ) (named : Option ScheduledMessage) → HasOne (status_answer air slot named)
of_status air slot None = refl
of_status air slot (Some m) = refl

-- each answer in a log with room has an entry
pub has_entry-with_room : (slots : ℕ) (log : List Entry) (air : Air) (slot : ℕ) (command : Command)
    → HasOne (answer_with_room slots log air slot command)
has_entry-with_room slots log air slot (commands.Status id serial) = of_status air slot (message_named id serial log)
has_entry-with_room slots log air slot (commands.Kill id serial) =
    let kill = of_one slot (accepted_named id serial log) (λ a. answers.Stopped (completed a.message air slot))
    (λ a. refl) in
    cond_both (slot == slots) (answers.Cause 0x0A) (answer_to_kill log air slot id serial) HasOne (λ _. refl)
    (λ _. kill)
has_entry-with_room slots log air slot (commands.Write id serial replaces category dcs period broadcasts contents) =
    let load = load_of (length contents) period in
    cond_both (slot == slots) (answers.Cause 0x0A) (answer_to_write log air slot id serial replaces category load)
    HasOne (λ _. refl) (λ _. of_write log air slot id serial replaces category load)
