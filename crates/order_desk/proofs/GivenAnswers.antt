-- What a cell with room in its log answers to the command of an order: an answer that the command can get, which has an
-- entry.
use Rattle.std.proofs.Common.{◌≡◌, ℕ, ◌+◌, ◌<◌, ◌==◌, true, false, cond, leb, ltb, Option, Some, None, List, length}
use Rattle.std.proofs.Common.{filter, refl, subst, sym, ap}
use Rattle.std.proofs.lemmas.Bool.{cond_both, lt-leb}
use Rattle.admission.specs.declared.measure.TheConstants.{SCALE}
use Rattle.scheduler.specs.Message.{ScheduledMessage}
use Rattle.scheduler.specs.Air.{Air}
use Rattle.scheduler.specs.Completed.{completed}
use Rattle.admission.specs.Load.{load_of}
use Rattle.cbs_page.specs.declared.Dcs.{Dcs}
use Rattle.cbs_page.specs.declared.content.Content.{Content}
use Rattle.bsc_table.specs.declared.command.Category.{Category}
use Rattle.bsc_table.specs.declared.command.Command.{Command}
use Rattle.bsc_table.specs.declared.command.Command.TheVariants as commands
use Rattle.bsc_table.specs.declared.entry.Answer.{Answer}
use Rattle.bsc_table.specs.declared.entry.Answer.TheVariants as answers
use Rattle.bsc_table.specs.declared.entry.Entry.{Entry}
use Rattle.bsc_table.specs.Claim.{Claim, is_claimed_at, claimed_at, stop_claims}
use Rattle.bsc_table.specs.Handover.{Place}
use Rattle.bsc_table.specs.Record.{Accepted, accepted_named, message_named, claims_in, is_background_category}
use Rattle.bsc_table.specs.Record.{place_after}
use Rattle.bsc_table.specs.Record.{is_live}
use Rattle.bsc_table.specs.Answer.{answer_at, admit_or_refuse, answer_for, answer_of, answer_to_new, answer_to_kill}
use Rattle.bsc_table.specs.Answer.{answer_to_replacement, answer_to_write, answer_with_room, if_live, unless_accepted}
use Rattle.bsc_table.specs.Transitions.{has_entry}
use Rattle.order_desk.specs.Reply.{IsAnswerTo}
use Rattle.order_desk.specs.ReplyLaws.{IsOrdered}

-- a fact of answers that each refusal with an entry has
abbrev HasRefusals : (Answer → Type 0) → Type 0
HasRefusals fact = (cause : ℕ) → (cause == 8) ≡ false → fact (answers.Cause cause)

of_place : (fact : Answer → Type 0) → HasRefusals fact → (claims : List Claim) (slot : ℕ) (accepts : ℕ → Answer)
    (place : Option Place)
    → ((start : ℕ) → fact (accepts start))
    → fact (answer_at claims slot accepts place)
of_place fact refuses claims slot accepts None has = refuses 0x06 refl
of_place fact refuses claims slot accepts (Some p) has =
    cond_both (ltb SCALE (claimed_at claims slot + p.excess)) (answers.Cause 0x06) (accepts p.start) fact
    (λ _. refuses 0x06 refl) (λ _. has p.start)

of_category : (fact : Answer → Type 0) → HasRefusals fact → (category : Category) (claims : List Claim)
    (slot load : ℕ) (place : Option Place) (accepts : ℕ → Answer)
    → ((start : ℕ) → fact (accepts start))
    → fact (answer_for category claims slot load place accepts)
of_category fact refuses category claims slot load place accepts has =
    let later : Answer = answer_at claims slot accepts place in
    let now : Answer = cond (ltb SCALE (claimed_at claims slot + load)) later (accepts slot) in
    let fits : fact now = cond_both (ltb SCALE (claimed_at claims slot + load)) later (accepts slot) fact
    (λ _. of_place fact refuses claims slot accepts place has) (λ _. has slot) in
    let beside : fact (admit_or_refuse claims slot load place accepts) = cond_both
    (leb 64 (length (filter (is_claimed_at slot) claims))) (answers.Cause 0x07) now fact (λ _. refuses 0x07 refl)
    (λ _. fits) in
    cond_both (is_background_category category) (accepts slot) (admit_or_refuse claims slot load place accepts) fact
    (λ _. has slot) (λ _. beside)

of_pair : (fact : Answer → Type 0) → HasRefusals fact → (named : Option ScheduledMessage) (answer : Answer)
    → fact answer
    → fact (unless_accepted named answer)
of_pair fact refuses None answer has = has
of_pair fact refuses (Some m) answer has = refuses 0x0D refl

of_one : (fact : Answer → Type 0) → HasRefusals fact → (slot : ℕ) (found : Option Accepted) (answer : Accepted → Answer)
    → ((a : Accepted) → fact (answer a))
    → fact (if_live slot found answer)
of_one fact refuses slot None answer has = refuses 0x02 refl
of_one fact refuses slot (Some a) answer has =
    cond_both (is_live slot a.message) (answer a) (answers.Cause 0x02) fact (λ _. has a) (λ _. refuses 0x02 refl)

of_end : (fact : Answer → Type 0) → HasRefusals fact → (slots slot : ℕ) (answer : Answer)
    → fact answer
    → fact (cond (slot == slots) (answers.Cause 0x0A) answer)
of_end fact refuses slots slot answer has =
    cond_both (slot == slots) (answers.Cause 0x0A) answer fact (λ _. refuses 0x0A refl) (λ _. has)

-- an answer that a command can get, and that has an entry
abbrev IsGiven : Command → Answer → Type 0
IsGiven command answer = IsAnswerTo command answer × (has_entry answer ≡ true)

refused_write : (id serial : ℕ) (replaces : Option ℕ) (category : Category) (period broadcasts : ℕ) (dcs : Dcs)
    (contents : List Content) → HasRefusals (IsGiven (commands.Write id serial replaces category dcs period broadcasts
    contents))
refused_write id serial None category period broadcasts dcs contents cause other = (tt, rw (other) refl)
refused_write id serial (Some old) category period broadcasts dcs contents cause other = (tt, rw (other) refl)

with_room : (slots : ℕ) (log : List Entry) (air : Air) (slot : ℕ) (command : Command)
    → IsOrdered command
    → IsGiven command (answer_with_room slots log air slot command)
with_room slots log air slot (commands.Status id serial) ordered = absurd ordered
with_room slots log air slot (commands.Kill id serial) ordered =
    let fact = IsGiven (commands.Kill id serial) in
    let refuses : HasRefusals fact = λ cause other. (tt, rw (other) refl) in
    of_end fact refuses slots slot (answer_to_kill log air slot id serial)
    (of_one fact refuses slot (accepted_named id serial log)
    (λ a. answers.Stopped (completed a.message air slot)) (λ a. (tt, refl)))
with_room slots log air slot (commands.Write id serial None category dcs period broadcasts contents) ordered =
    let command = commands.Write id serial None category dcs period broadcasts contents in
    let refuses = refused_write id serial None category period broadcasts dcs contents in
    let load = load_of (length contents) period in
    of_end (IsGiven command) refuses slots slot (answer_to_write log air slot id serial None category load)
    (of_pair (IsGiven command) refuses (message_named id serial log) (answer_to_new log slot category load)
    (of_category (IsGiven command) refuses category (claims_in log) slot load None
    (λ start. answers.Started start) (λ start. (tt, refl))))
with_room slots log air slot (commands.Write id serial (Some old) category dcs period broadcasts contents) ordered =
    let command = commands.Write id serial (Some old) category dcs period broadcasts contents in
    let fact = IsGiven command in
    let refuses = refused_write id serial (Some old) category period broadcasts dcs contents in
    let load = load_of (length contents) period in
    of_end fact refuses slots slot (answer_to_write log air slot id serial (Some old) category load)
    (of_one fact refuses slot (accepted_named id old log) (λ a. unless_accepted (message_named id serial log)
    (answer_to_replacement log air slot category load a)) (λ a.
    let left = stop_claims a.message.entry slot (claims_in log) in
    of_pair fact refuses (message_named id serial log) (answer_to_replacement log air slot category load a)
    (of_category fact refuses category left slot load (place_after left slot a load)
    (λ start. answers.Replaced start (completed a.message air slot)) (λ start. (tt, refl)))))

-- the answer of a cell with room in its log
pub given_answer : (slots : ℕ) (log : List Entry) (air : Air) (slot : ℕ) (command : Command)
    → IsOrdered command
    → length log < 4096
    → IsGiven command (answer_of slots log air slot command)
given_answer slots log air slot command ordered room =
    let answer = answer_with_room slots log air slot command in
    let full : leb 4096 (length log) ≡ false = lt-leb 4096 (length log) room in
    subst (IsGiven command) (sym (ap (λ b. cond b (answers.Cause 0x08) answer) full))
    (with_room slots log air slot command ordered)
