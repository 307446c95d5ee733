-- An accepted message is the write at its place of the log, and what a slot airs is a page of one.
use Rattle.std.proofs.Common.{◌≡◌, ℕ, suc, ◌+◌, ◌≤◌, ◌<◌, Option, Some, None, is_some, List, [], ◌∷◌, length, map}
use Rattle.std.proofs.Common.{get_or, refl, ap, sym, subst, ◌∙◌, arith}
use Rattle.std.specs.List.{All}
use Rattle.std.proofs.lemmas.List.{get_or-map, length-map}
use Rattle.std.proofs.lemmas.List.Elements.{All-nil, All-cons, All-map, All-append, All-weaker}
use Rattle.scheduler.specs.Message.{ScheduledMessage}
use Rattle.scheduler.specs.Air.{IsChosen}
use Rattle.bsc_table.specs.declared.command.Command.{Command}
use Rattle.bsc_table.specs.declared.command.Command.TheVariants as commands
use Rattle.bsc_table.specs.declared.entry.Answer.{Answer}
use Rattle.bsc_table.specs.declared.entry.Entry.{Entry}
use Rattle.bsc_table.specs.Record.{Accepted, start_of, rank_of, stopped_by, replaced_in, predecessor_of, written_behind}
use Rattle.bsc_table.specs.Record.{added_by, accepted_after, accepted_from, accepted_in, messages_in}
use Rattle.bsc_table.specs.Written.{IsWriteBy, AcceptedAreWrites, HasPage, UsesAreOfWrites}
use Rattle.bsc_table.proofs.History.NextEntry.{entry_with}

-- the message is the write at its number, accepted at its slot
abbrev IsWritten : List Entry → Entry → Accepted → Type 0
IsWritten log d a =
    (a.message.entry < length log) × IsWriteBy a (get_or log a.message.entry d).command
    (start_of (get_or log a.message.entry d).answer) × (a.accepted ≡ (get_or log a.message.entry d).slot)

-- it stays so where it is stopped
still_written : (e : Entry) (a : Accepted) (command : Command) (start : Option ℕ) → IsWriteBy a command start
    → IsWriteBy (stopped_by e a) command start
still_written e a (commands.Write id serial replaces category dcs period broadcasts contents) start h = h
still_written e a (commands.Kill id serial) start h = h
still_written e a (commands.Status id serial) start h = h

-- and what an entry adds is its write
added_is_written : (log : List Entry) (d : Entry) (all : List Accepted) (place slot : ℕ) (answer : Answer)
    (command : Command) (start : Option ℕ) → place < length log → get_or log place d ≡ entry_with command slot answer
    → start_of answer ≡ start → All (IsWritten log d) (added_by all place slot start command)
added_is_written log d all place slot answer (commands.Write id serial replaces category dcs period broadcasts
    contents) (Some start) within here told =
    let a : Accepted = written_behind all place slot start (predecessor_of slot start (replaced_in all id replaces)) id
    serial (length contents) period broadcasts (rank_of category) in
    let Here : Entry → Type 0 = λ x. IsWriteBy a x.command (start_of x.answer) in
    All-cons (IsWritten log d) a [] (
      within,
      subst Here (sym here) (refl, refl, refl, told),
      sym
          (ap (λ (x : Entry). x.slot) here),
    ) (All-nil (IsWritten log d))
added_is_written log d all place slot answer (commands.Write id serial replaces category dcs period broadcasts
    contents) None within here told = All-nil (IsWritten log d)
added_is_written log d all place slot answer (commands.Kill id serial) (Some start) within here told = All-nil
    (IsWritten log d)
added_is_written log d all place slot answer (commands.Kill id serial) None within here told = All-nil (IsWritten log d)
added_is_written log d all place slot answer (commands.Status id serial) (Some start) within here told = All-nil
    (IsWritten log d)
added_is_written log d all place slot answer (commands.Status id serial) None within here told = All-nil
    (IsWritten log d)

-- so from a place of the log on, where its later entries stand there
written_from : (log : List Entry) (d : Entry) (all : List Accepted) (place : ℕ) (later : List Entry)
    → ((i : ℕ) → i < length later → (place + i < length log) × (get_or log (place + i) d ≡ get_or later i d))
    → All (IsWritten log d) all → All (IsWritten log d) (accepted_from all place later)
written_from log d all place [] there written = written
written_from log d all place (e ∷ later) there written =
    let first = there 0 (omega arith) in
    let at : place + 0 ≡ place = omega arith in
    let within : place < length log = omega (arith, first.0) in
    let here : get_or log place d ≡ e = ap (λ n. get_or log n d) (sym at) ∙ first.1 in
    let stopped = All-map (IsWritten log d) (stopped_by e) all
    (All-weaker (IsWritten log d) (λ (a : Accepted). IsWritten log d (stopped_by e a))
    (λ a h. (
      h.0,
      still_written e a (get_or log a.message.entry d).command
          (start_of (get_or log a.message.entry d).answer) h.1,
      h.2,
    )) all written) in
    let added = added_is_written log d all place e.slot e.answer e.command (start_of e.answer) within here refl in
    let after = All-append (IsWritten log d) (map (stopped_by e) all)
    (added_by all place e.slot (start_of e.answer) e.command) stopped added in
    written_from log d (accepted_after all place e) (place + 1) later (λ i h.
    let There : ℕ → Type 0 = λ n. (n < length log) × (get_or log n d ≡ get_or later i d) in
    let next : place + suc i ≡ place + 1 + i = omega arith in
    subst There next (there (suc i) (omega (arith, h)))) after

-- each accepted message is the write at its place of the log
pub accepted_are_writes : AcceptedAreWrites
accepted_are_writes log d =
    written_from log d [] 0 log (λ i h.
    let There : ℕ → Type 0 = λ n. (n < length log) × (get_or log n d ≡ get_or log i d) in
    let same : i ≡ 0 + i = omega arith in
    subst There same (h, refl)) (All-nil (IsWritten log d))

-- a write's message has its pages
has_page : (a : Accepted) (page : ℕ) (command : Command) (start : Option ℕ) → IsWriteBy a command start → 1 ≤ page
    → page ≤ a.message.pages → HasPage page command start
has_page a page (commands.Write id serial replaces category dcs period broadcasts contents) start h some few =
    (some, omega (arith, h.2, few), ap is_some h.3)
has_page a page (commands.Kill id serial) start h some few = absurd h
has_page a page (commands.Status id serial) start h some few = absurd h

-- each used slot airs a page of such a write
pub uses_are_of_writes : UsesAreOfWrites
uses_are_of_writes r slot entry page d legal within used =
    let Chosen : Option (ℕ × ℕ) → Type 0 = λ u. IsChosen (messages_in r.log) r.air slot u in
    let chosen = subst Chosen used (legal.aired slot (omega (arith, legal.played))) in
    let m : ScheduledMessage = chosen.1 in
    let all = accepted_in r.log in
    let message : Accepted → ScheduledMessage = λ a. a.message in
    let default : Accepted = record { id = 0; serial = 0; accepted = 0; behind = None; excess = 0; message = m } in
    let long = length-map all message in
    let a : Accepted = get_or all chosen.0 default in
    let here : a.message ≡ m = sym (get_or-map message all chosen.0 default m (omega (arith, long, chosen.2)))
    ∙ chosen.3 in
    let written = accepted_are_writes r.log d chosen.0 default (omega (arith, long, chosen.2)) in
    let of_it : entry ≡ a.message.entry = ap (λ (u : ℕ × ℕ). u.0) chosen.4.2
    ∙ sym (ap (λ (o : ScheduledMessage). o.entry) here) in
    let counted = ap (λ (u : ℕ × ℕ). u.1) chosen.4.2 in
    let pages = ap (λ (o : ScheduledMessage). o.pages) here in
    let Here : ℕ → Type 0 = λ n. (n < length r.log) × IsWriteBy a (get_or r.log n d).command
    (start_of (get_or r.log n d).answer) in
    let at = subst Here (sym of_it) (written.0, written.1) in (
      at.0,
      has_page a page (get_or r.log entry d).command (start_of (get_or r.log entry d).answer) at.1
          (omega (arith, counted)) (omega (arith, counted, pages, chosen.4.1.pending.unfinished)),
    )
