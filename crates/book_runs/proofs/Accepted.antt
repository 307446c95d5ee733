-- A write in a log whose answer starts its message is among the accepted ones.
use Rattle.std.proofs.Common.{◌≡◌, ℕ, ◌+◌, zero, suc, Option, Some, List, [], ◌∷◌, map, refl, subst}
use Rattle.std.proofs.Common.{arith, sym}
use Rattle.std.specs.List.{Any}
use Rattle.bsc_table.specs.declared.command.Command.{Command}
use Rattle.bsc_table.specs.declared.command.Command.TheVariants as commands
use Rattle.bsc_table.specs.declared.entry.Entry.{Entry}
use Rattle.bsc_table.specs.Orders.{IsWrite}
use Rattle.bsc_table.specs.Record.{Accepted, accepted_after, accepted_from, added_by, start_of, stopped_by}
use Rattle.bsc_table.specs.Written.{IsWriteBy}
use Rattle.book_runs.proofs.Lists.{any_left, any_mapped, any_right, any_weaker}

-- a stop of a message leaves it that write's
still : (e : Entry) (a : Accepted) (command : Command) (start : Option ℕ) → IsWriteBy a command start
    → IsWriteBy (stopped_by e a) command start
still e a (commands.Write id serial replaces category dcs period broadcasts contents) start by = by
still e a (commands.Kill id serial) start by = by
still e a (commands.Status id serial) start by = by

-- so do the entries after it
stays : (command : Command) (start : Option ℕ) (all : List Accepted) (place : ℕ) (log : List Entry)
    → Any (λ a. IsWriteBy a command start) all → Any (λ a. IsWriteBy a command start) (accepted_from all place log)
stays command start all place [] some = some
stays command start all place (e ∷ later) some =
    let By : Accepted → Type 0 = λ a. IsWriteBy a command start in
    stays command start (accepted_after all place e) (place + 1) later
    (any_left By (map (stopped_by e) all) (added_by all place e.slot (start_of e.answer) e.command)
    (any_mapped By (stopped_by e) all
    (any_weaker By (λ (a : Accepted). By (stopped_by e a)) all (λ a by. still e a command start by) some)))

-- a write's entry adds its message
adds : (all : List Accepted) (place slot start : ℕ) (command : Command) → IsWrite command
    → Any (λ a. IsWriteBy a command (Some start)) (added_by all place slot (Some start) command)
adds all place slot start (commands.Write id serial replaces category dcs period broadcasts contents) write =
    (0, _, omega arith, refl, (refl, refl, refl, refl))
adds all place slot start (commands.Kill id serial) write = absurd write
adds all place slot start (commands.Status id serial) write = absurd write

-- a write whose entry starts it is among the accepted messages of the log
pub accepted_of : (start : ℕ) (command : Command) → IsWrite command → (all : List Accepted) (place : ℕ)
    (log : List Entry) → Any (λ e. (e.command ≡ command) × (start_of e.answer ≡ Some start)) log
    → Any (λ a. IsWriteBy a command (Some start)) (accepted_from all place log)
accepted_of start command write all place [] some = absurd (omega (arith, some.2))
accepted_of start command write all place (e ∷ later) (zero, f, within, is, here) =
    let By : Accepted → Type 0 = λ a. IsWriteBy a command (Some start) in
    let at : (e.command ≡ command) × (start_of e.answer ≡ Some start) =
    subst (λ (g : Entry). (g.command ≡ command) × (start_of g.answer ≡ Some start)) (sym is) here in
    stays command (Some start) (accepted_after all place e) (place + 1) later
    (any_right By (map (stopped_by e) all) (added_by all place e.slot (start_of e.answer) e.command)
    (subst (λ (o : Option ℕ). Any By (added_by all place e.slot o e.command)) (sym at.1)
    (subst (λ (c : Command). Any By (added_by all place e.slot (Some start) c)) (sym at.0)
    (adds all place e.slot start command write))))
accepted_of start command write all place (e ∷ later) (suc k, f, within, is, here) =
    accepted_of start command write (accepted_after all place e) (place + 1) later
    (k, f, omega (arith, within), is, here)
