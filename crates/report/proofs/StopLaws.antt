-- The first stops of messages, as the entries of a log are read from the last one on.
use Rattle.std.proofs.Common.{◌≡◌, ℕ, Bool, true, false, cond, Option, Some, None, List, [], ◌∷◌, find}
use Rattle.std.proofs.Common.{refl, sym, ◌∙◌, ap, eqb}
use Rattle.std.specs.Prelude.{◌&&◌}
use Rattle.std.specs.Map.{lookup}
use Rattle.std.specs.Option.{option_map}
use Rattle.std.specs.Cmp.{nat_eq_equiv}
use Rattle.bsc_table.specs.declared.command.Command.{Command}
use Rattle.bsc_table.specs.declared.command.Command.TheVariants as commands
use Rattle.bsc_table.specs.declared.entry.Answer.{Answer}
use Rattle.bsc_table.specs.declared.entry.Answer.TheVariants as answers
use Rattle.bsc_table.specs.declared.entry.Entry.{Entry}
use Rattle.bsc_table.specs.Record.{is_stop_by, is_stop_of}
use Rattle.report.specs.RowSteps.{Pair, is_pair, stopped_by_answer, stopped_pair, stop_in, stop_of_command, AreStops}

-- whether the pair that was stopped, if one was, is this one
abbrev names : Pair → Option Pair → Bool
names pair None = false
names pair (Some other) = is_pair pair other

-- an entry stops the message of the pair that it names
stops_what_it_names : (pair : Pair) (command : Command) (answer : Answer) →
    is_stop_by pair.0 pair.1 command answer ≡ names pair (stopped_by_answer command answer)
stops_what_it_names pair (commands.Kill id serial) (answers.Started slot) = refl
stops_what_it_names pair (commands.Kill id serial) (answers.Replaced slot completed) = refl
stops_what_it_names pair (commands.Kill id serial) (answers.Stopped completed) = refl
stops_what_it_names pair (commands.Kill id serial) (answers.Told completed state) = refl
stops_what_it_names pair (commands.Kill id serial) answers.Unknown = refl
stops_what_it_names pair (commands.Kill id serial) (answers.Cause cause) = refl
stops_what_it_names pair (commands.Kill id serial) answers.Refused = refl
stops_what_it_names pair (commands.Status id serial) answer = refl
stops_what_it_names pair (commands.Write id serial None category dcs period broadcasts contents) answer = refl
stops_what_it_names pair (commands.Write id serial (Some old) category dcs period broadcasts contents)
    (answers.Started slot) = refl
stops_what_it_names pair (commands.Write id serial (Some old) category dcs period broadcasts contents)
    (answers.Replaced slot completed) = refl
stops_what_it_names pair (commands.Write id serial (Some old) category dcs period broadcasts contents)
    (answers.Stopped completed) = refl
stops_what_it_names pair (commands.Write id serial (Some old) category dcs period broadcasts contents)
    (answers.Told completed state) = refl
stops_what_it_names pair (commands.Write id serial (Some old) category dcs period broadcasts contents) answers.Unknown
    = refl
stops_what_it_names pair (commands.Write id serial (Some old) category dcs period broadcasts contents)
    (answers.Cause cause) = refl
stops_what_it_names pair (commands.Write id serial (Some old) category dcs period broadcasts contents) answers.Refused
    = refl

stops_by : (pair : Pair) (e : Entry) (named : Option Pair) → stopped_pair e ≡ named →
    is_stop_of pair.0 pair.1 e ≡ names pair named
stops_by pair e named is = stops_what_it_names pair e.command e.answer ∙ ap (names pair) is

-- pairs are compared either way
pub pair-symm : (a b : Pair) → is_pair a b ≡ is_pair b a
pair-symm a b =
    ap (λ (x : Bool). x && eqb a.1 b.1) (nat_eq_equiv.symm a.0 b.0)
    ∙ ap (λ (x : Bool). eqb b.0 a.0 && x) (nat_eq_equiv.symm a.1 b.1)

-- what is found among one more entry
found_more : (here : Bool) (e : Entry) (found : Option Entry) →
    option_map (λ (x : Entry). x.slot) (cond here (Some e) found)
    ≡ cond here (Some e.slot) (option_map (λ (x : Entry). x.slot) found)
found_more true e found = refl
found_more false e found = refl

-- an entry that stops nothing comes before the others
pub stops-none : (entries : List (Pair × ℕ)) (e : Entry) (later : List Entry) → stopped_pair e ≡ None →
    AreStops entries later → AreStops entries (e ∷ later)
stops-none entries e later none are pair =
    are pair ∙ sym (found_more (is_stop_of pair.0 pair.1 e) e (find (is_stop_of pair.0 pair.1) later)
    ∙ ap (λ (here : Bool). cond here (Some e.slot) (stop_in later pair)) (stops_by pair e None none))

-- and one that stops a message
pub stops-more : (old new : List (Pair × ℕ)) (e : Entry) (later : List Entry) (named : Pair) →
    stopped_pair e ≡ Some named →
    ((pair : Pair) → lookup (is_pair pair) new ≡ cond (is_pair named pair) (Some e.slot) (lookup (is_pair pair) old)) →
    AreStops old later → AreStops new (e ∷ later)
stops-more old new e later named is updated are pair =
    updated pair ∙ ap (λ (rest : Option ℕ). cond (is_pair named pair) (Some e.slot) rest) (are pair)
    ∙ ap (λ (here : Bool). cond here (Some e.slot) (stop_in later pair))
    (pair-symm named pair ∙ sym (stops_by pair e (Some named) is))
    ∙ sym (found_more (is_stop_of pair.0 pair.1 e) e (find (is_stop_of pair.0 pair.1) later))

-- where a map has no stop, no message was stopped
pub stops-nothing : (entries : List (Pair × ℕ)) (later : List Entry) (command : Command) → entries ≡ [] →
    AreStops entries later → None ≡ stop_of_command later command
stops-nothing entries later (commands.Write id serial replaces category dcs period broadcasts contents) none are =
    sym (ap (lookup (is_pair (id, serial))) none) ∙ are (id, serial)
stops-nothing entries later (commands.Kill id serial) none are = refl
stops-nothing entries later (commands.Status id serial) none are = refl
