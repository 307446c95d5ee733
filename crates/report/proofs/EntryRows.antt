-- The row of each entry of a legal log: from what its command and its answer say, from the first stop after it, and
-- from how often its last page was aired.
use Rattle.std.proofs.Common.{◌≡◌, ℕ, ◌+◌, ◌<◌, Bool, true, false, cond, Option, Some, None, List, [], ◌∷◌, ◌++◌}
use Rattle.std.proofs.Common.{length, map, filter, find, eqb, suc, refl, ◌∙◌, ap, arith}
use Rattle.std.proofs.Common.{append-nil, eq-eqb}
use Rattle.std.specs.List.{All}
use Rattle.std.specs.Option.{option_map}
use Rattle.std.proofs.lemmas.Bool.{ne_eqb}
use Rattle.std.proofs.lemmas.List.Elements.{filter-append}
use Rattle.bsc_table.specs.declared.command.Command.{Command}
use Rattle.bsc_table.specs.declared.command.Command.TheVariants as commands
use Rattle.bsc_table.specs.declared.entry.Entry.{Entry}
use Rattle.bsc_table.specs.Record.{Accepted, stop_after, is_stop_of, start_of, stopped_by, added_by, accepted_after}
use Rattle.bsc_table.specs.Record.{accepted_from, accepted_in}
use Rattle.bsc_table.specs.Written.{AcceptedAreWrites}
use Rattle.report.specs.Rows.{is_at, accepted_at}
use Rattle.report.specs.RowSteps.{stop_in}

-- an accepted message after later entries
abbrev pub stopped_after : List Entry → Accepted → Accepted
stopped_after [] a = a
stopped_after (e ∷ later) a = stopped_after later (stopped_by e a)

-- what is of a number stays so
filter-stopped : (place : ℕ) (e : Entry) (all : List Accepted) →
    filter (is_at place) (map (stopped_by e) all) ≡ map (stopped_by e) (filter (is_at place) all)
filter-stopped place e [] = refl
filter-stopped place e (a ∷ all) = by_test (is_at place a) (filter-stopped place e all)
  where
    by_test : (here : Bool) →
        filter (is_at place) (map (stopped_by e) all) ≡ map (stopped_by e) (filter (is_at place) all) →
        cond here (stopped_by e a ∷ filter (is_at place) (map (stopped_by e) all))
        (filter (is_at place) (map (stopped_by e) all))
        ≡ map (stopped_by e) (cond here (a ∷ filter (is_at place) all) (filter (is_at place) all))
    by_test true rest = ap (λ (xs : List Accepted). stopped_by e a ∷ xs) rest
    by_test false rest = rest

-- an entry adds a message of its own number alone
filter-added : (place now : ℕ) (all : List Accepted) (slot : ℕ) (start : Option ℕ) (command : Command) → place < now →
    filter (is_at place) (added_by all now slot start command) ≡ []
filter-added place now all slot (Some start)
    (commands.Write id serial replaces category dcs period broadcasts contents) below =
    let other : eqb now place ≡ false = ne_eqb now place (λ same. omega (arith, same)) in
    ap (λ (here : Bool). cond here (added_by all now slot (Some start)
    (commands.Write id serial replaces category dcs period broadcasts contents)) []) other
filter-added place now all slot (Some start) (commands.Kill id serial) below = refl
filter-added place now all slot (Some start) (commands.Status id serial) below = refl
filter-added place now all slot None command below = refl

filter-own : (place : ℕ) (all : List Accepted) (slot : ℕ) (start : Option ℕ) (command : Command) →
    filter (is_at place) (added_by all place slot start command) ≡ added_by all place slot start command
filter-own place all slot (Some start) (commands.Write id serial replaces category dcs period broadcasts contents) =
    ap (λ (here : Bool). cond here (added_by all place slot (Some start)
    (commands.Write id serial replaces category dcs period broadcasts contents)) []) (eq-eqb place place refl)
filter-own place all slot (Some start) (commands.Kill id serial) = refl
filter-own place all slot (Some start) (commands.Status id serial) = refl
filter-own place all slot None command = refl

stopped-stopped : (e : Entry) (later : List Entry) (all : List Accepted) →
    map (stopped_after later) (map (stopped_by e) all) ≡ map (stopped_after (e ∷ later)) all
stopped-stopped e later [] = refl
stopped-stopped e later (a ∷ all) =
    ap (λ (xs : List Accepted). stopped_after later (stopped_by e a) ∷ xs) (stopped-stopped e later all)

-- later entries stop a message of a number, and do no more to it
filter-later : (place now : ℕ) (all : List Accepted) (later : List Entry) → place < now →
    filter (is_at place) (accepted_from all now later) ≡ map (stopped_after later) (filter (is_at place) all)
filter-later place now all [] below = same (filter (is_at place) all)
  where
    same : (xs : List Accepted) → xs ≡ map (stopped_after []) xs
    same [] = refl
    same (a ∷ xs) = ap (λ (ys : List Accepted). a ∷ ys) (same xs)
filter-later place now all (e ∷ later) below =
    let next : place < now + 1 = omega (arith, below) in
    let added : List Accepted = added_by all now e.slot (start_of e.answer) e.command in
    filter-later place (now + 1) (accepted_after all now e) later next
    ∙ ap (λ (xs : List Accepted). map (stopped_after later) xs)
    (filter-append (is_at place) (map (stopped_by e) all) added
    ∙ ap (λ (xs : List Accepted). filter (is_at place) (map (stopped_by e) all) ++ xs)
    (filter-added place now all e.slot (start_of e.answer) e.command below)
    ∙ append-nil (filter (is_at place) (map (stopped_by e) all))
    ∙ filter-stopped place e all)
    ∙ stopped-stopped e later (filter (is_at place) all)

-- the accepted messages of two parts of a log
accepted-append : (all : List Accepted) (place : ℕ) (before later : List Entry) →
    accepted_from all place (before ++ later) ≡ accepted_from (accepted_from all place before)
    (place + length before) later
accepted-append all place [] later =
    let same : place ≡ place + 0 = omega arith in
    ap (λ (n : ℕ). accepted_from all n later) same
accepted-append all place (e ∷ before) later =
    let same : place + 1 + length before ≡ place + length (e ∷ before) = omega arith in
    accepted-append (accepted_after all place e) (place + 1) before later
    ∙ ap (λ (n : ℕ). accepted_from (accepted_from (accepted_after all place e) (place + 1) before) n later) same

-- none of the messages of a log has a number past its end
none_past : (place : ℕ) (all : List Accepted) → All (λ a. a.message.entry < place) all →
    filter (is_at place) all ≡ []
none_past place [] below = refl
none_past place (a ∷ all) below =
    let first : a.message.entry < place = below 0 a (omega arith) in
    let other : eqb a.message.entry place ≡ false = ne_eqb a.message.entry place (λ same. omega (arith, same)) in
    let rest : filter (is_at place) all ≡ [] =
    none_past place all (λ i d within. below (suc i) d (omega (arith, within))) in
    ap (λ (here : Bool). cond here (a ∷ filter (is_at place) all) (filter (is_at place) all)) other ∙ rest

-- the message of an entry's number is what the entry added, with the stops of the entries after it
pub message-at : AcceptedAreWrites → (before : List Entry) (e : Entry) (later : List Entry) →
    accepted_at (length before) (before ++ e ∷ later)
    ≡ map (stopped_after later)
    (added_by (accepted_in before) (length before) e.slot (start_of e.answer) e.command)
message-at written before e later =
    let place : ℕ = length before in
    let all : List Accepted = accepted_in before in
    let added : List Accepted = added_by all place e.slot (start_of e.answer) e.command in
    let number : 0 + length before ≡ length before = omega arith in
    let below : All (λ a. a.message.entry < place) all = λ i d within. (written before e i d within).0 in
    let next : place < place + 1 = omega arith in
    ap (λ (xs : List Accepted). filter (is_at place) xs)
    (accepted-append [] 0 before (e ∷ later)
    ∙ ap (λ (n : ℕ). accepted_from all n (e ∷ later)) number)
    ∙ filter-later place (place + 1) (accepted_after all place e) later next
    ∙ ap (λ (xs : List Accepted). map (stopped_after later) xs)
    (filter-append (is_at place) (map (stopped_by e) all) added
    ∙ ap (λ (xs : List Accepted). xs ++ filter (is_at place) added)
    (filter-stopped place e all ∙ ap (λ (xs : List Accepted). map (stopped_by e) xs) (none_past place all below))
    ∙ filter-own place all e.slot (start_of e.answer) e.command)

-- a message with another stop
abbrev pub with_stop : Accepted → Option ℕ → Accepted
with_stop a stop = record a { message = record (a.message) { stop = stop } }

-- the stop of a pair after later entries
abbrev stop_later : List Entry → (id serial : ℕ) → Option ℕ → Option ℕ
stop_later [] id serial stop = stop
stop_later (e ∷ later) id serial stop =
    stop_later later id serial (stop_after stop (is_stop_of id serial e) e.slot)

stopped-is : (later : List Entry) (a : Accepted) →
    stopped_after later a ≡ with_stop a (stop_later later a.id a.serial a.message.stop)
stopped-is [] a = refl
stopped-is (e ∷ later) a = stopped-is later (stopped_by e a)

-- the first stop stays
stays : (later : List Entry) (id serial slot : ℕ) → stop_later later id serial (Some slot) ≡ Some slot
stays [] id serial slot = refl
stays (e ∷ later) id serial slot = stays later id serial slot

first-stop : (later : List Entry) (id serial : ℕ) → stop_later later id serial None ≡ stop_in later (id, serial)
first-stop [] id serial = refl
first-stop (e ∷ later) id serial = by_test (is_stop_of id serial e) (first-stop later id serial)
  where
    by_test : (here : Bool) → stop_later later id serial None ≡ stop_in later (id, serial) →
        stop_later later id serial (stop_after None here e.slot)
        ≡ option_map (λ (x : Entry). x.slot) (cond here (Some e) (find (is_stop_of id serial) later))
    by_test true rest = stays later id serial e.slot
    by_test false rest = rest

-- so a message that nothing had stopped has the first stop of its pair
pub stopped-first : (later : List Entry) (a : Accepted) → a.message.stop ≡ None →
    stopped_after later a ≡ with_stop a (stop_in later (a.id, a.serial))
stopped-first later a none =
    stopped-is later a
    ∙ ap (λ (stop : Option ℕ). with_stop a (stop_later later a.id a.serial stop)) none
    ∙ ap (with_stop a) (first-stop later a.id a.serial)
