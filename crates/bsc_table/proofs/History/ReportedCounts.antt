-- What a cell tells is true: the number in an answer is that of a message as it was, and what came after doesn't change
-- it.
use Rattle.std.proofs.Common.{◌≡◌, ℕ, zero, suc, ◌+◌, ◌-◌, ◌≤◌, ◌<◌, ◌==◌, ◌&&◌, min, Bool, true, false, leb, Option}
use Rattle.std.proofs.Common.{Some, None, List, [], ◌∷◌, ◌++◌, length, take, drop, map, get_or, refl, ap, sym, subst}
use Rattle.std.proofs.Common.{◌∙◌, inl, inr, arith}
use Rattle.std.specs.Prelude.{⊤}
use Rattle.std.specs.List.{Contains, find}
use Rattle.std.proofs.Math.Seq.{take-suc}
use Rattle.std.proofs.lemmas.Bool.{cases_lt, cond_both, and_parts, eqb-true, lt-ltb}
use Rattle.std.proofs.lemmas.List.{get_or-map, length-map, length-take-le, take-append-drop, take_all}
use Rattle.std.proofs.lemmas.List.Elements.{All-contains, Contains-append_left}
use Rattle.std.proofs.lemmas.Option.{none-some, same_Some}
use Rattle.admission.specs.Load.{load_of}
use Rattle.scheduler.specs.Message.{ScheduledMessage, release, due, has_broadcast, is_before_stop}
use Rattle.scheduler.specs.Air.{Air, layer, pages_aired}
use Rattle.scheduler.specs.Completed.{completed, is_completed}
use Rattle.scheduler.proofs.Air.{pages_aired-append}
use Rattle.scheduler.proofs.Completed.{is_completed-unreleased}
use Rattle.bsc_table.specs.declared.command.Category.{Category}
use Rattle.bsc_table.specs.declared.command.Command.{Command}
use Rattle.bsc_table.specs.declared.command.Command.TheVariants as commands
use Rattle.bsc_table.specs.declared.entry.Answer.{Answer}
use Rattle.bsc_table.specs.declared.entry.Answer.TheVariants as answers
use Rattle.bsc_table.specs.declared.entry.Entry.{Entry}
use Rattle.bsc_table.specs.Bounds.{least_completed, most_completed}
use Rattle.bsc_table.specs.Record.{Record, Accepted, start_of, is_stop_of, stop_after, stopped_by, added_by}
use Rattle.bsc_table.specs.Record.{accepted_in, messages_in, is_of_pair, message_found, message_named, place_after}
use Rattle.bsc_table.specs.Record.{claims_in}
use Rattle.bsc_table.specs.Claim.{stop_claims}
use Rattle.bsc_table.specs.Answer.{answer_to_new, answer_to_replacement, unless_accepted, answer_to_write}
use Rattle.bsc_table.specs.Answer.{answer_to_kill, status_answer, answer_with_room, answer_of}
use Rattle.bsc_table.specs.Legal.{IsLegal}
use Rattle.bsc_table.specs.Reported.{completed_in, IsAbout, IsTrulyReported, LegalAnswersAreTrue}
use Rattle.bsc_table.proofs.History.Accepted.{accepted_in-push}
use Rattle.scheduler.proofs.Lists.{count_below_same}
use Rattle.bsc_table.proofs.History.Pairs.{find_passes}
use Rattle.bsc_table.proofs.History.NextEntry.{before_end_cases, if_live_cases, unless_accepted_cases, for_cases}
use Rattle.bsc_table.proofs.History.NextEntry.{Contains-find}
use Rattle.bsc_table.proofs.History.Promises.{legal_histories_are_bounded}
use Rattle.bsc_table.proofs.History.LegalIsSound.{HasLoad, IsSound-legal}

-- the number told is that of an accepted message that the command is about
record IsReported (log : List Entry) (air : Air) (slot : ℕ) (command : Command) (reported : ℕ) : Type 0 where
  of_message : Accepted
  here : Contains (accepted_in log) of_message
  about : IsAbout of_message.id of_message.serial command
  number : completed of_message.message air slot ≡ reported

-- if the answer tells a number, it is told so
abbrev TellsTrue : List Entry → Air → ℕ → Command → Answer → Type 0
TellsTrue log air slot command answer = (reported : ℕ) → completed_in answer ≡ Some reported
    → IsReported log air slot command reported

tells_none : (log : List Entry) (air : Air) (slot : ℕ) (command : Command) (answer : Answer)
    → completed_in answer ≡ None → TellsTrue log air slot command answer
tells_none log air slot command answer none reported says = absurd (none-some reported (sym none ∙ says))

-- the pair by which a message was found is its own
found_pair : (id serial : ℕ) (all : List Accepted) (a : Accepted) → find (is_of_pair id serial) all ≡ Some a
    → (id ≡ a.id) × (serial ≡ a.serial)
found_pair id serial all a found =
    let parts = and_parts (a.id == id) (a.serial == serial) (find_passes (is_of_pair id serial) all a found) in
    (sym (eqb-true a.id id parts.0), sym (eqb-true a.serial serial parts.1))

status_tells : (log : List Entry) (air : Air) (slot id serial : ℕ) (found : Option Accepted)
    → find (is_of_pair id serial) (accepted_in log) ≡ found → TellsTrue log air slot (commands.Status id serial)
    (status_answer air slot (message_found found))
status_tells log air slot id serial None e = tells_none log air slot (commands.Status id serial) answers.Unknown refl
status_tells log air slot id serial (Some a) e = λ reported says. record {
  of_message = a;
  here = Contains-find (is_of_pair id serial) (accepted_in log) a e;
  about = found_pair id serial (accepted_in log) a e;
  number = same_Some (completed a.message air slot) reported says;
}

kill_tells : (log : List Entry) (air : Air) (slot id serial : ℕ)
    → TellsTrue log air slot (commands.Kill id serial) (answer_to_kill log air slot id serial)
kill_tells log air slot id serial =
    let P : Answer → Type 0 = TellsTrue log air slot (commands.Kill id serial) in
    if_live_cases P slot (find (is_of_pair id serial) (accepted_in log))
    (λ a. answers.Stopped (completed a.message air slot))
    (λ cause. tells_none log air slot (commands.Kill id serial) (answers.Cause cause) refl)
    (λ a found live. λ reported says. record {
      of_message = a;
      here = Contains-find (is_of_pair id serial) (accepted_in log) a found;
      about = found_pair id serial (accepted_in log) a found;
      number = same_Some (completed a.message air slot) reported says;
    })

-- a write in the place of none tells nothing, one in the place of another tells of that one
write_tells : (log : List Entry) (air : Air) (slot load id serial : ℕ) (replaces : Option ℕ) (category : Category)
    (command : Command)
    → ((a : Accepted) → (id ≡ a.id) → replaces ≡ Some a.serial → IsAbout a.id a.serial command)
    → TellsTrue log air slot command (answer_to_write log air slot id serial replaces category load)
write_tells log air slot load id serial None category command about =
    let P : Answer → Type 0 = TellsTrue log air slot command in
    let refuses : (cause : ℕ) → P (answers.Cause cause) = λ cause. tells_none log air slot command
    (answers.Cause cause) refl in
    unless_accepted_cases P (find (is_of_pair id serial) (accepted_in log)) (answer_to_new log slot category load)
    refuses (λ fresh. for_cases P category (claims_in log) slot load None (λ start. answers.Started start) refuses
    (λ room fits. tells_none log air slot command (answers.Started slot) refl)
    (λ front room p none. absurd (none-some p none)))
write_tells log air slot load id serial (Some old) category command about =
    let P : Answer → Type 0 = TellsTrue log air slot command in
    let refuses : (cause : ℕ) → P (answers.Cause cause) = λ cause. tells_none log air slot command
    (answers.Cause cause) refl in
    if_live_cases P slot (find (is_of_pair id old) (accepted_in log))
    (λ a. unless_accepted (message_named id serial log) (answer_to_replacement log air slot category load a))
    refuses (λ a found live. unless_accepted_cases P (find (is_of_pair id serial) (accepted_in log))
    (answer_to_replacement log air slot category load a) refuses (λ fresh.
    let left = stop_claims a.message.entry slot (claims_in log) in
    let tells : (start : ℕ) → P (answers.Replaced start (completed a.message air slot)) = λ start. λ reported says.
    let pair = found_pair id old (accepted_in log) a found in
    record {
      of_message = a;
      here = Contains-find (is_of_pair id old) (accepted_in log) a found;
      about = about a pair.0 (ap (λ n. Some n) pair.1);
      number = same_Some (completed a.message air slot) reported says;
    } in
    for_cases P category left slot load (place_after left slot a load)
    (λ start. answers.Replaced start (completed a.message air slot)) refuses (λ room fits. tells slot)
    (λ front room p over fits. tells p.start)))

tells_with_room : (slots : ℕ) (log : List Entry) (air : Air) (slot : ℕ) (command : Command)
    → TellsTrue log air slot command (answer_with_room slots log air slot command)
tells_with_room slots log air slot (commands.Status id serial) =
    status_tells log air slot id serial (find (is_of_pair id serial) (accepted_in log)) refl
tells_with_room slots log air slot (commands.Kill id serial) =
    let command = commands.Kill id serial in
    before_end_cases (TellsTrue log air slot command) slots slot (answer_to_kill log air slot id serial)
    (λ cause. tells_none log air slot command (answers.Cause cause) refl) (kill_tells log air slot id serial)
tells_with_room slots log air slot (commands.Write id serial replaces category dcs period broadcasts contents) =
    let command = commands.Write id serial replaces category dcs period broadcasts contents in
    let load = load_of (length contents) period in
    before_end_cases (TellsTrue log air slot command) slots slot
    (answer_to_write log air slot id serial replaces category load)
    (λ cause. tells_none log air slot command (answers.Cause cause) refl)
    (write_tells log air slot load id serial replaces category command (λ a same replaced. (same, replaced)))

tells_true : (slots : ℕ) (log : List Entry) (air : Air) (slot : ℕ) (command : Command)
    → TellsTrue log air slot command (answer_of slots log air slot command)
tells_true slots log air slot command =
    cond_both (leb 4096 (length log)) (answers.Cause 0x08) (answer_with_room slots log air slot command)
    (TellsTrue log air slot command) (λ _. tells_none log air slot command (answers.Cause 0x08) refl)
    (λ _. tells_with_room slots log air slot command)

-- the stop of a message, and that of the same message later: what was stopped stays so, and what wasn't is stopped no
-- sooner than at the slot, if at all
abbrev IsLaterStop : ℕ → Option ℕ → Option ℕ → Type 0
IsLaterStop slot (Some stop) later = later ≡ Some stop
IsLaterStop slot None None = ⊤
IsLaterStop slot None (Some later) = slot ≤ later

-- b is what became of a after the slot
record IsContinued (slot : ℕ) (a b : Accepted) : Type 0 where
  same : b ≡ record a { message = record (a.message) { stop = b.message.stop } }
  later : IsLaterStop slot a.message.stop b.message.stop

later_stop-same : (slot : ℕ) (stop : Option ℕ) → IsLaterStop slot stop stop
later_stop-same slot None = tt
later_stop-same slot (Some stop) = refl

later_stop-after : (slot now : ℕ) (stop later : Option ℕ) (says : Bool) → slot ≤ now → IsLaterStop slot stop later
    → IsLaterStop slot stop (stop_after later says now)
later_stop-after slot now (Some stop) later says after h =
    ap (λ (l : Option ℕ). stop_after l says now) h
later_stop-after slot now None (Some later) says after h = h
later_stop-after slot now None None true after h = after
later_stop-after slot now None None false after h = tt

Contains-map : {X Y : Type 0} (f : X → Y) (xs : List X) (x : X) → Contains xs x → Contains (map f xs) (f x)
Contains-map f xs x here = (
  here.0,
  omega (arith, length-map xs f, here.1),
  get_or-map f xs here.0 x (f x) here.1
      ∙ ap f here.2,
)

-- an entry from the slot on goes on with each message
continued_after : (log : List Entry) (e : Entry) (slot : ℕ) (a b : Accepted) → slot ≤ e.slot
    → Contains (accepted_in log) b → IsContinued slot a b → (c : Accepted) × Contains (accepted_in (log ++ e ∷ [])) c
    × IsContinued slot a c
continued_after log e slot a b after here on =
    let all = accepted_in log in
    let says = is_stop_of b.id b.serial e in
    let added = added_by (accepted_in log) (length log) e.slot (start_of e.answer) e.command in
    let c : Accepted = stopped_by e b in
    let Has : List Accepted → Type 0 = λ l. Contains l c in
    let there = subst Has (sym (accepted_in-push log e)) (Contains-append_left (map (stopped_by e) all) added c
    (Contains-map (stopped_by e) all b here)) in
    let stop = stop_after b.message.stop says e.slot in
    let same : c ≡ record a { message = record (a.message) { stop = stop } } = ap
    (λ (x : Accepted). record x { message = record (x.message) { stop = stop } }) on.same in (
      c,
      there,
      record {
        same = same;
        later = later_stop-after slot e.slot a.message.stop b.message.stop says after
            on.later;
      },
    )

-- the entries from one on have no sooner slots
no_sooner : (r : Record) → IsLegal r → (k more : ℕ) (d : Entry) → k + more < length r.log
    → (get_or r.log k d).slot ≤ (get_or r.log (k + more) d).slot
no_sooner r legal k zero d within =
    let at : k ≡ k + 0 = omega arith in
    omega (arith, ap (λ (n : ℕ). (get_or r.log n d).slot) at)
no_sooner r legal k (suc more) d within = legal.rising k (k + suc more) d (omega arith) within

-- so does the rest of a legal history
continued_by : (r : Record) → IsLegal r → (k more : ℕ) (d : Entry) (a : Accepted) → k < length r.log
    → k + more ≤ length r.log → Contains (accepted_in (take k r.log)) a → (b : Accepted)
    × Contains (accepted_in (take (k + more) r.log)) b × IsContinued (get_or r.log k d).slot a b
continued_by r legal k zero d a within upto here =
    let at : k ≡ k + 0 = omega arith in
    let Has : ℕ → Type 0 = λ n. Contains (accepted_in (take n r.log)) a in
    (a, subst Has at here, record { same = refl; later = later_stop-same (get_or r.log k d).slot a.message.stop })
continued_by r legal k (suc more) d a within upto here =
    let before = continued_by r legal k more d a within (omega arith) here in
    let slot = (get_or r.log k d).slot in
    let e : Entry = get_or r.log (k + more) d in
    let grown : take (suc (k + more)) r.log ≡ take (k + more) r.log ++ e ∷ [] = take-suc r.log (k + more) d
    (omega arith) in
    let next : suc (k + more) ≡ k + suc more = omega arith in
    let after : slot ≤ e.slot = no_sooner r legal k more d (omega arith) in
    let Goes : List Entry → Type 0 = λ log. (b : Accepted) × Contains (accepted_in log) b × IsContinued slot a b in
    subst (λ n. Goes (take n r.log)) next (subst Goes (sym grown)
    (continued_after (take (k + more) r.log) e slot a before.0 after before.1 before.2))

-- what is aired from a slot on changes nothing of what is completed before it
is_completed-before : (m : ScheduledMessage) (air : Air) (slot j : ℕ) → slot ≤ length air
    → is_completed m (take slot air) slot j ≡ is_completed m air slot j
is_completed-before m air slot j within =
    let front = take slot air in
    let long : length front ≡ slot = length-take-le slot air within in
    let to : ℕ = min (due m j) slot in
    let whole = ap (λ (l : Air). pages_aired m.entry l (release m j) to) (take-append-drop slot air) in
    let same = sym (pages_aired-append m.entry front (drop slot air) (release m j) to (omega arith)) ∙ whole in
    ap (λ n. has_broadcast m j && (is_before_stop (release m j) m.stop && leb m.pages n)) same

-- nor does a stop from the slot on
before_later_stop : (slot at : ℕ) (stop later : Option ℕ) → at < slot → IsLaterStop slot stop later
    → is_before_stop at later ≡ is_before_stop at stop
before_later_stop slot at (Some stop) later before h = ap (is_before_stop at) h
before_later_stop slot at None None before h = refl
before_later_stop slot at None (Some later) before h = lt-ltb at later (omega arith)

is_completed-stopped_later : (m : ScheduledMessage) (later : Option ℕ) (air : Air) (slot j : ℕ) → 0 < m.pages
    → IsLaterStop slot m.stop later → is_completed (record m { stop = later }) air slot j ≡ is_completed m air slot j
is_completed-stopped_later m later air slot j pages h =
    elim (cases_lt (release m j) slot) [
      | inl before ↦
          let aired = leb m.pages (pages_aired m.entry air (release m j) (min (due m j) slot)) in
          ap (λ (b : Bool). has_broadcast m j && (b && aired))
          (before_later_stop slot (release m j) m.stop later before h)
      | inr after ↦ is_completed-unreleased (record m { stop = later }) air slot j pages after
          ∙ sym (is_completed-unreleased m air slot j pages after)
    ]

-- so the number of completed broadcasts before a slot stays
completed-continued : (a b : Accepted) (air : Air) (slot : ℕ) → slot ≤ length air → 0 < a.message.pages
    → IsContinued slot a b → completed a.message (take slot air) slot ≡ completed b.message air slot
completed-continued a b air slot within pages on =
    let m = a.message in
    let stopped : ScheduledMessage = record m { stop = b.message.stop } in
    let before = count_below_same (is_completed m (take slot air) slot) (is_completed m air slot) (slot + 1)
    (λ j below. is_completed-before m air slot j within) in
    let later = count_below_same (is_completed stopped air slot) (is_completed m air slot) (slot + 1)
    (λ j below. is_completed-stopped_later m b.message.stop air slot j pages on.later) in
    before ∙ sym later ∙ ap (λ (x : Accepted). completed x.message air slot) (sym on.same)

-- a message that became another has its pages
pages-continued : (slot : ℕ) (a b : Accepted) → IsContinued slot a b → 0 < b.message.pages → 0 < a.message.pages
pages-continued slot a b on some = omega (arith, ap (λ (x : Accepted). x.message.pages) on.same)

-- the bounds of a message's number, at each slot up to the clock
abbrev IsBounded : Record → ScheduledMessage → Type 0
IsBounded r m = (slot : ℕ) → slot ≤ r.clock → (layer m ≡ 0 → least_completed m slot ≤ completed m r.air slot)
    × (completed m r.air slot ≤ most_completed m slot)

-- what was told of a message is true of what became of it
reported_of_continued : (r : Record) (e : Entry) (reported : ℕ) (a b : Accepted) → IsLegal r → e.slot ≤ r.clock
    → IsAbout a.id a.serial e.command → completed a.message (take e.slot r.air) e.slot ≡ reported
    → IsContinued e.slot a b
    → Contains (accepted_in r.log) b → IsTrulyReported r.air e reported b
reported_of_continued r e reported a b legal by about number on here =
    let loaded = All-contains HasLoad (accepted_in r.log) b (IsSound-legal r legal).loaded here in
    let same = completed-continued a b r.air e.slot (omega (arith, legal.played))
    (pages-continued e.slot a b on loaded.0) on in
    let message : Accepted → ScheduledMessage = λ x. x.message in
    let bounds = All-contains (IsBounded r) (messages_in r.log) b.message (legal_histories_are_bounded r legal)
    (Contains-map message (accepted_in r.log) b here) e.slot by in
    let About : Accepted → Type 0 = λ x. IsAbout x.id x.serial e.command in
    record {
      about = subst About (sym on.same) about;
      exact = sym number ∙ same;
      least = λ front. omega (arith, bounds.0 front, same, number);
      most = omega (arith, bounds.1, same, number);
    }

-- what became of a message by the end of a legal history
continued_in : (r : Record) → IsLegal r → (k : ℕ) (d : Entry) (a : Accepted) → k < length r.log
    → Contains (accepted_in (take k r.log)) a → (b : Accepted) × Contains (accepted_in r.log) b
    × IsContinued (get_or r.log k d).slot a b
continued_in r legal k d a within here =
    let more : ℕ = length r.log - k in
    let on = continued_by r legal k more d a within (omega arith) here in
    let reach : k + more ≡ length r.log = omega arith in
    let all : take (k + more) r.log ≡ r.log = ap (λ n. take n r.log) reach
    ∙ take_all (length r.log) r.log (omega arith) in
    let Has : List Entry → Type 0 = λ log. Contains (accepted_in log) on.0 in
    (on.0, subst Has all on.1, on.2)

-- each number that a legal history reports is true, whatever came after
pub legal_answers_are_true : LegalAnswersAreTrue
legal_answers_are_true r legal = λ k d within. λ reported says.
    let e : Entry = get_or r.log k d in
    let Tells : Answer → Type 0 = λ answer. TellsTrue (take k r.log) (take e.slot r.air) e.slot e.command answer in
    let tells = subst Tells (sym (legal.answered k d within))
    (tells_true r.slots (take k r.log) (take e.slot r.air) e.slot e.command) reported says in
    let on = continued_in r legal k d tells.of_message within tells.here in (
      on.1.0,
      on.0,
      on.1.1,
      on.1.2,
      reported_of_continued r e reported tells.of_message on.0 legal (legal.known k d within)
          tells.about tells.number on.2 on.1,
    )
