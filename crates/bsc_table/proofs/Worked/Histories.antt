-- Legal histories worked by hand: answers, and what is aired.
use Rattle.std.proofs.Common.{◌≡◌, ℕ, zero, suc, ◌≤◌, ◌<◌, Bool, true, ◌&&◌, inl, inr, refl, Option, Some, None, List}
use Rattle.std.proofs.Common.{[], ◌∷◌, replicate, ◌++◌, length, take, get_or, arith}
use Rattle.std.specs.Prelude.{nat_le, nat_lt}
use Rattle.std.specs.List.{All, AllPairs, Any, list_all}
use Rattle.std.proofs.lemmas.Bool.{and_parts, leb-true, le-leb, ltb-true, eqb-true}
use Rattle.std.proofs.lemmas.List.Elements.{All-nil, All-cons, All-weaker}
use Rattle.std.proofs.lemmas.List.Kept.{AllPairs-cons}
use Rattle.std.proofs.lemmas.List.Sums.{AllPass-from_list_all}
use Rattle.cbs_page.specs.declared.content.Content.{Content}
use Rattle.cbsp_wire.specs.Range.{has_alphabet, is_full}
use Rattle.scheduler.specs.declared.plan.Rank.TheVariants as ranks
use Rattle.scheduler.specs.Air.{Air, pages_aired}
use Rattle.scheduler.specs.Completed.{completed}
use Rattle.scheduler.specs.Choice.{air_of}
use Rattle.scheduler.specs.Message.{ScheduledMessage}
use Rattle.scheduler.proofs.Choice.{IsAirOf-air_of}
use Rattle.admission.specs.declared.measure.TheConstants.{SCALE}
use Rattle.bsc_table.specs.declared.command.Category.{Category}
use Rattle.bsc_table.specs.declared.command.Category.TheVariants.{High, Normal, Background}
use Rattle.bsc_table.specs.declared.command.Command.{Command}
use Rattle.bsc_table.specs.declared.command.Command.TheVariants as commands
use Rattle.bsc_table.specs.declared.entry.Answer.{Answer}
use Rattle.bsc_table.specs.declared.entry.Answer.TheVariants as answers
use Rattle.bsc_table.specs.declared.entry.State.TheVariants as states
use Rattle.bsc_table.specs.declared.entry.Entry.{Entry}
use Rattle.bsc_table.specs.Bounds.{least_completed, most_completed}
use Rattle.bsc_table.specs.Orders.{IsWellFormed}
use Rattle.bsc_table.specs.Record.{Record, accepted_in, messages_in, claims_in}
use Rattle.bsc_table.specs.Claim.{claimed_at}
use Rattle.bsc_table.specs.Answer.{answer_of}
use Rattle.bsc_table.specs.Legal.{HasItsAnswer, IsLegal}
use Rattle.bsc_table.specs.Reported.{IsTrulyReported}
use Rattle.bsc_table.specs.Transitions.{opened, IsPlayedUpTo, Ask, Play, IsReached}
use Rattle.bsc_table.proofs.History.Promises.{legal_histories_are_served, legal_histories_are_bounded}
use Rattle.bsc_table.proofs.History.ReportedCounts.{legal_answers_are_true}

-- the contents of as many pages
abbrev pub contents : ℕ → List Content
contents zero = []
contents (suc n) = record { used = 0; octets = replicate 82 0 } ∷ contents n

-- a write of message 4370 that asks for so many pages in each period
abbrev pub write : ℕ → Option ℕ → Category → ℕ → ℕ → ℕ → Command
write serial replaces category pages period broadcasts =
    commands.Write 4370 serial replaces category (record { 0 = 1 }) period broadcasts (contents pages)

-- a kill and a status of a message of that identifier
abbrev pub kill : ℕ → Command
kill serial = commands.Kill 4370 serial

-- a command that asks how a message stands
abbrev pub status : ℕ → Command
status serial = commands.Status 4370 serial

-- an entry, by its parts
abbrev pub entry : Command → ℕ → Answer → Entry
entry command slot answer = record { command = command; slot = slot; answer = answer }

-- what a run airs by the log
abbrev pub aired : List Entry → ℕ → Air
aired log slots = air_of (messages_in log) slots

-- the answer in a run of 8 slots, where the log so far gives the air
abbrev pub answer : List Entry → ℕ → Command → Answer
answer log slot command = answer_of 8 log (aired log slot) slot command

-- A: a page in every second slot; B: two pages in every fourth. They take the whole, so that C finds no room
abbrev a : Command
a = write 1 None Normal 1 2 0

abbrev b : Command
b = write 2 None Normal 2 4 0

abbrev c : Command
c = write 3 None Normal 2 4 0

abbrev begun : List Entry
begun = entry a 0 (answers.Started 0) ∷ entry b 0 (answers.Started 0) ∷ []

a_starts : answer [] 0 a ≡ answers.Started 0
a_starts = refl

b_starts : answer (entry a 0 (answers.Started 0) ∷ []) 0 b ≡ answers.Started 0
b_starts = refl

c_has_no_room : answer begun 0 c ≡ answers.Cause 0x06
c_has_no_room = refl

-- B is killed at slot 3, after one of its pages: no broadcast of it is completed, and its load stays up to slot 4
b_is_stopped : answer begun 3 (kill 2) ≡ answers.Stopped 0
b_is_stopped = refl

abbrev killed : List Entry
killed = begun ++ entry (kill 2) 3 (answers.Stopped 0) ∷ []

c_has_no_room_yet : answer killed 3 c ≡ answers.Cause 0x06
c_has_no_room_yet = refl

c_starts : answer killed 4 c ≡ answers.Started 4
c_starts = refl

b_is_known : answer killed 4 (status 2) ≡ answers.Told 0 (states.Stopped 3)
b_is_known = refl

b_is_dead : answer killed 4 (kill 2) ≡ answers.Cause 0x02
b_is_dead = refl

b_is_not_taken_again : answer killed 4 b ≡ answers.Cause 0x0D
b_is_not_taken_again = refl

abbrev whole : List Entry
whole = killed ++ entry c 3 (answers.Cause 0x06) ∷ entry c 4 (answers.Started 4) ∷ []

whole_aired : aired whole 8 ≡ Some (0, 1) ∷ Some (1, 1) ∷ Some (0, 1) ∷ None ∷ Some (0, 1) ∷ Some (4, 1) ∷ Some (0, 1)
    ∷ Some (4, 2) ∷ []
whole_aired = refl

-- after slot 8 the run is over: for a write or a kill, not for a status
ended_write : answer whole 8 a ≡ answers.Cause 0x0A
ended_write = refl

ended_kill : answer whole 8 (kill 1) ≡ answers.Cause 0x0A
ended_kill = refl

ended_status : answer whole 8 (status 1) ≡ answers.Told 4 states.Standing
ended_status = refl

nothing_known : answer whole 8 (status 9) ≡ answers.Unknown
nothing_known = refl

-- one high page in every second slot, killed at slot 1: the load of the page stays up to slot 2
abbrev high : ℕ → Command
high serial = write serial None High 1 2 0

abbrev killed_high : List Entry
killed_high = entry b 0 (answers.Started 0) ∷ entry (high 5) 0 (answers.Started 0) ∷ entry (kill 5) 1
    (answers.Stopped 1) ∷ []

high_is_first : answer (entry b 0 (answers.Started 0) ∷ entry (high 5) 0 (answers.Started 0) ∷ []) 1 (kill 5) ≡
    answers.Stopped 1
high_is_first = refl

high_has_no_room : answer killed_high 1 (high 6) ≡ answers.Cause 0x06
high_has_no_room = refl

high_starts_later : answer killed_high 3 (high 6) ≡ answers.Started 3
high_starts_later = refl

-- a replacement on the boundary of a period finds the room of its old message; one within the period waits for it, up
-- to the end of the period; and where what it has over the old one's load has no room until then, it changes nothing
new_replaces : answer begun 4 (write 3 (Some 2) Normal 2 4 0) ≡ answers.Replaced 4 1
new_replaces = refl

new_waits : answer begun 3 (write 3 (Some 2) Normal 2 4 0) ≡ answers.Replaced 4 0
new_waits = refl

new_has_no_room : answer begun 3 (write 3 (Some 2) Normal 3 4 0) ≡ answers.Cause 0x06
new_has_no_room = refl

old_stays : answer (begun ++ entry (write 3 (Some 2) Normal 3 4 0) 3 (answers.Cause 0x06) ∷ []) 3 (status 2) ≡
    answers.Told 0 states.Standing
old_stays = refl

none_to_replace : answer begun 3 (write 3 (Some 9) Normal 2 4 0) ≡ answers.Cause 0x02
none_to_replace = refl

-- two pages in every second slot take the whole; stopped at its own slot, the message frees all of it at once
abbrev x : Command
x = write 7 None Normal 2 2 0

abbrev killed_at_once : List Entry
killed_at_once = entry x 0 (answers.Started 0) ∷ entry (kill 7) 0 (answers.Stopped 0) ∷ []

x_is_stopped : answer (entry x 0 (answers.Started 0) ∷ []) 0 (kill 7) ≡ answers.Stopped 0
x_is_stopped = refl

x_is_dead : answer killed_at_once 0 (kill 7) ≡ answers.Cause 0x02
x_is_dead = refl

x_is_not_taken_again : answer killed_at_once 0 x ≡ answers.Cause 0x0D
x_is_not_taken_again = refl

y_starts : answer killed_at_once 0 (write 8 None Normal 2 2 0) ≡ answers.Started 0
y_starts = refl

-- two broadcasts of one page, in slots 0 and 3: live up to slot 6
abbrev twice : List Entry
twice = entry (write 9 None Normal 1 3 2) 0 (answers.Started 0) ∷ []

twice_is_stopped : answer twice 5 (kill 9) ≡ answers.Stopped 2
twice_is_stopped = refl

twice_ran_out : answer twice 6 (status 9) ≡ answers.Told 2 states.RanOut
twice_ran_out = refl

twice_is_dead : answer twice 6 (kill 9) ≡ answers.Cause 0x02
twice_is_dead = refl

-- the record of a run of 8 slots by a log, after so many of them
abbrev pub run : List Entry → ℕ → Record
run log clock = record { cell = record { lac = 1; ci = 1 }; slots = 8; clock = clock; log = log; air = aired log clock }

-- the slots of a log rise, from a slot on, up to another
abbrev slots_rise : ℕ → List Entry → ℕ → Bool
slots_rise from [] to = nat_le from to
slots_rise from (e ∷ log) to = nat_le from e.slot && slots_rise e.slot log to

slots_rise-from : (from : ℕ) (log : List Entry) (to : ℕ) → slots_rise from log to ≡ true → All (λ e. from ≤ e.slot) log
slots_rise-from from [] to rise = All-nil (λ (e : Entry). from ≤ e.slot)
slots_rise-from from (e ∷ log) to rise =
    let parts = and_parts (nat_le from e.slot) (slots_rise e.slot log to) rise in
    let here = leb-true from e.slot parts.0 in
    All-cons (λ (x : Entry). from ≤ x.slot) e log here (All-weaker (λ (x : Entry). e.slot ≤ x.slot)
    (λ (x : Entry). from ≤ x.slot) (λ x h. omega arith) log (slots_rise-from e.slot log to parts.1))

slots_rise-all : (from : ℕ) (log : List Entry) (to : ℕ) → slots_rise from log to ≡ true
    → AllPairs (λ a b. a.slot ≤ b.slot) log
slots_rise-all from [] to rise = λ i j d before within. absurd (omega arith)
slots_rise-all from (e ∷ log) to rise =
    let parts = and_parts (nat_le from e.slot) (slots_rise e.slot log to) rise in
    AllPairs-cons (λ (a : Entry) (b : Entry). a.slot ≤ b.slot) e log (slots_rise-from e.slot log to parts.1)
    (slots_rise-all e.slot log to parts.1)

slots_rise-upto : (from : ℕ) (log : List Entry) (to : ℕ) → slots_rise from log to ≡ true → (from ≤ to)
    × All (λ e. e.slot ≤ to) log
slots_rise-upto from [] to rise = (leb-true from to rise, All-nil (λ (e : Entry). e.slot ≤ to))
slots_rise-upto from (e ∷ log) to rise =
    let parts = and_parts (nat_le from e.slot) (slots_rise e.slot log to) rise in
    let here = leb-true from e.slot parts.0 in
    let later = slots_rise-upto e.slot log to parts.1 in
    (omega (arith, later.0), All-cons (λ (x : Entry). x.slot ≤ to) e log later.0 later.1)

-- well-formed commands, as a test
abbrev is_formed : Command → Bool
is_formed (commands.Write id serial replaces category dcs period broadcasts contents) =
    (nat_le 1 (length contents) && nat_le (length contents) 15) &&
    (list_all (λ c. nat_le c.used 82) contents && ((nat_le 1 period && nat_le period 1024) &&
    (has_alphabet dcs.0 && list_all is_full contents)))
is_formed (commands.Kill id serial) = true
is_formed (commands.Status id serial) = true

is_formed-says : (command : Command) → is_formed command ≡ true → IsWellFormed command
is_formed-says (commands.Write id serial replaces category dcs period broadcasts contents) formed =
    let first = and_parts _ _ formed in
    let pages = and_parts _ _ first.0 in
    let second = and_parts _ _ first.1 in
    let third = and_parts _ _ second.1 in
    let periods = and_parts _ _ third.0 in
    record {
      some_pages = leb-true 1 (length contents) pages.0;
      few_pages = leb-true (length contents) 15 pages.1;
      used = All-weaker (λ (c : Content). nat_le c.used 82 ≡ true) (λ (c : Content). c.used ≤ 82)
          (λ c h. leb-true c.used 82 h) contents (AllPass-from_list_all (λ (c : Content). nat_le c.used 82) contents
          second.0);
      some_period = leb-true 1 period periods.0;
      short_period = leb-true period 1024 periods.1;
      coded = (and_parts _ _ third.1).0;
      full = All-weaker (λ (c : Content). is_full c ≡ true) (λ (c : Content). length c.octets ≡ 82)
          (λ c h. eqb-true (length c.octets) 82 h) contents (AllPass-from_list_all is_full contents
          (and_parts _ _ third.1).1);
    }
is_formed-says (commands.Kill id serial) formed = tt
is_formed-says (commands.Status id serial) formed = tt

-- R, Q and P have one page each, in every sixth, third and second slot, and fill the cell: there is no room for a
-- fourth
abbrev filled : List Entry
filled = entry (write 1 None Normal 1 6 0) 0 (answers.Started 0) ∷ entry (write 2 None Normal 1 3 0) 0
    (answers.Started 0) ∷ entry (write 3 None Normal 1 2 0) 0 (answers.Started 0) ∷ entry
    (write 4 None Normal 1 1024 0) 0 (answers.Cause 0x06) ∷ []

filled_aired : aired filled 6 ≡ Some (2, 1) ∷ Some (1, 1) ∷ Some (2, 1) ∷ Some (0, 1) ∷ Some (1, 1) ∷ Some (2, 1) ∷ []
filled_aired = refl

filled_answered : (i : ℕ) (d : Entry) → i < length filled → HasItsAnswer 8 (take i filled) (aired filled 6)
    (get_or filled i d)
filled_answered zero d within = refl
filled_answered (suc zero) d within = refl
filled_answered (suc (suc zero)) d within = refl
filled_answered (suc (suc (suc zero))) d within = refl
filled_answered (suc (suc (suc (suc i)))) d within = absurd (omega arith)

-- what is left to show of a run whose air list is computed
pub legal_run : (log : List Entry) (clock : ℕ) → length log ≤ 4096 → clock ≤ 8 → slots_rise 0 log clock ≡ true
    → list_all (λ e. is_formed e.command) log ≡ true → list_all (λ m. nat_lt 0 m.period) (messages_in log) ≡ true
    → ((i : ℕ) (d : Entry) → i < length log → HasItsAnswer 8 (take i log) (aired log clock) (get_or log i d))
    → length (aired log clock) ≡ clock → IsLegal (run log clock)
legal_run log clock few within rise formed periods answered played = record {
  within = within;
  few = few;
  rising = slots_rise-all 0 log clock rise;
  known = (slots_rise-upto 0 log clock rise).1;
  formed = All-weaker (λ (e : Entry). is_formed e.command ≡ true) (λ (e : Entry). IsWellFormed e.command)
      (λ e. is_formed-says e.command) log (AllPass-from_list_all (λ (e : Entry). is_formed e.command) log formed);
  answered = answered;
  played = played;
  aired = IsAirOf-air_of (messages_in log) clock (All-weaker (λ (m : ScheduledMessage). nat_lt 0 m.period ≡ true)
      (λ (m : ScheduledMessage). 0 < m.period) (λ m. ltb-true 0 m.period) (messages_in log)
      (AllPass-from_list_all (λ (m : ScheduledMessage). nat_lt 0 m.period) (messages_in log) periods));
}

filled_is_legal : IsLegal (run filled 6)
filled_is_legal = legal_run filled 6 (omega arith) (omega arith) refl refl refl filled_answered refl

-- it is reached step by step: four writes are asked, of which the last is refused, and six slots are played
filled_is_reached : IsReached (Ask (write 1 None Normal 1 6 0) ∷ Ask (write 2 None Normal 1 3 0) ∷ Ask
    (write 3 None Normal 1 2 0) ∷ Ask (write 4 None Normal 1 1024 0) ∷ Play 6 ∷ []) (opened (run [] 0).cell 8)
    (run filled 6)
filled_is_reached =
    let asked : ℕ → Record = λ i. run (take i filled) 0 in
    let started : Answer = answers.Started 0 in
    let played : IsPlayedUpTo 6 (run filled 0) (run filled 6) = record {
      same_cell = refl;
      same_slots = refl;
      same_log = refl;
      clock_at = refl;
      more_air = (aired filled 6, refl);
      places = refl;
      by_rule = λ at from within. filled_is_legal.aired at within;
    } in (
      asked 1,
      (started, inr refl, refl),
      (
        asked 2,
        (started, inr refl, refl),
        (
          asked 3,
          (started, inr refl, refl),
          (asked 4, (answers.Cause 0x06, inr refl, refl), (run filled 6, played, refl)),
        ),
      ),
    )

-- after five of the slots the half has the least number of completed broadcasts that it may have, and the third the
-- most
abbrev half : ScheduledMessage
half = record { entry = 2; start = 0; pages = 1; period = 2; broadcasts = 0; stop = None; rank = ranks.Normal }

abbrev third : ScheduledMessage
third = record { entry = 1; start = 0; pages = 1; period = 3; broadcasts = 0; stop = None; rank = ranks.Normal }

filled_messages : messages_in filled ≡ record {
  entry = 0;
  start = 0;
  pages = 1;
  period = 6;
  broadcasts = 0;
  stop =
      None;
  rank = ranks.Normal;
} ∷ third ∷ half ∷ []
filled_messages = refl

half_least : least_completed half 5 ≡ 2
half_least = refl

half_has_the_least : completed half (aired filled 6) 5 ≡ 2
half_has_the_least = refl

half_most : most_completed half 5 ≡ 3
half_most = refl

third_least : least_completed third 5 ≡ 1
third_least = refl

third_has_the_most : completed third (aired filled 6) 5 ≡ 2
third_has_the_most = refl

third_most : most_completed third 5 ≡ 2
third_most = refl

-- so it is at each slot up to the clock
half_is_bounded : (slot : ℕ) → slot ≤ 6 → (least_completed half slot ≤ completed half (aired filled 6) slot)
    × (completed half (aired filled 6) slot ≤ most_completed half slot)
half_is_bounded slot by =
    let bounds = legal_histories_are_bounded (run filled 6) filled_is_legal 2 half (omega arith) slot by in
    (bounds.0 refl, bounds.1)

-- the history with a kill and refusals is legal too, so that C, which had to wait for room, is completed by slot 8
whole_answered : (i : ℕ) (d : Entry) → i < length whole → HasItsAnswer 8 (take i whole) (aired whole 8)
    (get_or whole i d)
whole_answered zero d within = refl
whole_answered (suc zero) d within = refl
whole_answered (suc (suc zero)) d within = refl
whole_answered (suc (suc (suc zero))) d within = refl
whole_answered (suc (suc (suc (suc zero)))) d within = refl
whole_answered (suc (suc (suc (suc (suc i))))) d within = absurd (omega arith)

whole_is_legal : IsLegal (run whole 8)
whole_is_legal = legal_run whole 8 (omega arith) (omega arith) refl refl refl whole_answered refl

c_is_served : pages_aired 4 (aired whole 8) 4 8 ≡ 2
c_is_served =
    legal_histories_are_served (run whole 8) whole_is_legal 2 half (omega arith) 0
    (record { requested = inl refl; standing = tt; aired_by = omega arith })

-- and the number that B's kill told is true, of B as it was accepted first
kill_was_true : Any (IsTrulyReported (aired whole 8) (entry (kill 2) 3 (answers.Stopped 0)) 0) (accepted_in whole)
kill_was_true = legal_answers_are_true (run whole 8) whole_is_legal 2 (entry (kill 2) 3 (answers.Stopped 0))
    (omega arith) 0 refl

-- three messages of one page in every third slot take the whole, and no load fits beside them
abbrev of_third : ℕ → Command
of_third serial = write serial None Normal 1 3 0

abbrev three : List Entry
three = entry (of_third 1) 0 (answers.Started 0) ∷ entry (of_third 2) 0 (answers.Started 0) ∷ entry (of_third 3) 0
    (answers.Started 0) ∷ []

third_starts : answer (entry (of_third 1) 0 (answers.Started 0) ∷ entry (of_third 2) 0 (answers.Started 0) ∷ []) 0
    (of_third 3) ≡ answers.Started 0
third_starts = refl

thirds_are_the_whole : claimed_at (claims_in three) 0 ≡ SCALE
thirds_are_the_whole = refl

no_load_fits : answer three 0 (write 4 None Normal 1 1024 0) ≡ answers.Cause 0x06
no_load_fits = refl

-- so many messages of one page in 1,024 slots
abbrev pub many : ℕ → List Entry
many zero = []
many (suc n) = many n ++ entry (write n None Normal 1 1024 0) 0 (answers.Started 0) ∷ []

the_64th_starts : answer (many 63) 0 (write 63 None Normal 1 1024 0) ≡ answers.Started 0
the_64th_starts = refl

the_65th_has_no_place : answer (many 64) 0 (write 64 None Normal 1 1024 0) ≡ answers.Cause 0x07
the_65th_has_no_place = refl

-- in the place of one of them it has, since that one's load ends at once
replacement_has_a_place : answer (many 64) 0 (write 64 (Some 63) Normal 1 1024 0) ≡ answers.Replaced 0 0
replacement_has_a_place = refl

-- a background message needs neither load nor place, takes none from others, and leaves nobody its slots
abbrev beside_three : List Entry
beside_three = three ++ entry (write 4 None Background 2 4 0) 0 (answers.Started 0) ∷ []

background_needs_no_load : answer three 0 (write 4 None Background 2 4 0) ≡ answers.Started 0
background_needs_no_load = refl

background_needs_no_place : answer (many 64) 0 (write 64 None Background 1 1024 0) ≡ answers.Started 0
background_needs_no_place = refl

background_takes_no_load : claimed_at (claims_in beside_three) 0 ≡ SCALE
background_takes_no_load = refl

background_leaves_no_place : answer beside_three 1 (write 5 (Some 4) Normal 1 3 0) ≡ answers.Cause 0x06
background_leaves_no_place = refl

background_replaces_at_once : answer beside_three 1 (write 5 (Some 3) Background 1 3 0) ≡ answers.Replaced 1 0
background_replaces_at_once = refl

-- a log of 4,096 entries answers nothing else than that it is full
full_log : (log : List Entry) (air : Air) (slots slot : ℕ) (command : Command) → 4096 ≤ length log
    → answer_of slots log air slot command ≡ answers.Cause 0x08
full_log log air slots slot command full = rw (le-leb 4096 (length log) full) refl
