-- Histories in which a replacement takes over, worked by hand: answers, what is reserved, and what is aired.
use Rattle.std.proofs.Common.{◌≡◌, ℕ, zero, suc, ◌<◌, inl, refl, Some, None, List, [], ◌∷◌, ◌++◌, length, take, get_or}
use Rattle.std.proofs.Common.{arith}
use Rattle.scheduler.specs.declared.plan.Rank.TheVariants as ranks
use Rattle.scheduler.specs.Air.{pages_aired}
use Rattle.scheduler.specs.Message.{ScheduledMessage}
use Rattle.admission.specs.declared.measure.TheConstants.{SCALE}
use Rattle.bsc_table.specs.declared.command.Category.TheVariants.{Normal}
use Rattle.bsc_table.specs.declared.command.Command.{Command}
use Rattle.bsc_table.specs.declared.entry.Answer.TheVariants as answers
use Rattle.bsc_table.specs.declared.entry.State.TheVariants as states
use Rattle.bsc_table.specs.declared.entry.Entry.{Entry}
use Rattle.bsc_table.specs.Record.{claims_in}
use Rattle.bsc_table.specs.Claim.{claimed_at}
use Rattle.bsc_table.specs.Legal.{HasItsAnswer, IsLegal}
use Rattle.bsc_table.proofs.History.Promises.{legal_histories_are_served}
use Rattle.bsc_table.proofs.Worked.Histories.{write, kill, status, entry, aired, answer, run, legal_run, many}

-- a write of so many pages in each period, that stands until it is stopped
abbrev standing : ℕ → ℕ → ℕ → Command
standing serial pages period = write serial None Normal pages period 0

-- in place of another
abbrev standing_for : ℕ → ℕ → ℕ → ℕ → Command
standing_for old serial pages period = write serial (Some old) Normal pages period 0

-- O (1) has a page and F (2) three pages in every four slots: they take the whole. N (3) replaces O at slot 1, within
-- O's period: it waits behind O and starts where O's reservation ends
abbrev begun : List Entry
begun = entry (standing 1 1 4) 0 (answers.Started 0) ∷ entry (standing 2 3 4) 0 (answers.Started 0) ∷ []

begun_is_the_whole : claimed_at (claims_in begun) 0 ≡ SCALE
begun_is_the_whole = refl

n_waits : answer begun 1 (standing_for 1 3 1 4) ≡ answers.Replaced 4 1
n_waits = refl

abbrev waiting : List Entry
waiting = begun ++ entry (standing_for 1 3 1 4) 1 (answers.Replaced 4 1) ∷ []

n_is_live : answer waiting 2 (status 3) ≡ answers.Told 0 states.Standing
n_is_live = refl

-- M would need a fourth more than O leaves it; K needs no more. It passes N, and starts where N would have
m_has_no_room : answer waiting 2 (standing_for 3 4 1 2) ≡ answers.Cause 0x06
m_has_no_room = refl

k_passes_n : answer waiting 3 (standing_for 3 5 1 4) ≡ answers.Replaced 4 0
k_passes_n = refl

abbrev passed : List Entry
passed = waiting ++ entry (standing_for 3 4 1 2) 2 (answers.Cause 0x06) ∷ entry (standing_for 3 5 1 4) 3
    (answers.Replaced 4 0) ∷ []

passed_aired : aired passed 8 ≡ Some (0, 1) ∷ Some (1, 1) ∷ Some (1, 2) ∷ Some (1, 3) ∷ Some (1, 1) ∷ Some (1, 2) ∷
    Some (1, 3) ∷ Some (4, 1) ∷ []
passed_aired = refl

passed_o : answer passed 8 (status 1) ≡ answers.Told 1 (states.Stopped 1)
passed_o = refl

passed_f : answer passed 8 (status 2) ≡ answers.Told 2 states.Standing
passed_f = refl

passed_n : answer passed 8 (status 3) ≡ answers.Told 0 (states.Stopped 3)
passed_n = refl

passed_k : answer passed 8 (status 5) ≡ answers.Told 1 states.Standing
passed_k = refl

-- at no slot more is reserved than the whole
passed_at_3 : claimed_at (claims_in passed) 3 ≡ SCALE
passed_at_3 = refl

passed_at_4 : claimed_at (claims_in passed) 4 ≡ SCALE
passed_at_4 = refl

-- N killed before its start: nothing of it was broadcast, its reservation ends at once, and O's stays up to slot 4, for
-- nobody else
n_is_killed : answer waiting 3 (kill 3) ≡ answers.Stopped 0
n_is_killed = refl

abbrev killed : List Entry
killed = waiting ++ entry (kill 3) 3 (answers.Stopped 0) ∷ []

killed_at_3 : claimed_at (claims_in killed) 3 ≡ SCALE
killed_at_3 = refl

too_soon : answer killed 3 (standing 6 1 4) ≡ answers.Cause 0x06
too_soon = refl

n_is_dead : answer killed 3 (standing_for 3 6 1 4) ≡ answers.Cause 0x02
n_is_dead = refl

free_at_4 : answer killed 4 (standing 6 1 4) ≡ answers.Started 4
free_at_4 = refl

-- killed at its start, as before it
killed_at_its_start : answer waiting 4 (kill 3) ≡ answers.Stopped 0
killed_at_its_start = refl

freed_at_its_start : answer (waiting ++ entry (kill 3) 4 (answers.Stopped 0) ∷ []) 4 (standing 6 1 4) ≡ answers.Started
    4
freed_at_its_start = refl

-- replaced at its start it has started, and its reservation ends at once: there is no later slot to wait for
replaced_at_its_start : answer waiting 4 (standing_for 3 6 1 4) ≡ answers.Replaced 4 0
replaced_at_its_start = refl

no_more_at_its_start : answer waiting 4 (standing_for 3 6 1 2) ≡ answers.Cause 0x06
no_more_at_its_start = refl

-- O (1) has a page in every four slots and G (2) one in every two. N (3), with as much as G, replaces O at slot 1 and
-- needs a fourth more than O leaves it: it is reserved from now on, so that nothing fits beside
abbrev pair : List Entry
pair = entry (standing 1 1 4) 0 (answers.Started 0) ∷ entry (standing 2 1 2) 0 (answers.Started 0) ∷ []

more_waits : answer pair 1 (standing_for 1 3 1 2) ≡ answers.Replaced 4 0
more_waits = refl

abbrev more : List Entry
more = pair ++ entry (standing_for 1 3 1 2) 1 (answers.Replaced 4 0) ∷ []

more_is_the_whole : claimed_at (claims_in more) 1 ≡ SCALE
more_is_the_whole = refl

more_stays_the_whole : claimed_at (claims_in more) 4 ≡ SCALE
more_stays_the_whole = refl

none_beside : answer more 2 (standing 4 1 4) ≡ answers.Cause 0x06
none_beside = refl

more_aired : aired more 8 ≡ Some (1, 1) ∷ None ∷ Some (1, 1) ∷ None ∷ Some (1, 1) ∷ Some (2, 1) ∷ Some (1, 1) ∷ Some
    (2, 1) ∷ []
more_aired = refl

-- one that fits now, once N's excess is freed, starts now, though O is reserved up to slot 4
less_starts_now : answer more 2 (standing_for 3 5 1 4) ≡ answers.Replaced 2 0
less_starts_now = refl

-- two messages of one page in every two slots: the first, replaced within its period, hands its slots over at slot 2,
-- or goes on, where the new one has two pages
abbrev halves : List Entry
halves = entry (standing 1 1 2) 0 (answers.Started 0) ∷ entry (standing 2 1 2) 0 (answers.Started 0) ∷ []

half_waits : answer halves 1 (standing_for 1 3 1 2) ≡ answers.Replaced 2 1
half_waits = refl

two_halves_do_not_fit : answer halves 1 (standing_for 1 3 2 2) ≡ answers.Cause 0x06
two_halves_do_not_fit = refl

abbrev handed : List Entry
handed = halves ++ entry (standing_for 1 3 1 2) 1 (answers.Replaced 2 1) ∷ []

handed_aired : aired handed 4 ≡ Some (0, 1) ∷ Some (1, 1) ∷ Some (1, 1) ∷ Some (2, 1) ∷ []
handed_aired = refl

handed_first : answer handed 4 (status 1) ≡ answers.Told 1 (states.Stopped 1)
handed_first = refl

handed_second : answer handed 4 (status 2) ≡ answers.Told 2 states.Standing
handed_second = refl

handed_third : answer handed 4 (status 3) ≡ answers.Told 1 states.Standing
handed_third = refl

-- R, Q and P have one page each, in every sixth, third and second slot. Q, replaced at slot 4 by one like it, hands
-- over at slot 6
abbrev filled : List Entry
filled = entry (standing 1 1 6) 0 (answers.Started 0) ∷ entry (standing 2 1 3) 0 (answers.Started 0) ∷ entry
    (standing 3 1 2) 0 (answers.Started 0) ∷ []

third_waits : answer filled 4 (standing_for 2 4 1 3) ≡ answers.Replaced 6 1
third_waits = refl

filled_aired : aired (filled ++ entry (standing_for 2 4 1 3) 4 (answers.Replaced 6 1) ∷ []) 6 ≡ Some (2, 1) ∷ Some
    (1, 1) ∷ Some (2, 1) ∷ Some (0, 1) ∷ Some (2, 1) ∷ None ∷ []
filled_aired = refl

-- a message that waits is one of the 64, beside the one behind which it waits; and where 64 are reserved, no place is
-- looked for
abbrev many_and_half : List Entry
many_and_half = many 62 ++ entry (standing 100 1 2) 0 (answers.Started 0) ∷ []

half_waits_as_64th : answer many_and_half 1 (standing_for 100 101 1 2) ≡ answers.Replaced 2 1
half_waits_as_64th = refl

abbrev many_and_waiting : List Entry
many_and_waiting = many_and_half ++ entry (standing_for 100 101 1 2) 1 (answers.Replaced 2 1) ∷ []

no_place_for_a_65th : answer many_and_waiting 1 (standing_for 5 102 1 2) ≡ answers.Cause 0x07
no_place_for_a_65th = refl

in_place_of_the_waiting : answer many_and_waiting 1 (standing_for 101 102 1 2) ≡ answers.Replaced 2 0
in_place_of_the_waiting = refl

-- the first of these histories is legal, so that K, which had to wait, is completed in its first period
passed_answered : (i : ℕ) (d : Entry) → i < length passed → HasItsAnswer 8 (take i passed) (aired passed 8)
    (get_or passed i d)
passed_answered zero d within = refl
passed_answered (suc zero) d within = refl
passed_answered (suc (suc zero)) d within = refl
passed_answered (suc (suc (suc zero))) d within = refl
passed_answered (suc (suc (suc (suc zero)))) d within = refl
passed_answered (suc (suc (suc (suc (suc i))))) d within = absurd (omega arith)

passed_is_legal : IsLegal (run passed 8)
passed_is_legal = legal_run passed 8 (omega arith) (omega arith) refl refl refl passed_answered refl

abbrev of_k : ScheduledMessage
of_k = record { entry = 4; start = 4; pages = 1; period = 4; broadcasts = 0; stop = None; rank = ranks.Normal }

k_is_served : pages_aired 4 (aired passed 8) 4 8 ≡ 1
k_is_served =
    legal_histories_are_served (run passed 8) passed_is_legal 3 of_k (omega arith) 0
    (record { requested = inl refl; standing = tt; aired_by = omega arith })
