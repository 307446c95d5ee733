-- The answer of a legal record to a command is a function of the entries before it, of its slot and of the command:
-- what is aired before the slot is what the messages of those entries air alone.
use Rattle.std.proofs.Common.{◌≡◌, ℕ, zero, suc, ◌+◌, ◌≤◌, ◌<◌, None, List, [], ◌∷◌, ◌++◌, length, take, drop}
use Rattle.std.proofs.Common.{get_or, refl, ap, sym, subst, ◌∙◌, arith}
use Rattle.std.specs.List.{All, AllPairs}
use Rattle.std.proofs.Math.Seq.{append_snoc, get_or-append_seam, take-append_seam}
use Rattle.std.proofs.lemmas.List.{append-nil, get_or-append-add, get_or-map, length-append, length-map, length-take-le}
use Rattle.std.proofs.lemmas.List.{length_push, take-append-drop}
use Rattle.std.proofs.lemmas.List.Elements.{All-head, All-map, All-tail, All-take, All-weaker}
use Rattle.scheduler.specs.Air.{Air, IsAirOf}
use Rattle.scheduler.specs.Choice.{air_of, choice}
use Rattle.scheduler.specs.Message.{ScheduledMessage}
use Rattle.scheduler.proofs.Choice.{IsAirOf-air_of}
use Rattle.bsc_table.specs.declared.command.Command.{Command}
use Rattle.bsc_table.specs.declared.entry.Answer.{Answer}
use Rattle.bsc_table.specs.declared.entry.Entry.{Entry}
use Rattle.bsc_table.specs.Answer.{answer_of}
use Rattle.bsc_table.specs.Legal.{HasItsAnswer, IsLegal}
use Rattle.bsc_table.specs.Record.{Accepted, Record, accepted_in, messages_in}
use Rattle.bsc_table.proofs.History.EntryNumbers.{numbers_rise}
use Rattle.bsc_table.proofs.History.LegalIsSound.{HasLoad, outcome_at, slots_before, sound_at}
use Rattle.bsc_table.proofs.History.LegalWithEntry.{IsAirOf-entry}
use Rattle.bsc_table.proofs.History.NextEntry.{Outcome}
use Rattle.book_runs.proofs.Laws.{OneRunLaws}

-- a message, as one that was accepted
abbrev accepted_as : ScheduledMessage → Accepted
accepted_as m = record { id = 0; serial = 0; accepted = 0; behind = None; excess = 0; message = m }

abbrev message : Accepted → ScheduledMessage
message a = a.message

-- the numbers of a log's messages rise
pub messages_rise : (log : List Entry)
    → AllPairs (λ (a b : ScheduledMessage). a.entry < b.entry) (messages_in log)
messages_rise log = λ i j d before within.
    let long = length-map (accepted_in log) message in
    let one = get_or-map message (accepted_in log) i (accepted_as d) d (omega (arith, long, before, within)) in
    let two = get_or-map message (accepted_in log) j (accepted_as d) d (omega (arith, long, within)) in
    let rises = numbers_rise log i j (accepted_as d) before (omega (arith, long, within)) in
    subst (λ (x : ScheduledMessage). x.entry < (get_or (messages_in log) j d).entry) (sym one)
    (subst (λ (y : ScheduledMessage). (get_or (accepted_in log) i (accepted_as d)).message.entry < y.entry)
    (sym two) rises)

-- a log with an entry between others: its place is within the log, and what stands before it and at it
within : (log before later : List Entry) (e : Entry) → log ≡ before ++ e ∷ later → length before < length log
within log before later e is =
    let long = length-append before (e ∷ later) in
    let same : length log ≡ length (before ++ e ∷ later) = ap length is in
    omega (arith, long, same)

front : (log before later : List Entry) (e : Entry) → log ≡ before ++ e ∷ later → take (length before) log ≡ before
front log before later e is = ap (take (length before)) is ∙ take-append_seam before (e ∷ later)

here : (log before later : List Entry) (e : Entry) → log ≡ before ++ e ∷ later → get_or log (length before) e ≡ e
here log before later e is =
    ap (λ (l : List Entry). get_or l (length before) e) is ∙ get_or-append_seam before e later e

-- what an entry did to the accepted messages of those before it
outcome_between : (r : Record) (before later : List Entry) (e : Entry) → IsLegal r → r.log ≡ before ++ e ∷ later
    → Outcome before e
outcome_between r before later e legal is =
    let k : ℕ = length before in
    let in_log = within r.log before later e is in
    let earlier = slots_before r legal k e in_log in
    let sound = sound_at r legal k (get_or r.log k e).slot (omega (arith, in_log)) earlier in
    subst (λ (log : List Entry). Outcome log e) (front r.log before later e is)
    (subst (Outcome (take k r.log)) (here r.log before later e is)
    (outcome_at r legal k e in_log sound.once sound.order))

-- an air list by the rule of some entries' messages stays one with later entries, where none is within it
stays_by_rule : (r : Record) (before later : List Entry) (air : Air) → IsLegal r → r.log ≡ before ++ later
    → All (λ e. length air ≤ e.slot) later → IsAirOf (messages_in before) air → IsAirOf (messages_in r.log) air
stays_by_rule r before [] air legal is late rule =
    subst (λ (log : List Entry). IsAirOf (messages_in log) air) (sym (is ∙ append-nil before)) rule
stays_by_rule r before (e ∷ later) air legal is late rule =
    stays_by_rule r (before ++ e ∷ []) later air legal (is ∙ sym (append_snoc before e later))
    (All-tail (λ (x : Entry). length air ≤ x.slot) e later late)
    (IsAirOf-entry before e air (outcome_between r before later e legal is)
    (All-head (λ (x : Entry). length air ≤ x.slot) e later late) rule)

-- the messages of the first entries have periods
periods : (r : Record) (before later : List Entry) (e : Entry) → IsLegal r → r.log ≡ before ++ e ∷ later
    → All (λ m. 0 < m.period) (messages_in before)
periods r before later e legal is =
    let k : ℕ = length before in
    let in_log = within r.log before later e is in
    let known = All-take (λ (x : Entry). x.slot ≤ r.clock) k r.log legal.known in
    let sound = sound_at r legal k r.clock (omega (arith, in_log)) known in
    All-map (λ (m : ScheduledMessage). 0 < m.period) message (accepted_in before)
    (All-weaker HasLoad (λ (a : Accepted). 0 < a.message.period) (λ a loaded. loaded.1) (accepted_in before)
    (subst (λ (log : List Entry). All HasLoad (accepted_in log)) (front r.log before later e is) sound.loaded))

-- the air list of messages alone has a place for each slot
length-air_of : (messages : List ScheduledMessage) (n : ℕ) → length (air_of messages n) ≡ n
length-air_of messages zero = refl
length-air_of messages (suc n) =
    let before = length-air_of messages n in
    omega (arith, length_push (air_of messages n) (choice messages (air_of messages n) n), before)

-- an entry and those after it are at its slot, or later
late : (r : Record) (before later : List Entry) (e : Entry) → IsLegal r → r.log ≡ before ++ e ∷ later
    → All (λ x. e.slot ≤ x.slot) (e ∷ later)
late r before later e legal is zero d inside = omega arith
late r before later e legal is (suc i) d inside =
    let k : ℕ = length before in
    let long = length-append before (e ∷ later) in
    let same : length r.log ≡ length (before ++ e ∷ later) = ap length is in
    let rises = legal.rising k (k + suc i) d (omega arith) (omega (arith, long, same, inside)) in
    let one : get_or r.log k d ≡ e = ap (λ (l : List Entry). get_or l k d) is ∙ get_or-append_seam before e later d in
    let two : get_or r.log (k + suc i) d ≡ get_or (e ∷ later) (suc i) d =
    ap (λ (l : List Entry). get_or l (k + suc i) d) is ∙ get_or-append-add before (e ∷ later) (suc i) d in
    subst (λ (x : Entry). e.slot ≤ x.slot) two
    (subst (λ (x : Entry). x.slot ≤ (get_or r.log (k + suc i) d).slot) one rises)

-- what is aired before the slot of an entry is what the messages of those before it air alone
aired_before : (laws : OneRunLaws) (r : Record) (before later : List Entry) (e : Entry) → IsLegal r
    → r.log ≡ before ++ e ∷ later
    → take e.slot r.air ≡ air_of (messages_in before) e.slot
aired_before laws r before later e legal is =
    let in_log = within r.log before later e is in
    let known : e.slot ≤ r.clock = subst (λ (x : Entry). x.slot ≤ r.clock) (here r.log before later e is)
    (legal.known (length before) e in_log) in
    let alone : Air = air_of (messages_in before) e.slot in
    let long = length-air_of (messages_in before) e.slot in
    let also = length-take-le e.slot r.air (omega (arith, known, legal.played)) in
    let none_within = All-weaker (λ (x : Entry). e.slot ≤ x.slot) (λ (x : Entry). length alone ≤ x.slot)
    (λ x after. omega (arith, long, after)) (e ∷ later) (late r before later e legal is) in
    let by_rule = stays_by_rule r before (e ∷ later) alone legal is none_within
    (IsAirOf-air_of (messages_in before) e.slot (periods r before later e legal is)) in
    let whole = subst (IsAirOf (messages_in r.log)) (sym (take-append-drop e.slot r.air)) legal.aired in
    laws.one_air (messages_in r.log) (take e.slot r.air) alone (messages_rise r.log)
    (laws.fronts (messages_in r.log) (take e.slot r.air) (drop e.slot r.air) whole) by_rule (also ∙ sym long)

-- the answer to a command at a slot, by the entries before it
abbrev pub answer_after : (slots : ℕ) → List Entry → (slot : ℕ) → Command → Answer
answer_after slots before slot command = answer_of slots before (air_of (messages_in before) slot) slot command

-- so a legal record's entry has that answer
pub answer_is : (laws : OneRunLaws) (r : Record) (before later : List Entry) (e : Entry) → IsLegal r
    → r.log ≡ before ++ e ∷ later
    → e.answer ≡ answer_after r.slots before e.slot e.command
answer_is laws r before later e legal is =
    let k : ℕ = length before in
    let right = legal.answered k e (within r.log before later e is) in
    let at_it = subst (HasItsAnswer r.slots (take k r.log) r.air) (here r.log before later e is) right in
    let answered : HasItsAnswer r.slots before r.air e =
    subst (λ (log : List Entry). HasItsAnswer r.slots log r.air e) (front r.log before later e is) at_it in
    answered
    ∙ ap (λ (air : Air). answer_of r.slots before air e.slot e.command) (aired_before laws r before later e legal is)
