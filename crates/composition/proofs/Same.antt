-- Records with the same accepted writes and kills have the same blocks: their messages are the same but for the
-- numbers.
use Rattle.std.proofs.Common.{◌≡◌, ℕ, zero, suc, ◌-◌, ◌<◌, Option, Some, None, List, [], ◌∷◌, ◌++◌, length, map, refl}
use Rattle.std.proofs.Common.{sym, ap, subst, ◌∙◌, arith}
use Rattle.std.specs.List.{All, slice_get}
use Rattle.std.proofs.lemmas.List.{length-map, get_or-map, length_push}
use Rattle.std.proofs.lemmas.Simd.{map-map}
use Rattle.scheduler.specs.Message.{ScheduledMessage}
use Rattle.scheduler.specs.Air.{Air, IsAirOf, IsChosen}
use Rattle.scheduler.specs.Choice.{choice, air_of}
use Rattle.scheduler.specs.Renumbered.{renumbered, use_renumbered}
use Rattle.bsc_table.specs.declared.entry.Entry.{Entry}
use Rattle.bsc_table.specs.Record.{Record, Accepted, accepted_in, messages_in}
use Rattle.bsc_table.specs.Refusals.{accepted_entries, accepted_renumbered}
use Rattle.bsc_table.specs.Legal.{IsLegal}
use Rattle.composition.proofs.Laws.{Laws, HasLoad}
use Rattle.cbch_blocks.specs.RecordBlocks.{page_aired, pages_of_entry, blocks_of_slot, blocks_of_uses, blocks_of}
use Rattle.composition.specs.Same.{SameAcceptedSameBlocks}
use Rattle.composition.proofs.Composed.{messages_rise}

abbrev message : Accepted → ScheduledMessage
message a = a.message

-- the places of the accepted entries
abbrev place_in : Laws → List Entry → ℕ → ℕ
place_in laws log = (laws.accepted_entries_are_all log).0

messages_of_both : (laws : Laws) (log : List Entry) → messages_in log ≡ map (renumbered (place_in laws log))
    (messages_in (accepted_entries log))
messages_of_both laws log =
    ap (map message) (laws.accepted_entries_are_all log).1.same_messages
    ∙ map-map message (accepted_renumbered (place_in laws log)) (accepted_in (accepted_entries log))
    ∙ sym (map-map (renumbered (place_in laws log)) message (accepted_in (accepted_entries log)))

-- the air list of the accepted entries alone
length-air_of : (messages : List ScheduledMessage) (n : ℕ) → length (air_of messages n) ≡ n
length-air_of messages zero = refl
length-air_of messages (suc n) = length_push (air_of messages n) (choice messages (air_of messages n) n)
    ∙ (let before = length-air_of messages n in omega (arith, before))

periods : (laws : Laws) (r : Record) → IsLegal r → All (λ (m : ScheduledMessage). 0 < m.period)
    (messages_in (accepted_entries r.log))
periods laws r legal = λ k d within.
    let front = accepted_in (accepted_entries r.log) in
    let long = length-map (accepted_in (accepted_entries r.log)) message in
    let a : Accepted = record { id = 0; serial = 0; accepted = 0; behind = None; excess = 0; message = d } in
    let read = get_or-map message (accepted_in (accepted_entries r.log)) k a d (omega (arith, long, within)) in
    let all = subst (λ xs. All HasLoad xs) (laws.accepted_entries_are_all r.log).1.same_messages
    (laws.accepted_have_loads r legal) in
    let many = length-map (accepted_in (accepted_entries r.log)) (accepted_renumbered (place_in laws r.log)) in
    let loaded = all k (accepted_renumbered (place_in laws r.log) a) (omega (arith, many, long, within)) in
    let there = get_or-map (accepted_renumbered (place_in laws r.log)) (accepted_in (accepted_entries r.log)) k a
    (accepted_renumbered (place_in laws r.log) a) (omega (arith, long, within)) in
    subst (λ (m : ScheduledMessage). 0 < m.period) (sym read) (subst HasLoad there loaded).1

air_by_rule : (laws : Laws) (messages : List ScheduledMessage) (n : ℕ)
    → All (λ (m : ScheduledMessage). 0 < m.period) messages → IsAirOf messages (air_of messages n)
air_by_rule laws messages zero all = λ slot within. absurd (omega (arith, within))
air_by_rule laws messages (suc n) all =
    let before = air_of messages n in
    let Chosen : ℕ → Type 0 = λ slot. IsChosen messages (air_of messages n) slot
    (choice messages (air_of messages n) n) in
    laws.grows messages (air_of messages n) (choice messages (air_of messages n) n) (air_by_rule laws messages n all)
    (subst Chosen (sym (length-air_of messages n)) (laws.some_choice messages (air_of messages n) n all))

air_is : (laws : Laws) (r : Record) → IsLegal r → r.air ≡ map (use_renumbered (place_in laws r.log))
    (air_of (messages_in (accepted_entries r.log)) r.clock)
air_is laws r legal =
    let front = messages_in (accepted_entries r.log) in
    let made = air_of (messages_in (accepted_entries r.log)) r.clock in
    let rule = subst (λ ms. IsAirOf ms (map (use_renumbered (place_in laws r.log))
    (air_of (messages_in (accepted_entries r.log)) r.clock))) (sym (messages_of_both laws r.log))
    (laws.renumbering (messages_in (accepted_entries r.log)) (air_of (messages_in (accepted_entries r.log)) r.clock)
    (place_in laws r.log) (laws.accepted_entries_are_all r.log).1.order
    (air_by_rule laws (messages_in (accepted_entries r.log)) r.clock (periods laws r legal))) in
    laws.one_air (messages_in r.log) r.air (map (use_renumbered (place_in laws r.log))
    (air_of (messages_in (accepted_entries r.log)) r.clock)) (messages_rise laws r.log) legal.aired rule
    (legal.played ∙ sym (length-map (air_of (messages_in (accepted_entries r.log)) r.clock)
    (use_renumbered (place_in laws r.log)) ∙ length-air_of (messages_in (accepted_entries r.log)) r.clock))

-- and a slot's page is the same by both
page_is : (laws : Laws) (log : List Entry) (used : Option (ℕ × ℕ))
    → page_aired log (use_renumbered (place_in laws log) used) ≡ page_aired (accepted_entries log) used
page_is laws log None = refl
page_is laws log (Some used) = ap (λ o. slice_get (pages_of_entry o) (used.1 - 1))
    ((laws.accepted_entries_are_all log).1.there used.0)

blocks_by : (laws : Laws) (log : List Entry) (uses : Air) → blocks_of_uses log
    (map (use_renumbered (place_in laws log)) uses) ≡ blocks_of_uses (accepted_entries log) uses
blocks_by laws log [] = refl
blocks_by laws log (used ∷ uses) =
    ap (λ page. blocks_of_slot page ++ blocks_of_uses log (map (use_renumbered (place_in laws log)) uses))
    (page_is laws log used)
    ∙ ap (λ rest. blocks_of_slot (page_aired (accepted_entries log) used) ++ rest) (blocks_by laws log uses)

-- the blocks of a legal history, by its accepted entries and its clock alone
abbrev blocks_alone : List Entry → ℕ → List (List ℕ)
blocks_alone log clock = blocks_of_uses log (air_of (messages_in log) clock)

blocks_are : (laws : Laws) (r : Record) → IsLegal r → blocks_of r ≡ blocks_alone (accepted_entries r.log) r.clock
blocks_are laws r legal = ap (blocks_of_uses r.log) (air_is laws r legal)
    ∙ blocks_by laws r.log (air_of (messages_in (accepted_entries r.log)) r.clock)

-- records that accepted the same messages have the same blocks
pub same_accepted_same_blocks : Laws → SameAcceptedSameBlocks
same_accepted_same_blocks laws r other legal also clock same =
    blocks_are laws r legal ∙ ap (λ log. blocks_alone log r.clock) same
    ∙ ap (blocks_alone (accepted_entries other.log)) clock ∙ sym (blocks_are laws other also)
