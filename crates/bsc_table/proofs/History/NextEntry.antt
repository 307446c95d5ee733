-- What an entry with the right answer does to the accepted messages: it stops a live one or none, and adds an admitted
-- one or none.
use Rattle.std.proofs.Common.{◌≡◌, ℕ, ◌+◌, ◌≤◌, ◌<◌, ◌==◌, ◌-◌, Bool, true, false, cond, Option, Some, None, List, []}
use Rattle.std.proofs.Common.{◌∷◌, ◌++◌, length, map, filter, get_or, refl, ap, sym, subst, ◌∙◌, inl, inr, arith, ltb}
use Rattle.std.proofs.Common.{leb}
use Rattle.std.specs.List.{AllPairs, Contains, find}
use Rattle.std.specs.Option.{IfSome}
use Rattle.std.proofs.lemmas.Bool.{cond_both, eqb-true, leb-false, ltb-false, ne_eqb, eq-eqb}
use Rattle.std.proofs.lemmas.Option.{none-some}
use Rattle.std.proofs.lemmas.List.{append-nil, map-id}
use Rattle.std.proofs.lemmas.List.Elements.{All-contains_itself}
use Rattle.admission.specs.declared.measure.TheConstants.{SCALE}
use Rattle.admission.specs.Load.{load_of}
use Rattle.scheduler.specs.Message.{ScheduledMessage, stopped_at}
use Rattle.scheduler.specs.Air.{Air, layer, layer_of}
use Rattle.scheduler.specs.Completed.{completed}
use Rattle.cbs_page.specs.declared.content.Content.{Content}
use Rattle.cbs_page.specs.declared.Dcs.{Dcs}
use Rattle.bsc_table.specs.declared.command.Category.{Category}
use Rattle.bsc_table.specs.declared.command.Command.{Command}
use Rattle.bsc_table.specs.declared.command.Command.TheVariants as commands
use Rattle.bsc_table.specs.declared.entry.Answer.{Answer}
use Rattle.bsc_table.specs.declared.entry.Answer.TheVariants as answers
use Rattle.bsc_table.specs.declared.entry.Entry.{Entry}
use Rattle.bsc_table.specs.Orders.{IsBroadcastable, IsWellFormed}
use Rattle.bsc_table.specs.Record.{Accepted, start_of, is_stop_by, is_stop_of, stopped_by, predecessor_of}
use Rattle.bsc_table.specs.Record.{excess_beyond}
use Rattle.bsc_table.specs.Record.{written_behind, added_by, accepted_in, rank_of, is_background_category, place_after}
use Rattle.bsc_table.specs.Record.{is_of_pair, message_found, message_named, is_live, claim_of, claims_of, claims_in}
use Rattle.bsc_table.specs.Claim.{Claim, own_load, reserves, is_claimed_at, claimed_at, stop_claims}
use Rattle.bsc_table.specs.Handover.{Place, ahead_of, numbered, handover}
use Rattle.bsc_table.specs.Room.{AreInOrder}
use Rattle.bsc_table.specs.Begun.{StartsNow, Starts, IsBegun}
use Rattle.bsc_table.specs.Answer.{answer_at, admit_or_refuse, answer_for, answer_to_new, answer_to_replacement}
use Rattle.bsc_table.specs.Answer.{unless_accepted, if_live, answer_to_write, answer_to_kill, status_answer, before_end}
use Rattle.bsc_table.specs.Answer.{answer_with_room, answer_of}
use Rattle.bsc_table.specs.BookSteps.{stop_numbered}
use Rattle.bsc_table.proofs.Room.Ahead.{taken, from_stopped}
use Rattle.bsc_table.proofs.Room.TakeoverKeepsRoom.{find_number}
use Rattle.bsc_table.proofs.History.Accepted.{accepted_in-push}
use Rattle.bsc_table.proofs.History.Pairs.{OfAnotherPair, stopped_once-false, map_agree, All-find, stopped_by_pair}
use Rattle.bsc_table.proofs.History.Pairs.{live_is_standing}
use Rattle.bsc_table.proofs.History.EntryNumbers.{numbers_rise}
use Rattle.bsc_table.proofs.History.Ranks.{in_front, not_in_front}

-- an entry, by its parts
abbrev pub entry_with : Command → ℕ → Answer → Entry
entry_with command slot answer = record { command = command; slot = slot; answer = answer }

-- the messages with this one stopped, if there is one
abbrev pub without : Option Accepted → ℕ → List Accepted → List Accepted
without None slot all = all
without (Some a) slot all = map (stop_numbered a.message.entry slot) all

-- the messages with this one added, if there is one
abbrev pub with : Option Accepted → List Accepted → List Accepted
with None all = all
with (Some a) all = all ++ a ∷ []

-- what an entry did to the accepted messages of a log: which it stopped, which it started, and that this is all
pub record Outcome (log : List Entry) (e : Entry) : Type 0 where
  pub stopped : Option Accepted
  pub started : Option Accepted
  pub after : accepted_in (log ++ e ∷ []) ≡ with started (without stopped e.slot (accepted_in log))
  pub live : IfSome stopped (λ a. Contains (accepted_in log) a × (is_live e.slot a.message ≡ true))
  pub fresh : IfSome started (λ a. find (is_of_pair a.id a.serial) (accepted_in log) ≡ None)
  pub begun : IfSome started (λ a. IsBegun (length log) e.slot stopped (without stopped e.slot (accepted_in log)) a)

-- an entry that stops nothing leaves the messages before it as they are
pub stops_none : (log : List Entry) (e : Entry)
    → ((id serial : ℕ) → is_stop_of id serial e ≡ false)
    → map (stopped_by e) (accepted_in log) ≡ accepted_in log
stops_none log e never =
    map_agree (stopped_by e) (λ a. a) (accepted_in log) (λ k d h.
    let a : Accepted = get_or (accepted_in log) k d in
    stopped_once-false (is_stop_of a.id a.serial e) e.slot a (never a.id a.serial)) ∙ map-id (accepted_in log)

-- so an entry that adds none either changes nothing
pub does_nothing : (log : List Entry) (e : Entry)
    → ((id serial : ℕ) → is_stop_of id serial e ≡ false)
    → added_by (accepted_in log) (length log) e.slot (start_of e.answer) e.command ≡ []
    → accepted_in (log ++ e ∷ []) ≡ accepted_in log
does_nothing log e never adds =
    let all = map (stopped_by e) (accepted_in log) in
    accepted_in-push log e ∙ ap (λ (l : List Accepted). all ++ l) adds ∙ append-nil all ∙ stops_none log e never

-- the message that a write adds
abbrev pub new_message : List Accepted → ℕ → ℕ → ℕ → Option ℕ → ℕ → ℕ → Category → ℕ → ℕ → List Content → Accepted
new_message all entry slot start behind id serial category period broadcasts contents =
    written_behind all entry slot start behind id serial (length contents) period broadcasts (rank_of category)

-- a write in the place of none
pub starts_one : (log : List Entry) (slot id serial : ℕ) (category : Category) (period broadcasts : ℕ) (dcs : Dcs)
    (contents : List Content)
    → accepted_in (log ++ entry_with (commands.Write id serial None category dcs period broadcasts contents) slot
    (answers.Started slot) ∷ []) ≡ accepted_in log ++ new_message (accepted_in log) (length log) slot slot None id
    serial category period broadcasts contents ∷ []
starts_one log slot id serial category period broadcasts dcs contents =
    let e = entry_with (commands.Write id serial None category dcs period broadcasts contents) slot
    (answers.Started slot) in
    accepted_in-push log e
    ∙ ap (λ (l : List Accepted). l ++ new_message (accepted_in log) (length log) slot slot None id serial category
    period broadcasts contents ∷ []) (stops_none log e (λ i s. refl))

-- a kill of a message that wasn't stopped
pub stops_one : (log : List Entry) (slot id serial completed : ℕ) (a : Accepted)
    → AllPairs OfAnotherPair (accepted_in log)
    → find (is_of_pair id serial) (accepted_in log) ≡ Some a
    → a.message.stop ≡ None
    → accepted_in (log ++ entry_with (commands.Kill id serial) slot (answers.Stopped completed) ∷ []) ≡ map
    (stop_numbered a.message.entry slot) (accepted_in log)
stops_one log slot id serial completed a once found standing =
    let e = entry_with (commands.Kill id serial) slot (answers.Stopped completed) in
    accepted_in-push log e
    ∙ append-nil (map (stopped_by e) (accepted_in log))
    ∙ stopped_by_pair id serial slot (accepted_in log) a once (numbers_rise log) found standing

-- a write in the place of one that wasn't stopped
pub replaces_one : (log : List Entry) (slot start id serial old completed : ℕ) (category : Category)
    (period broadcasts : ℕ) (dcs : Dcs) (contents : List Content) (a : Accepted) (behind : Option ℕ)
    → AllPairs OfAnotherPair (accepted_in log)
    → find (is_of_pair id old) (accepted_in log) ≡ Some a
    → a.message.stop ≡ None
    → predecessor_of slot start (Some a) ≡ behind
    → accepted_in (log ++ entry_with (commands.Write id serial (Some old) category dcs period broadcasts contents) slot
    (answers.Replaced start completed) ∷ []) ≡ map (stop_numbered a.message.entry slot) (accepted_in log) ++
    new_message (accepted_in log) (length log) slot start behind id serial category period broadcasts contents ∷ []
replaces_one log slot start id serial old completed category period broadcasts dcs contents a behind once found
    standing waits =
    let e = entry_with (commands.Write id serial (Some old) category dcs period broadcasts contents) slot
    (answers.Replaced start completed) in
    let all = accepted_in log in
    let stopped = map (stop_numbered a.message.entry slot) all in
    let adds : Option ℕ → List Accepted = λ by. new_message all (length log) slot start by id serial category period
    broadcasts contents ∷ [] in
    let by = ap (predecessor_of slot start) found ∙ waits in
    accepted_in-push log e
    ∙ ap (λ (l : List Accepted). l ++ adds (predecessor_of slot start (find (is_of_pair id old) all)))
    (stopped_by_pair id old slot all a once (numbers_rise log) found standing)
    ∙ ap (λ (o : Option ℕ). stopped ++ adds o) by

-- a cause stops nothing
nothing_of_cause : (cause id serial : ℕ) (command : Command)
    → is_stop_by id serial command (answers.Cause cause) ≡ false
nothing_of_cause cause id serial (commands.Write of_id new None category dcs period broadcasts contents) = refl
nothing_of_cause cause id serial (commands.Write of_id new (Some old) category dcs period broadcasts contents) = refl
nothing_of_cause cause id serial (commands.Kill of_id of_serial) = refl
nothing_of_cause cause id serial (commands.Status of_id of_serial) = refl

-- no outcome but the entry itself
nothing : (log : List Entry) (e : Entry) → accepted_in (log ++ e ∷ []) ≡ accepted_in log → Outcome log e
nothing log e same = record { stopped = None; started = None; after = same; live = tt; fresh = tt; begun = tt }

refused_does_nothing : (log : List Entry) (slot cause : ℕ) (command : Command)
    → accepted_in (log ++ entry_with command slot (answers.Cause cause) ∷ []) ≡ accepted_in log
refused_does_nothing log slot cause command =
    does_nothing log (entry_with command slot (answers.Cause cause))
    (λ id serial. nothing_of_cause cause id serial command) refl

refused : (log : List Entry) (slot : ℕ) (command : Command) (cause : ℕ)
    → Outcome log (entry_with command slot (answers.Cause cause))
refused log slot command cause =
    nothing log (entry_with command slot (answers.Cause cause)) (refused_does_nothing log slot cause command)

status_does_nothing : (log : List Entry) (slot id serial : ℕ) (answer : Answer)
    → accepted_in (log ++ entry_with (commands.Status id serial) slot answer ∷ []) ≡ accepted_in log
status_does_nothing log slot id serial answer =
    does_nothing log (entry_with (commands.Status id serial) slot answer) (λ i s. refl) (adds_none (start_of answer))
  where
    adds_none : (start : Option ℕ) → added_by (accepted_in log) (length log) slot start (commands.Status id serial) ≡ []
    adds_none None = refl
    adds_none (Some at) = refl

-- the answers by cases: a cause, or what accepts, with what then holds
pub before_end_cases : (P : Answer → Type 0) (slots slot : ℕ) (answer : Answer)
    → ((cause : ℕ) → P (answers.Cause cause))
    → P answer
    → P (before_end slots slot answer)
before_end_cases P slots slot answer refuses accepts =
    cond_both (slot == slots) (answers.Cause 0x0A) answer P (λ _. refuses 0x0A) (λ _. accepts)

-- an answer about a live message has what each refusal has, and what its own answer has
pub if_live_cases : (P : Answer → Type 0) (slot : ℕ) (found : Option Accepted) (answer : Accepted → Answer)
    → ((cause : ℕ) → P (answers.Cause cause))
    → ((a : Accepted) → found ≡ Some a → is_live slot a.message ≡ true → P (answer a))
    → P (if_live slot found answer)
if_live_cases P slot None answer refuses accepts = refuses 0x02
if_live_cases P slot (Some a) answer refuses accepts =
    cond_both (is_live slot a.message) (answer a) (answers.Cause 0x02) P (λ live. accepts a refl live)
    (λ _. refuses 0x02)

-- and so has an answer to a pair that was not accepted before
pub unless_accepted_cases : (P : Answer → Type 0) (found : Option Accepted) (answer : Answer)
    → ((cause : ℕ) → P (answers.Cause cause))
    → (found ≡ None → P answer)
    → P (unless_accepted (message_found found) answer)
unless_accepted_cases P None answer refuses accepts = accepts refl
unless_accepted_cases P (Some a) answer refuses accepts = refuses 0x0D

at_cases : (P : Answer → Type 0) (claims : List Claim) (slot : ℕ) (accepts : ℕ → Answer) (place : Option Place)
    → ((cause : ℕ) → P (answers.Cause cause))
    → ((p : Place) → place ≡ Some p → claimed_at claims slot + p.excess ≤ SCALE → P (accepts p.start))
    → P (answer_at claims slot accepts place)
at_cases P claims slot accepts None refuses later = refuses 0x06
at_cases P claims slot accepts (Some p) refuses later =
    let sum : ℕ = claimed_at claims slot + p.excess in
    cond_both (ltb SCALE sum) (answers.Cause 0x06) (accepts p.start) P (λ _. refuses 0x06)
    (λ fits. later p refl (ltb-false SCALE sum fits))

-- a place of the table, and room for the load now or for the excess up to a later start
pub beside_cases : (P : Answer → Type 0) (claims : List Claim) (slot load : ℕ) (place : Option Place)
    (accepts : ℕ → Answer)
    → ((cause : ℕ) → P (answers.Cause cause))
    → (length (filter (is_claimed_at slot) claims) < 64 → claimed_at claims slot + load ≤ SCALE → P (accepts slot))
    → (length (filter (is_claimed_at slot) claims) < 64 → (p : Place) → place ≡ Some p
    → claimed_at claims slot + p.excess ≤ SCALE → P (accepts p.start))
    → P (admit_or_refuse claims slot load place accepts)
beside_cases P claims slot load place accepts refuses now later =
    let places : ℕ = length (filter (is_claimed_at slot) claims) in
    let sum : ℕ = claimed_at claims slot + load in
    let room : leb 64 places ≡ false → places < 64 = λ few. leb-false 64 places few in
    cond_both (leb 64 places) (answers.Cause 0x07) (cond (ltb SCALE sum) (answer_at claims slot accepts place)
    (accepts slot)) P (λ _. refuses 0x07) (λ few. cond_both (ltb SCALE sum) (answer_at claims slot accepts place)
    (accepts slot) P (λ _. at_cases P claims slot accepts place refuses (later (room few)))
    (λ fits. now (room few) (ltb-false SCALE sum fits)))

-- a background message is accepted at once; of the others there is a place of the table, and room
pub for_cases : (P : Answer → Type 0) (category : Category) (claims : List Claim) (slot load : ℕ)
    (place : Option Place) (accepts : ℕ → Answer)
    → ((cause : ℕ) → P (answers.Cause cause))
    → ((layer_of (rank_of category) ≡ 0 → length (filter (is_claimed_at slot) claims) < 64)
    → (layer_of (rank_of category) ≡ 0 → claimed_at claims slot + load ≤ SCALE) → P (accepts slot))
    → (layer_of (rank_of category) ≡ 0 → length (filter (is_claimed_at slot) claims) < 64 → (p : Place)
    → place ≡ Some p → claimed_at claims slot + p.excess ≤ SCALE → P (accepts p.start))
    → P (answer_for category claims slot load place accepts)
for_cases P category claims slot load place accepts refuses now later =
    cond_both (is_background_category category) (accepts slot) (admit_or_refuse claims slot load place accepts) P
    (λ is. now (λ front. absurd (not_in_front category is front))
    (λ front. absurd (not_in_front category is front))) (λ is. beside_cases P claims slot load place accepts
    refuses (λ room fits. now (λ _. room) (λ _. fits)) (later (in_front category is)))

-- a place that is left is left by a message that isn't background
pub taken_after : (claims : List Claim) (slot load : ℕ) (old : Accepted) (place : Place)
    → place_after claims slot old load ≡ Some place
    → (layer old.message ≡ 0) × (handover claims slot (claim_of old) load ≡ Some place)
taken_after claims slot load old place is = one (layer old.message == 0) refl is
  where
    one : (says : Bool)
        → (layer old.message == 0) ≡ says
        → cond says (handover claims slot (claim_of old) load) None ≡ Some place
        → (layer old.message ≡ 0) × (handover claims slot (claim_of old) load ≡ Some place)
    one true front over = (eqb-true (layer old.message) 0 front, over)
    one false back over = absurd (none-some place over)

-- to find is to have
pub Contains-find : (p : Accepted → Bool) (all : List Accepted) (a : Accepted) → find p all ≡ Some a → Contains all a
Contains-find p all a found = All-find (Contains all) p all a (All-contains_itself all) found

-- stopped as accepted messages, or as messages alone
pub messages_stopped : (entry slot : ℕ) (all : List Accepted)
    → map (λ a. a.message) (map (stop_numbered entry slot) all) ≡ stopped_at entry slot (map (λ a. a.message) all)
messages_stopped entry slot [] = refl
messages_stopped entry slot (a ∷ all) =
    ap (λ (l : List ScheduledMessage). (stop_numbered entry slot a).message ∷ l) (messages_stopped entry slot all)

-- and as claims
pub claims_stopped : (entry slot : ℕ) (all : List Accepted)
    → claims_of (map (stop_numbered entry slot) all) ≡ stop_claims entry slot (claims_of all)
claims_stopped entry slot [] = refl
claims_stopped entry slot (a ∷ all) = one (reserves (claim_of a)) (claims_stopped entry slot all)
  where
    one : (says : Bool)
        → claims_of (map (stop_numbered entry slot) all) ≡ stop_claims entry slot (claims_of all)
        → cond says (claim_of (stop_numbered entry slot a) ∷ claims_of (map (stop_numbered entry slot) all))
        (claims_of (map (stop_numbered entry slot) all)) ≡ stop_claims entry slot
        (cond says (claim_of a ∷ claims_of all) (claims_of all))
    one true rest = ap (λ (l : List Claim). claim_of (stop_numbered entry slot a) ∷ l) rest
    one false rest = rest

kill_outcome : (log : List Entry) (air : Air) (slot id serial : ℕ)
    → AllPairs OfAnotherPair (accepted_in log)
    → Outcome log (entry_with (commands.Kill id serial) slot (answer_to_kill log air slot id serial))
kill_outcome log air slot id serial once =
    let command = commands.Kill id serial in
    let P : Answer → Type 0 = λ answer. Outcome log (entry_with command slot answer) in
    if_live_cases P slot (find (is_of_pair id serial) (accepted_in log))
    (λ a. answers.Stopped (completed a.message air slot)) (refused log slot command) (λ a found live. record {
      stopped = Some a;
      started = None;
      after = stops_one log slot id serial (completed a.message air slot) a once found
          (live_is_standing slot a.message live);
      live = (Contains-find (is_of_pair id serial) (accepted_in log) a found, live);
      fresh = tt;
      begun = tt;
    })

-- the message that starts at once is such as may be accepted
pub begun_now : (all before : List Accepted) (entry slot : ℕ) (replaced : Option Accepted) (id serial : ℕ)
    (category : Category) (period broadcasts : ℕ) (dcs : Dcs) (contents : List Content)
    → IsBroadcastable period dcs contents
    → (StartsNow slot before (new_message all entry slot slot None id serial category period broadcasts contents)
    → Starts slot replaced before (new_message all entry slot slot None id serial category period broadcasts
    contents))
    → (layer_of (rank_of category) ≡ 0 → length (filter (is_claimed_at slot) (claims_of before)) < 64)
    → (layer_of (rank_of category) ≡ 0 → claimed_at (claims_of before) slot + load_of (length contents) period ≤ SCALE)
    → IsBegun entry slot replaced before (new_message all entry slot slot None id serial category period broadcasts
    contents)
begun_now all before entry slot replaced id serial category period broadcasts dcs contents formed either room fits =
    record {
      numbered = refl;
      accepted = refl;
      standing = refl;
      some_pages = omega (arith, formed.some_pages);
      some_period = omega (arith, formed.some_period);
      room = room;
      starts = either (record { start = refl; behind = refl; fits = fits });
    }

new_outcome : (log : List Entry) (slot id serial : ℕ) (category : Category) (period broadcasts : ℕ) (dcs : Dcs)
    (contents : List Content)
    → IsBroadcastable period dcs contents
    → Outcome log (entry_with (commands.Write id serial None category dcs period broadcasts contents) slot
    (unless_accepted (message_named id serial log) (answer_to_new log slot category
    (load_of (length contents) period))))
new_outcome log slot id serial category period broadcasts dcs contents formed =
    let command = commands.Write id serial None category dcs period broadcasts contents in
    let P : Answer → Type 0 = λ answer. Outcome log (entry_with command slot answer) in
    let all = accepted_in log in
    let load = load_of (length contents) period in
    unless_accepted_cases P (find (is_of_pair id serial) all) (answer_to_new log slot category load)
    (refused log slot command) (λ fresh. for_cases P category (claims_in log) slot load None
    (λ start. answers.Started start) (refused log slot command) (λ room fits. record {
      stopped = None;
      started = Some (new_message all (length log) slot slot None id serial category period broadcasts contents);
      after = starts_one log slot id serial category period broadcasts dcs contents;
      live = tt;
      fresh = fresh;
      begun = begun_now all all (length log) slot None id serial category period broadcasts dcs contents formed
          (λ now. now) room fits;
    }) (λ front room p none. absurd (none-some p none)))

-- the place at which a write takes over is that of the message that it adds
pub placed_at : (log : List Entry) (slot load : ℕ) (old : Accepted) (place : Place)
    → AreInOrder (claims_in log) slot
    → handover (stop_claims old.message.entry slot (claims_in log)) slot (claim_of old) load ≡ Some place
    → (slot < place.start) × (predecessor_of slot place.start (Some old) ≡ Some place.behind)
    × (excess_beyond load (numbered (Some place.behind) (claims_in log)) ≡ place.excess)
placed_at log slot load old place order over =
    let claims = claims_in log in
    let entry = old.message.entry in
    let took = taken (stop_claims entry slot claims) slot load (ahead_of slot (claim_of old)) place over in
    let p : Claim = took.p in
    let from = from_stopped claims entry slot p took.there in
    let c : Claim = from.0 in
    let numbers : p.message.entry ≡ c.message.entry = ap (λ (x : Claim). x.message.entry) from.2 in
    let loads : own_load p.message ≡ own_load c.message = ap (λ (x : Claim). own_load x.message) from.2 in
    let apart : place.start ≡ slot → ⊥ = λ same. omega (arith, took.later, same) in
    let behind : predecessor_of slot place.start (Some old) ≡ Some place.behind =
    ap (λ (b : Bool). cond b None (ahead_of slot (claim_of old))) (ne_eqb place.start slot apart) ∙ took.entry
    ∙ ap (λ (n : ℕ). Some n) (sym took.named) in
    let named : Some place.behind ≡ Some c.message.entry = ap (λ (n : ℕ). Some n) (took.named ∙ numbers) in
    let found = find_number claims c (find (λ x. x.message.entry == c.message.entry) claims) order.rising from.1 refl
    in
    let excess : excess_beyond load (numbered (Some place.behind) claims) ≡ load - own_load c.message =
    ap (λ (o : Option ℕ). excess_beyond load (numbered o claims)) named ∙ ap (excess_beyond load) found in
    (took.later, behind, omega (arith, excess, took.excess, loads))

replacement_outcome : (log : List Entry) (air : Air) (slot id serial old : ℕ) (category : Category)
    (period broadcasts : ℕ) (dcs : Dcs) (contents : List Content)
    → AllPairs OfAnotherPair (accepted_in log)
    → AreInOrder (claims_in log) slot
    → IsBroadcastable period dcs contents
    → Outcome log (entry_with (commands.Write id serial (Some old) category dcs period broadcasts contents) slot
    (answer_to_write log air slot id serial (Some old) category (load_of (length contents) period)))
replacement_outcome log air slot id serial old category period broadcasts dcs contents once order formed =
    let command = commands.Write id serial (Some old) category dcs period broadcasts contents in
    let P : Answer → Type 0 = λ answer. Outcome log (entry_with command slot answer) in
    let all = accepted_in log in
    let load = load_of (length contents) period in
    if_live_cases P slot (find (is_of_pair id old) all) (λ a. unless_accepted (message_named id serial log)
    (answer_to_replacement log air slot category load a)) (refused log slot command)
    (λ a found live. unless_accepted_cases P (find (is_of_pair id serial) all)
    (answer_to_replacement log air slot category load a) (refused log slot command) (λ fresh.
    let entry = a.message.entry in
    let before = map (stop_numbered entry slot) all in
    let left = stop_claims entry slot (claims_in log) in
    let same = sym (claims_stopped entry slot all) in
    let Room : List Claim → Type 0 = λ claims. length (filter (is_claimed_at slot) claims) < 64 in
    let RoomNow : List Claim → Type 0 = λ claims. layer_of (rank_of category) ≡ 0
    → length (filter (is_claimed_at slot) claims) < 64 in
    let there = Contains-find (is_of_pair id old) all a found in
    let standing = live_is_standing slot a.message live in
    let told = completed a.message air slot in
    for_cases P category left slot load (place_after left slot a load) (λ start. answers.Replaced start told)
    (refused log slot command) (λ room fits.
    let Fits : List Claim → Type 0 = λ claims. layer_of (rank_of category) ≡ 0
    → claimed_at claims slot + load ≤ SCALE in
    let at_once : predecessor_of slot slot (Some a) ≡ None = ap (λ (b : Bool). cond b None (ahead_of slot (claim_of a)))
    (eq-eqb slot slot refl) in
    record {
      stopped = Some a;
      started = Some (new_message all (length log) slot slot None id serial category period broadcasts contents);
      after = replaces_one log slot slot id serial old told category period broadcasts dcs contents a None once found
          standing at_once;
      live = (there, live);
      fresh = fresh;
      begun = begun_now all before (length log) slot (Some a) id serial category period broadcasts dcs contents formed
          (λ now. inl now) (subst RoomNow same room) (subst Fits same fits);
    }) (λ front room p after fits.
    let taken = taken_after left slot load a p after in
    let over = taken.1 in
    let placed = placed_at log slot load a p order over in
    let Over : List Claim → Type 0 = λ claims. handover claims slot (claim_of a) load ≡ Some p in
    let Fits : List Claim → Type 0 = λ claims. claimed_at claims slot + p.excess ≤ SCALE in
    record {
      stopped = Some a;
      started = Some (new_message all (length log) slot p.start (Some p.behind) id serial category period broadcasts
          contents);
      after = replaces_one log slot p.start id serial old told category period broadcasts dcs contents a
          (Some p.behind) once found standing placed.1;
      live = (there, live);
      fresh = fresh;
      begun = record {
        numbered = refl;
        accepted = refl;
        standing = refl;
        some_pages = omega (arith, formed.some_pages);
        some_period = omega (arith, formed.some_period);
        room = λ _. subst Room same room;
        starts = inr (record {
          place = p;
          over = subst Over same over;
          placed = record
              { behind = refl; start = refl; excess = placed.2 };
          of_reserved = taken.0;
          reserved = front;
          fits = subst
              Fits same fits;
        });
      };
    })))

outcome_with_room : (slots : ℕ) (log : List Entry) (air : Air) (slot : ℕ) (command : Command)
    → AllPairs OfAnotherPair (accepted_in log)
    → AreInOrder (claims_in log) slot
    → IsWellFormed command
    → Outcome log (entry_with command slot (answer_with_room slots log air slot command))
outcome_with_room slots log air slot (commands.Status id serial) once order formed =
    let answer = status_answer air slot (message_named id serial log) in
    nothing log (entry_with (commands.Status id serial) slot answer) (status_does_nothing log slot id serial answer)
outcome_with_room slots log air slot (commands.Kill id serial) once order formed =
    let command = commands.Kill id serial in
    let P : Answer → Type 0 = λ answer. Outcome log (entry_with command slot answer) in
    before_end_cases P slots slot (answer_to_kill log air slot id serial) (refused log slot command)
    (kill_outcome log air slot id serial once)
outcome_with_room slots log air slot (commands.Write id serial None category dcs period broadcasts contents) once order
    formed =
    let command = commands.Write id serial None category dcs period broadcasts contents in
    let P : Answer → Type 0 = λ answer. Outcome log (entry_with command slot answer) in
    before_end_cases P slots slot (answer_to_write log air slot id serial None category
    (load_of (length contents) period)) (refused log slot command)
    (new_outcome log slot id serial category period broadcasts dcs contents formed)
outcome_with_room slots log air slot (commands.Write id serial (Some old) category dcs period broadcasts contents) once
    order formed =
    let command = commands.Write id serial (Some old) category dcs period broadcasts contents in
    let P : Answer → Type 0 = λ answer. Outcome log (entry_with command slot answer) in
    before_end_cases P slots slot (answer_to_write log air slot id serial (Some old) category
    (load_of (length contents) period)) (refused log slot command)
    (replacement_outcome log air slot id serial old category period broadcasts dcs contents once order formed)

-- what an entry with the right answer does, where each pair was accepted once before and the claims are in order
pub outcome_of : (slots : ℕ) (log : List Entry) (air : Air) (slot : ℕ) (command : Command)
    → AllPairs OfAnotherPair (accepted_in log)
    → AreInOrder (claims_in log) slot
    → IsWellFormed command
    → Outcome log (entry_with command slot (answer_of slots log air slot command))
outcome_of slots log air slot command once order formed =
    let P : Answer → Type 0 = λ answer. Outcome log (entry_with command slot answer) in
    cond_both (leb 4096 (length log)) (answers.Cause 0x08) (answer_with_room slots log air slot command) P
    (λ _. refused log slot command 0x08) (λ _. outcome_with_room slots log air slot command once order formed)
