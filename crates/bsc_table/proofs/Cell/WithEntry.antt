-- A book with one more entry: its record, its messages, and what its plan and budget hold of them.
use Rattle.std.proofs.Common.{◌≡◌, ◌≢◌, ℕ, zero, suc, arith, ◌≤◌, ◌<◌, ◌==◌, Bool, true, false, not, cond, Option}
use Rattle.std.proofs.Common.{Some, None, List, []}
use Rattle.std.proofs.Common.{◌∷◌, ◌++◌, length, map, filter, get_or, refl, ap, sym, subst, ◌∙◌}
use Rattle.std.specs.List.{All, AllPairs, Any, Contains}
use Rattle.std.specs.Global.{Vec}
use Rattle.std.proofs.lemmas.Bool.{lt-leb, eq-eqb, ne_eqb, cond-false, false≢true}
use Rattle.std.proofs.lemmas.List.{append-nil, map-append, length_push}
use Rattle.std.proofs.Math.ListN.{get_or-append}
use Rattle.std.proofs.Math.Seq.{get_or-append_seam}
use Rattle.std.proofs.lemmas.List.Elements.{Contains-append_left, All-map, All-filter, All-contains}
use Rattle.admission.specs.declared.budget.Held.{Held}
use Rattle.admission.specs.Reservation.{end_of_stopped}
use Rattle.admission.specs.Waiting.{behind_of}
use Rattle.admission.specs.Table.{ends_at, passed}
use Rattle.scheduler.specs.Message.{ScheduledMessage, stopped_if, stopped_at}
use Rattle.scheduler.specs.Air.{Air, layer}
use Rattle.scheduler.specs.Follows.{PlanState, messages_of, Follows}
use Rattle.bsc_table.specs.declared.book.CellBook.TheInside.{Inside}
use Rattle.bsc_table.specs.declared.entry.Answer.{Answer}
use Rattle.bsc_table.specs.declared.entry.Entry.{Entry}
use Rattle.bsc_table.specs.Record.{Record, Accepted, accepted_in, messages_in, is_of_pair, is_live, claim_of, claims_of}
use Rattle.bsc_table.specs.Record.{claims_in}
use Rattle.bsc_table.specs.Claim.{Claim, reserves, is_claimed_at, stop_claim, stop_claims}
use Rattle.bsc_table.specs.Answer.{answer_with_room, answer_of}
use Rattle.bsc_table.specs.Legal.{IsLegal}
use Rattle.bsc_table.specs.Room.{AreInOrder}
use Rattle.bsc_table.specs.Begun.{IsBegun}
use Rattle.bsc_table.specs.Accepted.{TableState}
use Rattle.bsc_table.specs.Book.{air_pairs, record_of}
use Rattle.bsc_table.specs.BookSteps.{stop_numbered, IsLiveIn, IsNextEntry}
use Rattle.bsc_table.specs.Transitions.{with_entry}
use Rattle.bsc_table.specs.Book.{IsCellBook, reservation_for, reservations_at}
use Rattle.bsc_table.specs.BookSteps.{left_by}
use Rattle.bsc_table.proofs.History.Pairs.{OfAnotherPair, BelowIt, live_is_standing}
use Rattle.bsc_table.proofs.History.EntryNumbers.{numbers_rise, numbers_below}
use Rattle.bsc_table.proofs.History.NextEntry.{entry_with, messages_stopped, claims_stopped}
use Rattle.bsc_table.proofs.History.LegalWithEntry.{IsLegal-entry, Contains-message}
use Rattle.bsc_table.proofs.History.Ranks.{all_claims, its_claim, same_claim, same_claims, claims_more}
use Rattle.bsc_table.proofs.Cell.BudgetOfTable.{live_is_claimed, new_is_claimed, reservations_at-new}
use Rattle.bsc_table.proofs.Cell.BudgetOfTable.{reservations_at-stopped}
use Rattle.bsc_table.proofs.Cell.HandedOver.{its_reservation, none_behind_live}
use Rattle.bsc_table.proofs.Room.StopKeepsRoom.{in_order-stop}
use Rattle.bsc_table.proofs.History.Begun.{starts_forward}
use Rattle.bsc_table.proofs.History.LegalIsSound.{IsSound-legal, stops_live}

-- where the log has room, cause 08 doesn't apply
pub answer-with_room : (r : Record) (e : Entry)
    → length r.log < 4096
    → answer_of r.slots r.log r.air r.clock e.command ≡ answer_with_room r.slots r.log r.air r.clock e.command
answer-with_room r e room =
    cond-false _ _ _ (lt-leb 4096 (length r.log) room)

-- the record with the entry that is to come next is legal
pub IsLegal-with : (r : Record) (e : Entry) → IsLegal r → IsNextEntry r e → IsLegal (with_entry e r)
IsLegal-with r e legal next =
    let same : entry_with e.command r.clock (answer_of r.slots r.log r.air r.clock e.command) ≡ e =
    ap (λ (answer : Answer). entry_with e.command r.clock answer) (answer-with_room r e next.room ∙ sym next.right)
    ∙ ap (λ (slot : ℕ). entry_with e.command slot e.answer) (sym next.now) in
    let P : Entry → Type 0 = λ x. IsLegal (with_entry x r) in
    subst P same (IsLegal-entry r e.command legal next.room next.formed)

-- the messages, as the accepted ones
pub messages_with : (log : List Entry) (e : Entry) (all : List Accepted) (a : Accepted)
    → accepted_in (log ++ e ∷ []) ≡ all ++ a ∷ []
    → messages_in (log ++ e ∷ []) ≡ map (λ x. x.message) all ++ a.message ∷ []
messages_with log e all a after =
    ap (map (λ (x : Accepted). x.message)) after ∙ map-append (λ (x : Accepted). x.message) all (a ∷ [])

-- the messages after a stop, as the accepted ones
pub messages_without : (log : List Entry) (e : Entry) (entry slot : ℕ)
    → accepted_in (log ++ e ∷ []) ≡ map (stop_numbered entry slot) (accepted_in log)
    → messages_in (log ++ e ∷ []) ≡ stopped_at entry slot (messages_in log)
messages_without log e entry slot after =
    ap (map (λ (x : Accepted). x.message)) after ∙ messages_stopped entry slot (accepted_in log)

-- a plan's numbers are below the length of the log
pub planned_below : (plan : PlanState) (log : List Entry) (air : Air)
    → Follows plan (messages_in log) air
    → All (λ m. m.entry < length log) (messages_of plan)
planned_below plan log air follows =
    let Below : List ScheduledMessage → Type 0 = λ messages. All (λ (m : ScheduledMessage). m.entry < length log)
    messages in
    subst Below (sym follows.same_messages) (All-map (λ (m : ScheduledMessage). m.entry < length log)
    (λ (a : Accepted). a.message)
    (accepted_in log) (numbers_below log))

-- so are those of a budget
reservations_below : (slot n : ℕ) (claims : List Claim)
    → All (λ c. c.message.entry < n) claims
    → All (λ h. h.entry < n) (reservations_at slot claims)
reservations_below slot n claims below =
    All-map (λ (h : Held). h.entry < n) (reservation_for slot) (filter (is_claimed_at slot) claims)
    (All-filter (is_claimed_at slot) (λ (c : Claim). c.message.entry < n) claims below)

claims_below : (log : List Entry) → All (λ c. c.message.entry < length log) (claims_in log)
claims_below log =
    All-filter reserves (λ (c : Claim). c.message.entry < length log) (all_claims (accepted_in log))
    (All-map (λ (c : Claim). c.message.entry < length log) claim_of (accepted_in log) (numbers_below log))

-- what a budget holds is of entries of the log
pub held_below : (slot : ℕ) (log : List Entry) → All (λ h. h.entry < length log) (reservations_at slot (claims_in log))
held_below slot log = reservations_below slot (length log) (claims_in log) (claims_below log)

-- also once a message is stopped
pub held_below_without : (slot entry : ℕ) (log : List Entry)
    → All (λ h. h.entry < length log) (reservations_at slot (stop_claims entry slot (claims_in log)))
held_below_without slot entry log =
    reservations_below slot (length log) (stop_claims entry slot (claims_in log))
    (All-map (λ (c : Claim). c.message.entry < length log) (stop_claim entry slot) (claims_in log)
    (claims_below log))

-- a message with another number stays as it is where one is stopped
pub stopped_beside : (entry slot : ℕ) (messages : List ScheduledMessage) (m : ScheduledMessage)
    → (m.entry ≡ entry → ⊥)
    → stopped_at entry slot (messages ++ m ∷ []) ≡ stopped_at entry slot messages ++ m ∷ []
stopped_beside entry slot messages m other =
    let stop : ScheduledMessage → ScheduledMessage = λ x. stopped_if (x.entry == entry) slot x in
    map-append stop messages (m ∷ [])
    ∙ ap (λ (b : Bool). stopped_at entry slot messages ++ stopped_if b slot m ∷ []) (ne_eqb m.entry entry other)

-- an accepted message's entry is one of the log
pub number_below : (log : List Entry) (a : Accepted) → Contains (accepted_in log) a → a.message.entry < length log
number_below log a there =
    All-contains (λ (x : Accepted). x.message.entry < length log) (accepted_in log) a (numbers_below log) there

-- a live message is told of as standing
pub standing_in : (plan : PlanState) (slot : ℕ) (log : List Entry) (air : Air) (a : Accepted)
    → Follows plan (messages_in log) air
    → Contains (accepted_in log) a
    → is_live slot a.message ≡ true
    → Any (λ m. (m.entry ≡ a.message.entry) × (m.stop ≡ None)) (messages_of plan)
standing_in plan slot log air a follows there live =
    let P : List ScheduledMessage → Type 0 = λ messages. Any (λ (m : ScheduledMessage). (m.entry ≡ a.message.entry)
    × (m.stop ≡ None))
    messages in
    let found = Contains-message log a there in
    subst P (sym follows.same_messages) (
      found.0,
      a.message,
      found.1,
      found.2,
      (refl, live_is_standing slot a.message live),
    )

-- also where one more was told
pub standing_beside : (plan : PlanState) (slot : ℕ) (log : List Entry) (a : Accepted) (told : List ScheduledMessage)
    (m : ScheduledMessage)
    → messages_of plan ≡ told ++ m ∷ []
    → Any (λ x. (x.entry ≡ a.message.entry) × (x.stop ≡ None)) told
    → Any (λ x. (x.entry ≡ a.message.entry) × (x.stop ≡ None)) (messages_of plan)
standing_beside plan slot log a told m same found =
    let P : List ScheduledMessage → Type 0 = λ messages. Any (λ (x : ScheduledMessage). (x.entry ≡ a.message.entry)
    × (x.stop ≡ None))
    messages in
    let there : Contains (told ++ m ∷ []) found.1 =
    Contains-append_left told (m ∷ []) found.1 (found.0, found.2, found.3) in
    subst P (sym same) (there.0, found.1, there.1, there.2, found.4)

-- its reservation is held
pub held_in : (r : Record) (a : Accepted)
    → IsLegal r
    → IsLiveIn r a
    → layer a.message ≡ 0
    → Any (λ h. h.entry ≡ a.message.entry) (reservations_at r.clock (claims_in r.log))
held_in r a legal live front =
    let order = (IsSound-legal r legal).order in
    let here = its_claim (accepted_in r.log) a live.there front in
    let Stands : Claim → Type 0 = λ c. (c.accepted ≤ r.clock) × (0 < c.message.period) in
    let its = subst Stands here.2 (order.accepted here.0 (claim_of a) here.1, order.periods here.0 (claim_of a) here.1)
    in
    let reservation = its_reservation r.clock (claims_in r.log) (claim_of a) here
    (live_is_claimed r.clock (claim_of a) its.0 its.1 live.live) in
    (reservation.0, reservation_for r.clock (claim_of a), reservation.1, reservation.2, refl)

-- and none waits behind it
pub free_of : (r : Record) (a : Accepted)
    → IsLegal r
    → IsLiveIn r a
    → layer a.message ≡ 0
    → All (λ h. behind_of h ≢ Some a.message.entry) (reservations_at r.clock (claims_in r.log))
free_of r a legal live front =
    none_behind_live r.clock (claims_in r.log) (claim_of a) (IsSound-legal r legal).order
    (its_claim (accepted_in r.log) a live.there front) live.live

-- the message of a plan's item
pub item_message : (m : ScheduledMessage) (told : ScheduledMessage) → told ≡ record m { stop = None } → m.stop ≡ None
    → told ≡ m
item_message m told same standing =
    same ∙ ap (λ (stop : Option ℕ). record m { stop = stop }) (sym standing)

-- the claims are in order where a live message is stopped
pub left_in_order : (r : Record) (a : Accepted) → IsLegal r → IsLiveIn r a → AreInOrder (left_by r a) r.clock
left_in_order r a legal live =
    let sound = IsSound-legal r legal in
    in_order-stop (claims_in r.log) a.message.entry r.clock sound.order
    (stops_live (accepted_in r.log) r.clock a sound.rising live.there live.live)

-- the reservations that are left of a budget where a live message was released
ended_claims : (r : Record) (a : Accepted)
    → IsLegal r
    → IsLiveIn r a
    → All (λ c. c.message.entry ≡ a.message.entry → (is_claimed_at r.clock c ≡ true)
    × (end_of_stopped c.message.start c.message.period r.clock ≡ end_of_stopped a.message.start a.message.period
    r.clock)) (claims_in r.log)
ended_claims r a legal live = λ k d within. λ same.
    let claims = claims_in r.log in
    let order = (IsSound-legal r legal).order in
    let c : Claim = get_or claims k d in
    let is : get_or claims k d ≡ claim_of a = same_claim (accepted_in r.log) a (IsSound-legal r legal).rising
    live.there k d within same in
    let Live : Claim → Type 0 = λ x. is_live r.clock x.message ≡ true in (
      live_is_claimed r.clock c (order.accepted k d within) (order.periods k d within) (subst Live (sym is) live.live),
      ap (λ (x : Claim). end_of_stopped x.message.start x.message.period r.clock) is,
    )

-- releasing a live message leaves the reservations of the claims without it
pub reservations_without : (r : Record) (a : Accepted)
    → IsLegal r
    → IsLiveIn r a
    → passed r.clock (ends_at a.message.entry (end_of_stopped a.message.start a.message.period r.clock)
    (reservations_at r.clock (claims_in r.log))) ≡ reservations_at r.clock
    (stop_claims a.message.entry r.clock (claims_in r.log))
reservations_without r a legal live =
    reservations_at-stopped r.clock a.message.entry (end_of_stopped a.message.start a.message.period r.clock)
    (claims_in r.log) (IsSound-legal r legal).order.accepted (ended_claims r a legal live)

-- so does `release`, which leaves a background message's budget as it was
pub released_reservations : (r : Record) (a : Accepted) (before after : List Held)
    → IsLegal r
    → IsLiveIn r a
    → before ≡ reservations_at r.clock (claims_in r.log)
    → (back : Bool)
    → (layer a.message == 0) ≡ not back
    → after ≡ cond back before (passed r.clock (ends_at a.message.entry
    (end_of_stopped a.message.start a.message.period r.clock) before))
    → after ≡ reservations_at r.clock (stop_claims a.message.entry r.clock (claims_in r.log))
released_reservations r a before after legal live held true back released =
    let sound = IsSound-legal r legal in
    let other : layer a.message ≡ 0 → ⊥ = λ front. false≢true (sym back ∙ eq-eqb (layer a.message) 0 front) in
    released ∙ held ∙ ap (reservations_at r.clock) (sym (same_claims a.message.entry r.clock (accepted_in r.log) a
    sound.rising live.there refl other))
released_reservations r a before after legal live held false front released =
    let left : List Held → List Held = λ reservations. passed r.clock
    (ends_at a.message.entry (end_of_stopped a.message.start a.message.period r.clock) reservations) in
    released ∙ ap left held ∙ reservations_without r a legal live

-- the claims of a log with an entry that stops a message, and that starts one
pub claims_without : (log : List Entry) (e : Entry) (entry slot : ℕ)
    → accepted_in (log ++ e ∷ []) ≡ map (stop_numbered entry slot) (accepted_in log)
    → claims_in (log ++ e ∷ []) ≡ stop_claims entry slot (claims_in log)
claims_without log e entry slot after = ap claims_of after ∙ claims_stopped entry slot (accepted_in log)

-- the claims with one more message
pub claims_with : (log : List Entry) (e : Entry) (all : List Accepted) (a : Accepted)
    → accepted_in (log ++ e ∷ []) ≡ all ++ a ∷ []
    → claims_in (log ++ e ∷ []) ≡ claims_of all ++ filter reserves (claim_of a ∷ [])
claims_with log e all a after = ap claims_of after ∙ claims_more all a

-- the reservations with the one of a message that begins, if it isn't background
pub begun_reservations : (entry slot : ℕ) (replaced : Option Accepted) (before : List Accepted) (claims : List Claim)
    (a : Accepted)
    → IsBegun entry slot replaced before a
    → (held after : List Held)
    → held ≡ reservations_at slot claims
    → (back : Bool)
    → (layer a.message == 0) ≡ not back
    → after ≡ cond back held (held ++ reservation_for slot (claim_of a) ∷ [])
    → after ≡ reservations_at slot (claims ++ filter reserves (claim_of a ∷ []))
begun_reservations entry slot replaced before claims a begun held after same true back reserved =
    let none : filter reserves (claim_of a ∷ []) ≡ [] = ap (λ (b : Bool). cond b (claim_of a ∷ []) []) back in
    reserved ∙ same ∙ ap (reservations_at slot) (sym (append-nil claims)
    ∙ ap (λ (l : List Claim). claims ++ l) (sym none))
begun_reservations entry slot replaced before claims a begun held after same false front reserved =
    let one : filter reserves (claim_of a ∷ []) ≡ claim_of a ∷ [] = ap (λ (b : Bool). cond b (claim_of a ∷ []) [])
    front in
    reserved ∙ ap (λ (l : List Held). l ++ reservation_for slot (claim_of a) ∷ []) same
    ∙ sym (new_reservation entry slot replaced before claims a begun)
    ∙ ap (λ (l : List Claim). reservations_at slot (claims ++ l)) (sym one)
  where
    new_reservation : (entry slot : ℕ) (replaced : Option Accepted) (before : List Accepted) (claims : List Claim)
        (a : Accepted)
        → IsBegun entry slot replaced before a
        → reservations_at slot (claims ++ claim_of a ∷ []) ≡ reservations_at slot claims ++ reservation_for slot
        (claim_of a) ∷ []
    new_reservation entry slot replaced before claims a begun =
        reservations_at-new slot claims (claim_of a) (new_is_claimed slot (claim_of a) begun.accepted
        (starts_forward slot replaced before a begun.starts) begun.some_period begun.standing)

-- numbers that rise have room below the length of the log
few_numbers : (n : ℕ) (all : List Accepted) → AllPairs BelowIt all → All (λ a. a.message.entry < n) all
    → length all ≤ n
few_numbers n [] rising below = omega arith
few_numbers n (a ∷ all) rising below =
    let last = at_least (length all) (omega arith) in
    omega (arith, last, below (length all) a (omega arith))
  where
    at_least : (k : ℕ) → k < length (a ∷ all) → k ≤ (get_or (a ∷ all) k a).message.entry
    at_least zero h = omega arith
    at_least (suc k) h =
        let lower = at_least k (omega (arith, h)) in
        omega (arith, lower, rising k (suc k) a (omega arith) h)

-- so a log has no more accepted messages than entries
pub few_accepted : (log : List Entry) → length (accepted_in log) ≤ length log
few_accepted log = few_numbers (length log) (accepted_in log) (numbers_rise log) (numbers_below log)

-- none of those before it has the pair of a message that the next entry adds
pub apart_from_new : (r : Record) (e : Entry) (all : List Accepted) (new : Accepted)
    → IsLegal r
    → IsNextEntry r e
    → accepted_in (r.log ++ e ∷ []) ≡ all ++ new ∷ []
    → All (λ a. is_of_pair a.id a.serial new ≡ false) all
apart_from_new r e all new legal next after = λ k d h.
    let sound = IsSound-legal (with_entry e r) (IsLegal-with r e legal next) in
    let once = subst (AllPairs OfAnotherPair) after sound.once in
    let apart = once k (length all) d h (omega (arith, length_push all new)) in
    let First : Accepted → Type 0 = λ a. OfAnotherPair a new in
    let Second : Accepted → Type 0 = λ b. OfAnotherPair (get_or (all ++ new ∷ []) k d) b in
    subst First (get_or-append all (new ∷ []) d k h) (subst Second (get_or-append_seam all new [] d) apart)

-- a book whose log has the entry that was to come next, and whose table, plan and budget are those of the messages with
-- it
pub book_with : (b : Inside) (e : Entry) (log : Vec Entry) (accepted : TableState) (plan : PlanState)
    (budget : List Held)
    → IsCellBook b
    → IsNextEntry (record_of b) e
    → log.items ≡ b.log.items ++ e ∷ []
    → accepted.all ≡ accepted_in (b.log.items ++ e ∷ [])
    → Follows plan (messages_in (b.log.items ++ e ∷ [])) (air_pairs b.air.items)
    → budget ≡ reservations_at b.clock (claims_in (b.log.items ++ e ∷ []))
    → IsCellBook (record b { log = log; accepted = accepted; plan = plan; budget = budget })
book_with b e log accepted plan budget book next grown kept follows held =
    let Legal : List Entry → Type 0 = λ l. IsLegal (record (record_of b) { log = l }) in
    let KeptBy : List Entry → Type 0 = λ l. accepted.all ≡ accepted_in l in
    let FollowsLog : List Entry → Type 0 = λ l. Follows plan (messages_in l) (air_pairs b.air.items) in
    let HeldBy : List Entry → Type 0 = λ l. budget ≡ reservations_at b.clock (claims_in l) in
    record {
      legal = subst Legal (sym grown) (IsLegal-with (record_of b) e book.legal next);
      short = book.short;
      kept = subst KeptBy (sym grown) kept;
      follows = subst FollowsLog (sym grown) follows;
      held = subst HeldBy (sym grown) held;
      places = book.places;
      room = book.room;
    }
