use Rattle.std.proofs.Common.{◌≡◌, ◌≢◌, ◌<◌, ℕ, Some, List, [], ◌∷◌, ◌++◌, length, map, filter, subst, sym, ap, ◌∙◌}
use Rattle.std.proofs.Common.{arith, false}
use Rattle.std.specs.List.{All, Any}
use Rattle.std.proofs.lemmas.List.{length-map}
use Rattle.std.proofs.lemmas.List.Elements.{All-contains, All-map}
use Rattle.admission.specs.declared.budget.Held.{Held}
use Rattle.admission.specs.Waiting.{behind_of}
use Rattle.scheduler.specs.Message.{ScheduledMessage, stopped_at}
use Rattle.scheduler.specs.Follows.{Follows, messages_of, message_from}
use Rattle.bsc_table.specs.declared.entry.Entry.{Entry}
use Rattle.bsc_table.specs.Record.{Record, Accepted, accepted_in, messages_in, claim_of, claims_in}
use Rattle.bsc_table.specs.Record.{is_background_category}
use Rattle.bsc_table.specs.Record.{is_of_pair}
use Rattle.bsc_table.specs.Claim.{Claim, reserves, stop_claims}
use Rattle.bsc_table.specs.Accepted.{accepted_of}
use Rattle.bsc_table.specs.Book.{record_of, reservations_at}
use Rattle.bsc_table.specs.BookSteps.{stop_numbered, HasRoomFor, IsNextEntry, IsReplacement}
use Rattle.bsc_table.proofs.History.NextEntry.{messages_stopped, claims_stopped}
use Rattle.bsc_table.proofs.Cell.RoomForNew.{room_for_replacement}
use Rattle.bsc_table.proofs.History.LegalIsSound.{HasLoad, IsSound-legal}
use Rattle.bsc_table.proofs.History.Ranks.{in_front, layer_tells}
use Rattle.bsc_table.proofs.Cell.WithEntry.{free_of, book_with, released_reservations, messages_with}
use Rattle.bsc_table.proofs.Cell.WithEntry.{planned_below, held_below_without, number_below, standing_in}
use Rattle.bsc_table.proofs.Cell.WithEntry.{standing_beside, held_in, item_message, begun_reservations, claims_with}
use Rattle.bsc_table.proofs.Cell.WithEntry.{stopped_beside, few_accepted, apart_from_new}
use Rattle.bsc_table.proofs.History.EntryNumbers.{numbers_below}
use Rattle.bsc_table.proofs.book.CellBook.enter_replacement.Goals as goal

pub add-requires-clause-rising : goal.add-requires-clause-rising
add-requires-clause-rising c =
    let r : Record = record_of c.self.inside in
    let old : Accepted = accepted_of c.args.old.now.message in
    let Replaces : Record → Type 0 = λ x. IsReplacement x c.args.entry old (accepted_of c.args.new.now) in
    let change = subst Replaces (sym c.self.view_is) c.requires.replacement in
    let may = change.begun in
    let below = planned_below c.self.inside.plan r.log r.air c.self.invariant.follows in
    let entry = ap (λ (m : ScheduledMessage). m.entry) c.item.ensures in
    λ k d h. omega (arith, below k d h, entry, may.numbered)

pub stop-requires-2-clause-standing : goal.stop-requires-2-clause-standing
stop-requires-2-clause-standing c =
    let r : Record = record_of c.self.inside in
    let old : Accepted = accepted_of c.args.old.now.message in
    let Replaces : Record → Type 0 = λ x. IsReplacement x c.args.entry old (accepted_of c.args.new.now) in
    let change = subst Replaces (sym c.self.view_is) c.requires.replacement in
    let found = standing_in c.self.inside.plan r.clock r.log r.air old c.self.invariant.follows change.stops.there
    change.stops.live in
    standing_beside c.add.new.self r.clock r.log old (messages_of c.self.inside.plan) (message_from c.item.result)
    c.in_ok-add.ensures.messages found

pub release-requires-clause-period : goal.release-requires-clause-period
release-requires-clause-period c =
    let r : Record = record_of c.self.inside in
    let old : Accepted = accepted_of c.args.old.now.message in
    let Replaces : Record → Type 0 = λ x. IsReplacement x c.args.entry old (accepted_of c.args.new.now) in
    let change = subst Replaces (sym c.self.view_is) c.requires.replacement in
    (All-contains HasLoad (accepted_in r.log) old ((IsSound-legal r c.self.invariant.legal).loaded)
    change.stops.there).1

pub release-requires-clause-reserved : goal.release-requires-clause-reserved
release-requires-clause-reserved c =
    let r : Record = record_of c.self.inside in
    let old : Accepted = accepted_of c.args.old.now.message in
    let Replaces : Record → Type 0 = λ x. IsReplacement x c.args.entry old (accepted_of c.args.new.now) in
    let change = subst Replaces (sym c.self.view_is) c.requires.replacement in
    let Has : List Held → Type 0 = λ reservations. Any (λ (h : Held). h.entry ≡ old.message.entry) reservations in
    λ is. subst Has (sym c.self.invariant.held) (held_in r old c.self.invariant.legal change.stops
    (in_front c.args.old.now.message.category is))

pub reserve_for-requires-clause-unreserved : goal.reserve_for-requires-clause-unreserved
reserve_for-requires-clause-unreserved c =
    let r : Record = record_of c.self.inside in
    let old : Accepted = accepted_of c.args.old.now.message in
    let entry : ℕ = old.message.entry in
    let Replaces : Record → Type 0 = λ x. IsReplacement x c.args.entry old (accepted_of c.args.new.now) in
    let change = subst Replaces (sym c.self.view_is) c.requires.replacement in
    let reservations = released_reservations r old c.self.inside.budget c.release.new.budget c.self.invariant.legal
    change.stops
    c.self.invariant.held (is_background_category c.args.old.now.message.category)
    (layer_tells c.args.old.now.message.category)
    c.release.ensures in
    let Below : List Held → Type 0 = λ l. All (λ (h : Held). h.entry < length r.log) l in
    let below = subst Below (sym reservations) (held_below_without r.clock entry r.log) in
    λ k d h same. omega (arith, below k d h, change.begun.numbered, same)

pub reserve_for-requires-clause-room : goal.reserve_for-requires-clause-room
reserve_for-requires-clause-room c =
    let r : Record = record_of c.self.inside in
    let old : Accepted = accepted_of c.args.old.now.message in
    let new : Accepted = accepted_of c.args.new.now in
    let Replaces : Record → Type 0 = λ x. IsReplacement x c.args.entry old new in
    let change = subst Replaces (sym c.self.view_is) c.requires.replacement in
    let reservations = released_reservations r old c.self.inside.budget c.release.new.budget c.self.invariant.legal
    change.stops
    c.self.invariant.held (is_background_category c.args.old.now.message.category)
    (layer_tells c.args.old.now.message.category)
    c.release.ensures in
    let Room : List Held → Type 0 = λ l. HasRoomFor r.clock l (claim_of new) new.behind in
    let sound = IsSound-legal r c.self.invariant.legal in
    λ is. subst Room (sym reservations) (room_for_replacement (length r.log) r.clock (accepted_in r.log) old new
    sound.order
    sound.rising change.stops.there change.stops.live change.begun (in_front c.args.new.now.category is))

pub release-requires-clause-free : goal.release-requires-clause-free
release-requires-clause-free c =
    let r : Record = record_of c.self.inside in
    let old : Accepted = accepted_of c.args.old.now.message in
    let Replaces : Record → Type 0 = λ x. IsReplacement x c.args.entry old (accepted_of c.args.new.now) in
    let Free : List Held → Type 0 = λ reservations. All (λ (h : Held). behind_of h ≢ Some old.message.entry)
    reservations in
    let change = subst Replaces (sym c.self.view_is) c.requires.replacement in
    λ is. subst Free (sym c.self.invariant.held) (free_of r old c.self.invariant.legal change.stops
    (in_front c.args.old.now.message.category is))

pub push-requires-clause-few : goal.push-requires-clause-few
push-requires-clause-few c =
    let r : Record = record_of c.self.inside in
    let entry : ℕ = c.args.old.now.message.entry in
    let Next : Record → Type 0 = λ x. IsNextEntry x c.args.entry in
    let next = subst Next (sym c.self.view_is) c.requires.next in
    let stopped = ap length (c.stop.ensures.all ∙ ap (map (stop_numbered entry r.clock)) (c.reserve-2.ensures.same
    ∙ c.self.invariant.kept)) in
    omega (arith, stopped, length-map (accepted_in r.log) (stop_numbered entry r.clock), few_accepted r.log, next.room)

pub push-requires-clause-rising : goal.push-requires-clause-rising
push-requires-clause-rising c =
    let r : Record = record_of c.self.inside in
    let entry : ℕ = c.args.old.now.message.entry in
    let Replaces : Record → Type 0 = λ x. IsReplacement x c.args.entry (accepted_of c.args.old.now.message)
    (accepted_of c.args.new.now) in
    let change = subst Replaces (sym c.self.view_is) c.requires.replacement in
    let stopped = c.stop.ensures.all ∙ ap (map (stop_numbered entry r.clock)) (c.reserve-2.ensures.same
    ∙ c.self.invariant.kept) in
    let Below : List Accepted → Type 0 = λ l. All (λ (a : Accepted). a.message.entry < length r.log) l in
    let below = subst Below (sym stopped) (All-map (λ (a : Accepted). a.message.entry < length r.log)
    (stop_numbered entry r.clock) (accepted_in r.log) (numbers_below r.log)) in
    λ k d h. omega (arith, below k d h, change.begun.numbered)

pub push-requires-clause-apart : goal.push-requires-clause-apart
push-requires-clause-apart c =
    let r : Record = record_of c.self.inside in
    let entry : ℕ = c.args.old.now.message.entry in
    let new : Accepted = accepted_of c.args.new.now in
    let Next : Record → Type 0 = λ x. IsNextEntry x c.args.entry in
    let Replaces : Record → Type 0 = λ x. IsReplacement x c.args.entry (accepted_of c.args.old.now.message) new in
    let next = subst Next (sym c.self.view_is) c.requires.next in
    let change = subst Replaces (sym c.self.view_is) c.requires.replacement in
    let stopped = c.stop.ensures.all ∙ ap (map (stop_numbered entry r.clock)) (c.reserve-2.ensures.same
    ∙ c.self.invariant.kept) in
    let Apart : List Accepted → Type 0 = λ l. All (λ (a : Accepted). is_of_pair a.id a.serial new ≡ false) l in
    subst Apart (sym stopped) (apart_from_new r c.args.entry (map (stop_numbered entry r.clock) (accepted_in r.log)) new
    c.self.invariant.legal next change.after)

pub invariant_of-self-2 : goal.invariant_of-self-2
invariant_of-self-2 c =
    let book = c.self.invariant in
    let r : Record = record_of c.self.inside in
    let e : Entry = c.args.entry in
    let old : Accepted = accepted_of c.args.old.now.message in
    let new : Accepted = accepted_of c.args.new.now in
    let entry : ℕ = old.message.entry in
    let rest : List Accepted = map (stop_numbered entry r.clock) (accepted_in r.log) in
    let before : List ScheduledMessage = messages_in r.log in
    let after : List ScheduledMessage = stopped_at entry r.clock before in
    let inside = sym c.self.view_is in
    let Next : Record → Type 0 = λ x. IsNextEntry x e in
    let Replaces : Record → Type 0 = λ x. IsReplacement x e old new in
    let next = subst Next inside c.requires.next in
    let change = subst Replaces inside c.requires.replacement in
    let may = change.begun in
    let sound = IsSound-legal r book.legal in
    let same = messages_stopped entry r.clock (accepted_in r.log) in
    -- the log and what is kept
    let grown = c.push_reserved.ensures.items ∙ ap (λ (l : List Entry). l ++ e ∷ []) c.reserve.ensures.items in
    let stopped = c.stop.ensures.all ∙ ap (map (stop_numbered entry r.clock)) (c.reserve-2.ensures.same ∙ book.kept) in
    let kept = c.push.ensures ∙ ap (λ (l : List Accepted). l ++ new ∷ []) stopped ∙ sym change.after in
    -- the plan
    let same_item = item_message new.message (message_from c.item.result) c.item.ensures may.standing in
    let messages = messages_with r.log e rest new change.after
    ∙ ap (λ (l : List ScheduledMessage). l ++ new.message ∷ []) same in
    let FollowsOne : ScheduledMessage → Type 0 = λ m. Follows c.add.new.self (before ++ m ∷ []) r.air in
    let added = subst FollowsOne same_item (c.in_ok-add.ensures.follows before r.air book.follows) in
    let FollowsThese : List ScheduledMessage → Type 0 = λ all. Follows c.stop-2.new.self all r.air in
    let below = number_below r.log old change.stops.there in
    let apart = stopped_beside entry r.clock before new.message (λ equal. omega (arith, below, may.numbered, equal)) in
    let follows = subst FollowsThese apart (c.stop-2.ensures.follows (before ++ new.message ∷ []) r.air added) in
    -- the budget
    let left : List Claim = stop_claims entry r.clock (claims_in r.log) in
    let released = released_reservations r old c.self.inside.budget c.release.new.budget book.legal change.stops
    book.held
    (is_background_category c.args.old.now.message.category) (layer_tells c.args.old.now.message.category)
    c.release.ensures in
    let claims = claims_with r.log e rest new change.after ∙ ap
    (λ (l : List Claim). l ++ filter reserves (claim_of new ∷ []))
    (claims_stopped entry r.clock (accepted_in r.log)) in
    let reservations = begun_reservations (length r.log) r.clock (Some old) rest left new may c.release.new.budget
    c.reserve_for.new.budget released (is_background_category c.args.new.now.category)
    (layer_tells c.args.new.now.category) c.reserve_for.ensures in
    let HeldFor : List Claim → Type 0 = λ all. c.reserve_for.new.budget ≡ reservations_at r.clock all in
    book_with c.self.inside e c.push_reserved.new.self c.push.new.self c.stop-2.new.self
    c.reserve_for.new.budget book next grown kept (subst FollowsThese (sym messages) follows)
    (subst HeldFor (sym claims) reservations)
