use Rattle.std.proofs.Common.{◌≡◌, ◌<◌, false, None, List, [], ◌∷◌, ◌++◌, length, subst, sym, ap, ◌∙◌, arith}
use Rattle.std.specs.List.{All}
use Rattle.admission.specs.declared.budget.Held.{Held}
use Rattle.scheduler.specs.Message.{ScheduledMessage}
use Rattle.scheduler.specs.Follows.{Follows, message_from}
use Rattle.bsc_table.specs.declared.entry.Entry.{Entry}
use Rattle.bsc_table.specs.Record.{Record, Accepted, accepted_in, messages_in, claim_of, claims_in}
use Rattle.bsc_table.specs.Record.{is_background_category}
use Rattle.bsc_table.specs.Record.{is_of_pair}
use Rattle.bsc_table.specs.Claim.{Claim}
use Rattle.bsc_table.specs.Accepted.{accepted_of}
use Rattle.bsc_table.specs.Book.{record_of, reservations_at}
use Rattle.bsc_table.specs.BookSteps.{HasRoomFor, IsNextEntry, IsStart}
use Rattle.bsc_table.proofs.Cell.RoomForNew.{room_for_new}
use Rattle.bsc_table.proofs.History.LegalIsSound.{IsSound-legal}
use Rattle.bsc_table.proofs.History.Ranks.{in_front, layer_tells}
use Rattle.bsc_table.proofs.Cell.WithEntry.{book_with, messages_with, planned_below, held_below, few_accepted}
use Rattle.bsc_table.proofs.Cell.WithEntry.{apart_from_new}
use Rattle.bsc_table.proofs.History.EntryNumbers.{numbers_below}
use Rattle.bsc_table.proofs.Cell.WithEntry.{item_message, begun_reservations, claims_with}
use Rattle.bsc_table.proofs.book.CellBook.enter_new.Goals as goal

pub add-requires-clause-rising : goal.add-requires-clause-rising
add-requires-clause-rising c =
    let r : Record = record_of c.self.inside in
    let Starts : Record → Type 0 = λ x. IsStart x c.args.entry (accepted_of c.args.new.now) in
    let start = subst Starts (sym c.self.view_is) c.requires.start in
    let may = start.begun in
    let below = planned_below c.self.inside.plan r.log r.air c.self.invariant.follows in
    let entry = ap (λ (m : ScheduledMessage). m.entry) c.item.ensures in
    λ k d h. omega (arith, below k d h, entry, may.numbered)

pub reserve_for-requires-clause-soon : goal.reserve_for-requires-clause-soon
reserve_for-requires-clause-soon c =
    let r : Record = record_of c.self.inside in
    let Starts : Record → Type 0 = λ x. IsStart x c.args.entry (accepted_of c.args.new.now) in
    let start = subst Starts (sym c.self.view_is) c.requires.start in
    omega (arith, start.begun.starts.start, c.self.invariant.legal.within, c.self.invariant.short)

pub reserve_for-requires-clause-unreserved : goal.reserve_for-requires-clause-unreserved
reserve_for-requires-clause-unreserved c =
    let r : Record = record_of c.self.inside in
    let Starts : Record → Type 0 = λ x. IsStart x c.args.entry (accepted_of c.args.new.now) in
    let start = subst Starts (sym c.self.view_is) c.requires.start in
    let Below : List Held → Type 0 = λ reservations. All (λ (h : Held). h.entry < length r.log) reservations in
    let below = subst Below (sym c.self.invariant.held) (held_below r.clock r.log) in
    λ k d h same. omega (arith, below k d h, start.begun.numbered, same)

pub reserve_for-requires-clause-room : goal.reserve_for-requires-clause-room
reserve_for-requires-clause-room c =
    let r : Record = record_of c.self.inside in
    let new : Accepted = accepted_of c.args.new.now in
    let Starts : Record → Type 0 = λ x. IsStart x c.args.entry new in
    let start = subst Starts (sym c.self.view_is) c.requires.start in
    let Room : List Held → Type 0 = λ reservations. HasRoomFor r.clock reservations (claim_of new) new.behind in
    λ is. subst Room (sym c.self.invariant.held) (room_for_new (length r.log) r.clock (accepted_in r.log) new
    (IsSound-legal r c.self.invariant.legal).order start.begun (in_front c.args.new.now.category is))

pub push-requires-clause-few : goal.push-requires-clause-few
push-requires-clause-few c =
    let r : Record = record_of c.self.inside in
    let Next : Record → Type 0 = λ x. IsNextEntry x c.args.entry in
    let next = subst Next (sym c.self.view_is) c.requires.next in
    let same = ap length (c.reserve-2.ensures.same ∙ c.self.invariant.kept) in
    omega (arith, same, few_accepted r.log, next.room)

pub push-requires-clause-rising : goal.push-requires-clause-rising
push-requires-clause-rising c =
    let r : Record = record_of c.self.inside in
    let Starts : Record → Type 0 = λ x. IsStart x c.args.entry (accepted_of c.args.new.now) in
    let start = subst Starts (sym c.self.view_is) c.requires.start in
    let Below : List Accepted → Type 0 = λ l. All (λ (a : Accepted). a.message.entry < length r.log) l in
    let below = subst Below (sym (c.reserve-2.ensures.same ∙ c.self.invariant.kept)) (numbers_below r.log) in
    λ k d h. omega (arith, below k d h, start.begun.numbered)

pub push-requires-clause-apart : goal.push-requires-clause-apart
push-requires-clause-apart c =
    let r : Record = record_of c.self.inside in
    let new : Accepted = accepted_of c.args.new.now in
    let Next : Record → Type 0 = λ x. IsNextEntry x c.args.entry in
    let Starts : Record → Type 0 = λ x. IsStart x c.args.entry new in
    let next = subst Next (sym c.self.view_is) c.requires.next in
    let start = subst Starts (sym c.self.view_is) c.requires.start in
    let Apart : List Accepted → Type 0 = λ l. All (λ (a : Accepted). is_of_pair a.id a.serial new ≡ false) l in
    subst Apart (sym (c.reserve-2.ensures.same ∙ c.self.invariant.kept)) (apart_from_new r c.args.entry
    (accepted_in r.log) new c.self.invariant.legal next start.after)

pub invariant_of-self-2 : goal.invariant_of-self-2
invariant_of-self-2 c =
    let book = c.self.invariant in
    let r : Record = record_of c.self.inside in
    let e : Entry = c.args.entry in
    let new : Accepted = accepted_of c.args.new.now in
    let before : List ScheduledMessage = messages_in r.log in
    let inside = sym c.self.view_is in
    let Next : Record → Type 0 = λ x. IsNextEntry x e in
    let Starts : Record → Type 0 = λ x. IsStart x e new in
    let next = subst Next inside c.requires.next in
    let start = subst Starts inside c.requires.start in
    let may = start.begun in
    let adds = start.after in
    let sound = IsSound-legal r book.legal in
    -- the log and what is kept
    let grown = c.push_reserved.ensures.items ∙ ap (λ (l : List Entry). l ++ e ∷ []) c.reserve.ensures.items in
    let kept = c.push.ensures ∙ ap (λ (l : List Accepted). l ++ new ∷ []) (c.reserve-2.ensures.same ∙ book.kept)
    ∙ sym adds in
    -- the plan
    let same_item = item_message new.message (message_from c.item.result) c.item.ensures may.standing in
    let messages = messages_with r.log e (accepted_in r.log) new adds in
    let FollowsOne : ScheduledMessage → Type 0 = λ m. Follows c.add.new.self (before ++ m ∷ []) r.air in
    let follows = subst FollowsOne same_item (c.in_ok-add.ensures.follows before r.air book.follows) in
    -- the budget
    let claims = claims_with r.log e (accepted_in r.log) new adds in
    let reservations = begun_reservations (length r.log) r.clock None (accepted_in r.log) (claims_in r.log) new may
    c.self.inside.budget c.reserve_for.new.budget book.held (is_background_category c.args.new.now.category)
    (layer_tells c.args.new.now.category) c.reserve_for.ensures in
    let FollowsAll : List ScheduledMessage → Type 0 = λ all. Follows c.add.new.self all r.air in
    let HeldFor : List Claim → Type 0 = λ all. c.reserve_for.new.budget ≡ reservations_at r.clock all in
    book_with c.self.inside e c.push_reserved.new.self c.push.new.self c.add.new.self
    c.reserve_for.new.budget
    book next grown kept (subst FollowsAll (sym messages) follows) (subst HeldFor (sym claims) reservations)
