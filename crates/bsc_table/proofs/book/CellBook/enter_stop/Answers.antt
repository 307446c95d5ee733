use Rattle.std.proofs.Common.{◌≡◌, ◌≢◌, ℕ, Some, List, [], ◌∷◌, ◌++◌, map, subst, sym, ap, ◌∙◌}
use Rattle.std.specs.List.{All, Any}
use Rattle.std.proofs.lemmas.List.Elements.{All-contains}
use Rattle.admission.specs.declared.budget.Held.{Held}
use Rattle.admission.specs.Waiting.{behind_of}
use Rattle.scheduler.specs.Message.{ScheduledMessage}
use Rattle.scheduler.specs.Follows.{Follows}
use Rattle.bsc_table.specs.declared.entry.Entry.{Entry}
use Rattle.bsc_table.specs.Record.{Record, Accepted, accepted_in, messages_in, is_background_category}
use Rattle.bsc_table.specs.Claim.{Claim}
use Rattle.bsc_table.specs.Accepted.{accepted_of}
use Rattle.bsc_table.specs.Book.{record_of, reservations_at}
use Rattle.bsc_table.specs.BookSteps.{stop_numbered, IsNextEntry, IsStop}
use Rattle.bsc_table.proofs.History.LegalIsSound.{HasLoad, IsSound-legal}
use Rattle.bsc_table.proofs.History.Ranks.{in_front, layer_tells}
use Rattle.bsc_table.proofs.Cell.WithEntry.{messages_without, claims_without, free_of}
use Rattle.bsc_table.proofs.Cell.WithEntry.{released_reservations, book_with, standing_in, held_in}
use Rattle.bsc_table.proofs.book.CellBook.enter_stop.Goals as goal

pub stop-requires-2-clause-standing : goal.stop-requires-2-clause-standing
stop-requires-2-clause-standing c =
    let r : Record = record_of c.self.inside in
    let old : Accepted = accepted_of c.args.old.now.message in
    let Stops : Record → Type 0 = λ x. IsStop x c.args.entry old in
    let stop = subst Stops (sym c.self.view_is) c.requires.stop in
    standing_in c.self.inside.plan r.clock r.log r.air old c.self.invariant.follows stop.stops.there stop.stops.live

pub release-requires-clause-period : goal.release-requires-clause-period
release-requires-clause-period c =
    let r : Record = record_of c.self.inside in
    let old : Accepted = accepted_of c.args.old.now.message in
    let Stops : Record → Type 0 = λ x. IsStop x c.args.entry old in
    let stop = subst Stops (sym c.self.view_is) c.requires.stop in
    (All-contains HasLoad (accepted_in r.log) old ((IsSound-legal r c.self.invariant.legal).loaded) stop.stops.there).1

pub release-requires-clause-reserved : goal.release-requires-clause-reserved
release-requires-clause-reserved c =
    let r : Record = record_of c.self.inside in
    let old : Accepted = accepted_of c.args.old.now.message in
    let Stops : Record → Type 0 = λ x. IsStop x c.args.entry old in
    let Has : List Held → Type 0 = λ reservations. Any (λ (h : Held). h.entry ≡ old.message.entry) reservations in
    let stop = subst Stops (sym c.self.view_is) c.requires.stop in
    λ is. subst Has (sym c.self.invariant.held) (held_in r old c.self.invariant.legal stop.stops
    (in_front c.args.old.now.message.category is))

pub release-requires-clause-free : goal.release-requires-clause-free
release-requires-clause-free c =
    let r : Record = record_of c.self.inside in
    let old : Accepted = accepted_of c.args.old.now.message in
    let Stops : Record → Type 0 = λ x. IsStop x c.args.entry old in
    let Free : List Held → Type 0 = λ reservations. All (λ (h : Held). behind_of h ≢ Some old.message.entry)
    reservations in
    let stop = subst Stops (sym c.self.view_is) c.requires.stop in
    λ is. subst Free (sym c.self.invariant.held) (free_of r old c.self.invariant.legal stop.stops
    (in_front c.args.old.now.message.category is))

pub invariant_of-self-2 : goal.invariant_of-self-2
invariant_of-self-2 c =
    let book = c.self.invariant in
    let r : Record = record_of c.self.inside in
    let e : Entry = c.args.entry in
    let old : Accepted = accepted_of c.args.old.now.message in
    let entry : ℕ = old.message.entry in
    let Next : Record → Type 0 = λ x. IsNextEntry x e in
    let Stops : Record → Type 0 = λ x. IsStop x e old in
    let next = subst Next (sym c.self.view_is) c.requires.next in
    let stop = subst Stops (sym c.self.view_is) c.requires.stop in
    -- the log and what is kept
    let grown = c.push_reserved.ensures.items ∙ ap (λ (l : List Entry). l ++ e ∷ []) c.reserve.ensures.items in
    let fewer = c.stop.ensures.all ∙ ap (map (stop_numbered entry r.clock)) book.kept ∙ sym stop.after in
    -- the plan and the budget
    let messages = messages_without r.log e entry r.clock stop.after in
    let follows = c.stop-2.ensures.follows (messages_in r.log) r.air book.follows in
    let reservations = released_reservations r old c.self.inside.budget c.release.new.budget book.legal stop.stops
    book.held
    (is_background_category c.args.old.now.message.category) (layer_tells c.args.old.now.message.category)
    c.release.ensures in
    let FollowsAll : List ScheduledMessage → Type 0 = λ all. Follows c.stop-2.new.self all r.air in
    let claims = claims_without r.log e entry r.clock stop.after in
    let HeldFor : List Claim → Type 0 = λ all. c.release.new.budget ≡ reservations_at r.clock all in
    book_with c.self.inside e c.push_reserved.new.self c.stop.new.self
    c.stop-2.new.self c.release.new.budget book next grown fewer (subst FollowsAll (sym messages) follows)
    (subst HeldFor (sym claims) reservations)
