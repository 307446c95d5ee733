use Rattle.std.proofs.Common.{◌≡◌, ℕ, ◌==◌, cond, Option, Some, None, List, subst, sym, ap, ◌∙◌}
use Rattle.std.specs.List.{Any}
use Rattle.std.proofs.lemmas.List.Elements.{All-contains}
use Rattle.admission.specs.declared.budget.Held.{Held}
use Rattle.admission.specs.Reservation.{end_of_stopped}
use Rattle.admission.specs.Table.{room_answer_for, remaining_without, excess_over}
use Rattle.bsc_table.specs.Record.{Record, Accepted, accepted_in, claim_of, claims_in, place_after}
use Rattle.bsc_table.specs.Handover.{Place}
use Rattle.bsc_table.specs.Accepted.{accepted_of}
use Rattle.bsc_table.specs.Book.{record_of, reservations_at}
use Rattle.bsc_table.specs.BookSteps.{IsLiveIn, IsRoom, left_by, place_found}
use Rattle.bsc_table.proofs.History.NextEntry.{taken_after}
use Rattle.bsc_table.proofs.History.Ranks.{its_claim}
use Rattle.bsc_table.proofs.History.LegalIsSound.{HasLoad, IsSound-legal}
use Rattle.bsc_table.proofs.Cell.HandedOver.{held_ahead}
use Rattle.bsc_table.proofs.Cell.PlanOfTable.{room_after_stop}
use Rattle.bsc_table.proofs.book.CellBook.room_behind.Goals as goal

pub leaving_at-requires : goal.leaving_at-requires
leaving_at-requires c =
    let r : Record = record_of c.self.inside in
    let a : Accepted = accepted_of c.args.old.now in
    let live = subst (λ x. IsLiveIn x a) (sym c.self.view_is) c.requires.live in
    (All-contains HasLoad (accepted_in r.log) a ((IsSound-legal r c.self.invariant.legal).loaded) live.there).1

pub fits_behind-requires : goal.fits_behind-requires
fits_behind-requires c =
    let r : Record = record_of c.self.inside in
    let a : Accepted = accepted_of c.args.old.now in
    let live = subst (λ x. IsLiveIn x a) (sym c.self.view_is) c.requires.live in
    let Over : Record → Type 0 = λ x. place_after (left_by x a) x.clock a c.args.load ≡ Some (place_found c.args.place)
    in
    let taken = taken_after (left_by r a) r.clock c.args.load a (place_found c.args.place)
    (subst Over (sym c.self.view_is) c.requires.place) in
    let over = taken.1 in
    let ahead = held_ahead r.clock c.args.load (claims_in r.log) (claim_of a) (place_found c.args.place)
    (IsSound-legal r c.self.invariant.legal).order (its_claim (accepted_in r.log) a live.there taken.0) live.live
    over in
    let Started : List Held → Type 0 = λ reservations. Any (λ (h : Held). (h.entry ≡ c.args.place.behind)
    × (h.waits ≡ None))
    reservations in
    subst Started (sym c.self.invariant.held) ahead.0

pub returns : goal.returns
returns c =
    let book = c.self.invariant in
    let r : Record = record_of c.self.inside in
    let a : Accepted = accepted_of c.args.old.now in
    let place : Place = place_found c.args.place in
    let reservations : List Held = reservations_at r.clock (claims_in r.log) in
    let end : ℕ = end_of_stopped a.message.start a.message.period r.clock in
    let live = subst (λ x. IsLiveIn x a) (sym c.self.view_is) c.requires.live in
    let Over : Record → Type 0 = λ x. place_after (left_by x a) x.clock a c.args.load ≡ Some place in
    let taken = taken_after (left_by r a) r.clock c.args.load a place
    (subst Over (sym c.self.view_is) c.requires.place) in
    let over = taken.1 in
    let ahead = held_ahead r.clock c.args.load (claims_in r.log) (claim_of a) place (IsSound-legal r book.legal).order
    (its_claim (accepted_in r.log) a live.there taken.0) live.live over in
    let asked = c.fits_behind.ensures
    ∙ ap (λ (leaving : Option ℕ). room_answer_for (remaining_without leaving c.self.inside.budget)
    (excess_over place.behind c.args.load c.self.inside.budget)) c.leaving_at.ensures
    ∙ ap (λ (l : List Held). room_answer_for (remaining_without (cond (end == r.clock) (Some a.message.entry) None) l)
    (excess_over place.behind c.args.load l)) book.held
    ∙ ap (λ (n : ℕ). room_answer_for (remaining_without (cond (end == r.clock) (Some a.message.entry) None)
    reservations) n)
    ahead.1 in
    let Room : Record → Type 0 = λ x. IsRoom (left_by x a) x.clock place.excess c.fits_behind.result in
    subst Room c.self.view_is (subst (IsRoom (left_by r a) r.clock place.excess) (sym asked)
    (room_after_stop r place.excess a book.legal live))
