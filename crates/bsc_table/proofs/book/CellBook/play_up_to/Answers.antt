use Rattle.std.proofs.Common.{◌≤◌, ap, subst, sym, ◌∙◌, arith}
use Rattle.std.specs.List.{All}
use Rattle.admission.specs.Table.{passed}
use Rattle.bsc_table.specs.Record.{Record, messages_in, claims_in}
use Rattle.bsc_table.specs.Claim.{Claim}
use Rattle.bsc_table.specs.Book.{air_pairs, record_of}
use Rattle.bsc_table.specs.Transitions.{IsPlayedUpTo}
use Rattle.bsc_table.proofs.History.Steps.{legal_played}
use Rattle.bsc_table.proofs.History.LegalIsSound.{IsSound-legal}
use Rattle.bsc_table.proofs.Cell.Aired.{IsPlayedUpTo-aired}
use Rattle.bsc_table.proofs.Cell.BudgetOfTable.{reservations_at-later}
use Rattle.bsc_table.proofs.book.CellBook.play_up_to.Goals as goal

pub invariant_of-self : goal.invariant_of-self
invariant_of-self c =
    let book = c.self.invariant in
    let r : Record = record_of c.self.inside in
    let after : Record = record r { clock = c.args.to; air = air_pairs c.air_slots.new.air.items } in
    let Ahead : Record → Type 0 = λ x. x.clock ≤ c.args.to in
    let ahead : r.clock ≤ c.args.to = subst Ahead (sym c.self.view_is) c.requires.ahead in
    let Within : Record → Type 0 = λ x. c.args.to ≤ x.slots in
    let within : c.args.to ≤ r.slots = subst Within (sym c.self.view_is) c.requires.within in
    let accepted : All (λ (k : Claim). k.accepted ≤ r.clock) (claims_in r.log) =
    (IsSound-legal r book.legal).order.accepted in
    record {
      legal = legal_played c.args.to r after ahead within book.legal (IsPlayedUpTo-aired c.args.to r
          c.self.inside.plan c.air_slots.new.plan (air_pairs c.air_slots.new.air.items) book.legal book.follows
          c.air_slots.ensures.aired);
      short = book.short;
      kept = book.kept;
      follows = c.air_slots.ensures.aired.follows (messages_in r.log) book.follows;
      held = c.pass_slot.ensures
          ∙ ap (passed c.args.to) book.held
          ∙ reservations_at-later r.clock c.args.to (claims_in r.log) ahead accepted;
      places = c.air_slots.ensures.places;
      room = omega (arith, book.room, c.air_slots.ensures.room);
    }

pub returns : goal.returns
returns c =
    let book = c.self.invariant in
    let r : Record = record_of c.self.inside in
    let after : Record = record r { clock = c.args.to; air = air_pairs c.air_slots.new.air.items } in
    let Played : Record → Type 0 = λ before. IsPlayedUpTo c.args.to before after in
    subst Played c.self.view_is (IsPlayedUpTo-aired c.args.to r c.self.inside.plan c.air_slots.new.plan
    (air_pairs c.air_slots.new.air.items) book.legal book.follows c.air_slots.ensures.aired)
