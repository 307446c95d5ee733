use Rattle.std.proofs.Common.{◌≡◌, List, [], ◌∷◌, ◌++◌, map, subst, sym, ap, ◌∙◌}
use Rattle.scheduler.specs.Follows.{Follows}
use Rattle.bsc_table.specs.declared.entry.Entry.{Entry}
use Rattle.bsc_table.specs.Record.{Record, Accepted, accepted_in, claims_of}
use Rattle.bsc_table.specs.Legal.{IsLegal}
use Rattle.bsc_table.specs.Book.{record_of, reservations_at}
use Rattle.bsc_table.specs.BookSteps.{IsNextEntry}
use Rattle.bsc_table.proofs.History.Refusals.{refusals_change_nothing}
use Rattle.bsc_table.proofs.Cell.WithEntry.{IsLegal-with}
use Rattle.bsc_table.proofs.book.CellBook.enter_alone.Goals as goal

pub invariant_of-self-2 : goal.invariant_of-self-2
invariant_of-self-2 c =
    let book = c.self.invariant in
    let r : Record = record_of c.self.inside in
    let e : Entry = c.args.entry in
    let inside = sym c.self.view_is in
    let Next : Record → Type 0 = λ x. IsNextEntry x e in
    let next = subst Next inside c.requires.next in
    let same = refusals_change_nothing r.log e c.requires.noted in
    let grown = sym (c.push_reserved.ensures.items ∙ ap (λ (l : List Entry). l ++ e ∷ []) c.reserve.ensures.items) in
    let Legal : List Entry → Type 0 = λ log. IsLegal (record r { log = log }) in
    let Kept : List Accepted → Type 0 = λ all. c.self.inside.accepted.all ≡ all in
    let FollowsThem : List Accepted → Type 0 = λ all. Follows c.self.inside.plan
    (map (λ (a : Accepted). a.message) all) r.air in
    let Holds : List Accepted → Type 0 = λ all. c.self.inside.budget ≡ reservations_at r.clock (claims_of all) in
    let after = sym same ∙ ap accepted_in grown in
    record {
      legal = subst Legal grown (IsLegal-with r e book.legal next);
      short = book.short;
      kept = subst Kept after book.kept;
      follows = subst FollowsThem after book.follows;
      held = subst Holds after book.held;
      places = book.places;
      room = book.room;
    }
