use Rattle.std.proofs.Common.{◌≡◌, ◌∙◌, ◌+◌, ℕ, Err, IfErr, IfOk, List, Ok, Result, ap, length, false, subst, sym, ◌≢◌}
use Rattle.csv.specs.Records.{fields_of}
use Rattle.cbsp_wire.specs.declared.message.Cell.{Cell}
use Rattle.alert_book.specs.declared.book.order.Order.{Order}
use Rattle.alert_book.specs.declared.book.row.Row.{Row}
use Rattle.alert_book.specs.declared.fault.RowFault.{RowFault}
use Rattle.alert_book.specs.declared.fault.RowFault.TheVariants as fault
use Rattle.alert_book.specs.declared.judging.bounds.Bounds.{Bounds}
use Rattle.alert_book.specs.Fields.{column}
use Rattle.alert_book.specs.Judging.{field_judged, is_past, most_cells, next_meant, Counted}
use Rattle.alert_book.specs.JudgingSteps.{HasRoom, IsWithin}
use Rattle.alert_book.specs.Row.{cell_row_within, row_after_verb_by, verb_of}
use Rattle.alert_book.proofs.JudgedLaws.{judged_room, next_is}
use Rattle.alert_book.proofs.judging.Judge.next_meant.Goals as goal

-- a row by its verb
abbrev by_verb : Bounds → List Cell → ℕ → List Order → List (List ℕ) → Result Row RowFault
by_verb bound cells count orders fields =
    row_after_verb_by (verb_of (column fields 0)) (cell_row_within (most_cells bound) cells fields) (count + 1)
    (field_judged bound cells) orders fields

have_room : (before : Counted) (fields : List (List ℕ)) (r : Result Row RowFault)
    → IsWithin before.bounds before.rows (length before.known.orders) → is_past before fields ≡ false
    → IfOk r (λ meant. next_meant before fields ≡ Ok meant) → IfOk r (HasRoom before)
have_room before fields (Ok meant) within past is = judged_room before fields meant within past is
have_room before fields (Err kind) within past is = tt

pub returns-clause-ok : goal.returns-clause-ok
returns-clause-ok c =
    let fields = fields_of c.args.fields in
    let is = next_is c.args.self.now fields c.requires c.in_ok-texts.ensures.ok
    ∙ ap (λ (b : Counted). by_verb b.bounds b.known.cells b.rows b.known.orders fields) (sym c.self.view_is)
    ∙ ap (λ (os : List Order). by_verb c.self.inside.declared.bounds c.self.inside.declared.cells c.self.inside.rows os
    fields) (sym c.deref.ensures.value)
    ∙ ap (λ (fs : List (List ℕ)). by_verb c.self.inside.declared.bounds c.self.inside.declared.cells
    c.self.inside.rows c.deref.result.now fs) (sym c.in_ok-texts.ensures.same) in
    subst (λ (r : Result Row RowFault). IfOk c.row_after_verb.result (λ meant. r ≡ Ok meant)) (sym is)
    c.row_after_verb.ensures.ok

pub returns-clause-room : goal.returns-clause-room
returns-clause-room c =
    have_room c.args.self.now (fields_of c.args.fields) c.row_after_verb.result
    (subst (λ (b : Counted). IsWithin b.bounds b.rows (length b.known.orders)) c.self.view_is c.self.invariant.2)
    c.requires (returns-clause-ok c)

pub returns-clause-err : goal.returns-clause-err
returns-clause-err c =
    let fields = fields_of c.args.fields in
    let is = next_is c.args.self.now fields c.requires c.in_ok-texts.ensures.ok
    ∙ ap (λ (b : Counted). by_verb b.bounds b.known.cells b.rows b.known.orders fields) (sym c.self.view_is)
    ∙ ap (λ (os : List Order). by_verb c.self.inside.declared.bounds c.self.inside.declared.cells c.self.inside.rows os
    fields) (sym c.deref.ensures.value)
    ∙ ap (λ (fs : List (List ℕ)). by_verb c.self.inside.declared.bounds c.self.inside.declared.cells
    c.self.inside.rows c.deref.result.now fs) (sym c.in_ok-texts.ensures.same) in
    subst (λ (r : Result Row RowFault). IfErr c.row_after_verb.result (λ f. f ≢ fault.Refused → r ≡ Err f)) (sym is)
    c.row_after_verb.ensures.err
