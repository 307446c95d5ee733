use Rattle.std.proofs.Common.{◌∙◌, refl, sym, ap}
use Rattle.std.proofs.lemmas.Bool.{ltb-true}
use Rattle.std.proofs.lemmas.Option.{slice_get_read}
use Rattle.cbsp_wire.specs.Range.{is_cell}
use Rattle.session_check.proofs.Found.{record_at}
use Rattle.session_check.proofs.answers.record_at.Goals as goal

pub returns-in-Some : goal.returns-in-Some
returns-in-Some c =
    record_at c.args.records.now c.args.place c.args.cell c.in-Some.record.now (c.requires c.if-is_distinct.true)
    (slice_get_read c.args.records.now _ c.args.place c.in-Some.record.now refl
    (ltb-true _ _ (sym c.in-Some.ensures.lookup.0)) c.in-Some.ensures.lookup.1)
    (ap (is_cell c.args.cell) (sym c.cell.ensures) ∙ (sym c.eq.ensures ∙ c.if-eq.true))
