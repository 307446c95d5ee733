use Rattle.std.proofs.Common.{◌∙◌, refl, sym}
use Rattle.std.proofs.lemmas.Bool.{ltb-true}
use Rattle.std.proofs.lemmas.Option.{slice_get_read}
use Rattle.alert_book.proofs.VersionLaws.{first_at}
use Rattle.alert_book.proofs.session.alert_versions.is_at.Goals as goal

pub returns-in-Some : goal.returns-in-Some
returns-in-Some c = λ same.
    first_at c.args.list.now c.args.cell c.args.place c.in-Some.one.now c.requires
    (slice_get_read c.args.list.now _ c.args.place c.in-Some.one.now refl
    (ltb-true _ _ (sym c.in-Some.ensures.lookup.0)) c.in-Some.ensures.lookup.1)
    (sym c.eq.ensures ∙ same)
