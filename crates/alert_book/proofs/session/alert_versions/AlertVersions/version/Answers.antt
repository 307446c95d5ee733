use Rattle.std.proofs.Common.{◌∙◌, List, ap, subst}
use Rattle.alert_book.specs.declared.session.request.CellVersion.{CellVersion}
use Rattle.alert_book.specs.VersionSteps.{IsPlaceOf, version_in_list}
use Rattle.alert_book.proofs.VersionLaws.{version_at}
use Rattle.alert_book.proofs.session.alert_versions.AlertVersions.version.Goals as goal

pub returns-in-Some : goal.returns-in-Some
returns-in-Some c =
    let at = subst (λ (list : List CellVersion). IsPlaceOf list c.args.cell c.in-Some.found) c.deref.ensures.value
    c.in-Some.ensures.found in
    ap (λ (one : CellVersion). one.version) c.index.ensures
    ∙ version_at c.self.inside.list.items c.args.cell c.in-Some.found c.index.result.now at
    ∙ ap (λ (list : List CellVersion). version_in_list list c.args.cell) c.self.view_is
