use Rattle.std.proofs.Common.{◌≡◌, ◌∙◌, ℕ, List, Option, cond, true, ap, subst}
use Rattle.std.proofs.Math.ListN.{set}
use Rattle.cbsp_wire.specs.Range.{is_cell}
use Rattle.alert_book.specs.declared.session.request.CellVersion.{CellVersion}
use Rattle.alert_book.specs.Session.{version_after_reply}
use Rattle.alert_book.specs.VersionSteps.{IsPlaceOf, has_cell, version_in_list}
use Rattle.alert_book.proofs.VersionLaws.{apart_set, kept_set, places_set, version_at, versioned}
use Rattle.alert_book.proofs.session.alert_versions.AlertVersions.set_said.Goals as goal

pub invariant_of-self : goal.invariant_of-self
invariant_of-self c =
    let at = subst (λ (list : List CellVersion). IsPlaceOf list c.args.cell c.in-Some.found) c.deref.ensures.value
    c.in-Some.ensures.found in
    apart_set c.self.inside.list.items c.args.cell c.in-Some.found c.version_by_reply-version.result
    c.self.invariant at

pub returns-in-Some-clause-kept : goal.returns-in-Some-clause-kept
returns-in-Some-clause-kept c = λ cell.
    let at = subst (λ (list : List CellVersion). IsPlaceOf list c.args.cell c.in-Some.found) c.deref.ensures.value
    c.in-Some.ensures.found in
    let list = c.self.inside.list.items in
    let version = c.version_by_reply-version.result in
    let said : Option ℕ → Option ℕ = version_after_reply c.args.request.now c.args.outcome.now c.args.cell in
    let is : version ≡ said (version_in_list list c.args.cell) =
    c.version_by_reply-version.ensures
    ∙ ap said (ap (λ (one : CellVersion). one.version) c.index.ensures
    ∙ version_at list c.args.cell c.in-Some.found c.index.result.now at) in
    subst (λ (old : List CellVersion).
    version_in_list (set list c.in-Some.found (versioned c.args.cell version)) cell
    ≡ cond (is_cell c.args.cell cell) (said (version_in_list old c.args.cell)) (version_in_list old cell))
    c.self.view_is
    (kept_set list c.args.cell cell c.in-Some.found version at
    ∙ ap (λ (v : Option ℕ). cond (is_cell c.args.cell cell) v (version_in_list list cell)) is)

pub returns-in-Some-clause-places : goal.returns-in-Some-clause-places
returns-in-Some-clause-places c = λ cell.
    let at = subst (λ (list : List CellVersion). IsPlaceOf list c.args.cell c.in-Some.found) c.deref.ensures.value
    c.in-Some.ensures.found in
    let placed : has_cell c.self.inside.list.items c.args.cell ≡ true =
    ap (λ (list : List CellVersion). has_cell list c.args.cell) c.self.view_is ∙ c.requires in
    places_set c.self.inside.list.items c.args.cell cell c.in-Some.found c.version_by_reply-version.result placed
    at
    ∙ ap (λ (list : List CellVersion). has_cell list cell) c.self.view_is
