use Rattle.std.proofs.Common.{◌≡◌, ◌∙◌, List, false, true, ap, subst, sym}
use Rattle.alert_book.specs.declared.session.request.CellVersion.{CellVersion}
use Rattle.alert_book.specs.VersionSteps.{AreApart, has_cell, version_in_list}
use Rattle.alert_book.proofs.VersionLaws.{apart_pushed, has_found, has_none, kept_pushed, made_pushed, places_pushed}
use Rattle.alert_book.proofs.session.alert_versions.AlertVersions.make_place.Goals as goal

pub returns-then-is_some-clause-made : goal.returns-then-is_some-clause-made
returns-then-is_some-clause-made c =
    subst (λ (list : List CellVersion). has_cell list c.args.cell ≡ true) (c.deref.ensures.value ∙ c.self.view_is)
    (has_found c.deref.result.now c.args.cell c.place_of.result (sym c.is_some.ensures ∙ c.if-is_some.true)
    c.place_of.ensures.found)

pub invariant_of-self-2 : goal.invariant_of-self-2
invariant_of-self-2 c =
    let none = subst (λ (list : List CellVersion). has_cell list c.args.cell ≡ false) c.deref.ensures.value
    (has_none c.deref.result.now c.args.cell c.place_of.result (sym c.is_some.ensures ∙ c.if-is_some.false)
    c.place_of.ensures.none) in
    subst AreApart (sym c.in_ok-push.ensures.items)
    (apart_pushed c.self.inside.list.items c.args.cell c.self.invariant none)

pub returns-clause-kept : goal.returns-clause-kept
returns-clause-kept c = λ cell.
    ap (λ (list : List CellVersion). version_in_list list cell) c.in_ok-push.ensures.items
    ∙ kept_pushed c.self.inside.list.items c.args.cell cell
    ∙ ap (λ (list : List CellVersion). version_in_list list cell) c.self.view_is

pub returns-clause-places : goal.returns-clause-places
returns-clause-places c = λ cell placed.
    ap (λ (list : List CellVersion). has_cell list cell) c.in_ok-push.ensures.items
    ∙ places_pushed c.self.inside.list.items c.args.cell cell
    (ap (λ (list : List CellVersion). has_cell list cell) c.self.view_is ∙ placed)

pub returns-clause-made : goal.returns-clause-made
returns-clause-made c =
    ap (λ (list : List CellVersion). has_cell list c.args.cell) c.in_ok-push.ensures.items
    ∙ made_pushed c.self.inside.list.items c.args.cell
