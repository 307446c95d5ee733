use Rattle.std.proofs.Common.{rules, ◌≡◌, true, take, All, subst, ◌∙◌}
use Rattle.std.proofs.lemmas.List.{take_all}
use Rattle.std.proofs.lemmas.List.Elements.{All-more}
use Rattle.cbsp_wire.specs.declared.message.Cell.{Cell}
use Rattle.alert_book.specs.VersionSteps.{has_place}
use Rattle.alert_book.proofs.VersionLaws.{keeps_more}
use Rattle.alert_book.proofs.session.make_places.Goals as goal

pub loop-place-preserved : goal.loop-place-preserved
loop-place-preserved c =
    let number = c.args.request.now.number in
    let cells = c.cells_asked-cell-items.result.now in (
      keeps_more _ _ _ c.loop-place.invariant.0 c.make_place.ensures.keeps,
      All-more (λ cell. has_place c.make_place.new.self number cell ≡ true) cells c.loop-place.place
          (record { lac = 0; ci = 0 }) c.loop-place-test.true
          (λ k d within. c.make_place.ensures.keeps.places number _ (c.loop-place.invariant.1 k d within))
          (search (rules, c.in_ok-make_place.ensures.made)),
    )

pub returns-clause-made : goal.returns-clause-made
returns-clause-made c =
    let cells = c.cells_asked-cell-items.result.now in
    let all : take c.loop-place.place cells ≡ cells = take_all c.loop-place.place cells c.loop-place-test.false
    in
    subst (All (λ (cell : Cell). has_place c.loop-place.versions c.args.request.now.number cell ≡ true))
    (all ∙ c.cells_asked-cell-items.ensures) c.loop-place.invariant.1
