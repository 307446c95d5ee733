use Rattle.std.proofs.Common.{◌+◌, ◌∙◌, ap, length}
use Rattle.std.proofs.lemmas.Result.{on_ok_weaker}
use Rattle.handset.specs.KeepingSteps.{under_way_with}
use Rattle.gsmtap.specs.CarriedSteps.{gathered_by}
use Rattle.gsmtap.specs.Listening.{identifiers_of}
use Rattle.gsmtap.proofs.Listeners.{counted_few, counted_more}
use Rattle.gsmtap.proofs.listener.PageCount.push.Goals as goal

pub count-requires : goal.count-requires
count-requires c = counted_few c.args.self.now c.requires.0 c.requires.1 c.requires.2

pub returns : goal.returns
returns c =
    let old = c.args.self.now in
    on_ok_weaker c.go_on.result
    (λ goes_on blocks are.
    counted_more old _ blocks c.args.block.now are
    (goes_on ∙ ap (λ it. under_way_with it.items c.args.block.now) c.in_ok-count.ensures.kept)
    (c.in_ok-count.ensures.pages ∙ ap (λ it. old.pages + length it) c.ended_by-page.ensures)
    (c.in_ok-count.ensures.identifiers
    ∙ ap (λ it. gathered_by old.identifiers.items (identifiers_of it)) c.ended_by-page.ensures))
    c.go_on.ensures
