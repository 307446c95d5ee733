use Rattle.std.proofs.Common.{◌≡◌, ◌+◌, ◌-◌, ◌∙◌, true, sym, ap, arith, length}
use Rattle.std.specs.Prelude.{◌==◌, ◌&&◌}
use Rattle.std.specs.List.{list_any}
use Rattle.verification.specs.declared.judged.JudgedPage.{JudgedPage}
use Rattle.verification.specs.Difference.{has_page}
use Rattle.verification.specs.Kept.{asked_kept}
use Rattle.verification.proofs.ListLaws.{all-next, any-missing}
use Rattle.verification.proofs.TimeLaws.{has_page-in_time}
use Rattle.verification.proofs.asked.Asked.is_whole.Goals as goal

pub returns-then-not-has_right_page : goal.returns-then-not-has_right_page
returns-then-not-has_right_page c =
    sym (sym c.loop-place.invariant ∙ any-missing (has_page (asked_kept c.args.self.now) c.args.pages.now
    c.args.broadcast)
    (c.loop-place.place + 1) (length c.args.self.now.contents.now - c.loop-place.place)
    (length c.args.self.now.contents.now - (c.loop-place.place + 1)) (omega arith)
    (has_page-in_time (asked_kept c.args.self.now) c.args.pages.now c.args.broadcast (c.loop-place.place + 1)
    ∙ ap (list_any (λ (page : JudgedPage). (page.number == c.loop-place.place + 1) && page.right))
    (sym c.in_time-in_time.ensures)
    ∙ sym c.has_right_page.ensures ∙ c.if-not-has_right_page.true))

pub loop-place-preserved : goal.loop-place-preserved
loop-place-preserved c =
    let here : has_page (asked_kept c.args.self.now) c.args.pages.now c.args.broadcast (c.loop-place.place + 1) ≡ true =
    has_page-in_time (asked_kept c.args.self.now) c.args.pages.now c.args.broadcast (c.loop-place.place + 1)
    ∙ ap (list_any (λ (page : JudgedPage). (page.number == c.loop-place.place + 1) && page.right))
    (sym c.in_time-in_time.ensures)
    ∙ sym c.has_right_page.ensures ∙ c.if-not-has_right_page.false in
    sym (all-next (has_page (asked_kept c.args.self.now) c.args.pages.now c.args.broadcast) (c.loop-place.place + 1)
    (length c.args.self.now.contents.now - c.loop-place.place)
    (length c.args.self.now.contents.now - (c.loop-place.place + 1)) (omega arith) here) ∙ c.loop-place.invariant
