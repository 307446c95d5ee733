use Rattle.std.proofs.Common.{◌≡◌, ◌+◌, ◌-◌, ◌∙◌, true, false, sym, ap, arith, length}
use Rattle.std.specs.Prelude.{◌==◌, ◌&&◌}
use Rattle.std.specs.List.{list_any}
use Rattle.verification.specs.declared.judged.JudgedPage.{JudgedPage}
use Rattle.verification.specs.Difference.{has_page}
use Rattle.verification.specs.Kept.{asked_kept}
use Rattle.verification.proofs.ListLaws.{any-next, any-here}
use Rattle.verification.proofs.TimeLaws.{has_page-in_time}
use Rattle.verification.proofs.asked.Asked.has_some.Goals as goal

pub returns-then-has_right_page : goal.returns-then-has_right_page
returns-then-has_right_page c =
    let here : has_page (asked_kept c.args.self.now) c.args.pages.now c.args.broadcast (c.loop-place.place + 1) ≡ true =
    has_page-in_time (asked_kept c.args.self.now) c.args.pages.now c.args.broadcast (c.loop-place.place + 1)
    ∙ ap (list_any (λ (page : JudgedPage). (page.number == c.loop-place.place + 1) && page.right))
    (sym c.in_time-in_time.ensures)
    ∙ sym c.has_right_page.ensures ∙ c.if-has_right_page.true in
    sym (sym c.loop-place.invariant ∙ any-here (has_page (asked_kept c.args.self.now) c.args.pages.now c.args.broadcast)
    (c.loop-place.place + 1) (length c.args.self.now.contents.now - c.loop-place.place)
    (length c.args.self.now.contents.now - (c.loop-place.place + 1)) (omega arith) here)

pub loop-place-preserved : goal.loop-place-preserved
loop-place-preserved c =
    let here : has_page (asked_kept c.args.self.now) c.args.pages.now c.args.broadcast (c.loop-place.place + 1)
    ≡ false =
    has_page-in_time (asked_kept c.args.self.now) c.args.pages.now c.args.broadcast (c.loop-place.place + 1)
    ∙ ap (list_any (λ (page : JudgedPage). (page.number == c.loop-place.place + 1) && page.right))
    (sym c.in_time-in_time.ensures)
    ∙ sym c.has_right_page.ensures ∙ c.if-has_right_page.false in
    sym (any-next (has_page (asked_kept c.args.self.now) c.args.pages.now c.args.broadcast) (c.loop-place.place + 1)
    (length c.args.self.now.contents.now - c.loop-place.place)
    (length c.args.self.now.contents.now - (c.loop-place.place + 1)) (omega arith) here) ∙ c.loop-place.invariant
