use Rattle.std.proofs.Common.{◌≡◌, ◌∙◌, ◌+◌, ◌++◌, ap, arith, List, drop, map}
use Rattle.std.specs.List.{flat_map}
use Rattle.verification.specs.declared.difference.Difference.{Difference}
use Rattle.verification.specs.declared.judged.JudgedPage.{JudgedPage}
use Rattle.verification.specs.Asked.{AskedMessage}
use Rattle.verification.specs.Difference.{again_differences, broadcast_differences, message_differences}
use Rattle.verification.specs.Difference.{page_differences}
use Rattle.verification.specs.Judged.{judged_in}
use Rattle.verification.specs.Kept.{asked_kept}
use Rattle.verification.proofs.ListLaws.{flat_map-dropped, rest-more, three-joined}
use Rattle.verification.proofs.cell.push_messages.Goals as goal

pub loop-asked-preserved : goal.loop-asked-preserved
loop-asked-preserved c =
    let a : AskedMessage = asked_kept c.asked-item.result in
    let pages : List JudgedPage = judged_in a c.args.sent.now in
    let f : AskedMessage → List Difference = λ x. message_differences c.args.slots x (judged_in x c.args.sent.now) in
    let added : c.push_again_differences.new.found.items ≡ c.loop-asked.found.items ++ f a =
    three-joined c.loop-asked.found.items (page_differences a pages) (broadcast_differences c.args.slots a pages)
    (again_differences c.args.slots a pages) c.push_page_differences.new.found.items
    c.push_broadcast_differences.new.found.items c.push_again_differences.new.found.items
    (c.in_ok-push_page_differences.ensures
    ∙ ap (λ ps. c.loop-asked.found.items ++ page_differences a ps)
    (c.deref.ensures.value ∙ c.in_ok-pages.ensures))
    (c.in_ok-push_broadcast_differences.ensures
    ∙ ap (λ ps. c.push_page_differences.new.found.items ++ broadcast_differences c.args.slots a ps)
    (c.deref-in-loop-asked.ensures.value ∙ c.in_ok-pages.ensures))
    (c.in_ok-push_again_differences.ensures
    ∙ ap (λ ps. c.push_broadcast_differences.new.found.items ++ again_differences c.args.slots a ps)
    (c.deref-in-loop-asked-2.ensures.value ∙ c.in_ok-pages.ensures)) in
    rest-more c.loop-asked.found.items c.push_again_differences.new.found.items (f a)
    (flat_map f (map asked_kept (drop c.loop-asked.asked-index c.args.messages.now)))
    (flat_map f (map asked_kept (drop (c.loop-asked.asked-index + 1) c.args.messages.now)))
    (c.args.found.now.items ++ flat_map f (map asked_kept c.args.messages.now))
    c.loop-asked.invariant
    (flat_map-dropped asked_kept f c.args.messages.now c.loop-asked.asked-index c.asked-item.result (omega arith)
    c.asked-item.is)
    added
