use Rattle.std.proofs.Common.{◌≤◌, ◌∙◌, ◌+◌, ◌++◌, ap, arith, List, drop, map, subst, sym}
use Rattle.std.specs.List.{AllPairs, flat_map}
use Rattle.verification.specs.declared.judged.JudgedPage.{JudgedPage}
use Rattle.verification.proofs.ListLaws.{flat_map-dropped, rest-more}
use Rattle.order_verdict.specs.declared.difference.OrderDifference.{OrderDifference}
use Rattle.order_verdict.specs.Air.{AirOctets}
use Rattle.order_verdict.specs.Judged.{own_pages_in}
use Rattle.order_verdict.specs.Kept.{air_kept, ordered_kept}
use Rattle.order_verdict.specs.Ordered.{OrderedMessage}
use Rattle.order_verdict.specs.Verdict.{ordered_differences}
use Rattle.order_verdict.proofs.Rising.{own-rising}
use Rattle.order_verdict.proofs.verdict.push_messages.Goals as goal

pub push_message-requires : goal.push_message-requires
push_message-requires c =
    subst (AllPairs (λ (a b : JudgedPage). a.slot ≤ b.slot))
    (sym (c.deref.ensures.value ∙ c.in_ok-pages.ensures))
    (own-rising (ordered_kept c.ordered-item.result) (map air_kept c.args.air.now) c.requires)

pub loop-ordered-preserved : goal.loop-ordered-preserved
loop-ordered-preserved c =
    let m : OrderedMessage = ordered_kept c.ordered-item.result in
    let air : List AirOctets = map air_kept c.args.air.now in
    let f : OrderedMessage → List OrderDifference =
    λ x. ordered_differences c.args.slots c.args.delay x (own_pages_in x air) in
    rest-more c.loop-ordered.found.items c.push_message.new.found.items (f m)
    (flat_map f (map ordered_kept (drop c.loop-ordered.ordered-index c.args.messages.now)))
    (flat_map f (map ordered_kept (drop (c.loop-ordered.ordered-index + 1) c.args.messages.now)))
    (c.args.found.now.items ++ flat_map f (map ordered_kept c.args.messages.now))
    c.loop-ordered.invariant
    (flat_map-dropped ordered_kept f c.args.messages.now c.loop-ordered.ordered-index c.ordered-item.result
    (omega arith) c.ordered-item.is)
    (c.in_ok-push_message.ensures
    ∙ ap (λ (ps : List JudgedPage). c.loop-ordered.found.items
    ++ ordered_differences c.args.slots c.args.delay m ps) (c.deref.ensures.value ∙ c.in_ok-pages.ensures))
