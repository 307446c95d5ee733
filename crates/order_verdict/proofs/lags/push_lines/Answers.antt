use Rattle.std.proofs.Common.{◌+◌, ◌++◌, arith, List, drop, map, string_bytes, ℕ}
use Rattle.std.specs.List.{flat_map}
use Rattle.verification.proofs.ListLaws.{flat_map-dropped, rest-more}
use Rattle.order_verdict.specs.Air.{AirOctets}
use Rattle.order_verdict.specs.Judged.{own_pages_in}
use Rattle.order_verdict.specs.Kept.{air_kept, ordered_kept}
use Rattle.order_verdict.specs.Lags.{lag_line}
use Rattle.order_verdict.specs.Ordered.{OrderedMessage}
use Rattle.order_verdict.proofs.lags.push_lines.Goals as goal

pub loop-ordered-preserved : goal.loop-ordered-preserved
loop-ordered-preserved c =
    let m : OrderedMessage = ordered_kept c.ordered-item.result in
    let air : List AirOctets = map air_kept c.args.air.now in
    let f : OrderedMessage → List ℕ = λ x. lag_line x (own_pages_in x air) in
    rest-more (string_bytes c.loop-ordered.text) (string_bytes c.push_line.new.text) (f m)
    (flat_map f (map ordered_kept (drop c.loop-ordered.ordered-index c.args.messages.now)))
    (flat_map f (map ordered_kept (drop (c.loop-ordered.ordered-index + 1) c.args.messages.now)))
    (string_bytes c.args.text.now ++ flat_map f (map ordered_kept c.args.messages.now))
    c.loop-ordered.invariant
    (flat_map-dropped ordered_kept f c.args.messages.now c.loop-ordered.ordered-index c.ordered-item.result
    (omega arith) c.ordered-item.is)
    c.in_ok-push_line.ensures
