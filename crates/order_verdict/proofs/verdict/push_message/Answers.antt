use Rattle.std.proofs.Common.{◌≡◌, ◌∙◌, ◌++◌, List, ap, map}
use Rattle.std.proofs.lemmas.Result.{on_ok_weaker}
use Rattle.verification.specs.declared.difference.Difference.{Difference}
use Rattle.verification.proofs.ListLaws.{three-joined}
use Rattle.order_verdict.specs.Kept.{ordered_kept}
use Rattle.order_verdict.specs.Ordered.{OrderedMessage}
use Rattle.order_verdict.specs.Verdict.{air_differences, more_differences, of_air, told_differences}
use Rattle.order_verdict.proofs.verdict.push_message.Goals as goal

pub returns : goal.returns
returns c =
    let m : OrderedMessage = ordered_kept c.args.ordered.now in
    let of_pages : List Difference = air_differences c.args.slots m c.args.pages.now in
    let first : c.push_all_of_air.new.found.items ≡ c.args.found.now.items ++ map of_air of_pages =
    c.in_ok-push_all_of_air.ensures
    ∙ ap (λ (ds : List Difference). c.args.found.now.items ++ map of_air ds)
    (c.deref.ensures.value ∙ c.in_ok-push_air_differences.ensures
    ∙ ap (λ (ds : List Difference). ds ++ of_pages) c.new-differences.ensures.items) in
    on_ok_weaker c.push_told.result
    (λ last. three-joined c.args.found.now.items (map of_air of_pages) (more_differences m.late c.args.pages.now)
    (told_differences c.args.slots c.args.delay m c.args.pages.now) c.push_all_of_air.new.found.items
    c.push_more.new.found.items c.push_told.new.found.items first c.in_ok-push_more.ensures last) c.push_told.ensures
