use Rattle.std.proofs.Common.{◌≡◌, ◌≤◌, ◌∙◌, ◌++◌, [], List, ap, map, rules, subst, sym}
use Rattle.std.specs.List.{AllPairs, flat_map}
use Rattle.std.specs.List.Sorted.{IsPermutation}
use Rattle.std.proofs.lemmas.List.Sorted.{answers_always}
use Rattle.order_verdict.specs.declared.difference.OrderDifference.{OrderDifference}
use Rattle.order_verdict.specs.Air.{AirOctets, four_by_four, pages_on_air}
use Rattle.order_verdict.specs.Judged.{own_pages_in}
use Rattle.order_verdict.specs.Kept.{air_kept, ordered_kept}
use Rattle.order_verdict.specs.Ordered.{OrderedMessage, ordered_in}
use Rattle.order_verdict.specs.Verdict.{all_order_differences, order_key, ordered_differences, unanswered}
use Rattle.order_verdict.specs.Verdict.{unordered_after}
use Rattle.order_verdict.proofs.Rising.{pages-rising}
use Rattle.order_verdict.proofs.verdict.verdict_of.Goals as goal

pub push_messages-requires : goal.push_messages-requires
push_messages-requires c =
    subst (AllPairs (λ (a b : AirOctets). a.slot ≤ b.slot))
    (sym (ap (map air_kept) c.deref-2.ensures.value ∙ c.in_ok-air.ensures.pages))
    (pages-rising 0 (four_by_four c.args.blocks.now))

pub returns : goal.returns
returns c =
    let messages : List OrderedMessage = ordered_in c.args.delay c.args.rows.now in
    let air : List AirOctets = pages_on_air c.args.blocks.now in
    let of_messages : List OrderedMessage → List AirOctets → List OrderDifference =
    λ ms pages. flat_map (λ m. ordered_differences c.args.slots c.args.delay m (own_pages_in m pages)) ms in
    let first : c.push_messages.new.found.items ≡ of_messages messages air =
    c.in_ok-push_messages.ensures
    ∙ ap (λ (ds : List OrderDifference). ds ++ of_messages (map ordered_kept c.deref.result.now)
    (map air_kept c.deref-2.result.now)) c.new-found.ensures.items
    ∙ ap (λ ms. of_messages (map ordered_kept ms) (map air_kept c.deref-2.result.now)) c.deref.ensures.value
    ∙ ap (λ ms. of_messages ms (map air_kept c.deref-2.result.now)) c.in_ok-messages.ensures
    ∙ ap (λ pages. of_messages messages (map air_kept pages)) c.deref-2.ensures.value
    ∙ ap (of_messages messages) c.in_ok-air.ensures.pages in
    let second : c.push_all_unanswered.new.found.items
    ≡ of_messages messages air ++ flat_map unanswered c.args.rows.now =
    c.in_ok-push_all_unanswered.ensures
    ∙ ap (λ (ds : List OrderDifference). ds ++ flat_map unanswered c.args.rows.now) first in
    let third : c.push_all_unordered.new.found.items
    ≡ all_order_differences c.args.slots c.args.delay c.args.rows.now air =
    c.in_ok-push_all_unordered.ensures
    ∙ ap (λ (ds : List OrderDifference). ds ++ unordered_after (map ordered_kept c.deref-3.result.now) []
    (map air_kept c.deref-4.result.now)) second
    ∙ ap (λ ms. (of_messages messages air ++ flat_map unanswered c.args.rows.now)
    ++ unordered_after (map ordered_kept ms) [] (map air_kept c.deref-4.result.now)) c.deref-3.ensures.value
    ∙ ap (λ ms. (of_messages messages air ++ flat_map unanswered c.args.rows.now)
    ++ unordered_after ms [] (map air_kept c.deref-4.result.now)) c.in_ok-messages.ensures
    ∙ ap (λ pages. (of_messages messages air ++ flat_map unanswered c.args.rows.now)
    ++ unordered_after messages [] (map air_kept pages)) c.deref-4.ensures.value
    ∙ ap (λ pages. (of_messages messages air ++ flat_map unanswered c.args.rows.now)
    ++ unordered_after messages [] pages) c.in_ok-air.ensures.pages in
    record {
      all = subst (λ (ds : List OrderDifference). IsPermutation ds c.sort_by_key.new.self.items) third
          c.in_ok-sort_by_key.ensures.permutation;
      sorted = c.in_ok-sort_by_key.ensures.sorted order_key (answers_always _ _ _ (λ f a r g h. search rules));
    }
