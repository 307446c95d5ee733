use Rattle.std.proofs.Common.{◌≡◌, ◌∙◌, ◌++◌, [], List, ap, subst, map, rules, ℕ}
use Rattle.std.specs.List.{flat_map}
use Rattle.std.specs.List.Sorted.{IsPermutation}
use Rattle.std.proofs.lemmas.List.Sorted.{answers_always, IsPermutation-append_comm, IsPermutation-trans}
use Rattle.verification.specs.declared.difference.Difference.{Difference}
use Rattle.verification.specs.declared.sent.SentPage.{SentPage}
use Rattle.verification.specs.Asked.{AskedMessage}
use Rattle.verification.specs.Difference.{sort_key, message_differences, not_ordered_after}
use Rattle.verification.specs.Judged.{judged_in}
use Rattle.verification.specs.Kept.{asked_kept}
use Rattle.verification.proofs.ByNameLaws.{flat_map-same}
use Rattle.verification.proofs.cell.differences_of.Goals as goal

-- what was found is that of all messages, after the pages that weren't ordered
pub returns-clause-all : goal.returns-clause-all
returns-clause-all c =
    let slots : ℕ = c.args.slots in
    let asked : List AskedMessage = map asked_kept c.args.messages.now in
    let sent : List SentPage = c.args.sent.now.items in
    let by_name : List SentPage = c.sort_by_name.new.sent.items in
    let others : List Difference = not_ordered_after asked [] sent in
    let of_messages : List AskedMessage → List SentPage → List Difference =
    λ xs ss. flat_map (λ a. message_differences slots a (judged_in a ss)) xs in
    let first : c.push_not_ordered.new.found.items ≡ others =
    c.in_ok-push_not_ordered.ensures
    ∙ ap (λ ds. ds ++ not_ordered_after asked [] c.deref.result.now) c.new-found.ensures.items
    ∙ ap (not_ordered_after asked []) c.deref.ensures.value in
    let all : c.push_messages.new.found.items ≡ others ++ of_messages asked sent =
    c.in_ok-push_messages.ensures
    ∙ ap (λ ds. ds ++ of_messages asked c.deref-2.result.now) first
    ∙ ap (λ ss. others ++ of_messages asked ss) c.deref-2.ensures.value
    ∙ ap (λ ds. others ++ ds)
    (flat_map-same (λ a. message_differences slots a (judged_in a by_name))
    (λ a. message_differences slots a (judged_in a sent))
    (λ a. ap (message_differences slots a) (c.in_ok-sort_by_name.ensures.same a)) asked) in
    IsPermutation-trans (of_messages asked sent ++ others) (others ++ of_messages asked sent)
    c.sort_by_key.new.self.items (IsPermutation-append_comm (of_messages asked sent) others)
    (subst (λ ds. IsPermutation ds c.sort_by_key.new.self.items) all c.in_ok-sort_by_key.ensures.permutation)

pub returns-clause-sorted : goal.returns-clause-sorted
returns-clause-sorted c =
    c.in_ok-sort_by_key.ensures.sorted sort_key (answers_always _ _ _ (λ f a r g h. search rules))
