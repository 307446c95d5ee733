use Rattle.std.proofs.Common.{◌∙◌, ◌≤◌, List, ap, map, sym, subst}
use Rattle.std.specs.Prelude.{not}
use Rattle.std.specs.List.{AllPairs, list_any}
use Rattle.std.specs.List.Sorted.{IsPermutation}
use Rattle.std.proofs.lemmas.List.Sorted.{list_any-IsPermutation}
use Rattle.verification.specs.declared.difference.Difference.{Difference}
use Rattle.verification.specs.declared.sent.SentPage.{SentPage}
use Rattle.verification.specs.Asked.{AskedMessage}
use Rattle.verification.specs.Difference.{all_differences}
use Rattle.verification.specs.Kept.{asked_kept}
use Rattle.verification.specs.Shift.{is_left, unshifted}
use Rattle.verification.proofs.ShiftLaws.{unshifted-rising}
use Rattle.verification.proofs.shift.are_shifted.Goals as goal

pub differences_of-requires : goal.differences_of-requires
differences_of-requires c =
    subst (AllPairs (λ (a b : SentPage). a.slot ≤ b.slot)) (sym c.in_ok-pages.ensures)
    (unshifted-rising c.args.shift c.args.sent.now c.requires.rising)

-- what is left in any order is left in the order of the list
pub returns : goal.returns
returns c =
    let asked : List AskedMessage = map asked_kept c.args.messages.now in
    let whole : List Difference = all_differences c.args.slots asked (unshifted c.args.shift c.args.sent.now) in
    let same : IsPermutation whole c.in_ok-found.found.items =
    subst (λ (pages : List SentPage). IsPermutation (all_differences c.args.slots asked pages)
    c.in_ok-found.found.items) c.in_ok-pages.ensures c.in_ok-found.ensures.all in
    ap not
    (c.any_is_left.ensures
    ∙ ap (λ (messages : List AskedMessage). list_any (is_left c.args.slots messages c.args.shift) c.deref.result.now)
    c.requires.same
    ∙ ap (list_any (is_left c.args.slots asked c.args.shift)) c.deref.ensures.value
    ∙ sym (list_any-IsPermutation (is_left c.args.slots asked c.args.shift) whole c.in_ok-found.found.items same))
