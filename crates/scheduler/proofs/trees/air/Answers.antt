use Rattle.std.proofs.Common.{◌≡◌, ℕ, ◌+◌, ◌≤◌, Option, arith, ap, get_or, map, sym, subst, ◌∙◌, refl, true}
use Rattle.std.specs.List.{All}
use Rattle.scheduler.specs.PlanSteps.{IsChoice, after_slot}
use Rattle.scheduler.specs.declared.progress.Progress.{Progress}
use Rattle.scheduler.specs.QueueSteps.{seen, seen_in, ready_turn, aired, own}
use Rattle.scheduler.proofs.Tree.{own_aired, own_at-is}
use Rattle.scheduler.proofs.FirstTurn.{blank, first_entry_none, first_has_more, found_turn, choice_found}
use Rattle.scheduler.proofs.FirstTurn.{choice_of_none}
use Rattle.scheduler.proofs.Found.{turns_aired}
use Rattle.scheduler.proofs.Passed.{seen_after_none, seen_after_used, right_after_used}
use Rattle.scheduler.proofs.Places.{right_at}
use Rattle.scheduler.proofs.trees.air.Goals as goal

pub returns-in_err-entry-clause-chosen : goal.returns-in_err-entry-clause-chosen
returns-in_err-entry-clause-chosen c =
    let slot = c.args.slot in
    let nodes = c.args.nodes.now in
    let none = first_entry_none c.args.turn _ refl (sym c.entry_of.ensures ∙ c.in_err-entry.was) in
    let Chosen : Option (ℕ × ℕ) → Type 0 = λ u. IsChoice (seen_in slot nodes) slot u in
    let Least : ℕ → Type 0 = λ t. All (λ x. t ≤ ready_turn slot x) (seen_in slot nodes) in
    subst Chosen (sym c.from_residual.ensures) (choice_of_none slot nodes (omega (arith, c.requires.within))
    c.requires.kept.right c.requires.kept.turns (subst Least none c.requires.least.least))

pub returns-in_err-entry-clause-seen : goal.returns-in_err-entry-clause-seen
returns-in_err-entry-clause-seen c =
    let After : Option (ℕ × ℕ) → Type 0 = λ u. seen_in (c.args.slot + 1) c.args.nodes.now ≡ map
    (after_slot c.args.slot u) (seen_in c.args.slot c.args.nodes.now) in
    subst After (sym c.from_residual.ensures) (seen_after_none c.args.slot c.args.nodes.now c.requires.kept.right)

pub bounds-nodes-place : goal.bounds-nodes-place
bounds-nodes-place c =
    let first = found_turn c.args.slot c.args.nodes.now c.args.turn c.in_ok-entry.entry c.place_of-place.result
    (omega (arith, c.ranges.turn.fits)) c.requires.kept.right c.requires.kept.turns c.requires.rising
    c.requires.least.found (sym c.entry_of.ensures ∙ c.in_ok-entry.was) c.place_of-place.ensures in
    first.turn.within

pub aired-requires-clause-some_left : goal.aired-requires-clause-some_left
aired-requires-clause-some_left c =
    let first = found_turn c.args.slot c.args.nodes.now c.args.turn c.in_ok-entry.entry c.place_of-place.result
    (omega (arith, c.ranges.turn.fits)) c.requires.kept.right c.requires.kept.turns c.requires.rising
    c.requires.least.found (sym c.entry_of.ensures ∙ c.in_ok-entry.was) c.place_of-place.ensures in
    first_has_more c.args.slot c.args.nodes.now _ c.place_of-place.result blank first.turn

pub aired-requires-clause-few : goal.aired-requires-clause-few
aired-requires-clause-few c =
    let first = found_turn c.args.slot c.args.nodes.now c.args.turn c.in_ok-entry.entry c.place_of-place.result
    (omega (arith, c.ranges.turn.fits)) c.requires.kept.right c.requires.kept.turns c.requires.rising
    c.requires.least.found (sym c.entry_of.ensures ∙ c.in_ok-entry.was) c.place_of-place.ensures in
    let right = right_at c.args.slot c.args.nodes.now c.place_of-place.result blank first.turn.within
    c.requires.kept.right in
    omega (arith, right.fit.few, c.requires.within)

pub keep_aired-requires-clause-within : goal.keep_aired-requires-clause-within
keep_aired-requires-clause-within c =
    let first = found_turn c.args.slot c.args.nodes.now c.args.turn c.in_ok-entry.entry c.place_of-place.result
    (omega (arith, c.ranges.turn.fits)) c.requires.kept.right c.requires.kept.turns c.requires.rising
    c.requires.least.found (sym c.entry_of.ensures ∙ c.in_ok-entry.was) c.place_of-place.ensures in
    first.turn.within

pub next_page-requires : goal.next_page-requires
next_page-requires c =
    let first = found_turn c.args.slot c.args.nodes.now c.args.turn c.in_ok-entry.entry c.place_of-place.result
    (omega (arith, c.ranges.turn.fits)) c.requires.kept.right c.requires.kept.turns c.requires.rising
    c.requires.least.found (sym c.entry_of.ensures ∙ c.in_ok-entry.was) c.place_of-place.ensures in
    first_has_more c.args.slot c.args.nodes.now _ c.place_of-place.result blank first.turn

pub returns-clause-chosen : goal.returns-clause-chosen
returns-clause-chosen c =
    let first = found_turn c.args.slot c.args.nodes.now c.args.turn c.in_ok-entry.entry c.place_of-place.result
    (omega (arith, c.ranges.turn.fits)) c.requires.kept.right c.requires.kept.turns c.requires.rising
    c.requires.least.found (sym c.entry_of.ensures ∙ c.in_ok-entry.was) c.place_of-place.ensures in
    choice_found c.args.slot c.args.nodes.now c.args.turn c.in_ok-entry.entry c.place_of-place.result
    c.next_page.result (omega (arith, c.requires.within)) c.requires.kept.right c.requires.kept.turns
    c.requires.least.least first c.next_page.ensures

pub returns-clause-seen : goal.returns-clause-seen
returns-clause-seen c =
    let first = found_turn c.args.slot c.args.nodes.now c.args.turn c.in_ok-entry.entry c.place_of-place.result
    (omega (arith, c.ranges.turn.fits)) c.requires.kept.right c.requires.kept.turns c.requires.rising
    c.requires.least.found (sym c.entry_of.ensures ∙ c.in_ok-entry.was) c.place_of-place.ensures in
    ap (map (seen (c.args.slot + 1))) c.keep_aired.ensures.kept
    ∙ rw c.aired.ensures (seen_after_used c.args.slot c.args.nodes.now (c.in_ok-entry.entry, c.next_page.result)
    c.args.turn c.place_of-place.result blank c.requires.kept.right c.requires.rising first.turn first.number)

pub returns-clause-kept : goal.returns-clause-kept
returns-clause-kept c =
    let first = found_turn c.args.slot c.args.nodes.now c.args.turn c.in_ok-entry.entry c.place_of-place.result
    (omega (arith, c.ranges.turn.fits)) c.requires.kept.right c.requires.kept.turns c.requires.rising
    c.requires.least.found (sym c.entry_of.ensures ∙ c.in_ok-entry.was) c.place_of-place.ensures in
    record {
      right = rw (c.keep_aired.ensures.kept, c.aired.ensures) (right_after_used c.args.slot c.args.nodes.now c.args.turn
          c.place_of-place.result blank c.requires.kept.right first.turn);
      turns = rw (c.keep_aired.ensures.kept, c.aired.ensures) (turns_aired c.args.nodes.now c.place_of-place.result
          first.turn.within c.requires.kept.turns);
      trees = c.keep_aired.ensures.trees;
    }

pub keep_aired-requires-clause-turn : goal.keep_aired-requires-clause-turn
keep_aired-requires-clause-turn c = λ left.
    let first = found_turn c.args.slot c.args.nodes.now c.args.turn c.in_ok-entry.entry c.place_of-place.result
    (omega (arith, c.ranges.turn.fits)) c.requires.kept.right c.requires.kept.turns c.requires.rising
    c.requires.least.found (sym c.entry_of.ensures ∙ c.in_ok-entry.was) c.place_of-place.ensures in
    let k : Progress = (get_or c.args.nodes.now c.place_of-place.result blank).kept in
    let still : (aired k).is_open ≡ true = sym (ap (λ (a : Progress). a.is_open) c.aired.ensures) ∙ left in
    own_at-is c.args.nodes.now c.place_of-place.result blank first.turn.within
    ∙ own_aired k first.turn.is_open still ∙ ap own (sym c.aired.ensures)
