use Rattle.std.proofs.Common.{◌<◌, ◌≤◌, Bool, length, inl, inr, sym, subst}
use Rattle.std.specs.Bool.{MatchBool}
use Rattle.std.specs.List.{All, Any}
use Rattle.std.proofs.lemmas.Bool.{cases_eq, eq-eqb, ne_eqb}
use Rattle.scheduler.specs.declared.scheduled.Scheduled.{Scheduled}
use Rattle.scheduler.specs.QueueSteps.{seen_in}
use Rattle.scheduler.proofs.Found.{all_below, any_behind}
use Rattle.scheduler.proofs.tournament.are_below.Goals as goal

pub returns : goal.returns
returns c = λ slot.
    let place = c.place_of.result in
    let nodes = c.args.nodes.now in
    let Says : Bool → Type 0 = λ b. MatchBool b (All (λ (t : Scheduled). t.item.entry < c.args.entry)
    (seen_in slot nodes)) (Any (λ (t : Scheduled). c.args.entry ≤ t.item.entry) (seen_in slot nodes)) in
    elim (cases_eq place (length nodes)) [
      | inl same ↦ subst Says (sym (eq-eqb place (length nodes) same)) (all_below c.args.entry slot nodes place
          c.place_of.ensures same)
      | inr apart ↦ subst Says (sym (ne_eqb place (length nodes) apart)) (any_behind c.args.entry slot nodes place
          c.place_of.ensures apart)
    ]
