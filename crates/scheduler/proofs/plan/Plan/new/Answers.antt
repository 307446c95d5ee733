use Rattle.std.proofs.Common.{[], List, arith, refl, sym, subst, ap, length}
use Rattle.std.proofs.lemmas.List.Elements.{All-nil}
use Rattle.scheduler.specs.declared.tournament.Node.{Node}
use Rattle.scheduler.specs.PlanSteps.{IsFit}
use Rattle.scheduler.specs.QueueSteps.{IsPlan, IsRight, HasTurn, HasEnded, AreBehind, IsNotBehind, seen_in}
use Rattle.scheduler.specs.declared.plan.Rank.TheVariants.{Background}
use Rattle.scheduler.proofs.Ended.{settled_of}
use Rattle.scheduler.proofs.Forest.{forest_none}
use Rattle.scheduler.proofs.plan.Plan.new.Goals as goal

pub invariant_of-result : goal.invariant_of-result
invariant_of-result c =
    let Behind : List Node → Type 0 = λ ns. AreBehind Background (seen_in 0 ns) in
    let Planned : List Node → Type 0 = λ ns. IsPlan 0 0 ns in
    record {
      plan = subst Planned (sym c.new.ensures.items) (record {
        sound = record {
          rising = λ i j d before within. absurd (omega arith);
          fit = All-nil (λ t. IsFit t 0);
          within = omega arith;
        };
        kept = settled_of 0 0 [] [] refl (All-nil (HasEnded 0)) (record {
          right = All-nil (IsRight 0);
          turns = All-nil HasTurn;
          trees = forest_none 2;
        });
      });
      room = omega (arith, ap length c.new.ensures.items);
      ranks = subst Behind (sym c.new.ensures.items) (All-nil (λ t. IsNotBehind Background t.item.rank));
    }
