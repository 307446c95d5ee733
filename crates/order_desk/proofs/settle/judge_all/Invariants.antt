use Rattle.std.proofs.Common.{List, [], All, take}
use Rattle.order_desk.specs.declared.note.Note.{Note}
use Rattle.order_desk.specs.Agreement.{Agrees}
use Rattle.order_desk.specs.SettleSteps.{AreNoted}
use Rattle.order_desk.proofs.settle.judge_all.Given as goal

abbrev pub invariant-loop-place : goal.invariant-loop-place
invariant-loop-place l = (passes : List (List Note)) → AreNoted l.fn.books passes [] l.fn.noted
    → All (Agrees passes) (take l.place l.fn.books)
