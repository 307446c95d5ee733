use Rattle.std.proofs.Common.{◌≡◌, ℕ, Option, Some, slice_get, subst}
use Rattle.std.specs.Prelude.{IfSome}
use Rattle.order_desk.proofs.Answered.{answered_by, halted_at}
use Rattle.order_desk.proofs.desk.Desk.serve_cell.Goals as goal

pub returns-clause-done : goal.returns-clause-done
returns-clause-done g c =
    answered_by c.args.self.now c.args.at c.args.command.now c.args.cell c.in-Some.place c.slots.result c.serve.result
    _ _ c.args.notes.now.items _
    (subst (λ (place : Option ℕ). IfSome place (λ p. slice_get c.args.self.now.cells p ≡ Some c.args.cell))
    c.in-Some.is c.requires.own)
    c.slots.ensures c.serve.ensures.stays c.serve.ensures.done

pub returns-clause-halted : goal.returns-clause-halted
returns-clause-halted g c =
    halted_at c.args.self.now c.args.at c.args.cell c.in-Some.place c.slots.result c.serve.result
    _ _ c.args.notes.now.items _
    (subst (λ (place : Option ℕ). IfSome place (λ p. slice_get c.args.self.now.cells p ≡ Some c.args.cell))
    c.in-Some.is c.requires.own)
    c.slots.ensures c.serve.ensures.stays c.serve.ensures.halted
