use Rattle.std.proofs.Common.{◌≡◌, [], length, take}
use Rattle.std.specs.List.{AllZip}
use Rattle.order_desk.specs.Settled.{AreOwn}
use Rattle.order_desk.specs.SettleSteps.{AreNoted, IsOfCell}
use Rattle.order_desk.proofs.settle.notes_by_cell.put_passes.Given as goal

abbrev pub invariant-loop-pass : goal.invariant-loop-pass
invariant-loop-pass l = (length l.noted ≡ length l.fn.noted)
    × AreOwn l.fn.cells (take l.pass-index l.fn.passes)
    × (AllZip IsOfCell l.fn.cells l.fn.books → AreNoted l.fn.books [] [] l.fn.noted
    → AreNoted l.fn.books (take l.pass-index l.fn.passes) [] l.noted)
