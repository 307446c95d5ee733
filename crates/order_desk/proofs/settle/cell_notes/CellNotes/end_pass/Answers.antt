use Rattle.std.proofs.Common.{refl}
use Rattle.order_desk.proofs.Noted.{noted_end}
use Rattle.order_desk.proofs.settle.cell_notes.CellNotes.end_pass.Goals as goal

pub returns : goal.returns
returns c = λ r earlier given has. noted_end r earlier given c.args.self.now _ refl refl refl refl refl refl has
