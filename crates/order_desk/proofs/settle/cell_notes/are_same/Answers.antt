use Rattle.std.proofs.Common.{◌∙◌, sym}
use Rattle.order_desk.proofs.SameEntry.{same_entry}
use Rattle.order_desk.proofs.settle.cell_notes.are_same.Goals as goal

pub returns : goal.returns
returns c = let same = same_entry c.args.one.now c.args.other.now in
    (λ is. same.0 (sym c.eq.ensures ∙ is), λ is. c.eq.ensures ∙ same.1 is)
