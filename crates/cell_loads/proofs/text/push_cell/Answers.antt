use Rattle.std.proofs.Common.{◌≡◌, ◌∙◌, ap₂}
use Rattle.cell_loads.specs.LoadsText.{cell_text, slots_text}
use Rattle.cell_loads.proofs.text.push_cell.Goals as goal

pub returns : goal.returns
returns c =
    let text : slots_text c.args.start c.cell.result c.deref.result.now ≡ cell_text c.args.start c.args.run.now =
    ap₂ (slots_text c.args.start) c.cell.ensures (c.deref.ensures.value ∙ c.in_ok-loads.ensures.loads) in
    rw (← text) c.push_slots.ensures
