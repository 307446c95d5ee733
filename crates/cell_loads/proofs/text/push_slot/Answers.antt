use Rattle.std.proofs.Common.{◌≡◌, ◌∙◌, ℕ, Bool, [], true, ap, ap₂, rules, sym}
use Rattle.std.specs.Prelude.{◌==◌, if◌then◌else◌, slice_index}
use Rattle.chart.specs.Facts.{fullest_slot, hundredths}
use Rattle.cell_loads.specs.LoadsText.{change_text, is_change, share_line}
use Rattle.cell_loads.proofs.text.push_slot.Goals as goal

pub returns : goal.returns
returns c =
    let loads = c.args.loads.now in
    let slot = c.args.slot in
    let changes : is_change loads slot ≡ true = search (rules, c.is_change.ensures, c.if-not-is_change.false) in
    let fullest : c.from.result ≡ fullest_slot loads = search (rules, c.from.ensures, c.requires.fullest) in
    let share : c.hundredths-share.result ≡ hundredths (slice_index loads slot) = search rules in
    let text : share_line c.args.start c.args.cell slot c.hundredths-share.result (slot == c.from.result)
    ≡ change_text c.args.start c.args.cell loads slot =
    ap₂ (λ (part : ℕ) (mark : Bool). share_line c.args.start c.args.cell slot part mark) share
    (ap (λ (most : ℕ). slot == most) fullest)
    ∙ sym (ap (λ (is : Bool). if is
    then share_line c.args.start c.args.cell slot (hundredths (slice_index loads slot)) (slot == fullest_slot loads)
    else []) changes) in
    rw (← text) c.push_load.ensures
