use Rattle.std.proofs.Common.{◌≡◌, ◌∙◌, ap, refl, sym}
use Rattle.handset.specs.Keeping.{blocks_kept}
use Rattle.handset.proofs.Repeats.{reads_page_again}
use Rattle.handset.proofs.handset.Handset.repeats.Goals as goal

pub returns-then-is_empty-clause-same : goal.returns-then-is_empty-clause-same
returns-then-is_empty-clause-same c is before read =
    let begun : blocks_kept c.self.inside.partial ≡ c.args.self.now.under_way = ap (λ k. k.under_way) c.self.view_is in
    reads_page_again c.args.self.now before c.args.blocks.now c.args.place (sym begun ∙ c.if-is_empty.ensures refl)
    (c.is_page_again.ensures is) read
