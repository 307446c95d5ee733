use Rattle.std.proofs.Common.{◌≡◌, ◌∙◌, ap, sym}
use Rattle.handset.specs.Keeping.{blocks_kept}
use Rattle.handset.proofs.ReadingLaws.{reads_other}
use Rattle.handset.proofs.handset.Handset.passes_over.Goals as goal

pub returns : goal.returns
returns c is blocks read =
    let begun : blocks_kept c.self.inside.partial ≡ c.args.self.now.under_way = ap (λ k. k.under_way) c.self.view_is in
    let passed = c.passes_over.ensures.0 is in
    reads_other c.args.self.now blocks c.args.block.now (sym begun ∙ passed.0) passed.1 read
