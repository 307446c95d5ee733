use Rattle.std.proofs.Common.{◌++◌, drop, length, replicate, ap, ◌∙◌}
use Rattle.std.proofs.lemmas.List.{drop-replicate}
use Rattle.short_pages.proofs.page.padded.Goals as goal

pub returns : goal.returns
returns c =
    ap (λ octets. octets ++ drop (length c.args.came.now) (replicate 82 0)) c.copy_from_slice.ensures.after
    ∙ ap (λ octets. c.args.came.now ++ octets) (drop-replicate (length c.args.came.now) 82 0)
