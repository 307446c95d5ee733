use Rattle.std.proofs.Common.{◌++◌, length, ap, ◌∙◌}
use Rattle.std.proofs.lemmas.List.{drop-replicate}
use Rattle.septets.proofs.filled_page.Goals as goal

pub returns : goal.returns
returns c =
    c.put_first.ensures
    ∙ ap (λ xs. c.args.septets.now ++ xs) (drop-replicate (length c.args.septets.now) 93 13)
