-- What stays of a page of carriage returns is what fills it.
use Rattle.std.proofs.Common.{◌++◌, length, ap, ◌∙◌}
use Rattle.std.proofs.lemmas.List.{drop-replicate}
use Rattle.ucs2_text.proofs.octets.filled_page.Goals as goal

pub returns : goal.returns
returns c =
    c.put_first.ensures
    ∙ ap (λ xs. c.args.units.now ++ xs) (drop-replicate (length c.args.units.now) 41 13)
