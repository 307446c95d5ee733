use Rattle.std.proofs.Common.{◌≡◌, ◌∙◌, ap, arith, drop, length, sym}
use Rattle.std.specs.Prelude.{min}
use Rattle.std.specs.List.{list_any}
use Rattle.std.proofs.lemmas.List.{drop-map, drop_min, take_rest}
use Rattle.scheduler.specs.Pages.{airs_page}
use Rattle.bsc_table.specs.Book.{aired_pair, air_pairs}
use Rattle.book_remarks.proofs.mark.sends_page.Goals as goal

pub returns : goal.returns
returns c =
    let sent = list_any (airs_page c.args.place c.args.page) in
    let air = c.args.air.now in
    let at : c.min.result ≡ min c.args.slot (length air) = omega (arith, c.min.ensures, c.from.ensures) in
    c.is_sent.ensures
    ∙ ap (λ later. sent (air_pairs later)) (take_rest air c.min.result)
    ∙ ap (λ n. sent (air_pairs (drop n air))) at
    ∙ ap (λ later. sent (air_pairs later)) (drop_min c.args.slot air)
    ∙ ap sent (sym (drop-map aired_pair c.args.slot air))
