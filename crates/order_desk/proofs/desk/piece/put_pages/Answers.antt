use Rattle.std.proofs.Common.{◌≡◌, ◌∙◌, ◌≤◌, ◌-◌, Option, List, length, map, take, drop, ap, arith}
use Rattle.bsc_table.specs.Book.{aired_pair}
use Rattle.bsc_table.specs.declared.entry.Aired.{Aired}
use Rattle.order_desk.specs.Pieces.{octets_aired}
use Rattle.order_desk.proofs.Pieces.{are_pages, cut_out}
use Rattle.order_desk.proofs.desk.piece.put_pages.Goals as goal

pub returns : goal.returns
returns c =
    let air = c.air-air.result.now in
    let slots = take c.min-2.result (take (length air - c.min.result) (drop c.min.result air)) in
    let put : c.loop-used.pages.items ≡ map (λ used. octets_aired c.args.book.now.log (aired_pair used))
    (take c.loop-used.used-index slots) = c.loop-used.invariant.put in
    let enough : length slots ≤ c.loop-used.used-index = omega (arith, c.loop-used-test.false) in
    let cut : take c.loop-used.used-index slots ≡ take c.args.k (drop c.args.from air) =
    cut_out air c.args.from c.args.k c.min.result c.min-2.result c.loop-used.used-index c.min.ensures c.min-2.ensures
    enough in
    put ∙ ap (λ (used : List (Option Aired)). map (λ u. octets_aired c.args.book.now.log (aired_pair u)) used) cut
    ∙ are_pages c.args.book.now air c.args.from c.args.k c.air-air.ensures
