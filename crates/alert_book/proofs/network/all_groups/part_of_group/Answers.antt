use Rattle.std.proofs.Common.{◌+◌, ◌*◌, arith}
use Rattle.alert_book.proofs.AllGroupsLaws.{part_is}
use Rattle.alert_book.proofs.network.all_groups.part_of_group.Goals as goal

pub returns : goal.returns
returns c =
    part_is (64 * c.args.group) c.min-first.result (c.min-first.result + c.min.result) c.args.cells.now
    (omega (arith, c.min-first.ensures, c.from.ensures)) (omega (arith, c.min.ensures))
