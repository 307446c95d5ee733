use Rattle.book_remarks.proofs.GroupsTold.{none_told}
use Rattle.book_remarks.proofs.check.tell_groups.Goals as goal

pub loop-group-init : goal.loop-group-init
loop-group-init g c = none_told c.args.network.now c.args.slots c.args.start c.args.table.now c.requires.named
