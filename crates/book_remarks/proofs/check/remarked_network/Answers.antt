use Rattle.book_remarks.proofs.GroupsTold.{all_told}
use Rattle.book_remarks.specs.RemarksText.{checked_network_text}
use Rattle.book_remarks.proofs.check.remarked_network.Goals as goal

pub returns-clause-ok : goal.returns-clause-ok
returns-clause-ok g c =
    let told = c.in_ok-count.ensures.ok in
    all_told c.in-Ok.network c.args.slots c.args.start c.in_ok-count.count c.tell_groups.new.table c.args.octets.now
    c.in-Ok-into_octets.text.items c.in-Ok.ensures.ok told
    (c.in-Ok-into_octets.ensures (checked_network_text c.args.start told.each) told.told)
