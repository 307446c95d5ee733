-- A reply with no list is a message that some octets mean.
use Rattle.std.proofs.Common.{refl}
use Rattle.cbsp_wire.specs.Table.{presence_of, table}
use Rattle.cbsp_tests.proofs.of_cbsp_wire.writing.octets_are_appended_where_there_is_room.Goals as goal

pub write_in-requires-clause-meant : goal.write_in-requires-clause-meant
unfolding presence_of table
write_in-requires-clause-meant g c = rw (c.new.ensures.items, c.new-2.ensures.items) refl
