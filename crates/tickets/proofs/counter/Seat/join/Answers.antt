use Rattle.std.proofs.Common.{rules}
use Rattle.tickets.proofs.Steps.{joins}
use Rattle.tickets.proofs.counter.Seat.join.Goals as goal

pub join_seat-requires : goal.join_seat-requires
join_seat-requires c = (search rules, search rules, search rules, search rules, joins _ _ _ _ _)
