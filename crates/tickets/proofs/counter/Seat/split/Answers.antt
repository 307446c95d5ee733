use Rattle.std.proofs.Common.{rules}
use Rattle.tickets.proofs.Steps.{splits}
use Rattle.tickets.proofs.counter.Seat.split.Goals as goal

pub split_seat-token-requires : goal.split_seat-token-requires
split_seat-token-requires c = (search rules, search rules, splits _ _ _ (search rules) (search rules))
