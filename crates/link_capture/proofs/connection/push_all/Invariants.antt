use Rattle.std.proofs.Common.{◌≡◌, ◌++◌, drop}
use Rattle.link_capture.specs.Connection.{packets_from}
use Rattle.link_capture.proofs.connection.push_all.Given as goal

abbrev pub invariant-loop-sent : goal.invariant-loop-sent
invariant-loop-sent l =
    l.output.items ++ packets_from l.start l.connection l.places (drop l.sent-index l.all)
    ≡ l.fn.output.items ++ packets_from l.start l.connection (record { centre = 1; controller = 1 }) l.all
