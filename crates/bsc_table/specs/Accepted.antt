-- The messages that a cell accepted, as they are kept (own).
use Rattle.std.specs.Prelude.{ℕ, List}
use Rattle.bsc_table.specs.declared.accepted.AcceptedMessage.{AcceptedMessage}
use Rattle.bsc_table.specs.Record.{Accepted, rank_of}

-- an accepted message as it is kept
abbrev pub accepted_of : AcceptedMessage → Accepted
accepted_of k = record {
  id = k.id;
  serial = k.serial;
  accepted = k.accepted;
  behind = k.behind;
  excess = k.excess;
  message = record {
    entry = k.entry;
    start = k.start;
    pages = k.pages;
    period = k.period;
    broadcasts = k.broadcasts;
    stop = k.stop;
    rank = rank_of k.category;
  };
}

-- a table of them in clauses: the messages, and for how many more it has room
pub record TableState : Type 0 where
  pub all : List Accepted
  pub room : ℕ
