use Rattle.std.proofs.Common.{◌≡◌, ◌≤◌, map, take, vec_capacity}
use Rattle.bsc_table.specs.Book.{aired_pair}
use Rattle.order_desk.specs.Pieces.{octets_aired}
use Rattle.order_desk.proofs.desk.piece.put_pages.Given as goal

abbrev pub invariant-loop-used : goal.invariant-loop-used
invariant-loop-used l = record {
  put : l.pages.items ≡ map (λ used. octets_aired l.book.log (aired_pair used)) (take l.used-index l.used-items);
  room : l.k ≤ vec_capacity l.pages;
}
