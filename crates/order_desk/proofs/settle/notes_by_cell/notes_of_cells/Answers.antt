use Rattle.std.proofs.Common.{arith}
use Rattle.order_desk.proofs.settle.notes_by_cell.notes_of_cells.Goals as goal

pub put_passes-requires-clause-places : goal.put_passes-requires-clause-places
put_passes-requires-clause-places c = omega (
  arith,
  c.requires.books,
  c.as_mut_slice.ensures.len,
  c.in_ok-noted.ensures.places,
  c.in_ok-noted.noted.ok,
)
