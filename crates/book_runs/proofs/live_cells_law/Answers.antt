use Rattle.book_runs.proofs.LiveParts.{cells_live_apart, live_parts_make_the_whole}
use Rattle.book_runs.proofs.live_cells_law.Goals as goal

pub returns-clause-apart : goal.returns-clause-apart
returns-clause-apart c = cells_live_apart

pub returns-clause-joined : goal.returns-clause-joined
returns-clause-joined c = live_parts_make_the_whole c.network_laws.ensures.book
