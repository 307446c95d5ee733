use Rattle.scheduler.proofs.Background.{background_counts_as_idle, background_changes_nothing, blanking_keeps_pages}
use Rattle.scheduler.proofs.Background.{blanking_keeps_completed}
use Rattle.scheduler.proofs.laws.background_laws.Goals as goal

pub returns : goal.returns
returns c = record {
  counts_as_idle = background_counts_as_idle;
  changes_nothing = background_changes_nothing;
  keeps_pages = blanking_keeps_pages;
  keeps_completed = blanking_keeps_completed;
}
