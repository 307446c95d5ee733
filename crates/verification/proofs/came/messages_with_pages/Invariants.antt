use Rattle.std.proofs.Common.{◌≡◌, map, take}
use Rattle.verification.specs.Came.{AllHavePages, came_asked}
use Rattle.verification.specs.Kept.{asked_kept}
use Rattle.verification.proofs.came.messages_with_pages.Given as goal

abbrev pub invariant-loop-asked : goal.invariant-loop-asked
invariant-loop-asked l = record {
  asked : map came_asked l.came.items ≡ map asked_kept (take l.asked-index l.messages);
  pages : AllHavePages l.sent l.came.items;
}
