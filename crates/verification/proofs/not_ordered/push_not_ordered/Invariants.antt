use Rattle.std.proofs.Common.{◌≡◌, ◌++◌, [], drop, map, take}
use Rattle.verification.specs.Difference.{not_ordered_after}
use Rattle.verification.specs.Kept.{asked_kept}
use Rattle.verification.specs.Names.{AreNames}
use Rattle.verification.proofs.not_ordered.push_not_ordered.Given as goal

abbrev pub invariant-loop-sent_page : goal.invariant-loop-sent_page
invariant-loop-sent_page l = record {
  names : AreNames (map asked_kept l.messages) (take l.sent_page-index l.sent) l.known;
  found : l.found.items ++ not_ordered_after (map asked_kept l.messages) (take l.sent_page-index l.sent)
      (drop l.sent_page-index l.sent)
      ≡ l.fn.found.items ++ not_ordered_after (map asked_kept l.messages) [] l.sent;
}
