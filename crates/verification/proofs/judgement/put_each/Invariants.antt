use Rattle.std.proofs.Common.{◌≡◌, length, min}
use Rattle.verification.specs.FoundSteps.{put_each}
use Rattle.verification.proofs.judgement.put_each.Given as goal

-- the cells that were passed have what was found of them
abbrev pub invariant-loop-found : goal.invariant-loop-found
invariant-loop-found l = record {
  many : l.place ≡ min (length l.yielded) (length l.fn.cells);
  put : l.cells ≡ put_each l.fn.cells l.yielded;
}
