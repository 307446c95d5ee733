use Rattle.std.proofs.Common.{◌≡◌, ◌+◌, drop, length, take}
use Rattle.parallel_compile.specs.StreamSteps.{with_pages}
use Rattle.parallel_compile.proofs.filling.set_pages.Given as goal

abbrev pub invariant-loop-page : goal.invariant-loop-page
invariant-loop-page l = record {
  done : with_pages l.slot (drop l.page-index l.pages) l.tape ≡ with_pages l.from l.pages l.initial.tape;
  at : l.slot ≡ l.from + l.page-index;
  long : length l.tape ≡ length l.initial.tape;
  headed : take 8 l.tape ≡ take 8 l.initial.tape;
}
