use Rattle.std.proofs.Common.{◌≡◌, ◌+◌, ◌-◌, ◌≤◌, true, [], ◌∷◌, ◌++◌, find, is_some}
use Rattle.std.specs.List.{list_all, range_with_len}
use Rattle.handset.specs.Reception.{name_of}
use Rattle.handset.specs.Keeping.{is_numbered}
use Rattle.handset.proofs.messages.is_complete.Given as goal

abbrev pub invariant-loop-number : goal.invariant-loop-number
invariant-loop-number l = record {
  within : l.number ≤ l.total;
  there :
      list_all (λ number. is_some (find (is_numbered (name_of l.last) number) (l.pages ++ l.last ∷ [])))
      (range_with_len (l.number + 1) (l.total - l.number)) ≡ true;
}

abbrev pub decreases-loop-number : goal.decreases-loop-number
decreases-loop-number l = l.number
