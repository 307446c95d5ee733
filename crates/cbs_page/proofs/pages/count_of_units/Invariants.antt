use Rattle.std.proofs.Common.{◌≡◌, ℕ, ◌+◌, ◌≤◌, List, length}
use Rattle.std.specs.List.{flat_map}
use Rattle.cbs_page.specs.Text.{codes_of}
use Rattle.cbs_page.specs.declared.coding.Alphabet.TheVariants.{Ucs2}
use Rattle.cbs_page.proofs.CodeCuts.{HasCounted}
use Rattle.cbs_page.proofs.pages.count_of_units.Given as goal

abbrev pub invariant-loop-rest : goal.invariant-loop-rest
invariant-loop-rest l = record {
  few : l.pages + length l.rest ≤ length l.units + 1;
  made : (text : List ℕ) → flat_map (codes_of Ucs2) text ≡ l.units → HasCounted Ucs2 text l.rest l.pages;
}

abbrev pub decreases-loop-rest : goal.decreases-loop-rest
decreases-loop-rest l = length l.rest
