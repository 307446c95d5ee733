use Rattle.std.proofs.Common.{◌≡◌, ℕ, ◌<◌, All, List, length}
use Rattle.std.specs.List.{flat_map}
use Rattle.cbs_page.specs.Text.{codes_of}
use Rattle.cbs_page.specs.declared.coding.Alphabet.TheVariants.{Gsm}
use Rattle.cbs_page.proofs.CodeCuts.{HasClosed}
use Rattle.cbs_page.proofs.pages.contents_of_septets.Given as goal

abbrev pub invariant-loop-rest : goal.invariant-loop-rest
invariant-loop-rest l = record {
  small : All (λ septet. septet < 128) l.rest;
  made : (text : List ℕ) → flat_map (codes_of Gsm) text ≡ l.septets → HasClosed Gsm text l.rest l.pages.items;
}

abbrev pub decreases-loop-rest : goal.decreases-loop-rest
decreases-loop-rest l = length l.rest
