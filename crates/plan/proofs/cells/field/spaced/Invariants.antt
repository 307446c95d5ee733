use Rattle.std.proofs.Common.{◌≡◌, ◌∷◌, ℕ, List, take}
use Rattle.std.specs.List.{flat_map}
use Rattle.plan.proofs.cells.field.spaced.Given as goal

abbrev pub invariant-loop-part : goal.invariant-loop-part
invariant-loop-part l = l.text.items ≡ flat_map (λ (part : List ℕ). 32 ∷ part) (take l.part-index l.texts)
