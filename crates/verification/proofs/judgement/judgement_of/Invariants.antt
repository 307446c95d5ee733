use Rattle.std.proofs.Common.{map, take}
use Rattle.std.specs.List.{AllZip}
use Rattle.verification.specs.Judgement.{IsFoundOf}
use Rattle.verification.specs.Rows.{tape_of}
use Rattle.verification.proofs.judgement.judgement_of.Given as goal

abbrev pub invariant-loop-state : goal.invariant-loop-state
invariant-loop-state l =
    AllZip (IsFoundOf l.layout (tape_of l.cell l.slots l.blocks)) (map (λ c. c.run) (take l.state-index l.cells))
    l.found.items
