use Rattle.std.proofs.lemmas.Result.{on_ok_weaker}
use Rattle.verification.proofs.findings.Findings.take.Goals as goal

pub returns : goal.returns
returns c =
    on_ok_weaker c.take_judged.result
    (λ takes. λ layout records tapes taken. takes c.args.slots c.args.blocks.now layout records tapes taken
    (c.in_ok-judgement.ensures layout records tapes taken))
    c.take_judged.ensures
