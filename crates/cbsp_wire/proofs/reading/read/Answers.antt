use Rattle.std.proofs.Common.{sym, ◌∙◌, subst}
use Rattle.std.proofs.lemmas.Result.{err_from_is_err_and}
use Rattle.cbsp_wire.specs.declared.message.Message.{Message}
use Rattle.cbsp_wire.specs.Meaning.{IsMessage}
use Rattle.cbsp_wire.specs.Body.{elements_in}
use Rattle.cbsp_wire.specs.Value.{message_of}
use Rattle.cbsp_wire.proofs.MeaningLaws.{first_fault-none, IsMessage-read, IsMessage-faulty, reported_fault-refused}
use Rattle.cbsp_wire.proofs.reading.read.Goals as goal

pub returns-in_err-elements-clause-complete : goal.returns-in_err-elements-clause-complete
returns-in_err-elements-clause-complete c =
    let p = err_from_is_err_and c.from_residual.result c.from_residual.ensures.1 in
    rw (p.1, p.2) (λ m meant. absurd (IsMessage-faulty _ m _ c.in_err-elements.ensures.fault meant))

pub returns-in_err-elements-clause-first_fault : goal.returns-in_err-elements-clause-first_fault
returns-in_err-elements-clause-first_fault c =
    let p = err_from_is_err_and c.from_residual.result c.from_residual.ensures.1 in
    rw (p.1, p.2) (c.in_err-elements.ensures.fault ∙ sym c.in_err-elements.ensures.reported)

pub returns-in_err-elements-clause-memory_last : goal.returns-in_err-elements-clause-memory_last
returns-in_err-elements-clause-memory_last c =
    let p = err_from_is_err_and c.from_residual.result c.from_residual.ensures.1 in
    rw (p.1, p.2) (λ refused. absurd (reported_fault-refused _ c.in_err-elements.ensures.reported refused))

pub returns-in-Ok-clause-meant : goal.returns-in-Ok-clause-meant
returns-in-Ok-clause-meant c =
    subst (λ (m : Message). IsMessage c.args.octets.now m) (sym c.in-Ok.ensures)
    (first_fault-none _ _ _ c.in_ok-elements.ensures.faultless c.in_ok-elements.ensures.header)

pub returns-in-Ok-clause-complete : goal.returns-in-Ok-clause-complete
returns-in-Ok-clause-complete c =
    λ m meant. c.in-Ok.ensures ∙ sym ((IsMessage-read _ m meant).value _ _ c.in_ok-elements.ensures.header)

pub returns-in-Err-clause-memory_last : goal.returns-in-Err-clause-memory_last
returns-in-Err-clause-memory_last c = λ refused. (
  message_of c.in_ok-elements.elements.message_type (elements_in c.in_ok-elements.elements),
  first_fault-none _ _ _ c.in_ok-elements.ensures.faultless c.in_ok-elements.ensures.header,
)
