-- The laws: each from what is shown of reading and of writing.
use Rattle.cbsp_wire.specs.Laws.{OneMeaning, MeantIsFaultless, FaultlessIsMeant, WrittenIsMeant}
use Rattle.cbsp_wire.specs.Laws.{WrittenIsReadBack, WritableExactlyIfMeant, MandatoryTestIsExact, ValidityTestIsExact}
use Rattle.cbsp_wire.specs.Written.{octets_of_message}
use Rattle.cbsp_wire.proofs.ElementFacts.{mandatory_from, mandatory_pass, elements_from, elements_pass}
use Rattle.cbsp_wire.proofs.MeaningLaws.{IsMessage-unique, IsMessage-read, first_fault-some}
use Rattle.cbsp_wire.proofs.MeantLaws.{IsMessage-writable}
use Rattle.cbsp_wire.proofs.WrittenLaws.{octets_of_message-meant}

-- octets mean one message
pub one_meaning : OneMeaning
one_meaning = IsMessage-unique

-- octets that mean a message have no fault
pub meant_is_faultless : MeantIsFaultless
meant_is_faultless octets m meant = (IsMessage-read octets m meant).faultless

-- octets without a fault mean a message
pub faultless_is_meant : FaultlessIsMeant
faultless_is_meant = first_fault-some

-- the octets of a message mean it
pub written_is_meant : WrittenIsMeant
written_is_meant octets m meant = octets_of_message-meant m (IsMessage-writable octets m meant)

-- a message that was written is read back
pub written_is_read_back : WrittenIsReadBack
written_is_read_back octets m n meant again =
    IsMessage-unique (octets_of_message m) n m again (written_is_meant octets m meant)

-- a message can be written exactly if some octets mean it
pub writable_exactly_if_meant : WritableExactlyIfMeant
writable_exactly_if_meant m =
    (λ h. (octets_of_message m, octets_of_message-meant m h), λ some. IsMessage-writable some.0 m some.1)

-- the test of mandatory elements is exact
pub mandatory_test_is_exact : MandatoryTestIsExact
mandatory_test_is_exact message_type es = (mandatory_from message_type es, mandatory_pass message_type es)

-- the test of valid elements is exact
pub validity_test_is_exact : ValidityTestIsExact
validity_test_is_exact es = (elements_from es, elements_pass es)
