use Rattle.cbsp_wire.proofs.LawsOfMeaning.{one_meaning, meant_is_faultless, faultless_is_meant, written_is_meant}
use Rattle.cbsp_wire.proofs.LawsOfMeaning.{written_is_read_back, writable_exactly_if_meant, mandatory_test_is_exact}
use Rattle.cbsp_wire.proofs.LawsOfMeaning.{validity_test_is_exact}
use Rattle.cbsp_wire.proofs.laws.meaning_law.Goals as goal

pub returns : goal.returns
returns c = record {
  one_value = one_meaning;
  no_fault = meant_is_faultless;
  some_value = faultless_is_meant;
  written = written_is_meant;
  round_trip = written_is_read_back;
  writable = writable_exactly_if_meant;
  mandatory_test = mandatory_test_is_exact;
  validity_test = validity_test_is_exact;
}
