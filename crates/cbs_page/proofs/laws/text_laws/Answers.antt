use Rattle.cbs_page.proofs.ComesBack.{paged_text_comes_back}
use Rattle.cbs_page.proofs.OneText.{sent_text_has_no_fault, sent_text_is_one, text_fault_is_one}
use Rattle.cbs_page.proofs.laws.text_laws.Goals as goal

pub returns : goal.returns
returns c = record {
  comes_back = paged_text_comes_back;
  sent_is_one = sent_text_is_one;
  sent_has_no_fault = sent_text_has_no_fault;
  fault_is_one = text_fault_is_one;
}
