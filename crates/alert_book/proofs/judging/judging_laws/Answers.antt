use Rattle.alert_book.proofs.FoundLaws.{found_is_fault}
use Rattle.alert_book.proofs.judging.judging_laws.Goals as goal

pub returns : goal.returns
returns c = found_is_fault
