use Rattle.alert_book.proofs.Utf8Laws.{texts_are_utf8}
use Rattle.alert_book.proofs.laws.text_laws.Goals as goal

pub returns : goal.returns
returns c = texts_are_utf8
