use Rattle.book_texts.proofs.OneTable.{tables_are_one, tables_have_right_rows}
use Rattle.book_texts.proofs.laws.texts_laws.Goals as goal

pub returns-clause-one : goal.returns-clause-one
returns-clause-one c = tables_are_one

pub returns-clause-right : goal.returns-clause-right
returns-clause-right c = tables_have_right_rows
