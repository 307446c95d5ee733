use Rattle.std.proofs.Common.{◌∙◌, sym}
use Rattle.orders_file.specs.Page.{is_hyphen}
use Rattle.orders_file.proofs.Places.{place_none, place_some}
use Rattle.orders_file.proofs.page.hyphen_or_end.Goals as goal

pub returns-in-Some-clause-value : goal.returns-in-Some-clause-value
returns-in-Some-clause-value c =
    place_some is_hyphen c.args.field.now c.in-Some.place (sym c.in-Some.is ∙ c.hyphen_in.ensures)

pub returns-in-None-clause-value : goal.returns-in-None-clause-value
returns-in-None-clause-value c = place_none is_hyphen c.args.field.now (sym c.in-None.is ∙ c.hyphen_in.ensures)
