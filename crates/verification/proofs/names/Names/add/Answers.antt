use Rattle.std.proofs.Common.{◌∙◌, true, cond, ap}
use Rattle.std.specs.Prelude.{◌||◌}
use Rattle.verification.specs.Names.{names_page, is_pair}
use Rattle.verification.proofs.NameLaws.{either, pair-symm}
use Rattle.verification.proofs.names.Names.add.Goals as goal

pub returns : goal.returns
returns c = λ page.
    c.in_ok-insert.ensures.updates.0 (page.id, page.serial)
    ∙ ap (λ here. cond here true (names_page c.self.inside.pairs.keys page))
    (pair-symm (c.args.id, c.args.serial) (page.id, page.serial))
    ∙ either (is_pair (page.id, page.serial) (c.args.id, c.args.serial)) (names_page c.self.inside.pairs.keys page)
    ∙ ap (λ keys. names_page keys page || is_pair (page.id, page.serial) (c.args.id, c.args.serial)) c.self.view_is
