use Rattle.std.proofs.Common.{◌≡◌, ◌∙◌, [], ap, subst}
use Rattle.handset.specs.Reception.{name_of}
use Rattle.handset.specs.Keeping.{kept_of}
use Rattle.handset.specs.KeepingSteps.{KeepsPage}
use Rattle.handset.proofs.NamedPages.{seen, keeps_first, readable-more}
use Rattle.handset.proofs.pages.Pages.push_first.Goals as goal

pub returns-clause-pages : goal.returns-clause-pages
returns-clause-pages c =
    let none : kept_of (seen c.self.inside.by_name.entries) (name_of c.args.page.now) ≡ [] =
    ap (λ pages. kept_of pages (name_of c.args.page.now)) c.self.view_is ∙ c.requires.first in
    subst (λ old. KeepsPage old (seen c.insert.new.self.entries) c.args.page.now) c.self.view_is
    (keeps_first c.self.inside.by_name.entries c.insert.new.self.entries c.args.page.now c.number.result
    c.number.ensures none c.in_ok-insert.ensures.updates.0)

pub invariant_of-self-2 : goal.invariant_of-self-2
invariant_of-self-2 c =
    let none : kept_of (seen c.self.inside.by_name.entries) (name_of c.args.page.now) ≡ [] =
    ap (λ pages. kept_of pages (name_of c.args.page.now)) c.self.view_is ∙ c.requires.first in
    readable-more _ _ c.args.page.now
    (keeps_first c.self.inside.by_name.entries c.insert.new.self.entries c.args.page.now c.number.result
    c.number.ensures none c.in_ok-insert.ensures.updates.0)
    c.requires.readable c.self.invariant
