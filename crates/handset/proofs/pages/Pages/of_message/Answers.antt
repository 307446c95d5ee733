use Rattle.std.proofs.Common.{◌∙◌, All, IsTrue, sym, ap, subst}
use Rattle.std.specs.Map.{lookup}
use Rattle.cbs_page.specs.declared.octets.PageView.{PageView}
use Rattle.cbs_page.specs.Page.{is_readable}
use Rattle.handset.specs.Reception.{name_of}
use Rattle.handset.specs.Keeping.{kept_of}
use Rattle.handset.proofs.NamedPages.{same_key, found_items, kept_is}
use Rattle.handset.proofs.pages.Pages.of_message.Goals as goal

pub returns-in-Some-clause-pages : goal.returns-in-Some-clause-pages
returns-in-Some-clause-pages c =
    c.as_slice.ensures ∙ ap found_items c.in-Some.ensures.value
    ∙ ap (λ n. found_items (lookup (same_key (c.args.page.now.id, n)) c.self.inside.by_name.entries)) c.number.ensures
    ∙ sym (kept_is c.self.inside.by_name.entries (name_of c.args.page.now))
    ∙ ap (λ pages. kept_of pages (name_of c.args.page.now)) c.self.view_is

pub returns-in-Some-clause-readable : goal.returns-in-Some-clause-readable
returns-in-Some-clause-readable c =
    let same =
    kept_is c.self.inside.by_name.entries (name_of c.args.page.now)
    ∙ ap (λ n. found_items (lookup (same_key (c.args.page.now.id, n)) c.self.inside.by_name.entries))
    (sym c.number.ensures)
    ∙ ap found_items (sym c.in-Some.ensures.value) ∙ sym c.as_slice.ensures in
    subst (All (λ (p : PageView). IsTrue (is_readable p))) same (c.self.invariant (name_of c.args.page.now))

pub returns-in-None-clause-pages : goal.returns-in-None-clause-pages
returns-in-None-clause-pages c =
    ap found_items c.in-None.ensures.value
    ∙ ap (λ n. found_items (lookup (same_key (c.args.page.now.id, n)) c.self.inside.by_name.entries)) c.number.ensures
    ∙ sym (kept_is c.self.inside.by_name.entries (name_of c.args.page.now))
    ∙ ap (λ pages. kept_of pages (name_of c.args.page.now)) c.self.view_is
