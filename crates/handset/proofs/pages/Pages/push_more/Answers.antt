use Rattle.std.proofs.Common.{◌≡◌, ◌∙◌, [], ◌∷◌, ◌++◌, cond, Some, is_some, sym, ap, subst, All, IsTrue}
use Rattle.std.specs.Map.{lookup}
use Rattle.cbs_page.specs.declared.octets.PageView.{PageView}
use Rattle.cbs_page.specs.Page.{is_readable}
use Rattle.handset.specs.Keeping.{kept_of}
use Rattle.handset.specs.KeepingSteps.{KeepsPage}
use Rattle.handset.specs.Reception.{name_of}
use Rattle.handset.proofs.NamedPages.{seen, same_key, found_items, kept_is, keeps_page, seen-same, readable-more}
use Rattle.handset.proofs.NamedPages.{on_err}
use Rattle.handset.proofs.pages.Pages.push_more.Goals as goal

-- the pages were not changed where there was no room for one more
kept : (c : goal.After-from_residual) →
    seen (c.get_mut.follows.lender c.push.new.self).entries ≡ seen c.self.inside.by_name.entries
kept c =
    ap seen (c.get_mut.follows.holds c.push.new.self).0
    ∙ seen-same (same_key (c.args.page.now.id, c.number.result)) c.self.inside.by_name.entries c.push.new.self
    c.in-Some.kept.now
    (sym c.in-Some.ensures.value) c.in_err-push-in-Some.ensures.refused

pub returns-in_err-push-in-Some-clause-refused : goal.returns-in_err-push-in-Some-clause-refused
returns-in_err-push-in-Some-clause-refused c = on_err c.from_residual.result _ (kept c ∙ c.self.view_is)

pub invariant_of-self : goal.invariant_of-self
invariant_of-self c name =
    subst (λ pages. All (λ (p : PageView). IsTrue (is_readable p)) (kept_of pages name)) (sym (kept c))
    (c.self.invariant name)

-- a page was kept after those of its message
more : (c : goal.In_ok-push-in-Some) → KeepsPage (seen c.self.inside.by_name.entries)
    (seen (c.get_mut.follows.lender c.push.new.self).entries) c.args.page.now
more c =
    let entries = c.self.inside.by_name.entries in
    keeps_page c.self.inside.by_name.entries (c.get_mut.follows.lender c.push.new.self).entries c.args.page.now
    c.push.new.self
    (λ key.
    ((c.get_mut.follows.holds c.push.new.self).3 (ap is_some (sym c.in-Some.ensures.value))).0 key
    ∙ ap (λ n. cond (same_key (c.args.page.now.id, n) key) (Some c.push.new.self)
    (lookup (same_key key) c.self.inside.by_name.entries)) c.number.ensures)
    (c.in_ok-push-in-Some.ensures.pages ∙ ap (λ kept. kept ++ c.args.page.now ∷ [])
    (ap found_items c.in-Some.ensures.value
    ∙ ap (λ n. found_items (lookup (same_key (c.args.page.now.id, n)) c.self.inside.by_name.entries)) c.number.ensures))

pub returns-in_ok-push-in-Some-clause-pages : goal.returns-in_ok-push-in-Some-clause-pages
returns-in_ok-push-in-Some-clause-pages c =
    subst (λ old. KeepsPage old (seen (c.get_mut.follows.lender c.push.new.self).entries) c.args.page.now)
    c.self.view_is (more c)

pub invariant_of-self-in-Some : goal.invariant_of-self-in-Some
invariant_of-self-in-Some c = readable-more _ _ c.args.page.now (more c) c.requires c.self.invariant

pub push_first-requires-clause-first : goal.push_first-requires-clause-first
push_first-requires-clause-first c =
    ap (λ m. kept_of (seen m.entries) (name_of c.args.page.now)) c.get_mut.follows.holds-at-none
    ∙ kept_is c.self.inside.by_name.entries (name_of c.args.page.now)
    ∙ ap (λ n. found_items (lookup (same_key (c.args.page.now.id, n)) c.self.inside.by_name.entries))
    (sym c.number.ensures)
    ∙ sym (ap found_items c.in-None.ensures.value)
