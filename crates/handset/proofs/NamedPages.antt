-- Pages that are stored by the name of their message: what is found of a name, before and after one more page.
use Rattle.std.proofs.Common.{◌≡◌, ℕ, Bool, true, false, cond, eqb, Option, Some, List, [], ◌∷◌, ◌++◌, map}
use Rattle.std.proofs.Common.{All, IsTrue, Result, Ok, Err, IfOk, OnErr, refl, sym, ◌∙◌, ap, subst, inl, inr}
use Rattle.std.specs.Prelude.{◌&&◌}
use Rattle.std.specs.Map.{lookup, set_value}
use Rattle.std.specs.Option.{option_map_or, unwrap_or}
use Rattle.std.proofs.lemmas.Bool.{cases_Bool}
use Rattle.std.proofs.lemmas.Option.{same_Some}
use Rattle.std.proofs.lemmas.List.Elements.{All-push}
use Rattle.cbs_page.specs.declared.octets.PageView.{PageView}
use Rattle.cbs_page.specs.Page.{is_readable}
use Rattle.handset.specs.Reception.{Name, name_of, is_of}
use Rattle.handset.specs.Keeping.{same_name, kept_of}
use Rattle.handset.specs.KeepingSteps.{name_at, pages_in, KeepsPage}
use Rattle.handset.specs.declared.pages.Kept.{Kept}
use Rattle.handset.specs.declared.pages.Kept.TheVariants as kept
use Rattle.handset.proofs.PageLaws.{name_is}

-- the entries of the map, and what a contract sees of them
abbrev pub Stored : Type 0
Stored = List ((ℕ × ℕ) × Kept)

-- the pages that are kept, by the names of their messages
abbrev pub seen : Stored → List (Name × List PageView)
seen entries = map (λ entry. (name_at entry.0, pages_in entry.1)) entries

-- two keys are the same
abbrev pub same_key : ℕ × ℕ → ℕ × ℕ → Bool
same_key a b = eqb a.0 b.0 && eqb a.1 b.1

-- the pages that were found, if any
abbrev pub found_items : Option Kept → List PageView
found_items found = option_map_or pages_in found []

-- what is kept of a name is what is found at its key
pub kept_is : (entries : Stored) (name : Name) →
    kept_of (seen entries) name ≡ found_items (lookup (same_key (name.id, name.serial)) entries)
kept_is [] name = refl
kept_is (entry ∷ entries) name =
    by_test (same_name name (name_at entry.0)) entry.1 (lookup (same_name name) (seen entries))
    (lookup (same_key (name.id, name.serial)) entries) (kept_is entries name)
  where
    by_test : (here : Bool) (pages : Kept) (later : Option (List PageView)) (found : Option Kept) →
        unwrap_or later [] ≡ found_items found →
        unwrap_or (cond here (Some (pages_in pages)) later) [] ≡ found_items (cond here (Some pages) found)
    by_test true pages later found rest = refl
    by_test false pages later found rest = rest

-- where the map has new pages at a page's key, and these are the old ones and the page, the page was kept
pub keeps_page : (old new : Stored) (page : PageView) (pages : Kept) →
    ((key : ℕ × ℕ) →
    lookup (same_key key) new ≡ cond (same_key (page.id, page.serial) key) (Some pages) (lookup (same_key key) old)) →
    pages_in pages ≡ found_items (lookup (same_key (page.id, page.serial)) old) ++ page ∷ [] →
    KeepsPage (seen old) (seen new) page
keeps_page old new page pages updated items name =
    kept_is new name ∙ ap found_items (updated (name.id, name.serial)) ∙ elim (cases_Bool (is_of name page)) [
      | inl own ↦
          rw own (items ∙ ap (λ kept. kept ++ page ∷ [])
          (sym (kept_is old (name_of page)) ∙ ap (kept_of (seen old)) (sym (name_is name page own))))
      | inr other ↦ rw other (sym (kept_is old name))
    ]

-- so it was, where it is the first one and the map has it alone at its key
pub keeps_first : (old new : Stored) (page : PageView) (serial : ℕ) → serial ≡ page.serial →
    kept_of (seen old) (name_of page) ≡ [] →
    ((key : ℕ × ℕ) →
    lookup (same_key key) new ≡ cond (same_key (page.id, serial) key) (Some (kept.One page))
    (lookup (same_key key) old)) →
    KeepsPage (seen old) (seen new) page
keeps_first old new page serial is none updated =
    keeps_page old new page (kept.One page)
    (λ key.
    updated key
    ∙ ap (λ n. cond (same_key (page.id, n) key) (Some (kept.One page)) (lookup (same_key key) old)) is)
    (ap (λ pages. pages ++ page ∷ []) (sym none ∙ kept_is old (name_of page)))

-- where pages at a key are the same as before, a contract sees nothing new
pub seen-same : (test : ℕ × ℕ → Bool) (entries : Stored) (pages old : Kept) →
    lookup test entries ≡ Some old → pages_in pages ≡ pages_in old → seen (set_value test entries pages) ≡ seen entries
seen-same test [] pages old found same = refl
seen-same test (entry ∷ entries) pages old found same = by_test (test entry.0) (seen-same test entries pages old) found
  where
    by_test : (here : Bool) → (lookup test entries ≡ Some old → pages_in pages ≡ pages_in old →
        seen (set_value test entries pages) ≡ seen entries) →
        cond here (Some entry.1) (lookup test entries) ≡ Some old →
        seen (cond here ((entry.0, pages) ∷ entries) (entry ∷ set_value test entries pages)) ≡ seen (entry ∷ entries)
    by_test true rest is =
        ap (λ items. (name_at entry.0, items) ∷ seen entries)
        (same ∙ ap pages_in (sym (same_Some entry.1 old is)))
    by_test false rest is = ap (λ more. (name_at entry.0, pages_in entry.1) ∷ more) (rest is same)

-- pages that can be shown stay such with one more that can
pub readable-more : (old new : List (Name × List PageView)) (page : PageView) → KeepsPage old new page →
    IsTrue (is_readable page) → ((name : Name) → All (λ p. IsTrue (is_readable p)) (kept_of old name)) →
    (name : Name) → All (λ p. IsTrue (is_readable p)) (kept_of new name)
readable-more old new page keeps one all name =
    subst (All (λ (p : PageView). IsTrue (is_readable p))) (sym (keeps name)) (by_test (is_of name page))
  where
    by_test : (own : Bool) → All (λ p. IsTrue (is_readable p))
        (cond own (kept_of old name ++ page ∷ []) (kept_of old name))
    by_test true = All-push (λ p. IsTrue (is_readable p)) (kept_of old name) page (all name) one
    by_test false = all name

-- what holds of any result holds of an error, and what follows of what is so of a value is so of it
pub on_err : {X E : Type 0} (r : Result X E) (P : Type 0) → P → OnErr r P
on_err (Ok x) P p = tt
on_err (Err e) P p = p

-- what is so of a result is so of it in a weaker form
pub if_ok : {X E : Type 0} (r : Result X E) (P Q : X → Type 0) → ((x : X) → P x → Q x) → IfOk r P → IfOk r Q
if_ok (Ok x) P Q f p = f x p
if_ok (Err e) P Q f p = tt
