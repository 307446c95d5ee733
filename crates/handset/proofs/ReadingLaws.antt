-- One more block: what a handset keeps stands for the longer list of blocks, and what that shows more.
use Rattle.std.proofs.Common.{◌≡◌, ◌≢◌, ℕ, ◌/◌, ◌%◌, ◌≤◌, Bool, true, false, cond, eqb, leb, List, [], ◌∷◌, ◌++◌}
use Rattle.std.proofs.Common.{filter, length, slice_index, is_some, refl, sym, ◌∙◌, ap, arith, inl, inr, append-nil}
use Rattle.std.proofs.Common.{append_assoc}
use Rattle.std.specs.Prelude.{◌&&◌, ◌||◌}
use Rattle.std.proofs.lemmas.Bool.{cases_Bool, eqb-false, leb-true, and_parts, or_parts}
use Rattle.std.proofs.lemmas.List.Elements.{filter-append}
use Rattle.cbs_page.specs.declared.octets.PageView.{PageView}
use Rattle.cbs_page.specs.Page.{view_of, place_of, is_readable}
use Rattle.cbs_page.specs.Coding.{alphabet_of}
use Rattle.handset.specs.Reception.{Name, name_of, block_type, page_octets, pages_read, readable_pages, completed_by}
use Rattle.handset.specs.Reception.{completed_after, shown_in}
use Rattle.handset.specs.Keeping.{HandsetState, kept_of, AreKept, IsUnderWay, HasRead}
use Rattle.handset.specs.KeepingSteps.{under_way_with, page_ended, pages_with_read, TakesPage, message_ended_read}
use Rattle.handset.proofs.BlockLaws.{begins_none, ends_none, under_way-more, pages-more}
use Rattle.handset.proofs.PageLaws.{kept-more, completed-more}

-- the messages that a list of pages completes are those of its front, and then those of its rest
pub completed_after-append : (before pages more : List PageView) →
    completed_after before (pages ++ more) ≡ completed_after before pages ++ completed_after (before ++ pages) more
completed_after-append before [] more = ap (λ all. completed_after all more) (sym (append-nil before))
completed_after-append before (page ∷ pages) more =
    ap (λ rest. completed_by before page ++ rest)
    (completed_after-append (before ++ page ∷ []) pages more
    ∙ ap (λ all. completed_after (before ++ page ∷ []) pages ++ completed_after all more)
    (append_assoc before (page ∷ []) pages))
    ∙ sym (append_assoc (completed_by before page) (completed_after (before ++ page ∷ []) pages)
    (completed_after (before ++ page ∷ pages) more))

-- the number of a page that is read is at least 1
place-from_one : (parameter : ℕ) → 1 ≤ (place_of parameter).0
place-from_one parameter =
    elim (cases_Bool (eqb (parameter / 16) 0 || eqb (parameter % 16) 0)) [
      | inl unset ↦ rw unset (omega arith)
      | inr set ↦
          let some = eqb-false (parameter / 16) 0 (or_parts (eqb (parameter / 16) 0) (eqb (parameter % 16) 0) set).0 in
          rw set (omega (arith, some))
    ]

number-from_one : (kept : List (List ℕ)) (block : List ℕ) (page : PageView) → page ∷ [] ≡ page_ended kept block →
    1 ≤ page.number
number-from_one kept block page ended =
    by_test ((eqb (block_type block) 0x33) && (eqb (length kept) 3))
    (view_of (page_octets (kept ++ block ∷ []))) refl ended
  where
    by_test : (ends : Bool) (view : PageView) → view ≡ view_of (page_octets (kept ++ block ∷ [])) →
        page ∷ [] ≡ cond ends (view ∷ []) [] → 1 ≤ page.number
    by_test true view is here =
        let same : page ≡ view_of (page_octets (kept ++ block ∷ [])) = cc in
        rw same (place-from_one (slice_index (page_octets (kept ++ block ∷ [])) 5))
    by_test false view is here = absurd (cc)

-- the pages that can be shown, and the messages, of the blocks with one more
readable-more : (kept blocks : List (List ℕ)) (block : List ℕ) → IsUnderWay kept blocks →
    readable_pages (blocks ++ block ∷ []) ≡ readable_pages blocks ++ filter is_readable (page_ended kept block)
readable-more kept blocks block is =
    ap (filter is_readable) (pages-more kept blocks block is)
    ∙ filter-append is_readable (pages_read blocks) (page_ended kept block)

shown-more : (kept blocks : List (List ℕ)) (block : List ℕ) → IsUnderWay kept blocks →
    shown_in (blocks ++ block ∷ []) ≡ shown_in blocks ++ completed_after (readable_pages blocks)
    (filter is_readable (page_ended kept block))
shown-more kept blocks block is =
    ap (completed_after []) (readable-more kept blocks block is)
    ∙ completed_after-append [] (readable_pages blocks) (filter is_readable (page_ended kept block))

-- a page that was read, with the pages that are kept and with all that can be shown
kept-read : (kept : Name → List PageView) (pages : List PageView) (page : PageView) →
    ((name : Name) → AreKept name (kept name) pages) →
    (name : Name) → AreKept name (pages_with_read kept page name) (pages ++ filter is_readable (page ∷ []))
kept-read kept pages page are name =
    elim (cases_Bool (is_readable page)) [
      | inl readable ↦ rw readable (kept-more kept pages page are name)
      | inr passed ↦ rw (passed, append-nil pages) (are name)
    ]

completed-read : (kept pages : List PageView) (page : PageView) → AreKept (name_of page) kept pages → 1 ≤ page.number →
    completed_after pages (filter is_readable (page ∷ [])) ≡ message_ended_read kept page
completed-read kept pages page are low =
    elim (cases_Bool (is_readable page)) [
      | inl readable ↦
          let high : page.number ≤ page.total =
          leb-true page.number page.total
          (and_parts (is_some (alphabet_of page.dcs.0)) (leb page.number page.total) readable).1 in
          rw readable (append-nil (completed_by pages page) ∙ completed-more kept pages page are low high)
      | inr passed ↦ rw passed refl
    ]

-- a block that makes no page whole
pub shows_none : (handset : HandsetState) (blocks : List (List ℕ)) (block : List ℕ) →
    [] ≡ page_ended handset.under_way block →
    HasRead handset blocks → shown_in (blocks ++ block ∷ []) ≡ shown_in blocks
shows_none handset blocks block none read =
    shown-more handset.under_way blocks block read.under_way
    ∙ ap (λ pages. shown_in blocks ++ completed_after (readable_pages blocks) (filter is_readable pages)) (sym none)
    ∙ append-nil (shown_in blocks)

-- a block that ends no page shows nothing
pub reads_none : (handset after : HandsetState) (blocks : List (List ℕ)) (block : List ℕ) →
    [] ≡ page_ended handset.under_way block →
    after.under_way ≡ under_way_with handset.under_way block → after.pages ≡ handset.pages →
    after.shown ≡ handset.shown →
    HasRead handset blocks → HasRead after (blocks ++ block ∷ [])
reads_none handset after blocks block none under_way pages shown read =
    let same : readable_pages (blocks ++ block ∷ []) ≡ readable_pages blocks =
    readable-more handset.under_way blocks block read.under_way
    ∙ ap (λ ps. readable_pages blocks ++ filter is_readable ps) (sym none) ∙ append-nil (readable_pages blocks) in
    record {
      under_way = rw under_way (under_way-more handset.under_way blocks block read.under_way);
      pages = rw (pages, same) read.pages;
      shown = shown ∙ read.shown ∙ sym (shows_none handset blocks block none read);
    }

-- a block that begins no page, where none is under way: what is kept stays as it is
pub reads_other : (handset : HandsetState) (blocks : List (List ℕ)) (block : List ℕ) → handset.under_way ≡ [] →
    block_type block ≢ 0x20 → HasRead handset blocks → HasRead handset (blocks ++ block ∷ [])
reads_other handset blocks block none other read =
    reads_none handset handset blocks block (ends_none block ∙ ap (λ kept. page_ended kept block) (sym none))
    (none ∙ begins_none block other ∙ ap (λ kept. under_way_with kept block) (sym none)) refl refl read

-- a block that makes a page whole
pub shows_page : (handset : HandsetState) (blocks : List (List ℕ)) (block : List ℕ) (page : PageView) →
    page ∷ [] ≡ page_ended handset.under_way block →
    HasRead handset blocks → shown_in (blocks ++ block ∷ []) ≡ shown_in blocks ++ message_ended_read
    (kept_of handset.pages (name_of page)) page
shows_page handset blocks block page ended read =
    shown-more handset.under_way blocks block read.under_way
    ∙ ap (λ pages. shown_in blocks ++ completed_after (readable_pages blocks) (filter is_readable pages)) (sym ended)
    ∙ ap (λ messages. shown_in blocks ++ messages)
    (completed-read (kept_of handset.pages (name_of page)) (readable_pages blocks) page (read.pages (name_of page))
    (number-from_one handset.under_way block page ended))

-- a block that ends a page shows what the page makes complete
pub reads_page : (handset after : HandsetState) (blocks : List (List ℕ)) (block : List ℕ) (page : PageView) →
    page ∷ [] ≡ page_ended handset.under_way block →
    after.under_way ≡ under_way_with handset.under_way block → TakesPage handset.pages after.pages page →
    after.shown ≡ handset.shown ++ message_ended_read (kept_of handset.pages (name_of page)) page →
    HasRead handset blocks → HasRead after (blocks ++ block ∷ [])
reads_page handset after blocks block page ended under_way pages shown read =
    let more : readable_pages (blocks ++ block ∷ []) ≡ readable_pages blocks ++ filter is_readable (page ∷ []) =
    readable-more handset.under_way blocks block read.under_way
    ∙ ap (λ ps. readable_pages blocks ++ filter is_readable ps) (sym ended) in
    record {
      under_way = rw under_way (under_way-more handset.under_way blocks block read.under_way);
      pages =
          λ name.
          rw (pages name, more) (kept-read (kept_of handset.pages) (readable_pages blocks) page read.pages name);
      shown = shown ∙ ap (λ messages. messages ++ message_ended_read (kept_of handset.pages (name_of page)) page)
          read.shown ∙ sym (shows_page handset blocks block page ended read);
    }
