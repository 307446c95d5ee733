-- A page that came before: the same four blocks again change nothing of what a handset keeps.
use Rattle.std.proofs.Common.{◌≡◌, ℕ, Bool, true, false, eqb, is_some, List, [], ◌∷◌, ◌++◌, find, filter, refl, sym}
use Rattle.std.proofs.Common.{◌∙◌, ap, subst, inl, inr, append-nil, append_assoc, ◌+◌, ◌-◌, length, take, drop, map}
use Rattle.std.proofs.Common.{arith}
use Rattle.std.proofs.Math.Seq.{take-add}
use Rattle.std.specs.Prelude.{◌⊎◌, not}
use Rattle.std.proofs.lemmas.Bool.{cases_Bool, eq-eqb, and_parts, false≢true}
use Rattle.cbs_page.specs.declared.octets.PageView.{PageView}
use Rattle.cbs_page.specs.Page.{view_of, is_readable}
use Rattle.handset.specs.Reception.{Name, name_of, block_type, page_octets, page_types, pages_read, readable_pages}
use Rattle.handset.specs.Reception.{page_in_front, is_of, pages_of, agreeing, agrees_with}
use Rattle.handset.specs.Keeping.{HandsetState, kept_of, AreKept, HasRead, is_numbered}
use Rattle.handset.specs.KeepingSteps.{counts, agrees_with_first, message_ended_read, TakesPage, IsPageAgain}
use Rattle.handset.proofs.Lists.{first_in, first_in-filter}
use Rattle.handset.proofs.BlockLaws.{pages_read-page}
use Rattle.handset.proofs.PageLaws.{is_of-own}
use Rattle.handset.proofs.WholePages.{four, reads_four, TookPage}

-- the page is one of these
abbrev Came : PageView → List PageView → Type 0
Came page [] = ⊥
Came page (p ∷ ps) = (p ≡ page) ⊎ Came page ps

-- where it passes a test, it is one of those that do
came-filter : (test : PageView → Bool) (pages : List PageView) (page : PageView) → test page ≡ true → Came page pages
    → Came page (filter test pages)
came-filter test [] page passes came = came
came-filter test (p ∷ ps) page passes (inl here) =
    let is : test p ≡ true = ap test here ∙ passes in
    rw is (inl here)
came-filter test (p ∷ ps) page passes (inr later) =
    elim (cases_Bool (test p)) [
      | inl is ↦ rw is (inr (came-filter test ps page passes later))
      | inr fails ↦ rw fails (came-filter test ps page passes later)
    ]

-- and one is found that does
came-found : (test : PageView → Bool) (pages : List PageView) (page : PageView) → test page ≡ true → Came page pages
    → is_some (find test pages) ≡ true
came-found test [] page passes came = absurd came
came-found test (p ∷ ps) page passes (inl here) =
    let is : test p ≡ true = ap test here ∙ passes in
    rw is refl
came-found test (p ∷ ps) page passes (inr later) =
    elim (cases_Bool (test p)) [
      | inl is ↦ rw is refl
      | inr fails ↦ rw fails (came-found test ps page passes later)
    ]

-- it is one of more pages
came-append : (front pages : List PageView) (page : PageView) → Came page pages → Came page (front ++ pages)
came-append [] pages page came = came
came-append (p ∷ front) pages page came = inr (came-append front pages page came)

-- a page of the last blocks is one of all
came-read : (front last : List (List ℕ)) (page : PageView) → Came page (pages_read last)
    → Came page (pages_read (front ++ last))
came-read [] last page came = came
came-read (block ∷ front) last page came =
    came-append (page_in_front (block ∷ front ++ last)) (pages_read (front ++ last)) page
    (came-read front last page came)

-- where it agrees with the first, it is one of those that do
came-agreeing : (pages : List PageView) (page : PageView) → agrees_with_first (first_in pages) page ≡ true
    → Came page pages → Came page (agreeing pages)
came-agreeing [] page agrees came = came
came-agreeing (first ∷ rest) page agrees came = came-filter (agrees_with first) (first ∷ rest) page agrees came

-- a page that came doesn't count again
counts-once : (kept pages : List PageView) (page : PageView) → AreKept (name_of page) kept pages → Came page pages
    → counts kept page ≡ false
counts-once kept pages page are came =
    elim (cases_Bool (counts kept page)) [
      | inr left_out ↦ left_out
      | inl counted ↦ absurd (
          let name = name_of page in
          let parts = and_parts (not (is_some (find (is_numbered name page.number) kept)))
          (agrees_with_first (find (is_of name) kept) page) counted in
          let agrees : agrees_with_first (first_in (filter (is_of name) pages)) page ≡ true =
          ap (λ o. agrees_with_first o page) (first_in-filter (is_of name) pages ∙ sym are.first) ∙ parts.1 in
          let found = came-found (λ p. eqb p.number page.number) (pages_of name pages) page
          (eq-eqb page.number page.number refl) (came-agreeing (filter (is_of name) pages) page agrees
          (came-filter (is_of name) pages page (is_of-own page) came)) in
          false≢true (sym (ap (λ o. not (is_some o)) (are.numbered page.number) ∙ ap not found) ∙ parts.0)
          )
    ]

-- a page that was read and came before isn't kept
kept-once : (pages : List (Name × List PageView)) (blocks : List (List ℕ)) (page : PageView)
    → ((name : Name) → AreKept name (kept_of pages name) (readable_pages blocks)) → Came page (pages_read blocks)
    → TakesPage pages pages page
kept-once pages blocks page are came name =
    elim (cases_Bool (is_readable page)) [
      | inl readable ↦
          let once = counts-once (kept_of pages (name_of page)) (readable_pages blocks) page (are (name_of page))
          (came-filter is_readable (pages_read blocks) page readable came) in
          rw (readable, once) refl
      | inr passed ↦ rw passed refl
    ]

-- and makes no message whole
shown-once : (pages : List (Name × List PageView)) (blocks : List (List ℕ)) (page : PageView)
    → ((name : Name) → AreKept name (kept_of pages name) (readable_pages blocks)) → Came page (pages_read blocks)
    → message_ended_read (kept_of pages (name_of page)) page ≡ []
shown-once pages blocks page are came =
    elim (cases_Bool (is_readable page)) [
      | inl readable ↦
          let once = counts-once (kept_of pages (name_of page)) (readable_pages blocks) page (are (name_of page))
          (came-filter is_readable (pages_read blocks) page readable came) in
          rw (readable, once) refl
      | inr passed ↦ rw passed refl
    ]

-- the four blocks of a page right after the same four change nothing of what a handset keeps
pub reads_again : (handset : HandsetState) (front : List (List ℕ)) (first second third last : List ℕ)
    → handset.under_way ≡ [] → block_type first ≡ 0x20 → block_type second ≡ 0x21 → block_type third ≡ 0x22
    → block_type last ≡ 0x33 → HasRead handset (front ++ four first second third last)
    → HasRead handset ((front ++ four first second third last) ++ four first second third last)
reads_again handset front first second third last none one two three end read =
    let blocks = front ++ four first second third last in
    let page = view_of (page_octets (four first second third last)) in
    let once : pages_read (four first second third last) ≡ page ∷ [] =
    pages_read-page first second third last [] one two three end in
    let came : Came page (pages_read blocks) = came-read front (four first second third last) page
    (subst (Came page) (sym once) (inl refl)) in
    let took : TookPage handset handset page = record {
      none = none;
      pages = kept-once handset.pages blocks page read.pages came;
      shown =
          sym (append-nil handset.shown)
          ∙ ap (λ more. handset.shown ++ more) (sym (shown-once handset.pages blocks page read.pages came));
    } in
    reads_four handset handset blocks first second third last none one two three end took read

-- the same of four blocks of which only the types are known
types_again : (handset : HandsetState) (front page : List (List ℕ)) → handset.under_way ≡ []
    → map block_type page ≡ page_types → HasRead handset (front ++ page) → HasRead handset ((front ++ page) ++ page)
types_again handset front (first ∷ second ∷ third ∷ last ∷ []) none types read =
    let is : block_type first ∷ block_type second ∷ block_type third ∷ block_type last ∷ []
    ≡ 0x20 ∷ 0x21 ∷ 0x22 ∷ 0x33 ∷ [] = types in
    reads_again handset front first second third last none (cc) (cc) (cc) (cc) read
types_again handset front [] none types read = absurd (omega (arith, ap length types))
types_again handset front (first ∷ []) none types read = absurd (omega (arith, ap length types))
types_again handset front (first ∷ second ∷ []) none types read = absurd (omega (arith, ap length types))
types_again handset front (first ∷ second ∷ third ∷ []) none types read = absurd (omega (arith, ap length types))
types_again handset front (first ∷ second ∷ third ∷ last ∷ more ∷ rest) none types read =
    absurd (omega (arith, ap length types))

-- the blocks up to a place where the page before it comes again, with that page
pub reads_page_again : (handset : HandsetState) (before blocks : List (List ℕ)) (place : ℕ) → handset.under_way ≡ []
    → IsPageAgain blocks place → HasRead handset (before ++ take place blocks)
    → HasRead handset (before ++ take (place + 4) blocks)
reads_page_again handset before blocks place none again read =
    let page = take 4 (drop place blocks) in
    let front = before ++ take (place - 4) blocks in
    let back : place - 4 + 4 ≡ place = omega (arith, again.behind) in
    let behind : take place blocks ≡ take (place - 4) blocks ++ page =
    ap (λ n. take n blocks) (sym back) ∙ take-add (place - 4) 4 blocks
    ∙ ap (λ l. take (place - 4) blocks ++ l) again.same in
    let read_to : before ++ take place blocks ≡ front ++ page =
    ap (λ l. before ++ l) behind ∙ sym (append_assoc before (take (place - 4) blocks) page) in
    let read_on : before ++ take (place + 4) blocks ≡ (front ++ page) ++ page =
    ap (λ l. before ++ l) (take-add place 4 blocks) ∙ sym (append_assoc before (take place blocks) page)
    ∙ ap (λ l. l ++ page) read_to in
    subst (HasRead handset) (sym read_on)
    (types_again handset front page none again.types (subst (HasRead handset) read_to read))
