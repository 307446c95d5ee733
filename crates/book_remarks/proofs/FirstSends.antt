-- The first slot that airs a page, and whether one from a slot on does.
use Rattle.std.proofs.Common.{◌≡◌, ◌≤◌, ◌<◌, ◌+◌, ◌∙◌, ℕ, zero, suc, Bool, true, false, cond, Option, Some, None, List}
use Rattle.std.proofs.Common.{[], ◌∷◌, drop, length, refl, sym, ap, arith}
use Rattle.std.specs.Prelude.{◌||◌, slice_get, slice_index_or}
use Rattle.std.specs.List.{list_any}
use Rattle.std.specs.Option.{option_map_or}
use Rattle.std.proofs.lemmas.Option.{slice_get_within}
use Rattle.scheduler.specs.Air.{Air}
use Rattle.scheduler.specs.Pages.{airs_page}
use Rattle.bsc_table.specs.declared.entry.Entry.{Entry}
use Rattle.report.specs.LastPages.{first_airing, first_last_page, page_count_of}
use Rattle.book_remarks.specs.MarkSteps.{IsFirstOf}

-- the first slot that airs a page, by whether the first of these slots does
by-first : (used : Option (ℕ × ℕ)) (air : Air) (entry page from : ℕ) (airs : Bool) → airs_page entry page used ≡ airs
    → first_airing entry page (used ∷ air) from ≡ cond airs (Some from) (first_airing entry page air (from + 1))
by-first used air entry page from airs is =
    ap (λ (b : Bool). cond b (Some from) (first_airing entry page air (from + 1))) is

any-by : (used : Option (ℕ × ℕ)) (air : Air) (entry page : ℕ) (airs : Bool) → airs_page entry page used ≡ airs
    → list_any (airs_page entry page) (used ∷ air) ≡ airs || list_any (airs_page entry page) air
any-by used air entry page airs is = ap (λ (b : Bool). b || list_any (airs_page entry page) air) is

-- if there is none, no slot airs it
none-anywhere : (air : Air) (entry page from : ℕ) → first_airing entry page air from ≡ None
    → list_any (airs_page entry page) air ≡ false
none-anywhere [] entry page from none = refl
none-anywhere (used ∷ air) entry page from none =
    by_test (airs_page entry page used) refl (none-anywhere air entry page (from + 1))
  where
    by_test : (airs : Bool) → airs_page entry page used ≡ airs
        → (first_airing entry page air (from + 1) ≡ None → list_any (airs_page entry page) air ≡ false)
        → list_any (airs_page entry page) (used ∷ air) ≡ false
    by_test true is later =
        let some : Some from ≡ None = sym (by-first used air entry page from true is) ∙ none in absurd cc
    by_test false is later =
        any-by used air entry page false is ∙ later (sym (by-first used air entry page from false is) ∙ none)

or-false : (b c : Bool) → b || c ≡ false → c ≡ false
or-false true c is = absurd cc
or-false false c is = is

any-dropped : {X : Type 0} (test : X → Bool) (xs : List X) (slot : ℕ) → list_any test xs ≡ false
    → list_any test (drop slot xs) ≡ false
any-dropped test xs zero none = none
any-dropped test [] (suc slot) none = refl
any-dropped test (x ∷ xs) (suc slot) none = any-dropped test xs slot (or-false (test x) (list_any test xs) none)

-- nor one from a slot on
pub none-from : (air : Air) (slot entry page : ℕ) → first_airing entry page air 0 ≡ None
    → list_any (airs_page entry page) (drop slot air) ≡ false
none-from air slot entry page none =
    any-dropped (airs_page entry page) air slot (none-anywhere air entry page 0 none)

-- if there is one, some slot airs it, also from a slot on that isn't past it
some-anywhere : (air : Air) (entry page from first : ℕ) → first_airing entry page air from ≡ Some first
    → list_any (airs_page entry page) air ≡ true
some-anywhere [] entry page from first some = absurd cc
some-anywhere (used ∷ air) entry page from first some =
    by_test (airs_page entry page used) refl (some-anywhere air entry page (from + 1) first)
  where
    by_test : (airs : Bool) → airs_page entry page used ≡ airs
        → (first_airing entry page air (from + 1) ≡ Some first → list_any (airs_page entry page) air ≡ true)
        → list_any (airs_page entry page) (used ∷ air) ≡ true
    by_test true is later = any-by used air entry page true is
    by_test false is later =
        any-by used air entry page false is ∙ later (sym (by-first used air entry page from false is) ∙ some)

some-is : (a b : ℕ) → Some a ≡ Some b → a ≡ b
some-is a b same = cc

some-from-later : (air : Air) (slot entry page from first : ℕ) → first_airing entry page air from ≡ Some first
    → from + slot ≤ first → list_any (airs_page entry page) (drop slot air) ≡ true
some-from-later air zero entry page from first some late = some-anywhere air entry page from first some
some-from-later [] (suc slot) entry page from first some late = absurd cc
some-from-later (used ∷ air) (suc slot) entry page from first some late =
    by_test (airs_page entry page used) refl (some-from-later air slot entry page (from + 1) first)
  where
    by_test : (airs : Bool) → airs_page entry page used ≡ airs
        → (first_airing entry page air (from + 1) ≡ Some first → from + 1 + slot ≤ first
        → list_any (airs_page entry page) (drop slot air) ≡ true)
        → list_any (airs_page entry page) (drop slot air) ≡ true
    by_test true is later =
        let same : Some from ≡ Some first = sym (by-first used air entry page from true is) ∙ some in
        let here : from ≡ first = some-is from first same in
        absurd (omega (arith, late, here))
    by_test false is later =
        later (sym (by-first used air entry page from false is) ∙ some) (omega (arith, late))

-- as that of a run is, whose slots are numbered from 0
pub some-from : (air : Air) (slot entry page first : ℕ) → first_airing entry page air 0 ≡ Some first
    → slot ≤ first → list_any (airs_page entry page) (drop slot air) ≡ true
some-from air slot entry page first some late = some-from-later air slot entry page 0 first some (omega (arith, late))

-- the first slot that airs the last page of the next entry of a log stands at the entry's place
pub first-of-next : (log : List Entry) (air : Air) (firsts : List (Option ℕ)) (place : ℕ)
    → ((p : ℕ) → p < length log → slice_index_or firsts p None ≡ first_last_page log air p)
    → IsFirstOf air place (slice_get log place) (slice_index_or firsts place None)
first-of-next log air firsts place each = by_entry (slice_get log place) refl
  where
    by_entry : (next : Option Entry) → slice_get log place ≡ next
        → IsFirstOf air place next (slice_index_or firsts place None)
    by_entry None is = tt
    by_entry (Some e) is =
        each place (slice_get_within log place e is)
        ∙ ap (λ (found : Option Entry).
        first_airing place (option_map_or (λ (one : Entry). page_count_of one.command) found 0) air 0) is
