-- The pages in the blocks of some pages are these pages, and each says what it was made of.
use Rattle.std.proofs.Common.{◌≡◌, ℕ, ◌+◌, ◌*◌, ◌/◌, ◌%◌, ◌≤◌, List, [], ◌∷◌, length, map, refl}
use Rattle.std.proofs.Common.{ap, ◌∙◌, arith, suc}
use Rattle.std.proofs.lemmas.Bool.{ne_eqb}
use Rattle.std.specs.List.{flat_map, AllByRecursion}
use Rattle.cbs_page.specs.declared.content.Content.{Content}
use Rattle.cbs_page.specs.declared.octets.PageView.{PageView}
use Rattle.cbs_page.specs.Page.{octets_of_page, place_of, view_of}
use Rattle.handset.specs.Reception.{pages_read}
use Rattle.cbch_blocks.specs.Blocks.{blocks_of_page}
use Rattle.short_pages.proofs.ReadLaws.{page_in_front}
use Rattle.warnc_inspect.specs.PageOutput.{page_octets_from}

-- a handset reads of the blocks of pages these pages
pub pages_in_blocks : (pages : List (List ℕ)) → AllByRecursion (λ page. length page ≡ 88) pages →
    pages_read (flat_map blocks_of_page pages) ≡ map view_of pages
pages_in_blocks [] whole = refl
pages_in_blocks (page ∷ pages) whole =
    page_in_front page (flat_map blocks_of_page pages) whole.0
    ∙ ap (λ views. view_of page ∷ views) (pages_in_blocks pages whole.1)

-- what the page of this number says
abbrev pub view : (id serial dcs total number : ℕ) → List ℕ → PageView
view id serial dcs total number content =
    record { serial = serial; id = id; dcs = record { 0 = dcs }; number = number; total = total; content = content }

-- the pages of a message from the page of this number on
abbrev pub views_from : (id serial dcs total number : ℕ) → List Content → List PageView
views_from id serial dcs total number [] = []
views_from id serial dcs total number (content ∷ rest) =
    view id serial dcs total number content.octets ∷ views_from id serial dcs total (number + 1) rest

two_octets : (n : ℕ) → 256 * (n / 256) + n % 256 ≡ n
two_octets n = omega arith

place_back : (number total : ℕ) → 1 ≤ number → 1 ≤ total → total ≤ 15 → place_of (16 * number + total) ≡ (number, total)
place_back number total first some few =
    let high : (16 * number + total) / 16 ≡ number = omega arith in
    let low : (16 * number + total) % 16 ≡ total = omega arith in
    rw (high, low, ne_eqb number 0 (λ e. omega arith), ne_eqb total 0 (λ e. omega arith)) refl

-- the octets of a page are read as it
pub view_back : (id serial dcs total number : ℕ) (content : List ℕ) → 1 ≤ number → 1 ≤ total → total ≤ 15 →
    view_of (octets_of_page id serial dcs number total content) ≡ view id serial dcs total number content
view_back id serial dcs total number content first some few =
    rw (two_octets serial, two_octets id, place_back number total first some few) refl

-- the octets of pages are read as these pages
pub views_back : (id serial dcs total number : ℕ) (contents : List Content) → 1 ≤ number → 1 ≤ total → total ≤ 15 →
    map view_of (page_octets_from id serial dcs total number contents) ≡ views_from id serial dcs total number contents
views_back id serial dcs total number [] first some few = refl
views_back id serial dcs total number (content ∷ rest) first some few =
    ap (λ v. v ∷ map view_of (page_octets_from id serial dcs total (number + 1) rest))
    (view_back id serial dcs total number content.octets first some few)
    ∙ ap (λ vs. view id serial dcs total number content.octets ∷ vs)
    (views_back id serial dcs total (number + 1) rest (omega arith) some few)

-- each page of 82 octets of content has 88
pub pages_are_whole : (id serial dcs total number : ℕ) (contents : List Content)
    → AllByRecursion (λ content. length content.octets ≡ 82) contents →
    AllByRecursion (λ page. length page ≡ 88) (page_octets_from id serial dcs total number contents)
pages_are_whole id serial dcs total number [] whole = tt
pages_are_whole id serial dcs total number (content ∷ rest) whole = (
  ap (λ n. suc (suc (suc (suc (suc (suc n)))))) whole.0,
  pages_are_whole id serial dcs total (number + 1) rest
      whole.1,
)
