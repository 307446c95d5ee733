-- A short page is read once, as a page that says what came.
use Rattle.std.proofs.Common.{◌≡◌, Bool, true, false, cond, ℕ, ◌+◌, ◌*◌, ◌≤◌, Option, Some, None, zero, suc}
use Rattle.std.proofs.Common.{List, [], ◌∷◌, ◌++◌, length, take, drop, refl, ap, sym, subst, ◌∙◌, append-nil, arith}
use Rattle.std.specs.List.{AllByRecursion}
use Rattle.std.specs.Option.{option_map_or}
use Rattle.std.proofs.lemmas.List.{drop-drop, length-append, length-drop, length-take, take-append-drop, take_all}
use Rattle.std.proofs.lemmas.Option.{same_Some}
use Rattle.cbs_page.specs.Page.{view_of}
use Rattle.handset.specs.Reception.{page_octets, pages_read}
use Rattle.cbch_blocks.specs.Blocks.{blocks_of_page}
use Rattle.short_pages.specs.WholePage.{whole_page}
use Rattle.short_pages.specs.Slots.{completed_slot, short_page}
use Rattle.short_pages.specs.Laws.{ShortPagesAreReadOnce}
use Rattle.short_pages.proofs.PageLaws.{length-whole_page, says_what_came}

-- blocks of 23 octets, and the first ones of them
abbrev pub AreBlocks : List (List ℕ) → Type 0
AreBlocks blocks = AllByRecursion (λ block. length block ≡ 23) blocks

first_blocks : (n : ℕ) (blocks : List (List ℕ)) → AreBlocks blocks → AreBlocks (take n blocks)
first_blocks zero blocks sized = tt
first_blocks (suc n) [] sized = tt
first_blocks (suc n) (block ∷ rest) sized = (sized.0, first_blocks n rest sized.1)

-- each carries 22 octets
length-octets : (blocks : List (List ℕ)) → AreBlocks blocks → length (page_octets blocks) ≡ 22 * length blocks
length-octets [] sized = refl
length-octets (block ∷ rest) sized =
    omega (
      arith,
      length-append (drop 1 block) (page_octets rest),
      length-drop 1 block,
      sized.0,
      length-octets rest sized.1,
    )

-- a header and a part of the content
abbrev pub IsPart : List ℕ → Type 0
IsPart octets = (6 ≤ length octets) × (length octets ≤ 88)

part : (n : ℕ) (block : List ℕ) (rest : List (List ℕ)) → AreBlocks (block ∷ rest) → 1 ≤ n → n ≤ 3
    → IsPart (page_octets (take n (block ∷ rest)))
part n block rest sized some few =
    let long : length (page_octets (take n (block ∷ rest))) ≡ 22 * length (take n (block ∷ rest)) =
    length-octets (take n (block ∷ rest)) (first_blocks n (block ∷ rest) sized) in
    let count = length-take n (block ∷ rest) in
    (omega (arith, long, count), omega (arith, long, count))

-- one of three lists of octets
one_of : (first second third : Bool) (p q r octets : List ℕ)
    → cond first (Some p) (cond second (Some q) (cond third (Some r) None)) ≡ Some octets
    → IsPart p → IsPart q → IsPart r → IsPart octets
one_of true second third p q r octets is one two three = subst IsPart (same_Some p octets is) one
one_of false true third p q r octets is one two three = subst IsPart (same_Some q octets is) two
one_of false false true p q r octets is one two three = subst IsPart (same_Some r octets is) three
one_of false false false p q r octets is one two three = cc

-- what came of a short page is that
pub came : (slot : List (List ℕ)) (octets : List ℕ) → AreBlocks slot → short_page slot ≡ Some octets → IsPart octets
came [] octets sized is = cc
came (block ∷ rest) octets sized is =
    one_of _ _ _ (page_octets (take 1 (block ∷ rest))) (page_octets (take 2 (block ∷ rest)))
    (page_octets (take 3 (block ∷ rest))) octets is (part 1 block rest sized (omega arith) (omega arith))
    (part 2 block rest sized (omega arith) (omega arith)) (part 3 block rest sized (omega arith) (omega arith))

quarter : (page : List ℕ) (n : ℕ) → take 22 (drop n page) ++ drop (n + 22) page ≡ drop n page
quarter page n = ap (λ xs. take 22 (drop n page) ++ xs) (sym (drop-drop 22 n page)) ∙ take-append-drop 22 (drop n page)

last_quarter : (page : List ℕ) → length page ≡ 88 → take 22 (drop 66 page) ++ [] ≡ drop 66 page
last_quarter page whole =
    append-nil (take 22 (drop 66 page)) ∙ take_all 22 (drop 66 page) (omega (arith, length-drop 66 page, whole))

-- the four quarters of a page are the page
quarters : (page : List ℕ) → length page ≡ 88 → page_octets (blocks_of_page page) ≡ page
quarters page whole =
    ap (λ xs. take 22 page ++ (take 22 (drop 22 page) ++ (take 22 (drop 44 page) ++ xs))) (last_quarter page whole)
    ∙ ap (λ xs. take 22 page ++ (take 22 (drop 22 page) ++ xs)) (quarter page 44)
    ∙ ap (λ xs. take 22 page ++ xs) (quarter page 22)
    ∙ quarter page 0

-- a page's four blocks are one page, and no page stands among them
pub page_in_front : (page : List ℕ) (rest : List (List ℕ)) → length page ≡ 88
    → pages_read (blocks_of_page page ++ rest) ≡ view_of page ∷ pages_read rest
page_in_front page rest whole = ap (λ octets. view_of octets ∷ pages_read rest) (quarters page whole)

-- so a short page is read once, as that page
pub short_pages_are_read_once : ShortPagesAreReadOnce
short_pages_are_read_once slot octets sized is =
    let is_part : IsPart octets = came slot octets sized is in
    let whole : length (whole_page octets) ≡ 88 = length-whole_page octets is_part.0 is_part.1 in
    let blocks : completed_slot slot ≡ blocks_of_page (whole_page octets) =
    ap (λ (o : Option (List ℕ)). option_map_or (λ os. blocks_of_page (whole_page os)) o slot) is in
    record {
      page = view_of (whole_page octets);
      once = λ rest. ap (λ four. pages_read (four ++ rest)) blocks ∙ page_in_front (whole_page octets) rest whole;
      says = says_what_came octets is_part.0;
    }
