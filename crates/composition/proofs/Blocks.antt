-- The pages in the blocks of slots are those that the slots send, in order.
use Rattle.std.proofs.Common.{◌≡◌, ℕ, zero, suc, ◌+◌, ◌*◌, ◌/◌, ◌%◌, ◌≤◌, true, Option, Some, None, List, [], ◌∷◌, ◌++◌}
use Rattle.std.proofs.Common.{length, take, drop, filter, refl, sym, ap, ◌∙◌, append-nil, arith}
use Rattle.std.specs.Prelude.{⊤}
use Rattle.std.specs.Option.{option_to_list}
use Rattle.std.proofs.lemmas.Bool.{ne_eqb}
use Rattle.std.proofs.lemmas.List.{take-append-drop, take_all, length-drop, drop-drop}
use Rattle.std.specs.List.{flat_map, AllByRecursion}
use Rattle.cbs_page.specs.declared.octets.PageView.{PageView}
use Rattle.cbs_page.specs.Page.{place_of, view_of, is_readable}
use Rattle.handset.specs.Reception.{page_octets, pages_read, readable_pages}
use Rattle.cbch_blocks.specs.Blocks.{blocks_of_page}
use Rattle.cbch_blocks.specs.RecordBlocks.{octets_of_view, blocks_of_slot}

quarter : (page : List ℕ) (n : ℕ) → take 22 (drop n page) ++ drop (n + 22) page ≡ drop n page
quarter page n = ap (λ xs. take 22 (drop n page) ++ xs) (sym (drop-drop 22 n page)) ∙ take-append-drop 22 (drop n page)

last_quarter : (page : List ℕ) → length page ≡ 88 → take 22 (drop 66 page) ++ [] ≡ drop 66 page
last_quarter page whole =
    append-nil (take 22 (drop 66 page)) ∙ take_all 22 (drop 66 page) (omega (arith, length-drop 66 page, whole))

-- the four quarters of a page are the page
quarters : (page : List ℕ) → length page ≡ 88 → page_octets (blocks_of_page page) ≡ page
quarters page whole =
    ap (λ xs. take 22 page ++ (take 22 (drop 22 page) ++ (take 22 (drop 44 page) ++ xs))) (last_quarter page whole)
    ∙ ap (λ xs. take 22 page ++ (take 22 (drop 22 page) ++ xs)) (quarter page 44)
    ∙ ap (λ xs. take 22 page ++ xs) (quarter page 22)
    ∙ quarter page 0

two_octets : (n : ℕ) → 256 * (n / 256) + n % 256 ≡ n
two_octets n = omega arith

place_back : (number total : ℕ) → 1 ≤ number → 1 ≤ total → total ≤ 15 → place_of (16 * number + total) ≡ (number, total)
place_back number total first some few =
    let high : (16 * number + total) / 16 ≡ number = omega arith in
    let low : (16 * number + total) % 16 ≡ total = omega arith in
    rw (high, low, ne_eqb number 0 (λ e. omega arith), ne_eqb total 0 (λ e. omega arith)) refl

-- a page that can be sent, and read again
pub record IsSendable (page : PageView) : Type 0 where
  pub first : 1 ≤ page.number
  pub some : 1 ≤ page.total
  pub few : page.total ≤ 15
  pub full : length page.content ≡ 82
  pub readable : is_readable page ≡ true

view_back : (page : PageView) → IsSendable page → view_of (octets_of_view page) ≡ page
view_back page is = rw (
  two_octets page.serial,
  two_octets page.id,
  place_back page.number page.total is.first is.some
      is.few,
) refl

-- a page has 88 octets
pub octets_long : (page : PageView) → IsSendable page → length (octets_of_view page) ≡ 88
octets_long page is = ap (λ n. suc (suc (suc (suc (suc (suc n)))))) is.full

-- a slot that sends a page that can be sent, or none
abbrev pub CanSend : Option PageView → Type 0
CanSend None = ⊤
CanSend (Some page) = IsSendable page

-- the pages that are read of the blocks of slots are those of the slots
pub pages_of_slots : (slots : List (Option PageView)) → AllByRecursion CanSend slots
    → pages_read (flat_map blocks_of_slot slots) ≡ flat_map option_to_list slots
pages_of_slots [] all = refl
pages_of_slots (None ∷ slots) all = pages_of_slots slots all.1
pages_of_slots (Some page ∷ slots) all =
    ap (λ octets. view_of octets ∷ pages_read (flat_map blocks_of_slot slots))
    (quarters (octets_of_view page) (octets_long page all.0))
    ∙ ap (λ view. view ∷ pages_read (flat_map blocks_of_slot slots)) (view_back page all.0)
    ∙ ap (λ views. page ∷ views) (pages_of_slots slots all.1)

-- each page that can be sent can be read
pub all_readable : (slots : List (Option PageView)) → AllByRecursion CanSend slots
    → filter is_readable (flat_map option_to_list slots) ≡ flat_map option_to_list slots
all_readable [] all = refl
all_readable (None ∷ slots) all = all_readable slots all.1
all_readable (Some page ∷ slots) all = rw (all.0.readable) (ap (λ views. page ∷ views) (all_readable slots all.1))

-- so the readable pages of the blocks are those of the slots
pub readable_of_slots : (slots : List (Option PageView)) → AllByRecursion CanSend slots
    → readable_pages (flat_map blocks_of_slot slots) ≡ flat_map option_to_list slots
readable_of_slots slots all = ap (filter is_readable) (pages_of_slots slots all) ∙ all_readable slots all

-- four blocks are a slot
slot_in_front : (n : ℕ) (slot : Option PageView) (rest : List (List ℕ))
    → take (4 * suc n) (blocks_of_slot slot ++ rest) ≡ blocks_of_slot slot ++ take (4 * n) rest
slot_in_front n None rest = let e : 4 * suc n ≡ suc (suc (suc (suc (4 * n)))) = omega arith in ap
    (λ k. take k (blocks_of_slot None ++ rest)) e
slot_in_front n (Some page) rest = let e : 4 * suc n ≡ suc (suc (suc (suc (4 * n)))) = omega arith in ap
    (λ k. take k (blocks_of_slot (Some page) ++ rest)) e

none_taken : {X : Type 0} (n : ℕ) (xs : List X) → xs ≡ [] → take n xs ≡ []
none_taken zero xs e = refl
none_taken (suc n) [] e = refl
none_taken (suc n) (x ∷ xs) e = absurd (cc)

-- the first slots have the first blocks, four each
pub first_slots : (n : ℕ) (slots : List (Option PageView)) → take (4 * n) (flat_map blocks_of_slot slots) ≡ flat_map
    blocks_of_slot (take n slots)
first_slots zero slots = refl
first_slots (suc n) [] = none_taken (4 * suc n) [] refl
first_slots (suc n) (slot ∷ slots) =
    slot_in_front n slot (flat_map blocks_of_slot slots) ∙ ap (λ rest. blocks_of_slot slot ++ rest)
    (first_slots n slots)
