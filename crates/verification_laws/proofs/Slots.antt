-- The pages that the blocks of slots send, each with its slot.
use Rattle.std.proofs.Common.{◌≡◌, ℕ, zero, suc, ◌+◌, ◌*◌, ◌/◌, ◌<◌, Bool, true, false, Option, Some, None, List}
use Rattle.std.proofs.Common.{[]}
use Rattle.std.proofs.Common.{◌∷◌, ◌++◌, length, map, get_or, refl, sym, ap, subst, ◌∙◌, arith}
use Rattle.std.specs.Prelude.{◌||◌}
use Rattle.std.specs.Option.{option_to_list}
use Rattle.std.specs.List.{flat_map, AllByRecursion, list_any}
use Rattle.std.proofs.lemmas.List.Folds.{list_any-append}
use Rattle.cbs_page.specs.declared.octets.PageView.{PageView}
use Rattle.cbs_page.specs.Page.{view_of}
use Rattle.handset.specs.Reception.{page_octets}
use Rattle.scheduler.specs.Air.{Air}
use Rattle.bsc_table.specs.declared.entry.Entry.{Entry}
use Rattle.cbch_blocks.specs.Blocks.{blocks_of_page}
use Rattle.cbch_blocks.specs.RecordBlocks.{blocks_of_slot, octets_of_view, page_aired}
use Rattle.composition.proofs.Blocks.{CanSend, IsSendable, pages_of_slots}
use Rattle.composition.proofs.Aired.{IsAired, IsAiredAs}
use Rattle.verification.specs.declared.sent.SentPage.{SentPage}
use Rattle.verification.specs.Sent.{sent_at, sent_from}

-- the pages of slots, from this one on
abbrev pub in_slot : ℕ → PageView → SentPage
in_slot n page = record { slot = n; page = page }

-- the pages of slots, each with the number of its slot
abbrev pub in_slots : ℕ → List (Option PageView) → List SentPage
in_slots n [] = []
in_slots n (slot ∷ slots) = map (in_slot n) (option_to_list slot) ++ in_slots (n + 1) slots

one_page : (page : PageView) → IsSendable page →
    view_of (page_octets (blocks_of_page (octets_of_view page))) ∷ [] ≡ page ∷ []
one_page page is = pages_of_slots (Some page ∷ []) (is, tt)

next_slot : (n : ℕ) → 4 * n + 1 + 1 + 1 + 1 ≡ 4 * (n + 1)
next_slot n = omega arith

own_slot : (n : ℕ) → 4 * n / 4 ≡ n
own_slot n = omega arith

-- the pages that are read of the blocks of slots, each at its slot
pub sent_of_slots : (n : ℕ) (slots : List (Option PageView)) → AllByRecursion CanSend slots →
    sent_from (4 * n) (flat_map blocks_of_slot slots) ≡ in_slots n slots
sent_of_slots n [] all = refl
sent_of_slots n (None ∷ slots) all =
    ap (λ place. sent_from place (flat_map blocks_of_slot slots)) (next_slot n) ∙ sent_of_slots (n + 1) slots all.1
sent_of_slots n (Some page ∷ slots) all =
    ap (λ views. map (sent_at (4 * n)) views
    ++ sent_from (4 * n + 1 + 1 + 1 + 1) (flat_map blocks_of_slot slots)) (one_page page all.0)
    ∙ ap (λ k. in_slot k page ∷ sent_from (4 * n + 1 + 1 + 1 + 1) (flat_map blocks_of_slot slots)) (own_slot n)
    ∙ ap (λ place. in_slot n page ∷ sent_from place (flat_map blocks_of_slot slots)) (next_slot n)
    ∙ ap (λ pages. in_slot n page ∷ pages) (sent_of_slots (n + 1) slots all.1)

-- a page that was sent is one that the cell aired in its slot
pub record IsOwn (log : List Entry) (air : Air) (s : SentPage) : Type 0 where
  pub used : ℕ × ℕ
  pub within : s.slot < length air
  pub in_air : get_or air s.slot None ≡ Some used
  pub how : IsAiredAs log used
  pub page_is : how.page ≡ s.page

-- uses are those of the air from a slot on
abbrev pub StandAt : Air → ℕ → Air → Type 0
StandAt air n uses =
    (i : ℕ) → i < length uses → (n + i < length air) × (get_or air (n + i) None ≡ get_or uses i None)

stand-next : (air : Air) (n : ℕ) (used : Option (ℕ × ℕ)) (uses : Air) → StandAt air n (used ∷ uses) →
    StandAt air (n + 1) uses
stand-next air n used uses at = λ i within.
    let e : n + 1 + i ≡ n + suc i = omega arith in
    let here = at (suc i) (omega arith) in
    (omega (arith, here.0), ap (λ k. get_or air k None) e ∙ here.1)

-- each slot of a record airs a page of its own messages
pub all_own : (log : List Entry) (air : Air) (n : ℕ) (uses : Air) → StandAt air n uses →
    AllByRecursion (IsAired log) uses → AllByRecursion (IsOwn log air) (in_slots n (map (page_aired log) uses))
all_own log air n [] at all = tt
all_own log air n (None ∷ uses) at all = all_own log air (n + 1) uses (stand-next air n None uses at) all.1
all_own log air n (Some used ∷ uses) at all =
    let h : IsAiredAs log used = all.0 in
    let first = at 0 (omega arith) in
    let e : n + 0 ≡ n = omega arith in
    subst (λ o. AllByRecursion (IsOwn log air) (map (in_slot n) (option_to_list o)
    ++ in_slots (n + 1) (map (page_aired log) uses))) (sym h.aired) (
      record {
        used = used;
        within = omega (arith, first.0);
        in_air = ap (λ k. get_or air k None) (sym e) ∙ first.1;
        how = h;
        page_is = refl;
      },
      all_own log air (n + 1) uses (stand-next air n (Some used) uses at) all.1,
    )

-- and each page that it aired was sent
or-true : (a b : Bool) → b ≡ true → (a || b) ≡ true
or-true true b is = refl
or-true false b is = is

-- a page that a slot airs is among those of the slots
pub some_own : (log : List Entry) (test : SentPage → Bool) (n : ℕ) (uses : Air) (k : ℕ) (page : PageView) →
    k < length uses → page_aired log (get_or uses k None) ≡ Some page → test (in_slot (n + k) page) ≡ true →
    list_any test (in_slots n (map (page_aired log) uses)) ≡ true
some_own log test n [] k page within aired passes = absurd (let less : ⊥ = omega arith in less)
some_own log test n (used ∷ uses) zero page within aired passes =
    let e : n + 0 ≡ n = omega arith in
    let here : test (in_slot n page) ≡ true = ap (λ m. test (in_slot m page)) (sym e) ∙ passes in
    ap (λ o. list_any test (map (in_slot n) (option_to_list o) ++ in_slots (n + 1) (map (page_aired log) uses))) aired
    ∙ ap (λ (b : Bool). b || list_any test (in_slots (n + 1) (map (page_aired log) uses))) here
some_own log test n (used ∷ uses) (suc k) page within aired passes =
    let e : n + suc k ≡ n + 1 + k = omega arith in
    list_any-append test (map (in_slot n) (option_to_list (page_aired log used)))
    (in_slots (n + 1) (map (page_aired log) uses))
    ∙ or-true (list_any test (map (in_slot n) (option_to_list (page_aired log used))))
    (list_any test (in_slots (n + 1) (map (page_aired log) uses)))
    (some_own log test (n + 1) uses k page (omega arith) aired
    (ap (λ m. test (in_slot m page)) (sym e) ∙ passes))
