-- Tapes without their shift: their pages stand in the order of their slots, and messages with their pages say which
-- shift is likely.
use Rattle.std.proofs.Common.{◌≡◌, ◌∙◌, ◌≤◌, ◌<◌, ◌+◌, ◌-◌, ◌*◌, ℕ, Bool, true, false, List, [], ◌∷◌, ◌++◌, length, map}
use Rattle.std.proofs.Common.{get_or, max, refl, sym, ap, subst, arith, suc, Option, All}
use Rattle.std.specs.Prelude.{nat_le, if◌then◌else◌}
use Rattle.std.specs.List.{AllByRecursion, AllPairs}
use Rattle.std.proofs.lemmas.List.Concat.{flat_map-cons}
use Rattle.std.proofs.lemmas.List.Elements.{All-append, All-cons, All-nil, recursion_from_All}
use Rattle.std.proofs.lemmas.List.Kept.{AllPairs-cons}
use Rattle.cbs_page.specs.declared.octets.PageView.{PageView}
use Rattle.handset.specs.Reception.{page_in_front}
use Rattle.verification.specs.declared.came.Came.{Came}
use Rattle.verification.specs.declared.judged.JudgedPage.{JudgedPage}
use Rattle.verification.specs.declared.sent.SentPage.{SentPage}
use Rattle.verification.specs.declared.shift.Shift.{Shift}
use Rattle.verification.specs.declared.shift.Shift.TheVariants as shifts
use Rattle.verification.specs.Came.{AllHavePages, HasPages, came_asked}
use Rattle.verification.specs.Judged.{judged_in}
use Rattle.verification.specs.Sent.{sent_at, sent_from}
use Rattle.verification.specs.Shift.{early_by, slot_of_first, in_slot, late_by, smaller, likely_shift, shift_by}
use Rattle.verification.specs.Shift.{slots_early, slots_late, unshifted, unshifted_page}
use Rattle.verification.specs.ShiftSteps.{came_early, came_late, shift_of_came}

-- messages that have their pages say by how many slots these are off
early-is : (sent : List SentPage) (came : List Came) → AllByRecursion (HasPages sent) came →
    came_early came ≡ slots_early sent (map came_asked came)
early-is sent [] have = refl
early-is sent (k ∷ came) have =
    ap (λ (pages : List JudgedPage). max (early_by (came_asked k) (slot_of_first pages)) (came_early came)) have.0
    ∙ ap (λ n. max (early_by (came_asked k) (slot_of_first (judged_in (came_asked k) sent))) n)
    (early-is sent came have.1)

late-is : (sent : List SentPage) (came : List Came) → AllByRecursion (HasPages sent) came →
    came_late came ≡ slots_late sent (map came_asked came)
late-is sent [] have = refl
late-is sent (k ∷ came) have =
    ap (λ (pages : List JudgedPage). smaller (late_by (came_asked k) (slot_of_first pages)) (came_late came)) have.0
    ∙ ap (λ (n : Option ℕ). smaller (late_by (came_asked k) (slot_of_first (judged_in (came_asked k) sent))) n)
    (late-is sent came have.1)

-- and so which shift is likely
pub likely : (sent : List SentPage) (came : List Came) → AllHavePages sent came →
    shift_of_came came ≡ likely_shift (map came_asked came) sent
likely sent came have =
    let all = recursion_from_All (HasPages sent) came have in
    ap (λ n. shift_by n (came_late came)) (early-is sent came all)
    ∙ ap (λ (n : Option ℕ). shift_by (slots_early sent (map came_asked came)) n) (late-is sent came all)

-- without the shift pages come in the same order
abbrev rising : SentPage → SentPage → Type 0
rising a b = a.slot ≤ b.slot

abbrev after : ℕ → SentPage → Type 0
after slot s = slot ≤ s.slot

-- the pages after the first one
first-after : (s : SentPage) (sent : List SentPage) → AllPairs rising (s ∷ sent) → AllByRecursion (after s.slot) sent
first-after s sent rise =
    recursion_from_All (after s.slot) sent (λ k d within. rise 0 (suc k) d (omega arith) (omega arith))

others : (s : SentPage) (sent : List SentPage) → AllPairs rising (s ∷ sent) → AllPairs rising sent
others s sent rise = λ i j d less within. rise (suc i) (suc j) d (omega arith) (omega arith)

-- of a tape that is early
early-after : (slots low : ℕ) (sent : List SentPage) → AllByRecursion (after low) sent →
    All (after (low + slots)) (unshifted (shifts.Early slots) sent)
early-after slots low [] all = All-nil (after (low + slots))
early-after slots low (s ∷ sent) all =
    subst (All (after (low + slots))) (sym (flat_map-cons (unshifted_page (shifts.Early slots)) s sent))
    (All-cons (after (low + slots)) (in_slot s (s.slot + slots)) (unshifted (shifts.Early slots) sent)
    (let first : low ≤ s.slot = all.0 in omega arith) (early-after slots low sent all.1))

early-rising : (slots : ℕ) (sent : List SentPage) → AllPairs rising sent →
    AllPairs rising (unshifted (shifts.Early slots) sent)
early-rising slots [] rise = λ i j d less within. absurd (let none : ⊥ = omega arith in none)
early-rising slots (s ∷ sent) rise =
    subst (AllPairs rising) (sym (flat_map-cons (unshifted_page (shifts.Early slots)) s sent))
    (AllPairs-cons rising (in_slot s (s.slot + slots)) (unshifted (shifts.Early slots) sent)
    (early-after slots s.slot sent (first-after s sent rise)) (early-rising slots sent (others s sent rise)))

-- and of one that is late, of which a page before the run is left out
late-one : (slots low : ℕ) (s : SentPage) (rest : List SentPage) (here : Bool) → low ≤ s.slot →
    All (after (low - slots)) rest →
    All (after (low - slots)) ((if here then in_slot s (s.slot - slots) ∷ [] else []) ++ rest)
late-one slots low s rest true first all =
    All-cons (after (low - slots)) (in_slot s (s.slot - slots)) rest (omega arith) all
late-one slots low s rest false first all = all

late-after : (slots low : ℕ) (sent : List SentPage) → AllByRecursion (after low) sent →
    All (after (low - slots)) (unshifted (shifts.Late slots) sent)
late-after slots low [] all = All-nil (after (low - slots))
late-after slots low (s ∷ sent) all =
    subst (All (after (low - slots))) (sym (flat_map-cons (unshifted_page (shifts.Late slots)) s sent))
    (late-one slots low s (unshifted (shifts.Late slots) sent) (nat_le slots s.slot) all.0
    (late-after slots low sent all.1))

late-next : (slots : ℕ) (s : SentPage) (rest : List SentPage) (here : Bool) → All (after (s.slot - slots)) rest →
    AllPairs rising rest →
    AllPairs rising ((if here then in_slot s (s.slot - slots) ∷ [] else []) ++ rest)
late-next slots s rest true all rise = AllPairs-cons rising (in_slot s (s.slot - slots)) rest all rise
late-next slots s rest false all rise = rise

late-rising : (slots : ℕ) (sent : List SentPage) → AllPairs rising sent →
    AllPairs rising (unshifted (shifts.Late slots) sent)
late-rising slots [] rise = λ i j d less within. absurd (let none : ⊥ = omega arith in none)
late-rising slots (s ∷ sent) rise =
    subst (AllPairs rising) (sym (flat_map-cons (unshifted_page (shifts.Late slots)) s sent))
    (late-next slots s (unshifted (shifts.Late slots) sent) (nat_le slots s.slot)
    (late-after slots s.slot sent (first-after s sent rise)) (late-rising slots sent (others s sent rise)))

-- so the slots of its pages never fall
pub unshifted-rising : (shift : Shift) (sent : List SentPage) → AllPairs (λ a b. a.slot ≤ b.slot) sent →
    AllPairs (λ a b. a.slot ≤ b.slot) (unshifted shift sent)
unshifted-rising (shifts.Early slots) sent rise = early-rising slots sent rise
unshifted-rising (shifts.Late slots) sent rise = late-rising slots sent rise

-- the slot of a page is below a quarter of the blocks
below-front : (place more : ℕ) (pages : List PageView) → 0 < more →
    All (λ (s : SentPage). 4 * s.slot < place + more) (map (sent_at place) pages)
below-front place more [] some = All-nil (λ (s : SentPage). 4 * s.slot < place + more)
below-front place more (page ∷ pages) some =
    All-cons (λ (s : SentPage). 4 * s.slot < place + more) (sent_at place page) (map (sent_at place) pages)
    (omega arith)
    (below-front place more pages some)

-- so are those of all pages
pub sent-below : (place : ℕ) (blocks : List (List ℕ)) →
    All (λ (s : SentPage). 4 * s.slot < place + length blocks) (sent_from place blocks)
sent-below place [] = All-nil (λ (s : SentPage). 4 * s.slot < place + 0)
sent-below place (block ∷ rest) =
    All-append (λ (s : SentPage). 4 * s.slot < place + length (block ∷ rest))
    (map (sent_at place) (page_in_front (block ∷ rest))) (sent_from (place + 1) rest)
    (below-front place (length (block ∷ rest)) (page_in_front (block ∷ rest)) (omega arith))
    (λ k d within.
    let later : 4 * (get_or (sent_from (place + 1) rest) k d).slot < (place + 1) + length rest =
    sent-below (place + 1) rest k d within in
    omega arith)
