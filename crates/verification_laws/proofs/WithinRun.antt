-- Each difference is at a slot of the run, or of the tape.
use Rattle.std.proofs.Common.{◌≡◌, ℕ, ◌+◌, ◌<◌, ◌≤◌, Bool, true, false, cond, Option, Some, List, [], ◌∷◌, ◌++◌}
use Rattle.std.proofs.Common.{length, map, filter, find, refl, sym, subst, arith, leb-true}
use Rattle.std.specs.Prelude.{◌*◌, ◌&&◌, ◌||◌, not, ◌==◌, nat_le, nat_lt, if◌then◌else◌}
use Rattle.std.specs.List.{AllByRecursion, flat_map, list_any, range_with_len}
use Rattle.std.specs.Option.{option_map, option_to_list}
use Rattle.std.proofs.lemmas.List.Concat.{flat_map-cons}
use Rattle.std.proofs.lemmas.List.Elements.{All-from_recursion}
use Rattle.std.proofs.lemmas.List.Sorted.{All-permutation}
use Rattle.cbs_page.specs.declared.octets.PageView.{PageView}
use Rattle.handset.specs.Reception.{page_in_front}
use Rattle.verification.specs.Asked.{AskedMessage, asked_of_log, is_page_of, is_page_of_any}
use Rattle.verification.specs.Difference.{again_after, again_difference, again_differences, again_in}
use Rattle.verification.specs.Difference.{all_differences, broadcast_difference, broadcast_differences, comes_again}
use Rattle.verification.specs.Difference.{is_in_time, is_requested}
use Rattle.verification.specs.Difference.{difference_of, differs, due_slot, first_difference, is_by, is_named_as}
use Rattle.verification.specs.Difference.{is_whole, message_differences, not_ordered, not_ordered_after}
use Rattle.verification.specs.Difference.{page_differences, page_numbers}
use Rattle.verification.specs.Judged.{judged, judged_in}
use Rattle.verification.specs.Sent.{sent_at, sent_from, sent_in}
use Rattle.verification.specs.declared.difference.Difference.{Difference}
use Rattle.verification.specs.declared.difference.Kind.{Kind}
use Rattle.verification.specs.declared.difference.Kind.TheVariants as kinds
use Rattle.verification.specs.declared.judged.JudgedPage.{JudgedPage}
use Rattle.verification.specs.declared.sent.SentPage.{SentPage}
use Rattle.verification_laws.specs.Timed.{DifferencesAreWithin}

-- what is so of the elements of two lists is so of both together, and of a list's lists
both : {X : Type 0} (P : X → Type 0) (xs ys : List X) → AllByRecursion P xs → AllByRecursion P ys →
    AllByRecursion P (xs ++ ys)
both P [] ys some more = more
both P (x ∷ xs) ys some more = (some.0, both P xs ys some.1 more)

each : {X Y : Type 0} (P : Y → Type 0) (f : X → List Y) → ((x : X) → AllByRecursion P (f x)) → (xs : List X) →
    AllByRecursion P (flat_map f xs)
each P f holds [] = tt
each P f holds (x ∷ xs) =
    subst (AllByRecursion P) (sym (flat_map-cons f x xs))
    (both P (f x) (flat_map f xs) (holds x) (each P f holds xs))

-- a page that was sent, one that was judged, and a difference
abbrev Sent : (slots : ℕ) → SentPage → Type 0
Sent slots s = s.slot < slots

abbrev Judged : (slots : ℕ) → JudgedPage → Type 0
Judged slots page = page.slot < slots

abbrev Within : (slots : ℕ) → Difference → Type 0
Within slots d = d.slot ≤ slots

-- the pages in blocks
sent-here : (slots place : ℕ) (pages : List PageView) → place < 4 * slots →
    AllByRecursion (Sent slots) (map (sent_at place) pages)
sent-here slots place [] within = tt
sent-here slots place (page ∷ pages) within = (omega (arith, within), sent-here slots place pages within)

sent-within : (slots place : ℕ) (blocks : List (List ℕ)) → place + length blocks ≤ 4 * slots →
    AllByRecursion (Sent slots) (sent_from place blocks)
sent-within slots place [] within = tt
sent-within slots place (block ∷ rest) within =
    both (Sent slots) (map (sent_at place) (page_in_front (block ∷ rest))) (sent_from (place + 1) rest)
    (sent-here slots place (page_in_front (block ∷ rest)) (omega (arith, within)))
    (sent-within slots (place + 1) rest (omega (arith, within)))

-- those of a message, judged
judged-here : (slots : ℕ) (a : AskedMessage) (own : Bool) (s : SentPage) (rest : List SentPage) → s.slot < slots →
    AllByRecursion (Judged slots) (map (judged a) rest) →
    AllByRecursion (Judged slots) (map (judged a) (cond own (s ∷ rest) rest))
judged-here slots a true s rest here more = (here, more)
judged-here slots a false s rest here more = more

judged-within : (slots : ℕ) (a : AskedMessage) (sent : List SentPage) → AllByRecursion (Sent slots) sent →
    AllByRecursion (Judged slots) (judged_in a sent)
judged-within slots a [] all = tt
judged-within slots a (s ∷ sent) all =
    judged-here slots a (is_page_of a s.page) s (filter (λ (x : SentPage). is_page_of a x.page) sent) all.0
    (judged-within slots a sent all.1)

-- a difference of pages is at the slot of one of them
abbrev at_first : AskedMessage → Kind → Option JudgedPage → List Difference
at_first a kind page =
    map (difference_of a kind) (option_to_list (option_map (λ (p : JudgedPage). p.slot) page))

first-here : (slots : ℕ) (a : AskedMessage) (kind : Kind) (passes : Bool) (page : JudgedPage)
    (later : Option JudgedPage) → page.slot < slots → AllByRecursion (Within slots) (at_first a kind later) →
    AllByRecursion (Within slots) (at_first a kind (cond passes (Some page) later))
first-here slots a kind true page later here more = (omega (arith, here), tt)
first-here slots a kind false page later here more = more

first-within : (slots : ℕ) (a : AskedMessage) (kind : Kind) (pages : List JudgedPage) →
    AllByRecursion (Judged slots) pages → AllByRecursion (Within slots) (first_difference a pages kind)
first-within slots a kind [] all = tt
first-within slots a kind (page ∷ pages) all =
    first-here slots a kind (differs a kind page) page (find (differs a kind) pages) all.0
    (first-within slots a kind pages all.1)

pages-within : (slots : ℕ) (a : AskedMessage) (pages : List JudgedPage) → AllByRecursion (Judged slots) pages →
    AllByRecursion (Within slots) (page_differences a pages)
pages-within slots a pages all =
    let otherwise : List Difference =
    flat_map (λ (number : ℕ). first_difference a pages (kinds.Otherwise number)) page_numbers in
    let before : List Difference = first_difference a pages kinds.BeforeStart in
    let stopped : List Difference = first_difference a pages kinds.AfterStop in
    let over : List Difference = first_difference a pages kinds.AfterLast in
    both (Within slots) ((otherwise ++ before) ++ stopped) over
    (both (Within slots) (otherwise ++ before) stopped
    (both (Within slots) otherwise before
    (each (Within slots) (λ (number : ℕ). first_difference a pages (kinds.Otherwise number))
    (λ number. first-within slots a (kinds.Otherwise number) pages all) page_numbers)
    (first-within slots a kinds.BeforeStart pages all))
    (first-within slots a kinds.AfterStop pages all))
    (first-within slots a kinds.AfterLast pages all)

-- a page that comes again is at its own slot
abbrev at_slot : AskedMessage → Kind → Option ℕ → List Difference
at_slot a kind slot = map (difference_of a kind) (option_to_list slot)

filter-within : (slots : ℕ) (test : JudgedPage → Bool) (pages : List JudgedPage) →
    AllByRecursion (Judged slots) pages → AllByRecursion (Judged slots) (filter test pages)
filter-within slots test [] all = tt
filter-within slots test (page ∷ pages) all = here (test page) (filter-within slots test pages all.1)
  where
    here : (passes : Bool) → AllByRecursion (Judged slots) (filter test pages) →
        AllByRecursion (Judged slots) (cond passes (page ∷ filter test pages) (filter test pages))
    here true rest = (all.0, rest)
    here false rest = rest

again-here : (slots : ℕ) (a : AskedMessage) (kind : Kind) (again : Bool) (slot : ℕ) (later : Option ℕ) →
    slot < slots → AllByRecursion (Within slots) (at_slot a kind later) →
    AllByRecursion (Within slots) (at_slot a kind (cond again (Some slot) later))
again-here slots a kind true slot later here more = (omega (arith, here), tt)
again-here slots a kind false slot later here more = more

first-again-within : (slots : ℕ) (a : AskedMessage) (kind : Kind) (stop : Option ℕ) (before pages : List JudgedPage) →
    AllByRecursion (Judged slots) pages →
    AllByRecursion (Within slots) (at_slot a kind (again_after stop before pages))
first-again-within slots a kind stop before [] all = tt
first-again-within slots a kind stop before (page ∷ pages) all =
    again-here slots a kind (comes_again stop before page) page.slot
    (again_after stop (before ++ page ∷ []) pages) all.0
    (first-again-within slots a kind stop (before ++ page ∷ []) pages all.1)

if-requested : (slots : ℕ) (requested : Bool) (ds : List Difference) → AllByRecursion (Within slots) ds →
    AllByRecursion (Within slots) (if requested then ds else [])
if-requested slots true ds all = all
if-requested slots false ds all = tt

again-within : (slots : ℕ) (a : AskedMessage) (j : ℕ) (pages : List JudgedPage) →
    AllByRecursion (Judged slots) pages → AllByRecursion (Within slots) (again_difference a pages j)
again-within slots a j pages all =
    if-requested slots (is_requested a j) (at_slot a (kinds.Again j) (again_in a pages j))
    (first-again-within slots a (kinds.Again j) a.stop [] (filter (is_in_time a j) pages)
    (filter-within slots (is_in_time a j) pages all))

-- a broadcast that is owed is due by the end of the run
due-here : (slots : ℕ) (d : Difference) (by more missed : Bool) → (by ≡ true → d.slot ≤ slots) →
    AllByRecursion (Within slots) (if (by && more) && missed then d ∷ [] else [])
due-here slots d true true true within = (within refl, tt)
due-here slots d true true false within = tt
due-here slots d true false missed within = tt
due-here slots d false more missed within = tt

broadcast-within : (run slots : ℕ) (a : AskedMessage) (pages : List JudgedPage) (j : ℕ) → run ≤ slots →
    AllByRecursion (Within slots) (broadcast_difference run a pages j)
broadcast-within run slots a pages j few =
    due-here slots (difference_of a (kinds.NotWhole j) (due_slot a j)) (nat_le (due_slot a j) run)
    (is_by a.stop (due_slot a j) && ((a.broadcasts == 0) || nat_lt j a.broadcasts)) (not (is_whole a pages j))
    (λ is. let due = leb-true (due_slot a j) run is in omega (arith, due, few))

unless : (slots : ℕ) (none : Bool) (ds : List Difference) → AllByRecursion (Within slots) ds →
    AllByRecursion (Within slots) (if none then [] else ds)
unless slots true ds all = tt
unless slots false ds all = all

message-within : (run slots : ℕ) (a : AskedMessage) (sent : List SentPage) → run ≤ slots →
    AllByRecursion (Sent slots) sent →
    AllByRecursion (Within slots) (message_differences run a (judged_in a sent))
message-within run slots a sent few all =
    both (Within slots)
    (page_differences a (judged_in a sent) ++ broadcast_differences run a (judged_in a sent))
    (again_differences run a (judged_in a sent))
    (both (Within slots) (page_differences a (judged_in a sent)) (broadcast_differences run a (judged_in a sent))
    (pages-within slots a (judged_in a sent) (judged-within slots a sent all))
    (unless slots a.background (flat_map (broadcast_difference run a (judged_in a sent)) (range_with_len 0 run))
    (each (Within slots) (broadcast_difference run a (judged_in a sent))
    (λ j. broadcast-within run slots a (judged_in a sent) j few) (range_with_len 0 run))))
    (each (Within slots) (again_difference a (judged_in a sent))
    (λ j. again-within slots a j (judged_in a sent) (judged-within slots a sent all)) (range_with_len 0 run))

-- and a page that nobody ordered is at its own slot
others-within : (slots : ℕ) (asked : List AskedMessage) (before sent : List SentPage) →
    AllByRecursion (Sent slots) sent → AllByRecursion (Within slots) (not_ordered_after asked before sent)
others-within slots asked before [] all = tt
others-within slots asked before (page ∷ rest) all =
    both (Within slots) (not_ordered asked before page) (not_ordered_after asked (before ++ page ∷ []) rest)
    (unless slots (is_page_of_any asked page.page || list_any (is_named_as page.page) before)
    (record { slot = page.slot; id = page.page.id; serial = page.page.serial; kind = kinds.NotOrdered } ∷ [])
    (omega (arith, all.0), tt))
    (others-within slots asked (before ++ page ∷ []) rest all.1)

-- so each difference is at a slot of the run, or of the tape
pub differences-are-within : DifferencesAreWithin
differences-are-within r blocks found slots few short are =
    let asked : List AskedMessage = asked_of_log r.log in
    let sent : List SentPage = sent_in blocks in
    let all : AllByRecursion (Sent slots) sent = sent-within slots 0 blocks (omega (arith, short)) in
    All-permutation (Within slots) (all_differences r.slots asked sent) found are.all
    (All-from_recursion (Within slots) (all_differences r.slots asked sent)
    (both (Within slots) (flat_map (λ (a : AskedMessage). message_differences r.slots a (judged_in a sent)) asked)
    (not_ordered_after asked [] sent)
    (each (Within slots) (λ (a : AskedMessage). message_differences r.slots a (judged_in a sent))
    (λ a. message-within r.slots slots a sent few all) asked)
    (others-within slots asked [] sent all)))
