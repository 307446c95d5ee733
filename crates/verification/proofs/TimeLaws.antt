-- Pages whose slots never fall, and those of them that were sent in a time.
use Rattle.std.proofs.Common.{◌≡◌, ℕ, ◌+◌, ◌/◌, ◌<◌, ◌≤◌, Bool, true, false, cond, List, [], ◌∷◌, ◌++◌, length, take}
use Rattle.std.proofs.Common.{drop}
use Rattle.std.proofs.Common.{map, filter, get_or, zero, suc, refl, sym, ◌∙◌, ap, arith, All, inl, inr}
use Rattle.std.specs.Prelude.{◌==◌, ◌&&◌, ◌||◌, nat_le, nat_lt}
use Rattle.std.specs.List.{AllPairs, AllWithin, list_any}
use Rattle.std.specs.List.Sorted.{IsNonDecreasingBy}
use Rattle.std.proofs.lemmas.Bool.{cases_eq}
use Rattle.std.proofs.lemmas.Bool.Decides.{nat_tests}
use Rattle.std.proofs.lemmas.List.{get_or-drop, get_or-map, length-drop, length-map}
use Rattle.std.proofs.lemmas.List.Elements.{All-append, All-cons, All-nil}
use Rattle.std.proofs.lemmas.List.Kept.{AllPairs-cons, AllPairs-filter}
use Rattle.cbs_page.specs.declared.octets.PageView.{PageView}
use Rattle.handset.specs.Reception.{page_in_front}
use Rattle.verification.specs.declared.judged.JudgedPage.{JudgedPage}
use Rattle.verification.specs.declared.sent.SentPage.{SentPage}
use Rattle.verification.specs.AgainSteps.{is_from}
use Rattle.verification.specs.Asked.{AskedMessage, is_page_of}
use Rattle.verification.specs.Difference.{due_slot, has_page, is_in_time, release_slot}
use Rattle.verification.specs.Judged.{judged, judged_in}
use Rattle.verification.specs.Sent.{sent_at, sent_from}

-- a search among what passes a test
any-here : {X : Type 0} (q : X → Bool) (here : Bool) (x : X) (some : Bool) (passed : List X) →
    some ≡ list_any q passed → ((here && q x) || some) ≡ list_any q (cond here (x ∷ passed) passed)
any-here q true x some passed is = ap (λ (rest : Bool). q x || rest) is
any-here q false x some passed is = is

any-filter : {X : Type 0} (p q : X → Bool) (xs : List X) → list_any (λ x. p x && q x) xs ≡ list_any q (filter p xs)
any-filter p q [] = refl
any-filter p q (x ∷ xs) =
    any-here q (p x) x (list_any (λ y. p y && q y) xs) (filter p xs) (any-filter p q xs)

-- a right page in the time of a broadcast is one among those in that time
pub has_page-in_time : (a : AskedMessage) (pages : List JudgedPage) (j number : ℕ) →
    has_page a pages j number
    ≡ list_any (λ (page : JudgedPage). (page.number == number) && page.right) (filter (is_in_time a j) pages)
has_page-in_time a pages j number =
    any-filter (is_in_time a j) (λ (page : JudgedPage). (page.number == number) && page.right) pages

-- what passes a test that the first elements fail, or that they alone pass
pub filter-fails : {X : Type 0} (p : X → Bool) (n : ℕ) (xs : List X) → AllWithin (λ x. p x ≡ false) xs 0 n →
    filter p xs ≡ filter p (drop n xs)
filter-fails p zero xs fails = refl
filter-fails p (suc n) [] fails = refl
filter-fails p (suc n) (x ∷ xs) fails =
    ap (λ here. cond here (x ∷ filter p xs) (filter p xs)) (fails 0 x (omega arith) (omega arith))
    ∙ filter-fails p n xs (λ k d low high. fails (suc k) d (omega arith) (omega arith))

-- nothing is kept of what fails the test throughout
pub filter-none : {X : Type 0} (p : X → Bool) (xs : List X) → AllWithin (λ x. p x ≡ false) xs 0 (length xs) →
    filter p xs ≡ []
filter-none p [] fails = refl
filter-none p (x ∷ xs) fails =
    ap (λ here. cond here (x ∷ filter p xs) (filter p xs)) (fails 0 x (omega arith) (omega arith))
    ∙ filter-none p xs (λ k d low high. fails (suc k) d (omega arith) (omega arith))

filter-passes : {X : Type 0} (p : X → Bool) (n : ℕ) (xs : List X) → n ≤ length xs →
    AllWithin (λ x. p x ≡ true) xs 0 n → AllWithin (λ x. p x ≡ false) xs n (length xs) → filter p xs ≡ take n xs
filter-passes p zero xs within passes fails = filter-none p xs fails
filter-passes p (suc n) [] within passes fails = absurd (let less : ⊥ = omega arith in less)
filter-passes p (suc n) (x ∷ xs) within passes fails =
    ap (λ here. cond here (x ∷ filter p xs) (filter p xs)) (passes 0 x (omega arith) (omega arith))
    ∙ ap (λ ys. x ∷ ys)
    (filter-passes p n xs (omega arith) (λ k d low high. passes (suc k) d (omega arith) (omega arith))
    (λ k d low high. fails (suc k) d (omega arith) (omega arith)))

-- slots that never fall, as a search by halves asks it
pub rising-by : (pages : List JudgedPage) → AllPairs (λ a b. a.slot ≤ b.slot) pages →
    IsNonDecreasingBy (λ (p : JudgedPage). p.slot) pages
rising-by pages rise i j d up within = elim (cases_eq i j) [
  | inl same ↦ let e : i ≡ j = same in rw e (omega arith)
  | inr other ↦ rise i j d (omega arith) within
]

-- the pages of a time are those between two places
pub time-between : (a : AskedMessage) (j first count : ℕ) (pages : List JudgedPage) → first ≤ length pages →
    count ≤ length (drop first pages) →
    AllWithin (λ (p : JudgedPage). is_in_time a j p ≡ false) pages 0 first →
    AllWithin (λ (p : JudgedPage). is_in_time a j p ≡ true) (drop first pages) 0 count →
    AllWithin (λ (p : JudgedPage). is_in_time a j p ≡ false) (drop first pages) count (length (drop first pages)) →
    take count (drop first pages) ≡ filter (is_in_time a j) pages
time-between a j first count pages within also before inside after =
    sym (filter-fails (is_in_time a j) first pages before
    ∙ filter-passes (is_in_time a j) count (drop first pages) also inside after)

-- which pages are in time, by where their slots stand
too-early : (release_slot due_slot slot : ℕ) → nat_lt slot release_slot ≡ true
    → (nat_le release_slot slot && nat_lt slot due_slot) ≡ false
too-early release_slot due_slot slot early = grind (arith, nat_tests)

just-in-time : (release_slot due_slot slot : ℕ) → nat_lt slot release_slot ≡ false → nat_lt slot due_slot ≡ true →
    (nat_le release_slot slot && nat_lt slot due_slot) ≡ true
just-in-time release_slot due_slot slot begun early = grind (arith, nat_tests)

too-late : (release_slot due_slot slot : ℕ) → nat_lt slot due_slot ≡ false
    → (nat_le release_slot slot && nat_lt slot due_slot) ≡ false
too-late release_slot due_slot slot late = grind (arith, nat_tests)

-- the pages in the time of a broadcast stand between two places
pub between-points : (a : AskedMessage) (j first count : ℕ) (pages : List JudgedPage) → first ≤ length pages →
    count ≤ length (drop first pages) →
    AllWithin (λ (p : JudgedPage). nat_lt p.slot (release_slot a j) ≡ true) pages 0 first →
    AllWithin (λ (p : JudgedPage). nat_lt p.slot (release_slot a j) ≡ false) pages first (length pages) →
    AllWithin (λ (p : JudgedPage). nat_lt p.slot (due_slot a j) ≡ true) (drop first pages) 0 count →
    AllWithin (λ (p : JudgedPage). nat_lt p.slot (due_slot a j) ≡ false) (drop first pages) count
    (length (drop first pages)) →
    take count (drop first pages) ≡ filter (is_in_time a j) pages
between-points a j first count pages within also early begun inside late =
    let from : List JudgedPage = drop first pages in
    time-between a j first count pages within also
    (λ k d low high. too-early (release_slot a j) (due_slot a j) (get_or pages k d).slot (early k d low high))
    (λ k d low high.
    let at : get_or (drop first pages) k d ≡ get_or pages (first + k) d = get_or-drop first pages k d in
    let began : nat_lt (get_or (drop first pages) k d).slot (release_slot a j) ≡ false =
    rw at (begun (first + k) d (omega arith) (omega (arith, length-drop first pages))) in
    just-in-time (release_slot a j) (due_slot a j) (get_or (drop first pages) k d).slot began (inside k d low high))
    (λ k d low high. too-late (release_slot a j) (due_slot a j) (get_or (drop first pages) k d).slot
    (late k d low high))

-- all are kept of what passes the test throughout
filter-whole : {X : Type 0} (p : X → Bool) (xs : List X) → AllWithin (λ x. p x ≡ true) xs 0 (length xs) →
    filter p xs ≡ xs
filter-whole p [] passes = refl
filter-whole p (x ∷ xs) passes =
    ap (λ here. cond here (x ∷ filter p xs) (filter p xs)) (passes 0 x (omega arith) (omega arith))
    ∙ ap (λ ys. x ∷ ys) (filter-whole p xs (λ k d low high. passes (suc k) d (omega arith) (omega arith)))

-- which pages come from a broadcast on, by where their slots stand
comes-before : (release_slot slot : ℕ) → nat_lt slot release_slot ≡ true → nat_le release_slot slot ≡ false
comes-before release_slot slot early = grind (arith, nat_tests)

comes-from : (release_slot slot : ℕ) → nat_lt slot release_slot ≡ false → nat_le release_slot slot ≡ true
comes-from release_slot slot begun = grind (arith, nat_tests)

-- the pages from a broadcast on stand from a place on
pub from-point : (a : AskedMessage) (j first : ℕ) (pages : List JudgedPage) → first ≤ length pages →
    AllWithin (λ (p : JudgedPage). nat_lt p.slot (release_slot a j) ≡ true) pages 0 first →
    AllWithin (λ (p : JudgedPage). nat_lt p.slot (release_slot a j) ≡ false) pages first (length pages) →
    drop first pages ≡ filter (is_from a j) pages
from-point a j first pages within early begun =
    sym (filter-fails (is_from a j) first pages
    (λ k d low high. comes-before (release_slot a j) (get_or pages k d).slot (early k d low high))
    ∙ filter-whole (is_from a j) (drop first pages)
    (λ k d low high.
    let at : get_or (drop first pages) k d ≡ get_or pages (first + k) d = get_or-drop first pages k d in
    let began : nat_lt (get_or (drop first pages) k d).slot (release_slot a j) ≡ false =
    rw at (begun (first + k) d (omega arith) (omega (arith, length-drop first pages))) in
    comes-from (release_slot a j) (get_or (drop first pages) k d).slot began))

-- the slots of the pages that a tape sends never fall
front-from : (place : ℕ) (pages : List PageView) → All (λ (s : SentPage). place / 4 ≤ s.slot)
    (map (sent_at place) pages)
front-from place [] = All-nil (λ (s : SentPage). place / 4 ≤ s.slot)
front-from place (page ∷ pages) =
    All-cons (λ (s : SentPage). place / 4 ≤ s.slot) (sent_at place page) (map (sent_at place) pages) (omega arith)
    (front-from place pages)

sent-later : (place : ℕ) (blocks : List (List ℕ)) → All (λ (s : SentPage). place / 4 ≤ s.slot) (sent_from place blocks)
sent-later place [] = All-nil (λ (s : SentPage). place / 4 ≤ s.slot)
sent-later place (block ∷ rest) =
    All-append (λ (s : SentPage). place / 4 ≤ s.slot)
    (map (sent_at place) (page_in_front (block ∷ rest))) (sent_from (place + 1) rest)
    (front-from place (page_in_front (block ∷ rest)))
    (λ k d within.
    let up : place / 4 ≤ (place + 1) / 4 = omega arith in
    let later : (place + 1) / 4 ≤ (get_or (sent_from (place + 1) rest) k d).slot =
    sent-later (place + 1) rest k d within in
    omega arith)

rising-front : (place : ℕ) (pages : List PageView) (later : List SentPage) →
    All (λ (s : SentPage). place / 4 ≤ s.slot) later → AllPairs (λ a b. a.slot ≤ b.slot) later →
    AllPairs (λ a b. a.slot ≤ b.slot) (map (sent_at place) pages ++ later)
rising-front place [] later from rise = rise
rising-front place (page ∷ pages) later from rise =
    AllPairs-cons (λ (a b : SentPage). a.slot ≤ b.slot) (sent_at place page) (map (sent_at place) pages ++ later)
    (All-append (λ (s : SentPage). place / 4 ≤ s.slot) (map (sent_at place) pages) later (front-from place pages) from)
    (rising-front place pages later from rise)

-- the slots of the pages that were sent never fall
pub sent-rising : (place : ℕ) (blocks : List (List ℕ)) → AllPairs (λ a b. a.slot ≤ b.slot) (sent_from place blocks)
sent-rising place [] = λ i j d less within. absurd (let none : ⊥ = omega arith in none)
sent-rising place (block ∷ rest) =
    rising-front place (page_in_front (block ∷ rest)) (sent_from (place + 1) rest)
    (λ k d within.
    let up : place / 4 ≤ (place + 1) / 4 = omega arith in
    let later : (place + 1) / 4 ≤ (get_or (sent_from (place + 1) rest) k d).slot =
    sent-later (place + 1) rest k d within in
    omega arith)
    (sent-rising (place + 1) rest)

-- nor do those of a message's pages
judged-rise : (a : AskedMessage) (sent : List SentPage) → AllPairs (λ x y. x.slot ≤ y.slot) sent →
    AllPairs (λ x y. x.slot ≤ y.slot) (map (judged a) sent)
judged-rise a [] rise = λ i j d less within. absurd (let none : ⊥ = omega arith in none)
judged-rise a (s ∷ sent) rise = λ i j d less within.
    let all : List SentPage = s ∷ sent in
    let second : j < length (s ∷ sent) = omega (arith, length-map (s ∷ sent) (judged a)) in
    let first : i < length (s ∷ sent) = omega arith in
    rw (get_or-map (judged a) (s ∷ sent) i s d first) (rw (get_or-map (judged a) (s ∷ sent) j s d second)
    (rise i j s less second))

-- nor do those of the pages that are judged
pub judged-rising : (a : AskedMessage) (sent : List SentPage) → AllPairs (λ x y. x.slot ≤ y.slot) sent →
    AllPairs (λ x y. x.slot ≤ y.slot) (judged_in a sent)
judged-rising a sent rise =
    judged-rise a (filter (λ s. is_page_of a s.page) sent)
    (AllPairs-filter (λ (x y : SentPage). x.slot ≤ y.slot) (λ s. is_page_of a s.page) sent rise)
