-- The slots of pages on the air rise.
use Rattle.std.proofs.Common.{ℕ, ◌+◌, ◌<◌, ◌≤◌, All, List, [], ◌∷◌, ◌++◌, arith, filter, get_or, length, map}
use Rattle.std.specs.List.{AllPairs}
use Rattle.std.specs.Option.{option_to_list}
use Rattle.std.proofs.lemmas.List.{get_or-map, length-map}
use Rattle.std.proofs.lemmas.List.Elements.{All-append, All-cons, All-nil}
use Rattle.std.proofs.lemmas.List.Kept.{AllPairs-cons, AllPairs-filter}
use Rattle.short_pages.specs.Slots.{page_of_slot}
use Rattle.verification.specs.Asked.{AskedMessage}
use Rattle.order_verdict.specs.Air.{AirOctets, page_in, pages_from}
use Rattle.order_verdict.specs.Judged.{is_own_page, judged_page, own_pages_in}
use Rattle.order_verdict.specs.Ordered.{OrderedMessage}

in_slot : (slot : ℕ) (pages : List (List ℕ)) → All (λ (p : AirOctets). slot ≤ p.slot) (map (page_in slot) pages)
in_slot slot [] = All-nil (λ (p : AirOctets). slot ≤ p.slot)
in_slot slot (octets ∷ pages) =
    All-cons (λ (p : AirOctets). slot ≤ p.slot) (page_in slot octets) (map (page_in slot) pages) (omega arith)
    (in_slot slot pages)

later : (slot : ℕ) (slots : List (List (List ℕ))) → All (λ (p : AirOctets). slot ≤ p.slot) (pages_from slot slots)
later slot [] = All-nil (λ (p : AirOctets). slot ≤ p.slot)
later slot (four ∷ rest) =
    All-append (λ (p : AirOctets). slot ≤ p.slot)
    (map (page_in slot) (option_to_list (page_of_slot four))) (pages_from (slot + 1) rest)
    (in_slot slot (option_to_list (page_of_slot four)))
    (λ k d within.
    let after : slot + 1 ≤ (get_or (pages_from (slot + 1) rest) k d).slot = later (slot + 1) rest k d within in
    omega arith)

rising-front : (slot : ℕ) (pages : List (List ℕ)) (more : List AirOctets) →
    All (λ (p : AirOctets). slot ≤ p.slot) more → AllPairs (λ a b. a.slot ≤ b.slot) more →
    AllPairs (λ a b. a.slot ≤ b.slot) (map (page_in slot) pages ++ more)
rising-front slot [] more from rise = rise
rising-front slot (octets ∷ pages) more from rise =
    AllPairs-cons (λ (a b : AirOctets). a.slot ≤ b.slot) (page_in slot octets) (map (page_in slot) pages ++ more)
    (All-append (λ (p : AirOctets). slot ≤ p.slot) (map (page_in slot) pages) more (in_slot slot pages) from)
    (rising-front slot pages more from rise)

-- so do those of pages, slot by slot
pub pages-rising : (slot : ℕ) (slots : List (List (List ℕ))) → AllPairs (λ a b. a.slot ≤ b.slot) (pages_from slot slots)
pages-rising slot [] = λ i j d less within. absurd (let none : ⊥ = omega arith in none)
pages-rising slot (four ∷ rest) =
    rising-front slot (option_to_list (page_of_slot four)) (pages_from (slot + 1) rest)
    (λ k d within.
    let after : slot + 1 ≤ (get_or (pages_from (slot + 1) rest) k d).slot = later (slot + 1) rest k d within in
    omega arith)
    (pages-rising (slot + 1) rest)

judged-rise : (a : AskedMessage) (air : List AirOctets) → AllPairs (λ x y. x.slot ≤ y.slot) air →
    AllPairs (λ x y. x.slot ≤ y.slot) (map (judged_page a) air)
judged-rise a [] rise = λ i j d less within. absurd (let none : ⊥ = omega arith in none)
judged-rise a (p ∷ air) rise = λ i j d less within.
    let second : j < length (p ∷ air) = omega (arith, length-map (p ∷ air) (judged_page a)) in
    let first : i < length (p ∷ air) = omega arith in
    rw (get_or-map (judged_page a) (p ∷ air) i p d first) (rw (get_or-map (judged_page a) (p ∷ air) j p d second)
    (rise i j p less second))

-- so do those of a message's own pages
pub own-rising : (m : OrderedMessage) (air : List AirOctets) → AllPairs (λ x y. x.slot ≤ y.slot) air →
    AllPairs (λ x y. x.slot ≤ y.slot) (own_pages_in m air)
own-rising m air rise =
    judged-rise m.early (filter (is_own_page m) air)
    (AllPairs-filter (λ (x y : AirOctets). x.slot ≤ y.slot) (is_own_page m) air rise)
