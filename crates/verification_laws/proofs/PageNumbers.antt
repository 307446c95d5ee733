-- The numbers and totals of the pages that blocks are read as.
use Rattle.std.proofs.Common.{◌≡◌, ℕ, zero, suc, ◌+◌, ◌/◌, ◌%◌, ◌≤◌, Bool, true, false, cond, List, [], ◌∷◌, ◌++◌}
use Rattle.std.proofs.Common.{map, take, get_or, refl, sym, ap, subst, arith, is_some, leb-true}
use Rattle.std.specs.Prelude.{◌||◌, ◌==◌, nat_le}
use Rattle.std.specs.List.{AllByRecursion}
use Rattle.std.specs.Str.{bytes_eq}
use Rattle.std.proofs.lemmas.Bool.{and_parts, eqb-false}
use Rattle.cbs_page.specs.declared.octets.PageView.{PageView}
use Rattle.cbs_page.specs.Coding.{alphabet_of}
use Rattle.cbs_page.specs.Page.{is_readable, place_of, view_of}
use Rattle.handset.specs.Reception.{page_in_front, page_octets, page_types, block_type}
use Rattle.verification.specs.declared.sent.SentPage.{SentPage}
use Rattle.verification.specs.Sent.{sent_at, sent_from}

-- pages count from 1, and a message has at most 15
abbrev pub IsNumbered : PageView → Type 0
IsNumbered page = (1 ≤ page.number) × (page.total ≤ 15)

-- so a page that can be shown has a number of 1 to 15
pub readable-number : (page : PageView) → IsNumbered page → is_readable page ≡ true → page.number ≤ 15
readable-number page numbered readable =
    let parts = and_parts (is_some (alphabet_of page.dcs.0)) (nat_le page.number page.total) readable in
    let within : page.number ≤ page.total = leb-true page.number page.total parts.1 in
    let few = numbered.1 in
    omega (arith, within, few)

-- the number and the total of a page parameter
numbered : (parameter : ℕ) → (1 ≤ (place_of parameter).0) × ((place_of parameter).1 ≤ 15)
numbered parameter =
    by_test ((parameter / 16 == 0) || (parameter % 16 == 0)) refl
  where
    or-false : (a b : Bool) → (a || b) ≡ false → a ≡ false
    or-false true b is = cc
    or-false false b is = refl

    some : (n : ℕ) → (n ≡ 0 → ⊥) → 1 ≤ n
    some zero other = absurd (other refl)
    some (suc n) other = omega arith

    by_test : (zero_in : Bool) → ((parameter / 16 == 0) || (parameter % 16 == 0)) ≡ zero_in →
        (1 ≤ (place_of parameter).0) × ((place_of parameter).1 ≤ 15)
    by_test true is =
        subst (λ (p : ℕ × ℕ). (1 ≤ p.0) × (p.1 ≤ 15))
        (sym (ap (λ (x : Bool). cond x (1, 1) (parameter / 16, parameter % 16)) is)) (omega arith, omega arith)
    by_test false is =
        let high = eqb-false (parameter / 16) 0 (or-false (parameter / 16 == 0) (parameter % 16 == 0) is) in
        subst (λ (p : ℕ × ℕ). (1 ≤ p.0) × (p.1 ≤ 15))
        (sym (ap (λ (x : Bool). cond x (1, 1) (parameter / 16, parameter % 16)) is))
        (some (parameter / 16) high, (let h : parameter % 16 ≤ 15 = omega arith in h))

in-front : (blocks : List (List ℕ)) → AllByRecursion IsNumbered (page_in_front blocks)
in-front blocks =
    by_test (bytes_eq (map block_type (take 4 blocks)) page_types)
    (numbered (get_or (page_octets (take 4 blocks)) 5 0))
  where
    by_test : (here : Bool) → IsNumbered (view_of (page_octets (take 4 blocks))) →
        AllByRecursion IsNumbered (cond here (view_of (page_octets (take 4 blocks)) ∷ []) [])
    by_test true is = (is, tt)
    by_test false is = tt

-- so it is with all pages that are sent
sent-numbered : (place : ℕ) (pages : List PageView) → AllByRecursion IsNumbered pages →
    AllByRecursion (λ (s : SentPage). IsNumbered s.page) (map (sent_at place) pages)
sent-numbered place [] all = tt
sent-numbered place (page ∷ pages) all = (all.0, sent-numbered place pages all.1)

joined : {X : Type 0} (P : X → Type 0) (xs ys : List X) → AllByRecursion P xs → AllByRecursion P ys →
    AllByRecursion P (xs ++ ys)
joined P [] ys one two = two
joined P (x ∷ xs) ys one two = (one.0, joined P xs ys one.1 two)

-- each page that is sent is numbered so
pub all-numbered : (place : ℕ) (blocks : List (List ℕ)) →
    AllByRecursion (λ (s : SentPage). IsNumbered s.page) (sent_from place blocks)
all-numbered place [] = tt
all-numbered place (block ∷ rest) =
    joined (λ (s : SentPage). IsNumbered s.page) (map (sent_at place) (page_in_front (block ∷ rest)))
    (sent_from (place + 1) rest)
    (sent-numbered place (page_in_front (block ∷ rest)) (in-front (block ∷ rest)))
    (all-numbered (place + 1) rest)
