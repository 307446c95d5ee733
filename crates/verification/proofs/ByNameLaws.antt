-- Pages by name: those of a message stand together, in the order in which they were sent.
use Rattle.std.proofs.Common.{◌≡◌, ◌≤◌, ℕ, Bool, true, false, cond, List, [], ◌∷◌, ◌++◌, length, take, drop, filter}
use Rattle.std.proofs.Common.{get_or, leb, ltb, zero, suc, refl, sym, ◌∙◌, ap, arith, eqb-true, map}
use Rattle.std.specs.Prelude.{not, ◌==◌, ◌&&◌}
use Rattle.std.specs.List.{AllWithin, flat_map}
use Rattle.std.specs.List.Sorted.{IsStableByKey, ties}
use Rattle.std.specs.Ordering.{is_lt, nat_cmp}
use Rattle.std.specs.Cmp.{nat_cmp_is}
use Rattle.std.specs.declared.cmp.Ordering.TheVariants.{Equal}
use Rattle.std.proofs.lemmas.Bool.Decides.{nat_tests}
use Rattle.std.proofs.lemmas.List.Concat.{flat_map-cons}
use Rattle.verification.specs.declared.sent.SentPage.{SentPage}
use Rattle.verification.specs.Asked.{AskedMessage, is_page_of}
use Rattle.verification.specs.ByName.{name_number}
use Rattle.verification.specs.Judged.{judged, judged_in}
use Rattle.verification.proofs.TimeLaws.{filter-fails, filter-none}

-- the number of a page's name
abbrev pub number_of : SentPage → ℕ
number_of s = name_number s.page.id s.page.serial

-- the pages of a message
abbrev pub is_its : AskedMessage → SentPage → Bool
is_its a s = is_page_of a s.page

-- what passes a test is kept by a wider one
kept : {X : Type 0} (p : X → Bool) (x : X) (here wide : Bool) → p x ≡ here → (here ≡ true → wide ≡ true) →
    (xs rest : List X) → filter p xs ≡ rest → filter p (cond wide (x ∷ xs) xs) ≡ cond here (x ∷ rest) rest
kept p x true true is wider xs rest same =
    ap (λ h. cond h (x ∷ filter p xs) (filter p xs)) is ∙ ap (λ ys. x ∷ ys) same
kept p x true false is wider xs rest same = let wrong : false ≡ true = wider refl in cc
kept p x false true is wider xs rest same =
    ap (λ h. cond h (x ∷ filter p xs) (filter p xs)) is ∙ same
kept p x false false is wider xs rest same = same

filter-wider : {X : Type 0} (p q : X → Bool) → ((x : X) → p x ≡ true → q x ≡ true) → (xs : List X) →
    filter p (filter q xs) ≡ filter p xs
filter-wider p q wider [] = refl
filter-wider p q wider (x ∷ xs) =
    kept p x (p x) (q x) refl (wider x) (filter q xs) (filter p xs) (filter-wider p q wider xs)

-- a page of a message has the number of its name
numbered : (page_id page_serial id serial : ℕ) (one other : Bool) → (page_id == id) ≡ one →
    (page_serial == serial) ≡ other → (one && other) ≡ true → name_number page_id page_serial ≡ name_number id serial
numbered page_id page_serial id serial true true is also both =
    ap (λ n. name_number n page_serial) (eqb-true page_id id is)
    ∙ ap (λ n. name_number id n) (eqb-true page_serial serial also)
numbered page_id page_serial id serial true false is also both = cc
numbered page_id page_serial id serial false other is also both = cc

its-number : (a : AskedMessage) (s : SentPage) → is_its a s ≡ true → number_of s ≡ name_number a.id a.serial
its-number a s is =
    numbered s.page.id s.page.serial a.id a.serial (s.page.id == a.id) (s.page.serial == a.serial) refl refl is

-- a page that has the name of a message
abbrev like : AskedMessage → SentPage
like a = record {
  slot = 0;
  page = record {
    serial = a.serial;
    id = a.id;
    dcs = record { 0 = 0 };
    number = 0;
    total = 0;
    content = [];
  };
}

-- pages of one number tie
not-below : (n : ℕ) → is_lt (nat_cmp n n) ≡ false
not-below n = ap is_lt (sym (nat_cmp_is n n Equal refl))

tied : (m n : ℕ) → n ≡ m → (not (is_lt (nat_cmp m n)) && not (is_lt (nat_cmp n m))) ≡ true
tied m n same =
    ap (λ k. not (is_lt (nat_cmp m k)) && not (is_lt (nat_cmp k m))) same
    ∙ ap (λ (below : Bool). not below && not below) (not-below m)

-- so a sort that leaves what ties in order leaves the pages of a message in order
pub kept-in-order : (a : AskedMessage) (sent sorted : List SentPage) → IsStableByKey number_of nat_cmp sent sorted →
    filter (is_its a) sorted ≡ filter (is_its a) sent
kept-in-order a sent sorted stable =
    let q : SentPage → Bool = ties (λ (x y : SentPage). is_lt (nat_cmp (number_of x) (number_of y))) (like a) in
    let wider : (s : SentPage) → is_its a s ≡ true → q s ≡ true =
    λ s is. tied (number_of (like a)) (number_of s) (its-number a s is) in
    sym (filter-wider (is_its a) q wider sorted)
    ∙ ap (filter (is_its a)) (stable (like a))
    ∙ filter-wider (is_its a) q wider sent

-- a stable order by name keeps the order of a message's pages
pub judged-kept : (a : AskedMessage) (sent sorted : List SentPage) → IsStableByKey number_of nat_cmp sent sorted →
    judged_in a sorted ≡ judged_in a sent
judged-kept a sent sorted stable = ap (map (judged a)) (kept-in-order a sent sorted stable)

-- what passes a test that all from a place on fail
filter-front : {X : Type 0} (p : X → Bool) (n : ℕ) (xs : List X) → AllWithin (λ x. p x ≡ false) xs n (length xs) →
    filter p (take n xs) ≡ filter p xs
filter-front p zero xs fails = sym (filter-none p xs fails)
filter-front p (suc n) [] fails = refl
filter-front p (suc n) (x ∷ xs) fails =
    ap (λ rest. cond (p x) (x ∷ rest) rest)
    (filter-front p n xs (λ k d low high. fails (suc k) d (omega arith) (omega arith)))

-- a page of another number isn't of the message
other : (a : AskedMessage) (s : SentPage) (is : Bool) → is_its a s ≡ is →
    (number_of s ≡ name_number a.id a.serial → ⊥) → is_its a s ≡ false
other a s true is differs = absurd (differs (its-number a s is))
other a s false is differs = is

-- the pages of a message stand between two places
pub between-names : (a : AskedMessage) (first count : ℕ) (sent : List SentPage) → first ≤ length sent →
    AllWithin (λ s. ltb (number_of s) (name_number a.id a.serial) ≡ true) sent 0 first →
    AllWithin (λ s. leb (number_of s) (name_number a.id a.serial) ≡ false) (drop first sent) count
    (length (drop first sent)) →
    judged_in a (take count (drop first sent)) ≡ judged_in a sent
between-names a first count sent within before after =
    ap (map (judged a))
    (filter-front (is_its a) count (drop first sent)
    (λ k d low high. let s : SentPage = get_or (drop first sent) k d in
    let late : leb (number_of s) (name_number a.id a.serial) ≡ false = after k d low high in
    other a s (is_its a s) refl
    (λ same. let none : ⊥ = later (number_of s) (name_number a.id a.serial) late same in none))
    ∙ sym (filter-fails (is_its a) first sent
    (λ k d low high. let s : SentPage = get_or sent k d in
    let early : ltb (number_of s) (name_number a.id a.serial) ≡ true = before k d low high in
    other a s (is_its a s) refl
    (λ same. let none : ⊥ = earlier (number_of s) (name_number a.id a.serial) early same in none))))
  where
    later : (m n : ℕ) → leb m n ≡ false → m ≡ n → ⊥
    later m n late same = grind (arith, nat_tests)

    earlier : (m n : ℕ) → ltb m n ≡ true → m ≡ n → ⊥
    earlier m n early same = grind (arith, nat_tests)

-- the lists of functions that agree
pub flat_map-same : {X Y : Type 0} (f g : X → List Y) → ((x : X) → f x ≡ g x) → (xs : List X) →
    flat_map f xs ≡ flat_map g xs
flat_map-same f g same [] = refl
flat_map-same f g same (x ∷ xs) =
    flat_map-cons f x xs ∙ ap (λ ys. ys ++ flat_map f xs) (same x) ∙ ap (λ ys. g x ++ ys) (flat_map-same f g same xs)
    ∙ sym (flat_map-cons g x xs)
