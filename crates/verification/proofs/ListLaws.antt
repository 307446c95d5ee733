-- Lists that are read from a place on: what is done and what is left are the whole.
use Rattle.std.proofs.Common.{◌≡◌, ℕ, ◌+◌, ◌<◌, Bool, true, false, cond, Some, List, [], ◌∷◌, ◌++◌, length, drop}
use Rattle.std.proofs.Common.{drop-cons, filter, get_or, find, suc, sym, ◌∙◌, ap, arith, append_assoc, append-nil, map}
use Rattle.std.specs.Prelude.{◌&&◌, ◌||◌}
use Rattle.std.specs.List.{flat_map, list_all, list_any, range_with_len}
use Rattle.std.proofs.lemmas.List.Concat.{flat_map-cons}

-- the elements from a place on are the one there and those after it
pub dropped : {X : Type 0} (xs : List X) (i : ℕ) (x : X) → i < length xs → x ≡ get_or xs i x →
    drop i xs ≡ x ∷ drop (i + 1) xs
dropped xs i x within is =
    let more : suc i ≡ i + 1 = omega arith in
    drop-cons xs i x within ∙ ap (λ y. y ∷ drop (suc i) xs) (sym is) ∙ ap (λ at. x ∷ drop at xs) more

-- a search goes on after an element that fails its test, and ends at one that passes it
pub find-next : {X : Type 0} (test : X → Bool) (xs : List X) (i : ℕ) (x : X) → i < length xs → x ≡ get_or xs i x →
    test x ≡ false → find test (drop i xs) ≡ find test (drop (i + 1) xs)
find-next test xs i x within is fails =
    ap (find test) (dropped xs i x within is)
    ∙ ap (λ here. cond here (Some x) (find test (drop (i + 1) xs))) fails

-- an item that passes is found at its place
pub find-here : {X : Type 0} (test : X → Bool) (xs : List X) (i : ℕ) (x : X) → i < length xs → x ≡ get_or xs i x →
    test x ≡ true → find test (drop i xs) ≡ Some x
find-here test xs i x within is passes =
    ap (find test) (dropped xs i x within is)
    ∙ ap (λ here. cond here (Some x) (find test (drop (i + 1) xs))) passes

-- a part of what is left was done
pub rest-more : {X : Type 0} (done new more rest later whole : List X) → done ++ rest ≡ whole →
    rest ≡ more ++ later → new ≡ done ++ more → new ++ later ≡ whole
rest-more done new more rest later whole before splits is =
    ap (λ xs. xs ++ later) is ∙ append_assoc done more later ∙ ap (λ xs. done ++ xs) (sym splits) ∙ before

-- nothing is left
pub rest-none : {X : Type 0} (done rest whole : List X) → done ++ rest ≡ whole → rest ≡ [] → done ≡ whole
rest-none done rest whole before none =
    sym (append-nil done) ∙ ap (λ xs. done ++ xs) (sym none) ∙ before

-- a range is its first number and the others
pub range-next : (a n m : ℕ) → n ≡ m + 1 → range_with_len a n ≡ a ∷ range_with_len (a + 1) m
range-next a n m is = let e : n ≡ suc m = omega arith in ap (range_with_len a) e

-- a range begins with its first number and goes on with the others
pub flat_map-range : {Y : Type 0} (f : ℕ → List Y) (a n m : ℕ) → n ≡ m + 1 →
    flat_map f (range_with_len a n) ≡ f a ++ flat_map f (range_with_len (a + 1) m)
flat_map-range f a n m is = ap (flat_map f) (range-next a n m is) ∙ flat_map-cons f a (range_with_len (a + 1) m)

-- all of a range pass if its first number does and all others do
pub all-next : (test : ℕ → Bool) (a n m : ℕ) → n ≡ m + 1 → test a ≡ true →
    list_all test (range_with_len a n) ≡ list_all test (range_with_len (a + 1) m)
all-next test a n m is passes =
    ap (list_all test) (range-next a n m is)
    ∙ ap (λ here. here && list_all test (range_with_len (a + 1) m)) passes

-- the lists of what is left, one after another
pub flat_map-dropped : {X Y Z : Type 0} (see : X → Y) (f : Y → List Z) (xs : List X) (i : ℕ) (x : X) → i < length xs →
    x ≡ get_or xs i x →
    flat_map f (map see (drop i xs)) ≡ f (see x) ++ flat_map f (map see (drop (i + 1) xs))
flat_map-dropped see f xs i x within is =
    ap (λ ys. flat_map f (map see ys)) (dropped xs i x within is)
    ∙ flat_map-cons f (see x) (map see (drop (i + 1) xs))

-- three lists that were added one after another
pub three-joined : {X : Type 0} (start a b c one two three : List X) → one ≡ start ++ a → two ≡ one ++ b →
    three ≡ two ++ c → three ≡ start ++ ((a ++ b) ++ c)
three-joined start a b c one two three is_one is_two is_three =
    is_three ∙ ap (λ xs. xs ++ c) (is_two ∙ ap (λ xs. xs ++ b) is_one)
    ∙ ap (λ xs. xs ++ c) (append_assoc start a b) ∙ append_assoc start (a ++ b) c

-- four lists that were added one after another
pub four-joined : {X : Type 0} (start a b c d one two three four : List X) → one ≡ start ++ a → two ≡ one ++ b →
    three ≡ two ++ c → four ≡ three ++ d → four ≡ start ++ (((a ++ b) ++ c) ++ d)
four-joined start a b c d one two three four is_one is_two is_three is_four =
    is_four
    ∙ ap (λ xs. xs ++ d) (is_three ∙ ap (λ xs. xs ++ c) (is_two ∙ ap (λ xs. xs ++ b) is_one))
    ∙ regrouped start a b c d
  where
    regrouped : {X : Type 0} (s a b c d : List X) → (((s ++ a) ++ b) ++ c) ++ d ≡ s ++ (((a ++ b) ++ c) ++ d)
    regrouped s a b c d = simp append_assoc

-- not all of a range pass if its first number doesn't
pub any-missing : (test : ℕ → Bool) (a n m : ℕ) → n ≡ m + 1 → test a ≡ false →
    list_all test (range_with_len a n) ≡ false
any-missing test a n m is fails =
    ap (list_all test) (range-next a n m is)
    ∙ ap (λ here. here && list_all test (range_with_len (a + 1) m)) fails

-- some of a range pass if its first number does, and else if some of the others do
pub any-here : (test : ℕ → Bool) (a n m : ℕ) → n ≡ m + 1 → test a ≡ true →
    list_any test (range_with_len a n) ≡ true
any-here test a n m is passes =
    ap (list_any test) (range-next a n m is)
    ∙ ap (λ here. here || list_any test (range_with_len (a + 1) m)) passes

-- one that fails the test is left out of a range: of whether any passes it
pub any-next : (test : ℕ → Bool) (a n m : ℕ) → n ≡ m + 1 → test a ≡ false →
    list_any test (range_with_len a n) ≡ list_any test (range_with_len (a + 1) m)
any-next test a n m is fails =
    ap (list_any test) (range-next a n m is)
    ∙ ap (λ here. here || list_any test (range_with_len (a + 1) m)) fails

-- the first of a range that passes is its first number if that does, and else that of the others
pub first-here : (test : ℕ → Bool) (a n m : ℕ) → n ≡ m + 1 → test a ≡ true → find test (range_with_len a n) ≡ Some a
first-here test a n m is passes =
    ap (find test) (range-next a n m is)
    ∙ ap (λ here. cond here (Some a) (find test (range_with_len (a + 1) m))) passes

-- of the first that passes it
pub first-next : (test : ℕ → Bool) (a n m : ℕ) → n ≡ m + 1 → test a ≡ false →
    find test (range_with_len a n) ≡ find test (range_with_len (a + 1) m)
first-next test a n m is fails =
    ap (find test) (range-next a n m is)
    ∙ ap (λ here. cond here (Some a) (find test (range_with_len (a + 1) m))) fails

-- those of a range that pass are its first number, if it does, and those of the others
pub filter-range : (test : ℕ → Bool) (a n m : ℕ) (passes : Bool) → n ≡ m + 1 → test a ≡ passes →
    filter test (range_with_len a n) ≡ cond passes (a ∷ []) [] ++ filter test (range_with_len (a + 1) m)
filter-range test a n m true is says =
    ap (filter test) (range-next a n m is)
    ∙ ap (λ here. cond here (a ∷ filter test (range_with_len (a + 1) m)) (filter test (range_with_len (a + 1) m))) says
filter-range test a n m false is says =
    ap (filter test) (range-next a n m is)
    ∙ ap (λ here. cond here (a ∷ filter test (range_with_len (a + 1) m)) (filter test (range_with_len (a + 1) m))) says

-- a search in lists of at most one item, one for each number of a range
pub begun-here : {X : Type 0} (test : X → Bool) (f : ℕ → List X) (a n m : ℕ) (x : X) → n ≡ m + 1 → f a ≡ x ∷ [] →
    test x ≡ true → find test (flat_map f (range_with_len a n)) ≡ Some x
begun-here test f a n m x is has passes =
    ap (find test) (flat_map-range f a n m is ∙ ap (λ xs. xs ++ flat_map f (range_with_len (a + 1) m)) has)
    ∙ ap (λ here. cond here (Some x) (find test (flat_map f (range_with_len (a + 1) m)))) passes

-- and of the first among what numbers give, where a number gives one that fails
pub begun-next : {X : Type 0} (test : X → Bool) (f : ℕ → List X) (a n m : ℕ) (x : X) → n ≡ m + 1 → f a ≡ x ∷ [] →
    test x ≡ false →
    find test (flat_map f (range_with_len a n)) ≡ find test (flat_map f (range_with_len (a + 1) m))
begun-next test f a n m x is has fails =
    ap (find test) (flat_map-range f a n m is ∙ ap (λ xs. xs ++ flat_map f (range_with_len (a + 1) m)) has)
    ∙ ap (λ here. cond here (Some x) (find test (flat_map f (range_with_len (a + 1) m)))) fails

-- or none
pub begun-none : {X : Type 0} (test : X → Bool) (f : ℕ → List X) (a n m : ℕ) → n ≡ m + 1 → f a ≡ [] →
    find test (flat_map f (range_with_len a n)) ≡ find test (flat_map f (range_with_len (a + 1) m))
begun-none test f a n m is none =
    ap (find test) (flat_map-range f a n m is ∙ ap (λ xs. xs ++ flat_map f (range_with_len (a + 1) m)) none)
