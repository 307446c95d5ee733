-- What holds of some element of a list, and of each element of joined lists.
use Rattle.std.proofs.Common.{◌≡◌, ℕ, zero, suc, ◌<◌, Bool, true, false, cond, List, [], ◌∷◌, ◌++◌, length}
use Rattle.std.proofs.Common.{filter, get_or, map, refl, ap, subst, sym, ◌∙◌, arith}
use Rattle.std.specs.List.{All, Any, flat_map}
use Rattle.std.proofs.lemmas.List.Elements.{All-append, All-cons, All-head, All-nil, All-tail, All-weaker}

-- the first element, and one of the others
pub any_here : {X : Type 0} (P : X → Type 0) (x : X) (xs : List X) → P x → Any P (x ∷ xs)
any_here P x xs here = (0, x, omega arith, refl, here)

-- what one of the later items is, one of all is
pub any_later : {X : Type 0} (P : X → Type 0) (x : X) (xs : List X) → Any P xs → Any P (x ∷ xs)
any_later P x xs some = (suc some.0, some.1, omega (arith, some.2), some.3, some.4)

-- an item that is P is Q, if all that is P is Q
pub any_weaker : {X : Type 0} (P Q : X → Type 0) (xs : List X) → ((x : X) → P x → Q x) → Any P xs → Any Q xs
any_weaker P Q xs so some = (some.0, some.1, some.2, some.3, so some.1 some.4)

-- what holds of each element holds of that one
pub any_with : {X : Type 0} (P Q : X → Type 0) (xs : List X) → All P xs → Any Q xs → Any (λ x. P x × Q x) xs
any_with P Q xs all some =
    (some.0, some.1, some.2, some.3, (subst P some.3 (all some.0 some.1 some.2), some.4))

-- the element of a list that something holds of, by its place
pub any_at : {X : Type 0} (P : X → Type 0) (xs : List X) (k : ℕ) (d : X) → k < length xs → P (get_or xs k d) → Any P xs
any_at P [] k d within here = absurd (omega (arith, within))
any_at P (x ∷ xs) zero d within here = any_here P x xs here
any_at P (x ∷ xs) (suc k) d within here =
    any_later P x xs (any_at P xs k d (omega (arith, within)) here)

-- some element of one list or the other, where lists are joined
pub any_left : {X : Type 0} (P : X → Type 0) (xs ys : List X) → Any P xs → Any P (xs ++ ys)
any_left P [] ys some = absurd (omega (arith, some.2))
any_left P (x ∷ xs) ys (zero, y, within, is, here) = any_here P x (xs ++ ys) (subst P (sym is) here)
any_left P (x ∷ xs) ys (suc k, y, within, is, here) =
    any_later P x (xs ++ ys) (any_left P xs ys (k, y, omega (arith, within), is, here))

-- what an item of the second list is, an item of both is
pub any_right : {X : Type 0} (P : X → Type 0) (xs ys : List X) → Any P ys → Any P (xs ++ ys)
any_right P [] ys some = some
any_right P (x ∷ xs) ys some = any_later P x (xs ++ ys) (any_right P xs ys some)

-- what an item of one of the lists is, an item of the lists joined is
pub any_joined : {X Y : Type 0} (P : Y → Type 0) (f : X → List Y) (xs : List X) → Any (λ x. Any P (f x)) xs
    → Any P (flat_map f xs)
any_joined P f [] some = absurd (omega (arith, some.2))
any_joined P f (x ∷ xs) (zero, y, within, is, here) =
    any_left P (f x) (flat_map f xs) (subst (λ (z : _). Any P (f z)) (sym is) here)
any_joined P f (x ∷ xs) (suc k, y, within, is, here) =
    any_right P (f x) (flat_map f xs) (any_joined P f xs (k, y, omega (arith, within), is, here))

-- what the image of an item is, an item of the images is
pub any_mapped : {X Y : Type 0} (P : Y → Type 0) (f : X → Y) (xs : List X) → Any (λ x. P (f x)) xs → Any P (map f xs)
any_mapped P f [] some = absurd (omega (arith, some.2))
any_mapped P f (x ∷ xs) (zero, y, within, is, here) =
    any_here P (f x) (map f xs) (subst (λ (z : _). P (f z)) (sym is) here)
any_mapped P f (x ∷ xs) (suc k, y, within, is, here) =
    any_later P (f x) (map f xs) (any_mapped P f xs (k, y, omega (arith, within), is, here))

-- an element that passes is kept
kept_first : {X : Type 0} (P : X → Type 0) (x : X) (kept : List X) (here : Bool) → here ≡ true → P x
    → Any P (cond here (x ∷ kept) kept)
kept_first P x kept true passes holds = any_here P x kept holds
kept_first P x kept false passes holds = absurd (cc)

kept_later : {X : Type 0} (P : X → Type 0) (x : X) (kept : List X) (here : Bool) → Any P kept
    → Any P (cond here (x ∷ kept) kept)
kept_later P x kept true some = any_later P x kept some
kept_later P x kept false some = some

-- an item that passes the test is among those that are kept
pub any_kept : {X : Type 0} (P : X → Type 0) (test : X → Bool) (xs : List X) → Any (λ x. (test x ≡ true) × P x) xs
    → Any P (filter test xs)
any_kept P test [] some = absurd (omega (arith, some.2))
any_kept P test (x ∷ xs) (zero, y, within, is, here) =
    kept_first P x (filter test xs) (test x) (ap test is ∙ here.0) (subst P (sym is) here.1)
any_kept P test (x ∷ xs) (suc k, y, within, is, here) =
    kept_later P x (filter test xs) (test x) (any_kept P test xs (k, y, omega (arith, within), is, here))

-- what all items of each of the lists are, all items of the lists joined are
pub all_joined : {X Y : Type 0} (P : Y → Type 0) (f : X → List Y) (xs : List X) → All (λ x. All P (f x)) xs
    → All P (flat_map f xs)
all_joined P f [] each = All-nil P
all_joined P f (x ∷ xs) each =
    All-append P (f x) (flat_map f xs) (All-head (λ (y : _). All P (f y)) x xs each)
    (all_joined P f xs (All-tail (λ (y : _). All P (f y)) x xs each))

-- what a filter keeps is in the list, and passes
with_first : {X : Type 0} (test : X → Bool) (x : X) (xs kept : List X) (here : Bool) → test x ≡ here
    → All (λ z. Any (λ y. (test y ≡ true) × (z ≡ y)) (x ∷ xs)) kept
    → All (λ z. Any (λ y. (test y ≡ true) × (z ≡ y)) (x ∷ xs)) (cond here (x ∷ kept) kept)
with_first test x xs kept true is later =
    All-cons (λ (z : _). Any (λ (y : _). (test y ≡ true) × (z ≡ y)) (x ∷ xs)) x kept
    (any_here (λ (y : _). (test y ≡ true) × (x ≡ y)) x xs (is, refl)) later
with_first test x xs kept false is later = later

-- each item that is kept passes the test and is one of the list
pub kept_of : {X : Type 0} (test : X → Bool) (xs : List X)
    → All (λ x. Any (λ y. (test y ≡ true) × (x ≡ y)) xs) (filter test xs)
kept_of test [] = All-nil (λ (x : _). Any (λ (y : _). (test y ≡ true) × (x ≡ y)) [])
kept_of test (x ∷ xs) =
    with_first test x xs (filter test xs) (test x) refl
    (All-weaker (λ (z : _). Any (λ (y : _). (test y ≡ true) × (z ≡ y)) xs)
    (λ (z : _). Any (λ (y : _). (test y ≡ true) × (z ≡ y)) (x ∷ xs))
    (λ z there. any_later (λ (y : _). (test y ≡ true) × (z ≡ y)) x xs there) (filter test xs) (kept_of test xs))
