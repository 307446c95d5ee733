-- The table of accepted messages: what a search finds in it, and what is kept where one is added or stopped.
use Rattle.std.proofs.Common.{◌≡◌, ◌≢◌, ℕ, zero, suc, ◌+◌, ◌-◌, ◌<◌, ◌≤◌, ◌==◌, ◌&&◌, Bool, true, false, not, Some}
use Rattle.std.proofs.Common.{None}
use Rattle.std.proofs.Common.{Result, Ok, Err, List, [], ◌∷◌, ◌++◌, length, map, set, get_or, refl, ap, sym, subst, ◌∙◌}
use Rattle.std.proofs.Common.{inl, inr, arith, if◌then◌else◌}
use Rattle.std.specs.List.{All, Any, AllPairs, insert, find, slice_get}
use Rattle.std.specs.List.Sorted.{IsSearchInRange, IsBinarySearchResult, IsNonDecreasingBy}
use Rattle.std.specs.Cmp.{IsTotalOrder}
use Rattle.std.specs.Result.{MatchResult}
use Rattle.std.proofs.lemmas.Bool.Decides.{nat_tests}
use Rattle.std.specs.Ordering.{nat_cmp, ordering_index, ordering_reverse}
use Rattle.std.specs.declared.cmp.Ordering.{Ordering}
use Rattle.std.specs.declared.cmp.Ordering.TheVariants.{Less, Equal, Greater}
use Rattle.std.proofs.lemmas.Bool.{cases_eq, cases_lt, cases_Bool, and_parts, eqb-true, eq-eqb, ne_eqb, false≢true}
use Rattle.std.proofs.lemmas.Option.{slice_get_within, get_or_from_slice_get, slice_get-get_or}
use Rattle.std.proofs.lemmas.List.Sorted.{All-permutation, Contains-permutation, IsPermutation-insert}
use Rattle.std.proofs.lemmas.List.Elements.{All-cons}
use Rattle.std.proofs.Math.ListN.{get_or-append}
use Rattle.std.proofs.Math.Seq.{get_or-append_seam}
use Rattle.std.proofs.lemmas.List.{get_or-map, length-map, get_or_default, length_push}
use Rattle.std.proofs.lemmas.Cmp.{nat_cmp_total, on_total, then_total, tied_itself, alike_right, ranked}
use Rattle.std.proofs.lemmas.List.Edits.{length-insert, get_or-insert_below, get_or-insert_at, get_or-insert_above}
use Rattle.bsc_table.specs.declared.accepted.AcceptedMessage.{AcceptedMessage}
use Rattle.bsc_table.specs.declared.table.Pair.{Pair}
use Rattle.bsc_table.specs.Table.{compare_pairs, pair_kept, AreRisingPairs, IsPairFound, IsGapFor, ArePartedAt}
use Rattle.bsc_table.specs.Table.{AreRisingMessages, AreByPair, IsPlaceFound, pair_of}
use Rattle.bsc_table.specs.Record.{Accepted, is_of_pair}
use Rattle.bsc_table.specs.Accepted.{accepted_of}
use Rattle.bsc_table.specs.BookSteps.{accepted_stopped, stop_numbered}
use Rattle.bsc_table.specs.Record.{is_background_category, rank_of}
use Rattle.scheduler.specs.Air.{layer, layer_of}
use Rattle.bsc_table.proofs.History.Ranks.{layer_tells}

-- an order is one of three
three : (o : Ordering) → ordering_index o ≤ 2
three Less = omega arith
three Equal = omega arith
three Greater = omega arith

module _ {X K : Type 0} (R : K → K → Ordering) (total : IsTotalOrder R) (key : X → K) (xs : List X)
    (rising : AllPairs (λ a b. R (key a) (key b) ≡ Less) xs) (k : K) where
  -- what is before one that is compared is compared no greater
  before : (a b : X) → R (key a) (key b) ≡ Less → (o : Ordering) → R (key b) k ≡ o
      → ordering_index (R (key a) k) ≤ ordering_index o
  before a b less Less is = rw (total.trans (key a) (key b) k less is) (omega arith)
  before a b less Equal is =
      rw (sym (alike_right total (key b) k (key a) is) ∙ less) (omega arith)
  before a b less Greater is = three (R (key a) k)

  -- so the comparisons with a key rise, as a binary search asks
  pub comparisons_rise : IsNonDecreasingBy (λ x. ordering_index (R (key x) k)) xs
  comparisons_rise i j d le within = elim (cases_eq i j) [
    | inl same ↦ rw same (omega arith)
    | inr apart ↦ before (get_or xs i d) (get_or xs j d) (rising i j d (omega (arith, le, apart)) within) _ refl
  ]

-- the order of pairs
pub compare_pairs-total : IsTotalOrder compare_pairs
compare_pairs-total =
    then_total (on_total (λ (p : ℕ × ℕ). p.0) nat_cmp_total) (on_total (λ (p : ℕ × ℕ). p.1) nat_cmp_total)

-- pairs that are compared as equal are
pub same_pair : (a b : ℕ × ℕ) → compare_pairs a b ≡ Equal → a ≡ b
same_pair a b is = elim (cases_eq a.0 b.0) [
  | inl first ↦ elim (cases_eq a.1 b.1) [
    | inl second ↦ pair_is a b first second
    | inr apart ↦ absurd (grind (arith, nat_tests, is, first, apart))
  ]
  | inr apart ↦ absurd (grind (arith, nat_tests, is, apart))
]
  where
    pair_is : (a b : ℕ × ℕ) → a.0 ≡ b.0 → a.1 ≡ b.1 → a ≡ b
    pair_is a b first second = ap (λ x. (x, a.1)) first ∙ ap (λ y. (b.0, y)) second

least_is_less : (o : Ordering) → ordering_index o ≤ 0 → o ≡ Less
least_is_less Less le = refl
least_is_less Equal le = absurd (omega (arith, le))
least_is_less Greater le = absurd (omega (arith, le))

-- pairs up to a lesser one are lesser
pub less_up_to : (pairs : List Pair) (pair : ℕ × ℕ) → AreRisingPairs pairs → (middle : ℕ) (d : Pair)
    → middle < length pairs
    → compare_pairs (pair_kept (get_or pairs middle d)) pair ≡ Less
    → (k : ℕ) (e : Pair) → k ≤ middle
    → compare_pairs (pair_kept (get_or pairs k e)) pair ≡ Less
less_up_to pairs pair rising middle d inside less k e le =
    let there : compare_pairs (pair_kept (get_or pairs middle e)) pair ≡ Less =
    rw (get_or_default pairs middle e d inside) less in
    let rise = comparisons_rise compare_pairs compare_pairs-total pair_kept pairs rising pair k middle e le inside in
    least_is_less _ (rw there at rise)

-- and from one that isn't lesser on none is
pub none_less_from : (pairs : List Pair) (pair : ℕ × ℕ) → AreRisingPairs pairs → (middle : ℕ) (d : Pair)
    → middle < length pairs
    → (compare_pairs (pair_kept (get_or pairs middle d)) pair ≡ Less → ⊥)
    → (k : ℕ) (e : Pair) → middle ≤ k → k < length pairs
    → compare_pairs (pair_kept (get_or pairs k e)) pair ≢ Less
none_less_from pairs pair rising middle d inside not k e le within less =
    not (less_up_to pairs pair rising k e within less middle d le)

greatest : (o : Ordering) → o ≢ Less → o ≢ Equal → o ≡ Greater
greatest Less less equal = absurd (less refl)
greatest Equal less equal = absurd (equal refl)
greatest Greater less equal = refl

greatest_from : (o p : Ordering) → o ≡ Greater → ordering_index o ≤ ordering_index p → p ≡ Greater
greatest_from o Less is le = absurd (omega (arith, rw is at le))
greatest_from o Equal is le = absurd (omega (arith, rw is at le))
greatest_from o Greater is le = refl

-- a pair that doesn't stand where the lesser ones end would go there
pub gap_where_parted : (pairs : List Pair) (pair : ℕ × ℕ) → AreRisingPairs pairs → (at : ℕ)
    → ArePartedAt pair pairs at
    → ((d : Pair) → at < length pairs → pair_kept (get_or pairs at d) ≡ pair → ⊥)
    → IsGapFor pair pairs at
gap_where_parted pairs pair rising at parted apart = record {
  within = parted.within;
  before = parted.before;
  behind = λ k d le inside.
      let here = at_most le inside in
      let great = greatest _ (parted.behind at d (omega arith) here)
      (λ equal. apart d here (same_pair _ pair equal)) in
      greatest_from _ _ great
      (comparisons_rise compare_pairs compare_pairs-total pair_kept pairs rising pair at k d le inside);
}
  where
    at_most : {k : ℕ} → at ≤ k → k < length pairs → at < length pairs
    at_most le inside = omega (arith, le, inside)

-- what a search among messages in the order of their numbers finds
pub searched_number : (messages : List AcceptedMessage) (entry : ℕ) → AreRisingMessages messages → (r : Result ℕ ℕ)
    → IsSearchInRange r (length messages) → IsBinarySearchResult (λ m. nat_cmp m.entry entry) messages r
    → MatchResult r (λ at. IsPlaceFound entry messages (Some at)) (λ at. IsPlaceFound entry messages None)
searched_number messages entry rising (Ok at) within is = (within, λ d. ranked _ entry _ (sym (is d)))
searched_number messages entry rising (Err at) within parted =
    let parts = parted (comparisons_rise nat_cmp nat_cmp_total (λ (m : AcceptedMessage). m.entry) messages
    (λ i j d before inside. less_is _ _ (rising i j d before inside)) entry) in
    λ k d inside same. elim (cases_lt k at) [
      | inl before ↦ omega (arith, ranked _ entry _ (sym (parts.0 k d (omega arith) before)), same)
      | inr not ↦ omega (arith, ranked _ entry _ (sym (parts.1 k d not inside)), same)
    ]
  where
    less_is : (x y : ℕ) → x < y → nat_cmp x y ≡ Less
    less_is x y less = grind (arith, nat_tests, less)

-- what is found first is at a place behind which nothing passes
pub find_at : {X : Type 0} (q : X → Bool) (xs : List X) (k : ℕ) (d : X) → k < length xs → q (get_or xs k d) ≡ true
    → ((j : ℕ) → j < k → q (get_or xs j d) ≡ false) → find q xs ≡ Some (get_or xs k d)
find_at q [] k d h passes before = absurd (omega arith)
find_at q (x ∷ xs) zero d h passes before = rw passes refl
find_at q (x ∷ xs) (suc k) d h passes before =
    rw (before 0 (omega arith)) (find_at q xs k d (omega arith) passes (λ j less. before (suc j) (omega arith)))

-- and nothing is found where nothing passes
pub find_none : {X : Type 0} (q : X → Bool) (xs : List X) → ((k : ℕ) (d : X) → k < length xs
    → q (get_or xs k d) ≡ false) → find q xs ≡ None
find_none q [] fails = refl
find_none q (x ∷ xs) fails = rw (fails 0 x (omega arith)) (find_none q xs (λ k d h. fails (suc k) d (omega arith)))

-- a message has the pair that it is found by
of_pair : (id serial : ℕ) (m : AcceptedMessage) → pair_of m ≡ (id, serial)
    → is_of_pair id serial (accepted_of m) ≡ true
of_pair id serial m is =
    let first : m.id ≡ id = ap (λ (p : ℕ × ℕ). p.0) is in
    let second : m.serial ≡ serial = ap (λ (p : ℕ × ℕ). p.1) is in
    rw (eq-eqb m.id id first, eq-eqb m.serial serial second) refl

has_pair : (id serial : ℕ) (m : AcceptedMessage) → is_of_pair id serial (accepted_of m) ≡ true
    → pair_of m ≡ (id, serial)
has_pair id serial m says =
    let parts = and_parts (m.id == id) (m.serial == serial) says in
    let first : m.id ≡ id = eqb-true m.id id parts.0 in
    let second : m.serial ≡ serial = eqb-true m.serial serial parts.1 in
    ap (λ x. (x, m.serial)) first ∙ ap (λ y. (id, y)) second

-- a pair isn't less than itself
not_less : (a b : ℕ × ℕ) → a ≡ b → (o : Ordering) → compare_pairs a b ≡ o → o ≢ Equal → ⊥
not_less a b same o is apart =
    apart (sym is ∙ ap (λ x. compare_pairs x b) same ∙ tied_itself compare_pairs-total b)

less_apart : Less ≢ Equal
less_apart e = omega (arith, ap ordering_index e)

greater_apart : Greater ≢ Equal
greater_apart e = omega (arith, ap ordering_index e)

-- of pairs in order, equal ones are one
one_pair : (pairs : List Pair) (i j : ℕ) (d : Pair) → AreRisingPairs pairs → i < length pairs → j < length pairs
    → pair_kept (get_or pairs i d) ≡ pair_kept (get_or pairs j d) → i ≡ j
one_pair pairs i j d rising first second same = elim (cases_lt i j) [
  | inl before ↦ absurd (not_less _ _ same Less (rising i j d before second) less_apart)
  | inr not ↦ elim (cases_lt j i) [
    | inl behind ↦ absurd (not_less _ _ (sym same) Less (rising j i d behind first) less_apart)
    | inr nor ↦ omega arith
  ]
]

-- a pair that has a gap isn't there
not_in_gap : (pair : ℕ × ℕ) (pairs : List Pair) (at i : ℕ) (d : Pair) → IsGapFor pair pairs at → i < length pairs
    → pair_kept (get_or pairs i d) ≢ pair
not_in_gap pair pairs at i d gap within same = elim (cases_lt i at) [
  | inl before ↦ not_less _ _ same Less (gap.before i d before) less_apart
  | inr not ↦ not_less _ _ same Greater (gap.behind i d not within) greater_apart
]

-- the message at the place of a pair is of that pair
pub its_message : (messages : List AcceptedMessage) (pairs : List Pair) (i : ℕ) (d : Pair) (m : AcceptedMessage)
    → AreByPair messages pairs → i < length pairs
    → ((get_or pairs i d).place < length messages) × (pair_of (get_or messages (get_or pairs i d).place m)
    ≡ pair_kept (get_or pairs i d))
its_message messages pairs i d m by_pair within =
    let p = get_or pairs i d in
    let is = by_pair.right i d within in
    let inside : p.place < length messages = omega (
      arith,
      slice_get_within (map pair_of messages) p.place (pair_kept p) is,
      length-map messages pair_of,
    ) in
    let read = get_or_from_slice_get (map pair_of messages) p.place (pair_kept p) (pair_kept p) is in
    (inside, sym (get_or-map pair_of messages p.place m (pair_kept p) inside) ∙ read)

-- and the pair of the message at a place stands among the pairs
pub its_pair : (messages : List AcceptedMessage) (pairs : List Pair) (k : ℕ) (m : AcceptedMessage)
    → AreByPair messages pairs → k < length messages
    → (i : ℕ) × (d : Pair) × (i < length pairs) × ((get_or pairs i d).place ≡ k)
    × (pair_kept (get_or pairs i d) ≡ pair_of (get_or messages k m))
its_pair messages pairs k m by_pair within =
    let found = by_pair.whole k within in
    let i = found.0 in
    let d = found.1 in
    let place : (get_or pairs i d).place ≡ k = ap (λ (p : Pair). p.place) found.3 ∙ found.4 in
    let its = its_message messages pairs i d m by_pair found.2 in
    (i, d, found.2, place, sym its.1 ∙ ap (λ n. pair_of (get_or messages n m)) place)

-- so the message of a pair is the first of it
pub found_by_pair : (messages : List AcceptedMessage) (pairs : List Pair) (id serial at : ℕ) (d : Pair)
    (m : AcceptedMessage) → AreByPair messages pairs → IsPairFound (id, serial) pairs (Ok at)
    → find (is_of_pair id serial) (map accepted_of messages)
    ≡ Some (accepted_of (get_or messages (get_or pairs at d).place m))
found_by_pair messages pairs id serial at d m by_pair found =
    let place = (get_or pairs at d).place in
    let its = its_message messages pairs at d m by_pair found.0 in
    let named : pair_of (get_or messages place m) ≡ (id, serial) = its.1 ∙ found.1 d in
    let a : Accepted = accepted_of m in
    let at_place : (k : ℕ) → k < length messages → get_or (map accepted_of messages) k a ≡ accepted_of
    (get_or messages k m) = λ k h. get_or-map accepted_of messages k m a h in
    let passes = ap (is_of_pair id serial) (at_place place its.0) ∙ of_pair id serial (get_or messages place m) named in
    find_at (is_of_pair id serial) (map accepted_of messages) place a
    (omega (arith, its.0, length-map messages accepted_of)) passes
    (λ j less. ap (is_of_pair id serial) (at_place j (omega (arith, its.0, less))) ∙ other j less)
    ∙ ap (λ (x : Accepted). Some x) (at_place place its.0)
  where
    other : (j : ℕ) → j < (get_or pairs at d).place → is_of_pair id serial (accepted_of (get_or messages j m)) ≡ false
    other j less = elim (cases_Bool (is_of_pair id serial (accepted_of (get_or messages j m)))) [
      | inr fails ↦ fails
      | inl says ↦
          let its = its_message messages pairs at d m by_pair found.0 in
          let also = its_pair messages pairs j m by_pair (omega (arith, its.0, less)) in
          let here = get_or_default pairs also.0 also.1 d also.2 in
          let kept = ap pair_kept (sym here) ∙ (also.4 ∙ (has_pair id serial (get_or messages j m) says
          ∙ sym (found.1 d))) in
          let same = one_pair pairs also.0 at d by_pair.rising also.2 found.0 kept in
          let place = ap (λ (p : Pair). p.place) here ∙ ap (λ i. (get_or pairs i d).place) same in
          absurd (omega (arith, place, also.3, less))
    ]

-- and there is none of a pair that has a gap
pub none_by_pair : (messages : List AcceptedMessage) (pairs : List Pair) (id serial at : ℕ)
    → AreByPair messages pairs → IsGapFor (id, serial) pairs at
    → find (is_of_pair id serial) (map accepted_of messages) ≡ None
none_by_pair messages pairs id serial at by_pair gap =
    find_none (is_of_pair id serial) (map accepted_of messages) (λ k a h.
    let inside : k < length messages = omega (arith, h, length-map messages accepted_of) in
    other k a inside)
  where
    pair_read : (messages : List AcceptedMessage) (k : ℕ) (a : Accepted) (e : ℕ × ℕ) → k < length messages
        → is_of_pair id serial (get_or (map accepted_of messages) k a) ≡ true
        → get_or (map pair_of messages) k e ≡ (id, serial)
    pair_read [] k a e h says = absurd (omega arith)
    pair_read (m ∷ messages) zero a e h says = has_pair id serial m says
    pair_read (m ∷ messages) (suc k) a e h says = pair_read messages k a e (omega arith) says

    other : (k : ℕ) (a : Accepted) → k < length messages
        → is_of_pair id serial (get_or (map accepted_of messages) k a) ≡ false
    other k a h = elim (cases_Bool (is_of_pair id serial (get_or (map accepted_of messages) k a))) [
      | inr fails ↦ fails
      | inl says ↦
          let found = by_pair.whole k h in
          let is = by_pair.right found.0 found.1 found.2 in
          let place : (get_or pairs found.0 found.1).place ≡ k = ap (λ (p : Pair). p.place) found.3 ∙ found.4 in
          let kept = pair_kept (get_or pairs found.0 found.1) in
          let read = get_or_from_slice_get (map pair_of messages) k kept kept
          (ap (λ n. slice_get (map pair_of messages) n) (sym place) ∙ is) in
          let named = pair_read messages k a kept h says in
          absurd (not_in_gap (id, serial) pairs at found.0 found.1 gap found.2 (sym read ∙ named))
    ]

-- what an insertion of a pair into its gap leaves
pub with_pair : (messages : List AcceptedMessage) (pairs : List Pair) (new : AcceptedMessage) (p : Pair) (at : ℕ)
    → AreByPair messages pairs → IsGapFor (pair_of new) pairs at → pair_kept p ≡ pair_of new
    → p.place ≡ length messages → AreByPair (messages ++ new ∷ []) (insert pairs at p)
with_pair messages pairs new p at by_pair gap same place = record {
  rising = rising;
  right = All-permutation Right (p ∷ pairs) (insert pairs at p) (IsPermutation-insert pairs at p)
      (All-cons Right p pairs here there);
  whole = whole;
}
  where
    more : List (ℕ × ℕ)
    more = map pair_of (messages ++ new ∷ [])

    Right : Pair → Type 0
    Right q = slice_get more q.place ≡ Some (pair_kept q)

    longer : length more ≡ length messages + 1
    longer = omega (arith, length-map (messages ++ new ∷ []) pair_of, length_push messages new)

    here : Right p
    here =
        slice_get-get_or more p.place (pair_of new) (omega (arith, longer, place))
        ∙ ap (λ x. Some x) (get_or-map pair_of (messages ++ new ∷ []) p.place new (pair_of new)
        (omega (arith, length_push messages new, place))
        ∙ ap (λ n. pair_of (get_or (messages ++ new ∷ []) n new)) place
        ∙ ap pair_of (get_or-append_seam messages new [] new) ∙ sym same)

    there : All Right pairs
    there = λ k d h.
        let q = get_or pairs k d in
        let its = its_message messages pairs k d new by_pair h in
        slice_get-get_or more q.place (pair_of new) (omega (arith, longer, its.0))
        ∙ ap (λ x. Some x) (get_or-map pair_of (messages ++ new ∷ []) q.place new (pair_of new)
        (omega (arith, length_push messages new, its.0))
        ∙ ap pair_of (get_or-append messages (new ∷ []) new q.place its.0) ∙ its.1)

    whole : (k : ℕ) → k < length (messages ++ new ∷ []) → Any (λ q. q.place ≡ k) (insert pairs at p)
    whole k h = elim (cases_lt k (length messages)) [
      | inl before ↦
          let found = by_pair.whole k before in
          let q = found.1 in
          let is = Contains-permutation (p ∷ pairs) (insert pairs at p) q (IsPermutation-insert pairs at p)
          (suc found.0, omega (arith, found.2), found.3) in
          (is.0, q, is.1, is.2, found.4)
      | inr not ↦
          let is = Contains-permutation (p ∷ pairs) (insert pairs at p) p (IsPermutation-insert pairs at p)
          (0, omega arith, refl) in
          (is.0, p, is.1, is.2, omega (arith, place, not, h, length_push messages new))
    ]

    Less_at : ℕ → ℕ → Pair → Type 0
    Less_at i j d = compare_pairs (pair_kept (get_or (insert pairs at p) i d)) (pair_kept
        (get_or (insert pairs at p) j d)) ≡ Less

    Comes : Pair → Pair → Type 0
    Comes a b = compare_pairs (pair_kept a) (pair_kept b) ≡ Less

    before_it : (k : ℕ) (d : Pair) → k < at → Comes (get_or pairs k d) p
    before_it k d h = ap (compare_pairs (pair_kept (get_or pairs k d))) same ∙ gap.before k d h

    behind_it : (k : ℕ) (d : Pair) → at ≤ k → k < length pairs → Comes p (get_or pairs k d)
    behind_it k d h within =
        compare_pairs-total.antisymm (pair_kept p) (pair_kept (get_or pairs k d))
        ∙ ap (λ x. ordering_reverse (compare_pairs (pair_kept (get_or pairs k d)) x)) same
        ∙ ap ordering_reverse (gap.behind k d h within)

    rising : AreRisingPairs (insert pairs at p)
    rising i j d less within = elim (cases_lt j at) [
      | inl both ↦ comes i j _ _ (below i d (omega (arith, less, both))) (below j d both)
          (by_pair.rising i j d less (omega (arith, both, gap.within)))
      | inr later ↦ elim (cases_eq j at) [
        | inl there ↦ comes i j _ _ (below i d (omega (arith, less, there))) (at_it j d there)
            (before_it i d (omega (arith, less, there)))
        | inr past ↦
            let second = above j d (omega (arith, later, past)) in
            let inside : j - 1 < length pairs = omega (arith, within, length-insert pairs at p gap.within, less) in
            elim (cases_lt i at) [
              | inl first ↦ comes i j _ _ (below i d first) second (by_pair.rising i (j - 1) d
                  (omega (arith, first, later, past)) inside)
              | inr not ↦ elim (cases_eq i at) [
                | inl it ↦ comes i j _ _ (at_it i d it) second (behind_it (j - 1) d (omega (arith, later, past)) inside)
                | inr nor ↦ comes i j _ _ (above i d (omega (arith, not, nor))) second (by_pair.rising (i - 1) (j - 1) d
                    (omega (arith, less, not, nor)) inside)
              ]
            ]
      ]
    ]
      where
        comes : (i j : ℕ) (a b : Pair) → get_or (insert pairs at p) i d ≡ a → get_or (insert pairs at p) j d ≡ b
            → Comes a b → Less_at i j d
        comes i j a b first second is = rw (first, second) is

        below : (k : ℕ) (d : Pair) → k < at → get_or (insert pairs at p) k d ≡ get_or pairs k d
        below k d h = get_or-insert_below pairs at p d k h gap.within

        at_it : (k : ℕ) (d : Pair) → k ≡ at → get_or (insert pairs at p) k d ≡ p
        at_it k d h = ap (λ n. get_or (insert pairs at p) n d) h ∙ get_or-insert_at pairs at p d gap.within

        above : (k : ℕ) (d : Pair) → at < k → get_or (insert pairs at p) k d ≡ get_or pairs (k - 1) d
        above k d h =
            let back : k ≡ k - 1 + 1 = omega arith in
            ap (λ n. get_or (insert pairs at p) n d) back ∙ get_or-insert_above pairs at p d (k - 1) (omega (arith, h))
            gap.within

-- where none stands of a number, none is stopped
pub stopped_none : (entry slot : ℕ) (messages : List AcceptedMessage) → All (λ m. m.entry ≢ entry) messages
    → map (accepted_stopped entry slot) messages ≡ messages
stopped_none entry slot [] others = refl
stopped_none entry slot (m ∷ messages) others =
    let first = stopped_other entry slot m (others 0 m (omega arith)) in
    ap (λ (x : AcceptedMessage). x ∷ map (accepted_stopped entry slot) messages) first
    ∙ ap (λ (l : List AcceptedMessage). m ∷ l) (stopped_none entry slot messages
    (λ k d h. others (suc k) d (omega arith)))
  where
    stopped_other : (entry slot : ℕ) (m : AcceptedMessage) → m.entry ≢ entry → accepted_stopped entry slot m ≡ m
    stopped_other entry slot m other =
        ap (λ (says : Bool). record m { stop = if says then Some slot else m.stop }) (ne_eqb m.entry entry other)

-- else it is the one at its place
pub stopped_there : (entry slot : ℕ) (messages : List AcceptedMessage) (at : ℕ) (d : AcceptedMessage)
    → AreRisingMessages messages → at < length messages → (get_or messages at d).entry ≡ entry
    → set messages at (accepted_stopped entry slot (get_or messages at d)) ≡ map (accepted_stopped entry slot) messages
stopped_there entry slot [] at d rising within named = absurd (omega arith)
stopped_there entry slot (m ∷ messages) zero d rising within named =
    ap (λ (l : List AcceptedMessage). accepted_stopped entry slot m ∷ l) (sym (stopped_none entry slot messages
    (λ k e h same. let above = rising 0 (suc k) e (omega arith) (omega arith) in omega (arith, above, same, named))))
stopped_there entry slot (m ∷ messages) (suc at) d rising within named =
    let below = rising 0 (suc at) d (omega arith) within in
    let first : accepted_stopped entry slot m ≡ m = ap (λ (says : Bool). record m {
      stop = if says then Some slot else m.stop;
    }) (ne_eqb m.entry entry (λ same. omega (arith, below, named, same))) in
    ap (λ (l : List AcceptedMessage). m ∷ l) (stopped_there entry slot messages at d
    (λ i j e less h. rising (suc i) (suc j) e (omega arith) (omega arith)) (omega arith) named)
    ∙ ap (λ (x : AcceptedMessage). x ∷ map (accepted_stopped entry slot) messages) (sym first)

-- a stop leaves the pairs and the numbers as they were
pub pairs_stopped : (entry slot : ℕ) (messages : List AcceptedMessage)
    → map pair_of (map (accepted_stopped entry slot) messages) ≡ map pair_of messages
pairs_stopped entry slot [] = refl
pairs_stopped entry slot (m ∷ messages) =
    ap (λ (l : List (ℕ × ℕ)). pair_of m ∷ l) (pairs_stopped entry slot messages)

numbers_stopped : (entry slot : ℕ) (messages : List AcceptedMessage)
    → map (λ m. m.entry) (map (accepted_stopped entry slot) messages) ≡ map (λ m. m.entry) messages
numbers_stopped entry slot [] = refl
numbers_stopped entry slot (m ∷ messages) =
    ap (λ (l : List ℕ). m.entry ∷ l) (numbers_stopped entry slot messages)

-- a stop keeps the messages by their pairs
pub by_pair_stopped : (entry slot : ℕ) (messages : List AcceptedMessage) (pairs : List Pair)
    → AreByPair messages pairs → AreByPair (map (accepted_stopped entry slot) messages) pairs
by_pair_stopped entry slot messages pairs by_pair = record {
  rising = by_pair.rising;
  right = λ k d h. rw (pairs_stopped entry slot messages) (by_pair.right k d h);
  whole = λ k h. by_pair.whole k (omega (arith, h, length-map messages (accepted_stopped entry slot)));
}

-- a stop keeps their order
pub rising_stopped : (entry slot : ℕ) (messages : List AcceptedMessage)
    → AreRisingMessages messages → AreRisingMessages (map (accepted_stopped entry slot) messages)
rising_stopped entry slot messages rising = λ i j d less within.
    let inside : j < length messages = omega (arith, within, length-map messages (accepted_stopped entry slot)) in
    let first = ap (λ (m : AcceptedMessage). m.entry) (get_or-map (accepted_stopped entry slot) messages i d d
    (omega (arith, less, inside))) in
    let second = ap (λ (m : AcceptedMessage). m.entry) (get_or-map (accepted_stopped entry slot) messages j d d inside)
    in
    omega (arith, first, second, rising i j d less inside)

-- of a number one message stands alone
pub alone : (entry : ℕ) (messages : List AcceptedMessage) (at k : ℕ) (d : AcceptedMessage)
    → AreRisingMessages messages → at < length messages → k < length messages
    → (get_or messages at d).entry ≡ entry → k ≢ at → (get_or messages k d).entry ≢ entry
alone entry messages at k d rising within inside named apart same = elim (cases_lt k at) [
  | inl before ↦ omega (arith, rising k at d before within, named, same)
  | inr not ↦ omega (arith, rising at k d (omega (arith, not, apart)) inside, named, same)
]

-- what is kept, stopped as the accepted messages are
pub kept_stop : (entry slot : ℕ) (kept : List AcceptedMessage)
    → map accepted_of (map (accepted_stopped entry slot) kept) ≡ map (stop_numbered entry slot) (map accepted_of kept)
kept_stop entry slot [] = refl
kept_stop entry slot (k ∷ kept) =
    ap (λ (l : List Accepted). accepted_of (accepted_stopped entry slot k) ∷ l) (kept_stop entry slot kept)

-- what isn't reserved under a number
pub none_reserved : (entry : ℕ) (messages : List AcceptedMessage) → All (λ m. m.entry ≢ entry) messages
    → find (λ a. (a.message.entry == entry) && (layer a.message == 0)) (map accepted_of messages) ≡ None
none_reserved entry messages others =
    find_none _ (map accepted_of messages) (λ k a h. fails messages k a (omega (
      arith,
      h,
      length-map messages
          accepted_of,
    )) others)
  where
    fails : (ms : List AcceptedMessage) (k : ℕ) (a : Accepted) → k < length ms → All (λ m. m.entry ≢ entry) ms
        → ((get_or (map accepted_of ms) k a).message.entry == entry) && (layer (get_or (map accepted_of ms) k a).message
        == 0) ≡ false
    fails [] k a h others = absurd (omega arith)
    fails (m ∷ ms) zero a h others = rw (ne_eqb m.entry entry (others 0 m (omega arith))) refl
    fails (m ∷ ms) (suc k) a h others = fails ms k a (omega arith) (λ i d within. others (suc i) d (omega arith))

-- and what is: the message of that number, unless it is background
pub one_reserved : (entry : ℕ) (messages : List AcceptedMessage) (at : ℕ) (d : AcceptedMessage)
    → AreRisingMessages messages → at < length messages → (get_or messages at d).entry ≡ entry → (back : Bool)
    → back ≡ is_background_category (get_or messages at d).category
    → find (λ a. (a.message.entry == entry) && (layer a.message == 0)) (map accepted_of messages)
    ≡ (if back then None else Some (accepted_of (get_or messages at d)))
one_reserved entry [] at d rising within named back is = absurd (omega arith)
one_reserved entry (m ∷ messages) zero d rising within named true is =
    let tells : (layer_of (rank_of m.category) == 0) ≡ false = layer_tells m.category ∙ ap not (sym is) in
    rw (eq-eqb m.entry entry named, tells) (none_reserved entry messages (λ k e h same.
    omega (arith, rising 0 (suc k) e (omega arith) (omega arith), same, named)))
one_reserved entry (m ∷ messages) zero d rising within named false is =
    let tells : (layer_of (rank_of m.category) == 0) ≡ true = layer_tells m.category ∙ ap not (sym is) in
    rw (eq-eqb m.entry entry named, tells) refl
one_reserved entry (m ∷ messages) (suc at) d rising within named back is =
    let below = rising 0 (suc at) d (omega arith) within in
    rw (ne_eqb m.entry entry (λ same. omega (arith, below, named, same))) (one_reserved entry messages at d
    (λ i j e less h. rising (suc i) (suc j) e (omega arith) (omega arith)) (omega arith) named back is)

-- a new pair isn't there
pub not_taken : (messages : List AcceptedMessage) (pairs : List Pair) (new : AcceptedMessage) (at : ℕ)
    → AreByPair messages pairs → IsPairFound (pair_of new) pairs (Ok at)
    → All (λ a. is_of_pair a.id a.serial (accepted_of new) ≡ false) (map accepted_of messages) → ⊥
not_taken messages pairs new at by_pair found apart =
    let p : Pair = record { id = 0; serial = 0; place = 0 } in
    let its = its_message messages pairs at p new by_pair found.0 in
    let place = (get_or pairs at p).place in
    let named : pair_of (get_or messages place new) ≡ pair_of new = its.1 ∙ found.1 p in
    let here = get_or-map accepted_of messages place new (accepted_of new) its.0 in
    let Apart : Accepted → Type 0 = λ a. is_of_pair a.id a.serial (accepted_of new) ≡ false in
    let says = subst Apart here (apart place (accepted_of new) (omega (arith, its.0, length-map messages accepted_of)))
    in
    false≢true (sym says ∙ of_pair (get_or messages place new).id (get_or messages place new).serial new (sym named))
