-- Pieces are put in their places.
use Rattle.std.proofs.Common.{◌≡◌, ◌≢◌, ℕ, zero, suc, ◌+◌, ◌<◌, ◌≤◌, Option, Some, None, List, [], ◌∷◌, ◌++◌}
use Rattle.std.proofs.Common.{rules, unwrap_or, All, replicate, set, refl, sym, ap, ◌∙◌, subst, inl, inr, arith}
use Rattle.std.specs.List.{slice_get}
use Rattle.std.proofs.lemmas.List.{length-set, length-replicate}
use Rattle.std.proofs.lemmas.List.Elements.{All-append, All-nil, All-from_recursion}
use Rattle.std.proofs.lemmas.Option.{slice_get_within, slice_get_cases}
use Rattle.std.specs.Prelude.{slice_index_or}
use native.Mathlib.Decide.{ℕ_discrete}
use mathlib.Core.Logic.{dite}
use Rattle.order_desk.proofs.FirstNot.{first_same, first_with}
use Rattle.order_desk.specs.SettleSteps.{lesser}
use Rattle.tickets.specs.Draws.{times, numbers_below}
use Rattle.parallel_compile.specs.Gathered.{piece_numbers}
use Rattle.parallel_compile.specs.Places.{ArePut, IsWithin}
use Rattle.parallel_compile.proofs.Numbers.{once_below, none_from, counts_more, counts_same, no_fewer}

taken_apart : (t : List ℕ) → Some (Some t) ≡ Some None → ⊥
taken_apart t h = search (rules, h)

none_apart : {X : Type 0} (x : X) → None ≡ Some x → ⊥
none_apart x h = search (rules, h)

inner_is : (s t : List ℕ) → Some (Some s) ≡ Some (Some t) → s ≡ t
inner_is s t h = ap (λ (o : Option (Option (List ℕ))). unwrap_or (unwrap_or o None) []) h

-- what is read of a list after one place was set
pub at_set : {X : Type 0} (xs : List X) (i : ℕ) (x y : X) → slice_get xs i ≡ Some x → slice_get (set xs i y) i ≡ Some y
at_set [] i x y there = absurd (none_apart x there)
at_set (z ∷ xs) zero x y there = refl
at_set (z ∷ xs) (suc i) x y there = at_set xs i x y there

at_others : {X : Type 0} (xs : List X) (i j : ℕ) (y : X) → j ≢ i → slice_get (set xs i y) j ≡ slice_get xs j
at_others [] i j y apart = refl
at_others (z ∷ xs) zero zero y apart = absurd (apart refl)
at_others (z ∷ xs) zero (suc j) y apart = refl
at_others (z ∷ xs) (suc i) zero y apart = refl
at_others (z ∷ xs) (suc i) (suc j) y apart = at_others xs i j y (λ same. apart (ap suc same))

-- free places, before any piece is put
pub all_free : (n x : ℕ) (t : List ℕ) → slice_get (replicate n None) x ≡ Some (Some t) → ⊥
all_free zero x t there = none_apart (Some t) there
all_free (suc n) zero t there = taken_apart t (sym there)
all_free (suc n) (suc x) t there = all_free n x t there

none_put : (n : ℕ) → ArePut n [] (replicate n None) None
none_put n = record {
  long = length-replicate n None;
  least = λ x. omega arith;
  free = λ x there. refl;
  taken = λ x t there. absurd (all_free n x t there);
  placed = λ none. All-nil (λ (piece : ℕ × List ℕ). slice_get (replicate n None) piece.0 ≡ Some (Some piece.1));
}

-- a piece stands at the place of its number
abbrev pub IsPlaced : List (Option (List ℕ)) → (ℕ × List ℕ) → Type 0
IsPlaced places piece = slice_get places piece.0 ≡ Some (Some piece.1)

-- what every piece has, one more piece that has it, too
pub all_more : {X : Type 0} (P : X → Type 0) (xs : List X) (x : X) → All P xs → P x → All P (xs ++ x ∷ [])
all_more P xs x all one = All-append P xs (x ∷ []) all (All-from_recursion P (x ∷ []) (one, tt))

all_by : {X : Type 0} (P Q : X → Type 0) (xs : List X) → ((x : X) → P x → Q x) → All P xs → All Q xs
all_by P Q xs gives all = λ k d within. gives (slice_index_or xs k d) (all k d within)

-- A piece is put in a free place.
pub one_put : (n : ℕ) (pieces : List (ℕ × List ℕ)) (places : List (Option (List ℕ))) (spoilt : Option ℕ)
    (i : ℕ) (t : List ℕ)
    → ArePut n pieces places spoilt
    → slice_get places i ≡ Some None
    → ArePut n (pieces ++ (i, t) ∷ []) (set places i (Some t)) spoilt
one_put n pieces places spoilt i t put there = record {
  long = length-set places i (Some t) ∙ put.long;
  least = first_same (IsWithin n (piece_numbers pieces)) (IsWithin n (piece_numbers (pieces ++ (i, t) ∷ []))) spoilt
      still before put.least;
  free = free;
  taken = taken;
  placed = λ none. all_more (IsPlaced (set places i (Some t))) pieces (i, t)
      (all_by (IsPlaced places) (IsPlaced (set places i (Some t))) pieces stays (put.placed none))
      (at_set places i None (Some t) there);
}
  where
    within : i < n
    within = subst (λ k. i < k) put.long (slice_get_within places i None there)

    still : (x : ℕ) → IsWithin n (piece_numbers pieces) x → IsWithin n (piece_numbers (pieces ++ (i, t) ∷ [])) x
    still x is = dite (ℕ_discrete x i)
        (λ same.
        let more : times x (piece_numbers (pieces ++ (i, t) ∷ [])) ≡ times x (piece_numbers pieces) + 1 =
        counts_more pieces i t x same in
        let none : times x (piece_numbers pieces) ≡ 0 = put.free x (ap (slice_get places) same ∙ there) in
        let once : times x (numbers_below n) ≡ 1 = once_below x n (subst (λ k. k < n) (sym same) within) in
        omega arith)
        (λ apart.
        let same : times x (piece_numbers (pieces ++ (i, t) ∷ [])) ≡ times x (piece_numbers pieces) =
        counts_same pieces i t x apart in
        omega arith)

    before : (x : ℕ) → IsWithin n (piece_numbers (pieces ++ (i, t) ∷ [])) x → IsWithin n (piece_numbers pieces) x
    before x is =
        let least : times x (piece_numbers pieces) ≤ times x (piece_numbers (pieces ++ (i, t) ∷ [])) =
        no_fewer pieces i t x in
        omega arith

    free : (x : ℕ) → slice_get (set places i (Some t)) x ≡ Some None
        → times x (piece_numbers (pieces ++ (i, t) ∷ [])) ≡ 0
    free x is = dite (ℕ_discrete x i)
        (λ same. absurd (taken_apart t
        (sym (at_set places i None (Some t) there) ∙ ap (slice_get (set places i (Some t))) (sym same) ∙ is)))
        (λ apart. counts_same pieces i t x apart ∙ put.free x (sym (at_others places i x (Some t) apart) ∙ is))

    taken : (x : ℕ) (s : List ℕ) → slice_get (set places i (Some t)) x ≡ Some (Some s)
        → 0 < times x (piece_numbers (pieces ++ (i, t) ∷ []))
    taken x s is = dite (ℕ_discrete x i)
        (λ same.
        let more : times x (piece_numbers (pieces ++ (i, t) ∷ [])) ≡ times x (piece_numbers pieces) + 1 =
        counts_more pieces i t x same in
        omega arith)
        (λ apart.
        let same : times x (piece_numbers (pieces ++ (i, t) ∷ [])) ≡ times x (piece_numbers pieces) =
        counts_same pieces i t x apart in
        let some : 0 < times x (piece_numbers pieces) =
        put.taken x s (sym (at_others places i x (Some t) apart) ∙ is) in
        omega arith)

    stays : (piece : ℕ × List ℕ) → IsPlaced places piece → IsPlaced (set places i (Some t)) piece
    stays piece is = at_others places i piece.0 (Some t)
        (λ same. taken_apart piece.1 (sym is ∙ ap (slice_get places) same ∙ there)) ∙ is

-- A piece whose place isn't free, or isn't there, is left.
pub one_left : (n : ℕ) (pieces : List (ℕ × List ℕ)) (places : List (Option (List ℕ))) (spoilt : Option ℕ)
    (i : ℕ) (t : List ℕ)
    → ArePut n pieces places spoilt
    → (slice_get places i ≡ Some None → ⊥)
    → ArePut n (pieces ++ (i, t) ∷ []) places (lesser spoilt (Some i))
one_left n pieces places spoilt i t put full = record {
  long = put.long;
  least = first_with (IsWithin n (piece_numbers pieces)) (IsWithin n (piece_numbers (pieces ++ (i, t) ∷ []))) spoilt i
      beyond others before put.least;
  free = λ x is. counts_same pieces i t x (λ same. full (ap (slice_get places) (sym same) ∙ is))
      ∙ put.free x is;
  taken = λ x s is.
      let more : times x (piece_numbers pieces) ≤ times x (piece_numbers (pieces ++ (i, t) ∷ [])) =
      no_fewer pieces i t x in
      let some : 0 < times x (piece_numbers pieces) = put.taken x s is in
      omega arith;
  placed = λ none. absurd (is_some_number spoilt none);
}
  where
    before : (x : ℕ) → IsWithin n (piece_numbers (pieces ++ (i, t) ∷ [])) x → IsWithin n (piece_numbers pieces) x
    before x is =
        let least : times x (piece_numbers pieces) ≤ times x (piece_numbers (pieces ++ (i, t) ∷ [])) =
        no_fewer pieces i t x in
        omega arith

    others : (x : ℕ) → (x ≡ i → ⊥) → IsWithin n (piece_numbers pieces) x
        → IsWithin n (piece_numbers (pieces ++ (i, t) ∷ [])) x
    others x apart is =
        let same : times x (piece_numbers (pieces ++ (i, t) ∷ [])) ≡ times x (piece_numbers pieces) =
        counts_same pieces i t x apart in
        omega arith

    twice : (o : Option (List ℕ)) → slice_get places i ≡ Some o → 0 < times i (piece_numbers pieces)
    twice None is = absurd (full is)
    twice (Some s) is = put.taken i s is

    beyond : IsWithin n (piece_numbers (pieces ++ (i, t) ∷ [])) i → ⊥
    beyond is =
        let more : times i (piece_numbers (pieces ++ (i, t) ∷ [])) ≡ times i (piece_numbers pieces) + 1 =
        counts_more pieces i t i refl in
        elim (slice_get_cases places i).1 [
          | inl there ↦
              let some : 0 < times i (piece_numbers pieces) = twice there.0 there.2 in
              let within : i < n = subst (λ k. i < k) put.long there.1 in
              let once : times i (numbers_below n) ≡ 1 = once_below i n within in
              absurd (omega arith)
          | inr past ↦
              let from : n ≤ i = subst (λ k. k ≤ i) put.long past.0 in
              let none : times i (numbers_below n) ≡ 0 = none_from i n from in
              absurd (omega arith)
        ]

    is_some_number : (spoilt : Option ℕ) → lesser spoilt (Some i) ≡ None → ⊥
    is_some_number None h = none_apart i (sym h)
    is_some_number (Some s) h = none_apart _ (sym h)
