-- Put pieces are gathered: which number is bad, and what tapes they make.
use Rattle.std.proofs.Common.{◌≡◌, ◌≢◌, ℕ, ◌<◌, ◌≤◌, Option, Some, None, List, [], ◌∷◌, length, map, rules}
use Rattle.std.proofs.Common.{All, unwrap_or, refl, sym, ap, ◌∙◌, subst, inl, inr, arith}
use Rattle.std.specs.List.{slice_get, AllByRecursion}
use Rattle.std.specs.Prelude.{slice_index_or, get_or}
use Rattle.std.specs.Option.{option_map}
use Rattle.std.proofs.lemmas.List.{length-map, ext_get_or}
use Rattle.std.proofs.lemmas.List.Elements.{recursion_from_All}
use Rattle.std.proofs.lemmas.Option.{slice_get_within, slice_get_cases, slice_get-map, get_or_from_slice_get}
use native.Mathlib.Decide.{ℕ_discrete}
use mathlib.Core.Logic.{dite}
use Rattle.order_desk.proofs.FirstNot.{first_same, first_of_both}
use Rattle.order_desk.specs.SettleSteps.{IsLeastFailing, lesser}
use Rattle.tickets.specs.Draws.{times, numbers_below, AreSame}
use Rattle.parallel_compile.specs.Gathered.{AreGathered, IsLeastBad, IsAmongPieces, piece_numbers}
use Rattle.parallel_compile.specs.Places.{ArePut, IsWithin}
use Rattle.parallel_compile.specs.Workers.{IsPieceOfRecord}
use Rattle.bsc_table.specs.Record.{Record}
use Rattle.cbch_blocks.specs.RecordBlocks.{tape_of_record}
use Rattle.std.specs.Prelude.{IfOk, Result, Ok, Err}
use Rattle.parallel_compile.proofs.Numbers.{once_below, none_from, counts_no_other}

-- a place has a piece
abbrev pub IsTaken : List (Option (List ℕ)) → ℕ → Type 0
IsTaken places x = slice_get places x ≢ Some None

-- a number stands once among those of the pieces
abbrev pub IsGood : ℕ → List ℕ → ℕ → Type 0
IsGood n numbers x = times x numbers ≡ times x (numbers_below n)

-- A number is good that isn't given too often and whose place isn't free.
pub good_if : (n : ℕ) (pieces : List (ℕ × List ℕ)) (places : List (Option (List ℕ))) (spoilt : Option ℕ)
    → ArePut n pieces places spoilt
    → (x : ℕ) → IsWithin n (piece_numbers pieces) x × IsTaken places x → IsGood n (piece_numbers pieces) x
good_if n pieces places spoilt put x is = elim (slice_get_cases places x).1 [
  | inl there ↦
      let some : 0 < times x (piece_numbers pieces) = filled there.0 there.2 in
      let once : times x (numbers_below n) ≡ 1 = once_below x n (subst (λ k. x < k) put.long there.1) in
      let most : times x (piece_numbers pieces) ≤ times x (numbers_below n) = is.0 in
      omega arith
  | inr past ↦
      let none : times x (numbers_below n) ≡ 0 = none_from x n (subst (λ k. k ≤ x) put.long past.0) in
      let most : times x (piece_numbers pieces) ≤ times x (numbers_below n) = is.0 in
      omega arith
]
  where
    filled : (o : Option (List ℕ)) → slice_get places x ≡ Some o → 0 < times x (piece_numbers pieces)
    filled None free = absurd (is.1 free)
    filled (Some s) there = put.taken x s there

only_if : (n : ℕ) (pieces : List (ℕ × List ℕ)) (places : List (Option (List ℕ))) (spoilt : Option ℕ)
    → ArePut n pieces places spoilt
    → (x : ℕ) → IsGood n (piece_numbers pieces) x → IsWithin n (piece_numbers pieces) x × IsTaken places x
only_if n pieces places spoilt put x good = (
  omega arith,
  λ free.
      let none : times x (piece_numbers pieces) ≡ 0 = put.free x free in
      let once : times x (numbers_below n) ≡ 1 =
      once_below x n (subst (λ k. x < k) put.long (slice_get_within places x None free)) in
      absurd (omega arith),
)

-- the first number that isn't good
pub first_bad : (n : ℕ) (pieces : List (ℕ × List ℕ)) (places : List (Option (List ℕ))) (spoilt missing : Option ℕ)
    → ArePut n pieces places spoilt
    → IsLeastFailing (IsTaken places) missing
    → IsLeastFailing (IsGood n (piece_numbers pieces)) (lesser spoilt missing)
first_bad n pieces places spoilt missing put free =
    first_same (λ x. IsWithin n (piece_numbers pieces) x × IsTaken places x) (IsGood n (piece_numbers pieces))
    (lesser spoilt missing) (good_if n pieces places spoilt put) (only_if n pieces places spoilt put)
    (first_of_both (IsWithin n (piece_numbers pieces)) (IsTaken places) spoilt missing put.least free)

-- the least number that is spoilt or missing is the least bad one
pub least_bad : (n : ℕ) (pieces : List (ℕ × List ℕ)) (places : List (Option (List ℕ))) (spoilt missing : Option ℕ)
    (index : ℕ)
    → ArePut n pieces places spoilt
    → IsLeastFailing (IsTaken places) missing
    → lesser spoilt missing ≡ Some index
    → IsLeastBad n (piece_numbers pieces) index
least_bad n pieces places spoilt missing index put free is =
    subst (IsLeastFailing (IsGood n (piece_numbers pieces))) is (first_bad n pieces places spoilt missing put free)

-- neither number is there
some_apart : {X : Type 0} (x : X) → Some x ≡ None → ⊥
some_apart x h = search (rules, h)

no_spoilt : (spoilt missing : Option ℕ) → lesser spoilt missing ≡ None → spoilt ≡ None
no_spoilt None missing is = refl
no_spoilt (Some s) None is = absurd (some_apart s is)
no_spoilt (Some s) (Some m) is = absurd (some_apart _ is)

no_missing : (spoilt missing : Option ℕ) → lesser spoilt missing ≡ None → missing ≡ None
no_missing None missing is = is
no_missing (Some s) None is = absurd (some_apart s is)
no_missing (Some s) (Some m) is = absurd (some_apart _ is)

-- no place is free
pub none_free : (places : List (Option (List ℕ))) → ((x : ℕ) → IsTaken places x)
    → All (λ place. place ≢ None) places
none_free places taken = λ k d within free. elim (slice_get_cases places k).1 [
  | inl there ↦ taken k (there.2 ∙ ap Some (sym (get_or_from_slice_get places k there.0 d there.2) ∙ free))
  | inr past ↦ absurd (omega (arith, past.0, within))
]

inner_is : (o : Option (List ℕ)) (t : List ℕ) → option_map Some o ≡ Some (Some t) → o ≡ Some t
inner_is None t h = absurd (some_apart (Some t) (sym h))
inner_is (Some s) t h = ap (λ (o : Option (Option (List ℕ))). unwrap_or o None) h

-- if none is spoilt or missing, the tapes are gathered
pub gathered : (n : ℕ) (pieces : List (ℕ × List ℕ)) (places : List (Option (List ℕ))) (spoilt missing : Option ℕ)
    (tapes : List (List ℕ))
    → ArePut n pieces places spoilt
    → IsLeastFailing (IsTaken places) missing
    → lesser spoilt missing ≡ None
    → places ≡ map Some tapes
    → AreGathered n pieces tapes
gathered n pieces places spoilt missing tapes put free is made = record {
  numbered = subst (IsLeastFailing (IsGood n (piece_numbers pieces))) is
      (first_bad n pieces places spoilt missing put free);
  long = sym (length-map tapes Some) ∙ ap length (sym made) ∙ put.long;
  placed = λ k d within. inner_is (slice_get tapes (slice_index_or pieces k d).0) (slice_index_or pieces k d).1
      (sym (slice_get-map Some tapes (slice_index_or pieces k d).0)
      ∙ ap (λ (l : List (Option (List ℕ))). slice_get l (slice_index_or pieces k d).0) (sym made)
      ∙ put.placed (no_spoilt spoilt missing is) k d within);
}

-- a piece that has a number
found : (P Q : (ℕ × List ℕ) → Type 0) (i : ℕ) (pieces : List (ℕ × List ℕ))
    → 0 < times i (piece_numbers pieces) → AllByRecursion P pieces → AllByRecursion Q pieces
    → (piece : ℕ × List ℕ) × (piece.0 ≡ i) × P piece × Q piece
found P Q i [] some one other = absurd (omega arith)
found P Q i (piece ∷ pieces) some one other = dite (ℕ_discrete i piece.0)
    (λ same. (piece, sym same, one.0, other.0))
    (λ apart.
    let none : times i (piece.0 ∷ []) ≡ 0 = counts_no_other i piece.0 apart in
    found P Q i pieces (omega arith) one.1 other.1)

-- tapes of one length in which each piece is in its place, if no number below the length is missing
pub same_tapes : (pieces : List (ℕ × List ℕ)) (one other : List (List ℕ))
    → length one ≡ length other
    → AreSame (piece_numbers pieces) (numbers_below (length one))
    → All (IsAmongPieces one) pieces
    → All (IsAmongPieces other) pieces
    → one ≡ other
same_tapes pieces one other long numbered in_one in_other = ext_get_or [] one other long at
  where
    at : (i : ℕ) → i < length one → get_or one i [] ≡ get_or other i []
    at i within =
        let once : times i (numbers_below (length one)) ≡ 1 = once_below i (length one) within in
        let same : times i (piece_numbers pieces) ≡ times i (numbers_below (length one)) = numbered i in
        let is = found (IsAmongPieces one) (IsAmongPieces other) i pieces (omega arith)
        (recursion_from_All (IsAmongPieces one) pieces in_one)
        (recursion_from_All (IsAmongPieces other) pieces in_other) in
        get_or_from_slice_get one i is.0.1 [] (ap (slice_get one) (sym is.1) ∙ is.2)
        ∙ sym (get_or_from_slice_get other i is.0.1 [] (ap (slice_get other) (sym is.1) ∙ is.3))

-- what is so of a result is so of it in a weaker form
pub if_ok : {T E : Type 0} (P Q : T → Type 0) (r : Result T E) → ((x : T) → P x → Q x) → IfOk r P → IfOk r Q
if_ok P Q (Ok x) gives is = gives x is
if_ok P Q (Err e) gives is = is

-- Gathered pieces of records are the records' tapes.
pub are_tapes : (records : List Record) (pieces : List (ℕ × List ℕ)) (tapes : List (List ℕ))
    → All (IsPieceOfRecord records) pieces
    → AreGathered (length records) pieces tapes
    → tapes ≡ map tape_of_record records
are_tapes records pieces tapes made is =
    same_tapes pieces tapes (map tape_of_record records) (is.long ∙ sym (length-map records tape_of_record))
    (subst (λ k. AreSame (piece_numbers pieces) (numbers_below k)) (sym is.long) is.numbered) is.placed made
