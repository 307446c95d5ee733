-- Lists that begin with others.
use Rattle.std.proofs.Common.{◌≡◌, ◌↔◌, ◌∙◌, ℕ, List, ◌++◌, length, drop, take, sym, ap}
use Rattle.std.proofs.Math.Seq.{take-append_seam}
use Rattle.std.proofs.lemmas.List.{append_cancel_left, take-append-drop}

-- a list that was cut behind as many items as a front has is this front and the rest, if the first part is the front
pub split_off : (all front own rest : List ℕ) → own ≡ take (length front) all → rest ≡ drop (length front) all
    → own ≡ front → all ≡ front ++ rest
split_off all front own rest own_is rest_is same =
    sym (take-append-drop (length front) all)
    ∙ ap (λ xs. xs ++ drop (length front) all) (sym own_is ∙ same) ∙ ap (λ xs. front ++ xs) (sym rest_is)

-- and it doesn't begin with the front if the first part isn't the front
pub not_split_off : (all front own : List ℕ) → own ≡ take (length front) all → (own ≡ front → ⊥)
    → (rest : List ℕ) → all ≡ front ++ rest → ⊥
not_split_off all front own own_is other rest is =
    other (own_is ∙ ap (take (length front)) is ∙ take-append_seam front rest)

-- of two lists that begin with the same front, one is the other exactly if what follows the front is
pub with_front : (left front rest wanted more : List ℕ) → left ≡ front ++ rest → wanted ≡ front ++ more
    → (left ≡ wanted) ↔ (rest ≡ more)
with_front left front rest wanted more is wants = (
  λ same. append_cancel_left front rest more (sym is ∙ (same ∙ wants)),
  λ same. is ∙ (ap (λ xs. front ++ xs) same ∙ sym wants),
)

-- two equivalences, one after the other
pub iff_next : (one other next : Type 0) → one ↔ other → other ↔ next → one ↔ next
iff_next one other next first second = (λ x. second.0 (first.0 x), λ x. first.1 (second.1 x))
