-- The rows of a book are right, or one of them is wrong, and never both.
use Rattle.std.proofs.Common.{◌≡◌, ◌+◌, ◌∙◌, ap, subst, sym, ℕ, List, [], ◌∷◌, ◌++◌, Option, Some, None, Result, Ok}
use Rattle.std.proofs.Common.{Err, refl, inl, inr, ◌⊎◌}
use Rattle.csv.specs.Machine.{Read, next_record}
use Rattle.csv.specs.Reading.{Reached}
use Rattle.csv.specs.declared.parser.Config.{Config}
use Rattle.csv.specs.declared.parser.State.{State}
use Rattle.alert_book.specs.declared.fault.BookFault.{BookFault}
use Rattle.alert_book.specs.Book.{AreRowsBy, IsRowFaultBy, RowMeaning, Rows, after_row, rows_by, rows_read_by}
use Rattle.alert_book.specs.Book.{with_row}

-- one read from a state
same_read : (o : Option Read) (p q : Read) → o ≡ Some p → o ≡ Some q → p ≡ q
same_read o p q a b = cc

none_read : (o : Option Read) (p : Read) → o ≡ Some p → o ≡ None → ⊥
none_read o p a b = cc

one_first : (q r : List (List ℕ)) (qs rs : List (List (List ℕ))) → q ≡ r → qs ≡ rs → q ∷ qs ≡ r ∷ rs
one_first q r qs rs head rest = rw (head, rest) refl

-- of two fronts of a text's records one is a front of the other
pub reached_either : (cfg : Config) (s : State) (xs : List ℕ) (front other : List (List (List ℕ)))
    (s1 : State) (y1 : List ℕ) (s2 : State) (y2 : List ℕ) → Reached cfg s xs front s1 y1 →
    Reached cfg s xs other s2 y2 → ((more : List (List (List ℕ))) × (other ≡ front ++ more))
    ⊎ ((more : List (List (List ℕ))) × (front ≡ other ++ more))
unfolding Reached
reached_either cfg s xs [] other s1 y1 s2 y2 h k = inl (other, refl)
reached_either cfg s xs (r ∷ rs) [] s1 y1 s2 y2 h k = inr (r ∷ rs, refl)
reached_either cfg s xs (r ∷ rs) (q ∷ qs) s1 y1 s2 y2 h k =
    let same : k.0 ≡ h.0 = same_read _ k.0 h.0 k.1 h.1 in
    let rest = subst (λ (x : Read). Reached cfg x.1 x.2 qs s2 y2) same k.3 in
    let head : q ≡ r = k.2 ∙ ap (λ (x : Read). x.0) same ∙ sym h.2 in
    elim (reached_either cfg h.0.1 h.0.2 rs qs s1 y1 s2 y2 h.3 rest) [
      | inl m ↦ inl (m.0, one_first q r qs (rs ++ m.0) head m.1)
      | inr m ↦ inr (m.0, one_first r q rs (qs ++ m.0) (sym head) m.1)
    ]

-- the first records of a text are a front of all its records
pub reached_front : (cfg : Config) (s : State) (xs : List ℕ) (front all : List (List (List ℕ)))
    (s1 : State) (y1 : List ℕ) (s2 : State) (y2 : List ℕ) → Reached cfg s xs front s1 y1 → Reached cfg s xs all s2 y2 →
    next_record cfg s2 [] [] y2 ≡ None → (more : List (List (List ℕ))) × (all ≡ front ++ more)
unfolding Reached
reached_front cfg s xs [] all s1 y1 s2 y2 h k none = (all, refl)
reached_front cfg s xs (r ∷ rs) [] s1 y1 s2 y2 h k none = absurd (none_read _ h.0 (rw (k.0, k.1) at h.1) none)
reached_front cfg s xs (r ∷ rs) (q ∷ qs) s1 y1 s2 y2 h k none =
    let same : k.0 ≡ h.0 = same_read _ k.0 h.0 k.1 h.1 in
    let rest = subst (λ (x : Read). Reached cfg x.1 x.2 qs s2 y2) same k.3 in
    let m = reached_front cfg h.0.1 h.0.2 rs qs s1 y1 s2 y2 h.3 rest none in
    let head : q ≡ r = k.2 ∙ ap (λ (x : Read). x.0) same ∙ sym h.2 in
    (m.0, one_first q r qs (rs ++ m.0) head m.1)

-- the fault of the first records stays with more of them
pub fault_stays : (meaning : RowMeaning) (row : ℕ) (before : Rows) (front more : List (List (List ℕ))) (f : BookFault) →
    rows_read_by meaning row before front ≡ Err f → rows_read_by meaning row before (front ++ more) ≡ Err f
fault_stays meaning row before [] more f h = absurd (cc h)
fault_stays meaning row before (x ∷ xs) more f h =
    elim (meaning row before.cells before.orders x)
    as (λ r. after_row row before r (λ next. rows_read_by meaning (row + 1) next xs) ≡ Err f →
    after_row row before r (λ next. rows_read_by meaning (row + 1) next (xs ++ more)) ≡ Err f) [
      | Ok meant ↦ λ e. fault_stays meaning (row + 1) (with_row before meant) xs more f e
      | Err kind ↦ λ e. e
    ] h

-- octets that mean rows have no fault in a row
pub right_or_wrong : (meaning : RowMeaning) (input : List ℕ) (rows : Rows) (f : BookFault) →
    AreRowsBy meaning input rows → IsRowFaultBy meaning input f → ⊥
right_or_wrong meaning input rows f right wrong =
    let m = reached_front _ _ _ wrong.records right.records _ _ _ _ wrong.read right.read.2 right.read.3 in
    let bad = fault_stays meaning 1 _ wrong.records m.0 f wrong.wrong in
    let good = rw m.1 at right.meant in
    cc

-- a text has one list of records
pub reached_same : (cfg : Config) (s : State) (xs : List ℕ) (all others : List (List (List ℕ)))
    (s1 : State) (y1 : List ℕ) (s2 : State) (y2 : List ℕ) → Reached cfg s xs all s1 y1
    → next_record cfg s1 [] [] y1 ≡ None →
    Reached cfg s xs others s2 y2 → next_record cfg s2 [] [] y2 ≡ None → all ≡ others
unfolding Reached
reached_same cfg s xs [] [] s1 y1 s2 y2 h last k none = refl
reached_same cfg s xs [] (q ∷ qs) s1 y1 s2 y2 h last k none = absurd (none_read _ k.0 (rw (h.0, h.1) at k.1) last)
reached_same cfg s xs (r ∷ rs) [] s1 y1 s2 y2 h last k none = absurd (none_read _ h.0 (rw (k.0, k.1) at h.1) none)
reached_same cfg s xs (r ∷ rs) (q ∷ qs) s1 y1 s2 y2 h last k none =
    let same : k.0 ≡ h.0 = same_read _ k.0 h.0 k.1 h.1 in
    let rest = subst (λ (x : Read). Reached cfg x.1 x.2 qs s2 y2) same k.3 in
    let head : q ≡ r = k.2 ∙ ap (λ (x : Read). x.0) same ∙ sym h.2 in
    one_first r q rs qs (sym head) (reached_same cfg h.0.1 h.0.2 rs qs s1 y1 s2 y2 h.3 last rest none)

-- a result is one list of rows at most
pub one_ok : (r : Result Rows BookFault) (a b : Rows) → r ≡ Ok a → r ≡ Ok b → a ≡ b
one_ok r a b h k = cc

-- octets mean one list of rows
pub one_meaning : (meaning : RowMeaning) (input : List ℕ) (rows others : Rows) → AreRowsBy meaning input rows →
    AreRowsBy meaning input others → rows ≡ others
one_meaning meaning input rows others a b =
    let same = reached_same _ _ _ a.records b.records _ _ _ _ a.read.2 a.read.3 b.read.2 b.read.3 in
    one_ok (rows_by meaning b.records) rows others (rw same at a.meant) b.meant
