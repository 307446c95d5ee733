-- Octets are a book where nothing is found in them, and none where something is.
use Rattle.std.proofs.Common.{◌≡◌, ◌≢◌, ℕ, Bool, true, false, List, arith, subst, sym, nat_eq, ⊎_elim}
use Rattle.std.specs.Bool.{MatchBool}
use Rattle.std.proofs.lemmas.Bool.{cases_Bool}
use Rattle.book_check.specs.Checked.{IsChecked}
use Rattle.book_check.specs.Laws.{BooksAreClean, CleanAreBooks}
use Rattle.plan.specs.PlanOutput.{IsSomeBook}

-- octets without a fault are a book
pub some_book : CleanAreBooks → (input output : List ℕ) (count : ℕ) → IsChecked input count output → count ≡ 0
    → IsSomeBook input
some_book clean input output count is none =
    clean input output (subst (λ (n : ℕ). IsChecked input n output) none is)

-- and octets with one are none
pub no_book : BooksAreClean → (input output : List ℕ) (count : ℕ) → IsChecked input count output → count ≢ 0
    → IsSomeBook input → ⊥
no_book books input output count is some book = some (books input output count book.0 book.1 is)

-- so the number of faults decides
pub decided : CleanAreBooks → BooksAreClean → (input output : List ℕ) (count : ℕ) → IsChecked input count output
    → MatchBool (nat_eq count 0) (IsSomeBook input) (IsSomeBook input → ⊥)
decided clean books input output count is =
    ⊎_elim
    (λ (yes : nat_eq count 0 ≡ true).
    subst (λ (b : Bool). MatchBool b (IsSomeBook input) (IsSomeBook input → ⊥)) (sym yes)
    (some_book clean input output count is (grind arith)))
    (λ (no : nat_eq count 0 ≡ false).
    subst (λ (b : Bool). MatchBool b (IsSomeBook input) (IsSomeBook input → ⊥)) (sym no)
    (no_book books input output count is (grind arith)))
    (cases_Bool (nat_eq count 0))
