-- What a plan comes to.
use Rattle.std.proofs.Common.{◌≡◌, ◌<◌, List, ℕ, inl, inr, length, subst}
use Rattle.alert_book.specs.Book.{max_book}
use Rattle.plan.specs.PlanOutput.{rows_text, IsFirstFault, IsPlanOutput, IsPlanRowFault, IsPlannedTooLong, IsSomeBook}
use Rattle.plan.specs.PlanRow.{planned_rows}
use Rattle.plan.specs.PlanText.{ArePlanRows}
use Rattle.plan.specs.declared.fault.PlanRowFault.{PlanRowFault}
use Rattle.plan.specs.declared.rows.Planned.{Planned}

-- a book comes to itself
pub itself : (input output : List ℕ) → IsSomeBook input → output ≡ input → IsPlanOutput input output
itself input output book same = inl (book, same)

-- other octets to the book of their rows
pub book_of_rows : (input output : List ℕ) (records : List (List (List ℕ))) (rows : List Planned)
    → (IsSomeBook input → ⊥) → ArePlanRows input records → rows ≡ planned_rows records → output ≡ rows_text rows
    → IsSomeBook output → IsPlanOutput input output
book_of_rows input output records rows other read made written book =
    inr (record {
      rows = rows;
      planned = record { other = other; records = records; read = read; made = made };
      written = written;
      book = book;
    })

-- or to none, for the first fault of a row
pub fault_of_rows : (input output : List ℕ) (records : List (List (List ℕ))) (rows : List Planned) (f : PlanRowFault)
    → (IsSomeBook input → ⊥) → ArePlanRows input records → rows ≡ planned_rows records → output ≡ rows_text rows
    → (IsSomeBook output → ⊥) → IsFirstFault rows f → IsPlanRowFault input f
fault_of_rows input output records rows f other read made written no_book first =
    record {
      rows = rows;
      planned = record { other = other; records = records; read = read; made = made };
      no_book = subst (λ (text : List ℕ). IsSomeBook text → ⊥) written no_book;
      first = first;
    }

-- or since it is too long
pub long_rows : (input output : List ℕ) (records : List (List (List ℕ))) (rows : List Planned)
    → (IsSomeBook input → ⊥) → ArePlanRows input records → rows ≡ planned_rows records → output ≡ rows_text rows
    → max_book < length output → IsPlannedTooLong input
long_rows input output records rows other read made written long =
    record {
      rows = rows;
      planned = record { other = other; records = records; read = read; made = made };
      long = subst (λ (text : List ℕ). max_book < length text) written long;
    }
