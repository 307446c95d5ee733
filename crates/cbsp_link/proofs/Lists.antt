-- The items of lists, one at a time, as loops take them.
use Rattle.std.proofs.Common.{◌≡◌, ℕ, ◌≤◌, List, [], ◌∷◌, ◌++◌, length, Option, Some, None, Ok, Err, sym, ap, ◌∙◌}
use Rattle.std.proofs.Common.{arith}
use Rattle.cbsp_link.specs.declared.fault.LinkFault.TheVariants.{WrongElement}
use Rattle.cbsp_link.specs.declared.items.Naming.{Naming}
use Rattle.cbsp_link.specs.declared.message.LinkCell.{LinkCell}
use Rattle.cbsp_link.specs.declared.message.LinkCount.{LinkCount}
use Rattle.cbsp_link.specs.declared.message.LinkFailure.{LinkFailure}
use Rattle.cbsp_link.specs.Outcome.{or_wrong}
use Rattle.cbsp_link.specs.Item.{naming_of, long_cell_at, cell_at, cell_item, count_after, count_item, failure_by}
use Rattle.cbsp_link.specs.Item.{failure_item}
use Rattle.cbsp_link.specs.Run.{run_of, all_of}
use Rattle.cbsp_link.proofs.Fronts.{cell_takes, count_takes, failure_takes, no_cell, no_count}
use Rattle.cbsp_link.proofs.Runs.{Reader, after_these, goes_on, meets, is_done}

-- what is found of an item is an item
right : {X : Type 0} (n : ℕ) (o : Option X) (x : X) → o ≡ Some x → or_wrong n o ≡ Ok x
right n o x is = ap (or_wrong n) is

wrong : {X : Type 0} (n : ℕ) (o : Option X) → o ≡ None → or_wrong n o ≡ Err (WrongElement n)
wrong n o is = ap (or_wrong n) is

-- the end of a list
pub all_done : {X : Type 0} (front : Reader X) (xs : List X) (left octets : List ℕ) → length left ≤ 0
    → after_these xs (run_of front left) ≡ run_of front octets → all_of front octets ≡ Ok xs
all_done front xs [] octets h so_far = is_done front xs (run_of front octets) so_far
all_done front xs (a ∷ left) octets h so_far = absurd (omega arith)

-- cells
pub cell-taken : (naming : Naming) (xs : List LinkCell) (left octets rest : List ℕ) (x : LinkCell)
    → long_cell_at naming left ≡ Some (x, rest)
    → after_these xs (run_of (cell_item naming) left) ≡ run_of (cell_item naming) octets
    → after_these (xs ++ x ∷ []) (run_of (cell_item naming) rest) ≡ run_of (cell_item naming) octets
cell-taken naming xs [] octets rest x h so_far = absurd (no_cell naming (x, rest) h)
cell-taken naming xs (a ∷ left) octets rest x h so_far =
    goes_on (cell_item naming) (cell_takes naming) xs a left x rest (run_of (cell_item naming) octets)
    (right 4 (long_cell_at naming (a ∷ left)) (x, rest) h) so_far

-- a cell that is cut is the fault of the list
pub cell-wrong : (naming : Naming) (xs : List LinkCell) (left octets : List ℕ) → 1 ≤ length left
    → long_cell_at naming left ≡ None
    → after_these xs (run_of (cell_item naming) left) ≡ run_of (cell_item naming) octets
    → all_of (cell_item naming) octets ≡ Err (WrongElement 4)
cell-wrong naming xs [] octets some h so_far = absurd (omega arith)
cell-wrong naming xs (a ∷ left) octets some h so_far =
    meets (cell_item naming) xs a left (WrongElement 4) (run_of (cell_item naming) octets)
    (wrong 4 (long_cell_at naming (a ∷ left)) h) so_far

-- completed broadcasts
pub count-taken : (naming : Naming) (xs : List LinkCount) (left octets rest : List ℕ) (x : LinkCount)
    → count_after (cell_at naming left) ≡ Some (x, rest)
    → after_these xs (run_of (count_item naming) left) ≡ run_of (count_item naming) octets
    → after_these (xs ++ x ∷ []) (run_of (count_item naming) rest) ≡ run_of (count_item naming) octets
count-taken naming xs [] octets rest x h so_far = absurd (no_count naming (x, rest) h)
count-taken naming xs (a ∷ left) octets rest x h so_far =
    goes_on (count_item naming) (count_takes naming) xs a left x rest (run_of (count_item naming) octets)
    (right 8 (count_after (cell_at naming (a ∷ left))) (x, rest) h) so_far

-- a completed broadcast that is cut is the fault of the list
pub count-wrong : (naming : Naming) (xs : List LinkCount) (left octets : List ℕ) → 1 ≤ length left
    → count_after (cell_at naming left) ≡ None
    → after_these xs (run_of (count_item naming) left) ≡ run_of (count_item naming) octets
    → all_of (count_item naming) octets ≡ Err (WrongElement 8)
count-wrong naming xs [] octets some h so_far = absurd (omega arith)
count-wrong naming xs (a ∷ left) octets some h so_far =
    meets (count_item naming) xs a left (WrongElement 8) (run_of (count_item naming) octets)
    (wrong 8 (count_after (cell_at naming (a ∷ left))) h) so_far

-- failures
pub failure-taken : (xs : List LinkFailure) (left : List ℕ) (d : ℕ) (after octets rest : List ℕ) (x : LinkFailure)
    → left ≡ d ∷ after → failure_by (naming_of d) after ≡ Some (x, rest)
    → after_these xs (run_of failure_item left) ≡ run_of failure_item octets
    → after_these (xs ++ x ∷ []) (run_of failure_item rest) ≡ run_of failure_item octets
failure-taken xs left d after octets rest x is h so_far =
    goes_on failure_item failure_takes xs d after x rest (run_of failure_item octets)
    (right 9 (failure_by (naming_of d) after) (x, rest) h)
    (ap (λ (o : List ℕ). after_these xs (run_of failure_item o)) (sym is) ∙ so_far)

-- a failure that is cut or named by no discriminator is the fault of the list
pub failure-wrong : (xs : List LinkFailure) (left : List ℕ) (d : ℕ) (after octets : List ℕ)
    → left ≡ d ∷ after → failure_by (naming_of d) after ≡ None
    → after_these xs (run_of failure_item left) ≡ run_of failure_item octets
    → all_of failure_item octets ≡ Err (WrongElement 9)
failure-wrong xs left d after octets is h so_far =
    meets failure_item xs d after (WrongElement 9) (run_of failure_item octets)
    (wrong 9 (failure_by (naming_of d) after) h)
    (ap (λ (o : List ℕ). after_these xs (run_of failure_item o)) (sym is) ∙ so_far)
