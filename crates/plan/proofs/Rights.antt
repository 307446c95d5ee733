-- Rows that are right, and the first that isn't.
use Rattle.std.proofs.Common.{◌≡◌, ◌≢◌, ◌<◌, ◌+◌, ◌++◌, ◌∷◌, ◌∙◌, [], ap, append-nil, refl, sym, ℕ, List, length}
use Rattle.std.proofs.Common.{take, drop, get_or, true, false}
use Rattle.std.proofs.lemmas.Bool.{true≢false}
use Rattle.std.proofs.lemmas.List.{drop_more, take-append-drop}
use Rattle.alert_book.specs.Judging.{counted_after, Counted, IsVerdict}
use Rattle.alert_book.specs.declared.judging.Verdict.{Verdict}
use Rattle.alert_book.specs.declared.judging.Verdict.TheVariants as verdict
use Rattle.std.specs.List.{flat_map}
use Rattle.std.proofs.lemmas.Grind.{flat_map-append}
use Rattle.plan.specs.PlanOutput.{counted_rows, row_line, AreRight}
use Rattle.plan.specs.PlanSteps.{is_right}
use Rattle.plan.specs.declared.rows.Planned.{Planned}

-- what counts after one row more
pub counted_more : (before : Counted) (rows : List Planned) (planned : Planned)
    → counted_rows before (rows ++ planned ∷ []) ≡ counted_after (counted_rows before rows) planned.fields
counted_more before [] planned = refl
counted_more before (first ∷ rows) planned = counted_more (counted_after before first.fields) rows planned

-- one more is right
pub right_more : (before : Counted) (rows : List Planned) (planned : Planned) → AreRight before rows
    → IsVerdict (counted_rows before rows) planned.fields verdict.Right → AreRight before (rows ++ planned ∷ [])
right_more before [] planned right is = (is, tt)
right_more before (first ∷ rows) planned right is =
    (right.0, right_more (counted_after before first.fields) rows planned right.1 is)

-- rows are those before a place, the one there and those behind it
pub split_at : (rows : List Planned) (place : ℕ) (d : Planned) → place < length rows
    → rows ≡ take place rows ++ get_or rows place d ∷ drop (place + 1) rows
split_at rows place d less =
    sym (take-append-drop place rows) ∙ ap (λ (r : List Planned). take place rows ++ r) (drop_more rows place d less)

-- a verdict that isn't that a row is right, and one that is
pub is_wrong : (told : Verdict) → is_right told ≡ false → told ≢ verdict.Right
is_wrong told other same = true≢false (sym (ap is_right same) ∙ other)

-- a verdict that is right is that one
pub is_right_one : (told : Verdict) → is_right told ≡ true → told ≡ verdict.Right
is_right_one verdict.Right holds = refl
is_right_one (verdict.Wrong found) holds = absurd (true≢false (sym holds))
is_right_one (verdict.Unsendable why) holds = absurd (true≢false (sym holds))

-- the text of one row more
pub lines_more : (rows : List Planned) (planned : Planned)
    → flat_map row_line (rows ++ planned ∷ []) ≡ flat_map row_line rows ++ row_line planned
lines_more rows planned =
    flat_map-append row_line rows (planned ∷ [])
    ∙ ap (λ (text : List ℕ). flat_map row_line rows ++ text) (append-nil (row_line planned))
