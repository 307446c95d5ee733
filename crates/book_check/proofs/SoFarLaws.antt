-- What is told of the rows so far, with one more row.
use Rattle.std.proofs.Common.{◌≡◌, ℕ, ◌+◌, ◌≤◌, ◌∙◌, ◌⊎◌, false, true, inl, inr, ap, sym, refl, subst, arith, cond}
use Rattle.std.proofs.Common.{Some, None, List, [], ◌∷◌}
use Rattle.std.proofs.Common.{◌++◌, count_by, append_assoc, append-nil}
use Rattle.std.proofs.lemmas.List.Sums.{sum_by-append}
use Rattle.csv.specs.Machine.{next_record, Read}
use Rattle.csv.specs.Reading.{Reached, default_config, strip_bom}
use Rattle.csv.specs.declared.parser.State.{State}
use Rattle.csv.specs.declared.parser.State.TheVariants as st
use Rattle.alert_book.specs.Judging.{Counted, counted_after, is_past, none_within}
use Rattle.alert_book.specs.declared.judging.bounds.Bounds.{Bounds}
use Rattle.alert_book.specs.declared.judging.Verdict.{Verdict}
use Rattle.alert_book.specs.declared.judging.Verdict.TheVariants as verdict
use Rattle.book_check.specs.Checked.{counted_of, EndsPast, IsUpToPast}
use Rattle.book_check.specs.CheckSteps.{AreNotPast, IsSoFar, IsToldOf, Tells}
use Rattle.book_check.specs.Lines.{Stand, at_start, line_of, one_if, stand_after, stand_at}
use Rattle.book_check.specs.TableSteps.{IsTable}
use Rattle.book_check.specs.Told.{AreVerdicts, header_row, is_told, told_of_row, told_of_rows}
use Rattle.book_check.specs.declared.check.Told.{Told}

-- before the first record the table has the names of its columns alone
pub none_so_far : (bound : Bounds) (text : List ℕ) (told : Told) → IsTable told.table header_row → told.count ≡ 0
    → IsSoFar bound text [] (at_start text) (none_within bound) told
none_so_far bound text told table count = record {
  verdicts = [];
  each = λ more later are. are;
  counted = sym count;
  octets = header_row;
  table = table;
  written = λ more later. refl;
}

one_more_counted : (verdicts : List Verdict) (verdict : Verdict) (before after : ℕ)
    → count_by is_told verdicts ≡ before → after ≡ before + one_if (is_told verdict)
    → count_by is_told (verdicts ++ verdict ∷ []) ≡ after
one_more_counted verdicts verdict before after so more =
    let parts = sum_by-append (λ (v : Verdict). cond (is_told v) 1 0) verdicts (verdict ∷ []) in
    parts ∙ omega (arith, so, more)

-- with one more record that is judged, the table is that of one record more
pub one_more : (bound : Bounds) (text : List ℕ) (seen : List (List (List ℕ))) (stand : Stand) (fields : List (List ℕ))
    (now next : Counted) (told after : Told) (read : Read)
    → IsSoFar bound text seen stand now told
    → Tells now next (line_of text stand.left) fields told after
    → next_record default_config stand.state [] [] stand.left ≡ Some read
    → IsSoFar bound text (seen ++ fields ∷ []) (stand_at read.1 read.2) next after
one_more bound text seen stand fields now next told after read so tells is =
    let row : List ℕ = told_of_row (now.rows + 1) (line_of text stand.left) (counted_after now fields) fields
    tells.verdict in
    record {
      verdicts = so.verdicts ++ tells.verdict ∷ [];
      each = λ more later are.
          subst (λ (rs : List (List (List ℕ))). AreVerdicts (none_within bound) rs ((so.verdicts ++ tells.verdict ∷ [])
          ++ later))
          (sym (append_assoc seen (fields ∷ []) more))
          (subst (λ (vs : List Verdict). AreVerdicts (none_within bound) (seen ++ fields ∷ more) vs)
          (sym (append_assoc so.verdicts (tells.verdict ∷ []) later))
          (so.each (fields ∷ more) (tells.verdict ∷ later)
          (tells.is, subst (λ (c : Counted). AreVerdicts c more later) tells.next are)));
      counted = one_more_counted so.verdicts tells.verdict told.count after.count so.counted tells.counted;
      octets = so.octets ++ row;
      table = tells.table so.octets so.table;
      written = λ more later.
          append_assoc so.octets row (told_of_rows text (stand_at read.1 read.2) next more later)
          ∙ ap (λ (c : Counted). so.octets ++ (row ++ told_of_rows text (stand_at read.1 read.2) c more later))
          tells.next
          ∙ ap (λ (s : Stand). so.octets ++ (row ++ told_of_rows text s (counted_after now fields) more later))
          (sym (ap (stand_after stand) is))
          ∙ so.written (fields ∷ more) (tells.verdict ∷ later)
          ∙ ap (λ (rs : List (List (List ℕ))). header_row ++ told_of_rows text (at_start text) (none_within bound) rs
          (so.verdicts ++ tells.verdict ∷ later)) (sym (append_assoc seen (fields ∷ []) more))
          ∙ ap (λ (vs : List Verdict). header_row ++ told_of_rows text (at_start text) (none_within bound)
          ((seen ++ fields ∷ []) ++ more) vs) (sym (append_assoc so.verdicts (tells.verdict ∷ []) later));
    }

-- where no record is left, or the last one was one too many, the table is that of the book
pub all_told : (bound : Bounds) (input : List ℕ) (seen : List (List (List ℕ))) (state : State) (rest : List ℕ)
    (stand : Stand) (now : Counted) (told : Told)
    → IsSoFar bound (strip_bom input) seen stand now told
    → Reached default_config st.StartRecord (strip_bom input) seen state rest
    → IsUpToPast (none_within bound) seen
    → (next_record default_config state [] [] rest ≡ None) ⊎ EndsPast (none_within bound) seen
    → counted_of (none_within bound) seen ≡ now
    → IsToldOf bound input told now
all_told bound input seen state rest stand now told so read few whole left =
    let text : List ℕ = strip_bom input in
    let octets : so.octets ≡ header_row ++ told_of_rows text (at_start text) (none_within bound) seen so.verdicts =
    sym (append-nil so.octets)
    ∙ so.written [] []
    ∙ ap (λ (rs : List (List (List ℕ))). header_row ++ told_of_rows text (at_start text) (none_within bound) rs
    (so.verdicts ++ [])) (append-nil seen)
    ∙ ap (λ (vs : List Verdict). header_row ++ told_of_rows text (at_start text) (none_within bound) seen vs)
    (append-nil so.verdicts) in
    record {
      verdicts = so.verdicts;
      are = record {
        records = seen;
        state = state;
        rest = rest;
        read = read;
        few = few;
        whole = whole;
        each = subst (λ (rs : List (List (List ℕ))). AreVerdicts (none_within bound) rs so.verdicts) (append-nil seen)
            (subst (λ (vs : List Verdict). AreVerdicts (none_within bound) (seen ++ []) vs) (append-nil so.verdicts)
            (so.each [] [] tt));
      };
      counted = so.counted;
      table = subst (λ (o : List ℕ). IsTable told.table o) octets so.table;
      left = left;
    }

-- a row that isn't one too many counts
pub counted_rows : (before : Counted) (fields : List (List ℕ)) → is_past before fields ≡ false
    → (counted_after before fields).rows ≡ before.rows + 1
counted_rows before fields room = rw room refl

-- one more row that isn't one too many
pub one_not_past : (before : Counted) (seen : List (List (List ℕ))) (fields : List (List ℕ)) → AreNotPast before seen
    → is_past (counted_of before seen) fields ≡ false → AreNotPast before (seen ++ fields ∷ [])
one_not_past before [] fields room past = (past, tt)
one_not_past before (first ∷ seen) fields room past =
    (room.0, one_not_past (counted_after before first) seen fields room.1 past)

-- rows of which none is one too many are so but for the last
pub up_to : (before : Counted) (seen : List (List (List ℕ))) → AreNotPast before seen → IsUpToPast before seen
up_to before [] room = tt
up_to before (first ∷ seen) room = inr (room.0, up_to (counted_after before first) seen room.1)

-- and whatever row comes after them
pub up_to_one : (before : Counted) (seen : List (List (List ℕ))) (fields : List (List ℕ)) → AreNotPast before seen
    → IsUpToPast before (seen ++ fields ∷ [])
up_to_one before [] fields room = inl refl
up_to_one before (first ∷ seen) fields room = inr (room.0, up_to_one (counted_after before first) seen fields room.1)

-- and one that is ends them
pub ends_past : (before : Counted) (seen : List (List (List ℕ))) (fields : List (List ℕ))
    → is_past (counted_of before seen) fields ≡ true → EndsPast before (seen ++ fields ∷ [])
ends_past before [] fields past = inl (refl, past)
ends_past before (first ∷ seen) fields past = inr (ends_past (counted_after before first) seen fields past)

-- what counts after one more row
pub counted_more : (before : Counted) (seen : List (List (List ℕ))) (fields : List (List ℕ))
    → counted_of before (seen ++ fields ∷ []) ≡ counted_after (counted_of before seen) fields
counted_more before [] fields = refl
counted_more before (first ∷ seen) fields = counted_more (counted_after before first) seen fields

-- the count of faults is no more than that of rows
pub count_fits : (verdict : Verdict) (before after rows : ℕ) → after ≡ before + one_if (is_told verdict)
    → before ≤ rows → after ≤ rows + 1
count_fits verdict.Right before after rows is fits = omega (arith, is, fits)
count_fits (verdict.Wrong found) before after rows is fits = omega (arith, is, fits)
count_fits (verdict.Unsendable why) before after rows is fits = omega (arith, is, fits)
