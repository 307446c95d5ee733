-- Octets are checked in one way.
use Rattle.std.proofs.Common.{◌≡◌, ◌≢◌, ◌∙◌, ◌⊎◌, ℕ, ap, sym, refl, subst, inl, inr, true, false, Option, Some, None}
use Rattle.std.proofs.Common.{List, [], ◌∷◌, ◌++◌, append-nil, count_by, Ok, Err, Result}
use Rattle.std.specs.Str.{chars}
use Rattle.csv.specs.Machine.{next_record}
use Rattle.csv.specs.Reading.{default_config, strip_bom}
use Rattle.csv.specs.declared.parser.State.TheVariants as st
use Rattle.cbs_page.proofs.OneText.{sent_text_has_no_fault, text_fault_is_one}
use Rattle.cbs_page.specs.Text.{IsTextFault}
use Rattle.cbs_page.specs.declared.paging.Paged.{Paged}
use Rattle.cbs_page.specs.declared.paging.TextFault.{TextFault}
use Rattle.cbs_page.specs.declared.paging.TextFault.TheVariants as text
use Rattle.alert_book.proofs.OneAnswer.{reached_either, reached_front, reached_same}
use Rattle.alert_book.specs.Book.{sending_of, ArePagesOf}
use Rattle.alert_book.specs.Judging.{Counted, counted_after, next_found, next_meant, none_within}
use Rattle.alert_book.specs.Judging.{IsVerdict, IsVerdictOfRow}
use Rattle.alert_book.specs.declared.book.order.Sending.{Sending}
use Rattle.alert_book.specs.declared.book.row.Row.{Row}
use Rattle.alert_book.specs.declared.book.row.Row.TheVariants as rows
use Rattle.alert_book.specs.declared.fault.RowFault.{RowFault}
use Rattle.alert_book.specs.declared.judging.Verdict.{Verdict}
use Rattle.alert_book.specs.declared.judging.Verdict.TheVariants as verdict
use Rattle.alert_book.specs.declared.judging.columns.Found.{Found}
use Rattle.alert_book.specs.declared.judging.bounds.Bounds.{Bounds}
use Rattle.book_check.specs.Checked.{AreVerdictsBy, EndsPast, IsUpToPast}
use Rattle.book_check.specs.Laws.{ChecksAreOne}
use Rattle.book_check.specs.Lines.{at_start}
use Rattle.book_check.specs.Told.{AreVerdicts, header_row, is_told, told_of_rows}

-- no rows come after one too many
front_past : (before : Counted) (front : List (List (List ℕ))) (fields : List (List ℕ))
    (more : List (List (List ℕ))) → EndsPast before front → IsUpToPast before (front ++ fields ∷ more) → ⊥
front_past before [] fields more ends up = ends
front_past before (first ∷ front) fields more ends (inl none) = no_rest front none
  where
    no_rest : (front : List (List (List ℕ))) → front ++ fields ∷ more ≡ [] → ⊥
    no_rest [] is = cc
    no_rest (f ∷ fs) is = cc
front_past before (first ∷ front) fields more (inl last) (inr up) =
    let both : true ≡ false = sym last.1 ∙ up.0 in
    cc
front_past before (first ∷ front) fields more (inr later) (inr up) =
    front_past (counted_after before first) front fields more later up.1

-- a list of records that ends so is a front of itself alone
no_more : (before : Counted) (front all more : List (List (List ℕ))) → all ≡ front ++ more → EndsPast before front
    → IsUpToPast before all → all ≡ front
no_more before front all [] is ends up = is ∙ append-nil front
no_more before front all (m ∷ ms) is ends up =
    absurd (front_past before front m ms ends (subst (IsUpToPast before) is up))

-- the records that are judged are one list
same_records : (bound : Bounds) (input : List ℕ) (verdicts others : List Verdict)
    (one : AreVerdictsBy bound input verdicts) (two : AreVerdictsBy bound input others) → one.records ≡ two.records
same_records bound input verdicts others one two = by_ends one.whole two.whole
  where
    by_ends : (next_record default_config one.state [] [] one.rest ≡ None) ⊎ EndsPast (none_within bound) one.records
        → (next_record default_config two.state [] [] two.rest ≡ None) ⊎ EndsPast (none_within bound) two.records
        → one.records ≡ two.records
    by_ends (inl ended) (inl done) =
        reached_same default_config st.StartRecord (strip_bom input) one.records two.records one.state one.rest
        two.state two.rest one.read ended two.read done
    by_ends (inl ended) (inr full) =
        let more = reached_front default_config st.StartRecord (strip_bom input) two.records one.records two.state
        two.rest one.state one.rest two.read one.read ended in
        no_more (none_within bound) two.records one.records more.0 more.1 full one.few
    by_ends (inr full) (inl done) =
        let more = reached_front default_config st.StartRecord (strip_bom input) one.records two.records one.state
        one.rest two.state two.rest one.read two.read done in
        sym (no_more (none_within bound) one.records two.records more.0 more.1 full two.few)
    by_ends (inr full) (inr filled) =
        elim (reached_either default_config st.StartRecord (strip_bom input) one.records two.records one.state
        one.rest two.state two.rest one.read two.read) [
          | inl more ↦ sym (no_more (none_within bound) one.records two.records more.0 more.1 full two.few)
          | inr more ↦ no_more (none_within bound) two.records one.records more.0 more.1 filled one.few
        ]

-- a row has one meaning
one_row : (r : Result Row RowFault) (a b : Row) → r ≡ Ok a → r ≡ Ok b → a ≡ b
one_row r a b one two = cc

no_row : (r : Result Row RowFault) (a : Row) (f : RowFault) → r ≡ Ok a → r ≡ Err f → ⊥
no_row r a f right wrong = cc

one_found : (o : Option Found) (a b : Found) → o ≡ Some a → o ≡ Some b → a ≡ b
one_found o a b one two = cc

one_sending : (o : Option Sending) (a b : Sending) → o ≡ Some a → o ≡ Some b → a ≡ b
one_sending o a b one two = cc

-- a text that can be sent has no fault
not_both : (sent : Option Sending) (paged : Option Paged) (sending : Sending) (why : TextFault)
    → ArePagesOf sent paged → sent ≡ Some sending → IsTextFault sending.language (chars sending.text) why
    → why ≢ text.Refused → ⊥
not_both None None sending why pages is wrong told = absurd cc
not_both None (Some paged) sending why pages is wrong told = pages
not_both (Some own) None sending why pages is wrong told = pages
not_both (Some own) (Some paged) sending why pages is wrong told =
    let same : own ≡ sending = cc in
    sent_text_has_no_fault own.language (chars own.text) paged why pages
    (subst (λ (s : Sending). IsTextFault s.language (chars s.text) why) (sym same) wrong) told

sent_or_not : (meant : Row) (why : TextFault) → IsVerdictOfRow meant verdict.Right
    → IsVerdictOfRow meant (verdict.Unsendable why) → ⊥
sent_or_not (rows.Declare cell) why right wrong = wrong
sent_or_not (rows.Give order) why right wrong =
    not_both (sending_of order.action) right.0 wrong.sending why right.1 wrong.sent wrong.wrong wrong.told

-- a text has one fault
one_why : (meant : Row) (why other : TextFault) → IsVerdictOfRow meant (verdict.Unsendable why)
    → IsVerdictOfRow meant (verdict.Unsendable other) → why ≡ other
one_why (rows.Declare cell) why other one two = absurd one
one_why (rows.Give order) why other one two =
    let same = one_sending (sending_of order.action) one.sending two.sending one.sent two.sent in
    text_fault_is_one two.sending.language (chars two.sending.text) why other
    (subst (λ (s : Sending). IsTextFault s.language (chars s.text) why) same one.wrong) two.wrong one.told two.told

-- a row has one verdict
one_verdict : (before : Counted) (fields : List (List ℕ)) (told other : Verdict) → IsVerdict before fields told
    → IsVerdict before fields other → told ≡ other
one_verdict before fields verdict.Right verdict.Right one two = refl
one_verdict before fields verdict.Right (verdict.Wrong found) one two =
    absurd (no_row (next_meant before fields) one.meant found.fault one.right two.wrong)
one_verdict before fields verdict.Right (verdict.Unsendable why) one two =
    let same = one_row (next_meant before fields) one.meant two.meant one.right two.right in
    absurd (sent_or_not two.meant why (subst (λ (m : Row). IsVerdictOfRow m verdict.Right) same one.text) two.text)
one_verdict before fields (verdict.Wrong found) verdict.Right one two =
    absurd (no_row (next_meant before fields) two.meant found.fault two.right one.wrong)
one_verdict before fields (verdict.Wrong found) (verdict.Wrong other) one two =
    ap (λ (f : Found). verdict.Wrong f) (one_found (next_found before fields) found other one.found_is two.found_is)
one_verdict before fields (verdict.Wrong found) (verdict.Unsendable why) one two =
    absurd (no_row (next_meant before fields) two.meant found.fault two.right one.wrong)
one_verdict before fields (verdict.Unsendable why) verdict.Right one two =
    let same = one_row (next_meant before fields) one.meant two.meant one.right two.right in
    absurd (sent_or_not two.meant why two.text
    (subst (λ (m : Row). IsVerdictOfRow m (verdict.Unsendable why)) same one.text))
one_verdict before fields (verdict.Unsendable why) (verdict.Wrong found) one two =
    absurd (no_row (next_meant before fields) one.meant found.fault one.right two.wrong)
one_verdict before fields (verdict.Unsendable why) (verdict.Unsendable other) one two =
    let same = one_row (next_meant before fields) one.meant two.meant one.right two.right in
    ap (λ (w : TextFault). verdict.Unsendable w) (one_why two.meant why other
    (subst (λ (m : Row). IsVerdictOfRow m (verdict.Unsendable why)) same one.text) two.text)

-- so rows have one list of verdicts
same_verdicts : (before : Counted) (records : List (List (List ℕ))) (verdicts others : List Verdict)
    → AreVerdicts before records verdicts → AreVerdicts before records others → verdicts ≡ others
same_verdicts before [] [] [] one two = refl
same_verdicts before [] [] (w ∷ ws) one two = absurd two
same_verdicts before [] (v ∷ vs) others one two = absurd one
same_verdicts before (fields ∷ records) [] others one two = absurd one
same_verdicts before (fields ∷ records) (v ∷ vs) [] one two = absurd two
same_verdicts before (fields ∷ records) (v ∷ vs) (w ∷ ws) one two =
    ap (λ (x : Verdict). x ∷ vs) (one_verdict before fields v w one.0 two.0)
    ∙ ap (λ (xs : List Verdict). w ∷ xs) (same_verdicts (counted_after before fields) records vs ws one.1 two.1)

-- and octets one table
pub checks_are_one : ChecksAreOne
checks_are_one bound input output another count other one two =
    let text : List ℕ = strip_bom input in
    let records = same_records bound input one.verdicts two.verdicts one.are two.are in
    let verdicts = same_verdicts (none_within bound) two.are.records one.verdicts two.verdicts
    (subst (λ (rs : List (List (List ℕ))). AreVerdicts (none_within bound) rs one.verdicts) records one.are.each)
    two.are.each in (
      sym one.counted ∙ ap (count_by is_told) verdicts ∙ two.counted,
      one.written
          ∙ ap (λ (rs : List (List (List ℕ))). header_row ++ told_of_rows text (at_start text) (none_within bound) rs
          one.verdicts) records
          ∙ ap (λ (vs : List Verdict). header_row ++ told_of_rows text (at_start text) (none_within bound)
          two.are.records vs)
          verdicts
          ∙ sym two.written,
    )
