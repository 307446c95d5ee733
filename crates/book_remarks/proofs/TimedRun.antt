-- The lines of a table with times, and of the one without, are those of the same fields.
use Rattle.std.proofs.Common.{◌≡◌, ◌∙◌, ◌∷◌, ◌++◌, [], ℕ, List, Option, Some, None, map, take, ap, ap₂, refl, sym}
use Rattle.std.proofs.Common.{append_assoc}
use Rattle.std.specs.List.{flat_map}
use Rattle.std.proofs.lemmas.Grind.{flat_map-append}
use Rattle.std.proofs.lemmas.List.{map-append}
use Rattle.std.proofs.lemmas.List.Concat.{flat_map-cons}
use Rattle.bsc_table.specs.Record.{Record}
use Rattle.book_remarks.specs.Laws.{UntimedLacksTimes, fields_of_run}
use Rattle.book_remarks.specs.RemarksText.{checked_run_text, column_names, fullest_line, header_line, line}
use Rattle.book_remarks.specs.RemarksText.{remark_fields, remark_line, run_fields}
use Rattle.book_remarks.specs.declared.remarks.Remark.{Remark}
use Rattle.book_remarks.specs.declared.remarks.Remark.TheVariants as remarks
use Rattle.slot_times.specs.declared.start.Start.{Start}

-- lines are those of their fields
lines-of-remarks : (start : Option Start) (all : List Remark)
    → flat_map (remark_line None start) all ≡ flat_map line (map (remark_fields start) all)
lines-of-remarks start [] = refl
lines-of-remarks start (remark ∷ all) =
    flat_map-cons (remark_line None start) remark all
    ∙ ap (λ (xs : List ℕ). remark_line None start remark ++ xs) (lines-of-remarks start all)
    ∙ sym (flat_map-cons line (remark_fields start remark) (map (remark_fields start) all))

lines-of-records : (start : Option Start) (records : List Record)
    → flat_map (fullest_line None start) records ≡ flat_map line (map (run_fields start) records)
lines-of-records start [] = refl
lines-of-records start (r ∷ records) =
    flat_map-cons (fullest_line None start) r records
    ∙ ap (λ (xs : List ℕ). fullest_line None start r ++ xs) (lines-of-records start records)
    ∙ sym (flat_map-cons line (run_fields start r) (map (run_fields start) records))

lines-are : (start : Option Start) (all : List Remark) (records : List Record)
    → checked_run_text start all records ≡ flat_map line (fields_of_run start all records)
lines-are start all records =
    append_assoc (header_line start) (flat_map (remark_line None start) all)
    (flat_map (fullest_line None start) records)
    ∙ ap (λ (xs : List ℕ). header_line start ++ xs)
    (ap₂ (λ (xs ys : List ℕ). xs ++ ys) (lines-of-remarks start all) (lines-of-records start records)
    ∙ sym (flat_map-append line (map (remark_fields start) all) (map (run_fields start) records)))
    ∙ sym (flat_map-cons line (column_names start) (map (remark_fields start) all ++ map (run_fields start) records))

-- without times there are the first four fields
cut-remark : (start : Start) (remark : Remark)
    → remark_fields None remark ≡ take 4 (remark_fields (Some start) remark)
cut-remark start (remarks.OfOrder row name said) = refl
cut-remark start (remarks.NothingIn cell) = refl

cut-remarks : (start : Start) (all : List Remark)
    → map (remark_fields None) all ≡ map (take 4) (map (remark_fields (Some start)) all)
cut-remarks start [] = refl
cut-remarks start (remark ∷ all) =
    ap₂ (λ (fields : List (List ℕ)) (rest : List (List (List ℕ))). fields ∷ rest) (cut-remark start remark)
    (cut-remarks start all)

cut-records : (start : Start) (records : List Record)
    → map (run_fields None) records ≡ map (take 4) (map (run_fields (Some start)) records)
cut-records start [] = refl
cut-records start (r ∷ records) =
    ap (λ (rest : List (List (List ℕ))). run_fields None r ∷ rest) (cut-records start records)

cut : (start : Start) (all : List Remark) (records : List Record)
    → fields_of_run None all records ≡ map (take 4) (fields_of_run (Some start) all records)
cut start all records =
    ap (λ (rest : List (List (List ℕ))). column_names None ∷ rest)
    (ap₂ (λ (xs ys : List (List (List ℕ))). xs ++ ys) (cut-remarks start all) (cut-records start records)
    ∙ sym (map-append (take 4) (map (remark_fields (Some start)) all) (map (run_fields (Some start)) records)))

-- so the table without times is the one with times with their column left out
pub untimed-lacks-times : UntimedLacksTimes
untimed-lacks-times start all records = record {
  timed = lines-are (Some start) all records;
  untimed = lines-are None all records ∙ ap (flat_map line) (cut start all records);
}
