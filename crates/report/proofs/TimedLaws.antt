-- The lines of a report with times, and of the one without, are those of one table.
use Rattle.std.proofs.Common.{◌≡◌, ◌∙◌, ◌∷◌, ◌++◌, [], Bool, true, false, ℕ, List, map, take, ap, refl, sym}
use Rattle.std.specs.List.{flat_map}
use Rattle.std.proofs.lemmas.List.Concat.{flat_map-cons}
use Rattle.report.specs.Laws.{UntimedIsTimedCut, timed_table, untimed_columns}
use Rattle.report.specs.ReportText.{full_header_line, full_line, header_line, line, row_line, time_fields, time_names}
use Rattle.report.specs.ReportText.{timed_header_line, timed_line, timed_part_text, untimed_fields, untimed_names}
use Rattle.report.specs.ReportText.{untimed_part_text}
use Rattle.report.specs.Sources.{Orders}
use Rattle.report.specs.declared.row.Columns.{Columns}
use Rattle.report.specs.declared.row.Columns.TheVariants as columns
use Rattle.report.specs.declared.row.Row.{Row}
use Rattle.slot_times.specs.declared.start.Start.{Start}

-- the fields of a row with times
abbrev fields : Columns → Start → Orders → Row → List (List ℕ)
fields wanted start orders r = untimed_fields wanted orders r ++ time_fields wanted start r

timed-rows : (wanted : Columns) (start : Start) (orders : Orders) (rows : List Row) →
    flat_map (timed_line wanted start orders) rows ≡ flat_map line (map (fields wanted start orders) rows)
timed-rows wanted start orders [] = refl
timed-rows wanted start orders (r ∷ rows) =
    flat_map-cons (timed_line wanted start orders) r rows
    ∙ ap (λ (xs : List ℕ). timed_line wanted start orders r ++ xs) (timed-rows wanted start orders rows)
    ∙ sym (flat_map-cons line (fields wanted start orders r) (map (fields wanted start orders) rows))

timed-is : (wanted : Columns) (start : Start) (headed : Bool) (orders : Orders) (rows : List Row) →
    timed_part_text wanted start headed orders rows ≡ flat_map line (timed_table wanted start headed orders rows)
timed-is wanted start true orders rows =
    ap (λ (xs : List ℕ). timed_header_line wanted ++ xs) (timed-rows wanted start orders rows)
    ∙ sym (flat_map-cons line (untimed_names wanted ++ time_names wanted) (map (fields wanted start orders) rows))
timed-is wanted start false orders rows = timed-rows wanted start orders rows

-- the fields without times come first
plain-rows : (start : Start) (orders : Orders) (rows : List Row) →
    flat_map row_line rows ≡ flat_map line (map (take 8) (map (fields columns.Plain start orders) rows))
plain-rows start orders [] = refl
plain-rows start orders (r ∷ rows) =
    flat_map-cons row_line r rows
    ∙ ap (λ (xs : List ℕ). row_line r ++ xs) (plain-rows start orders rows)
    ∙ sym (flat_map-cons line (take 8 (fields columns.Plain start orders r))
    (map (take 8) (map (fields columns.Plain start orders) rows)))

full-rows : (start : Start) (orders : Orders) (rows : List Row) →
    flat_map (full_line orders) rows ≡ flat_map line (map (take 15) (map (fields columns.Full start orders) rows))
full-rows start orders [] = refl
full-rows start orders (r ∷ rows) =
    flat_map-cons (full_line orders) r rows
    ∙ ap (λ (xs : List ℕ). full_line orders r ++ xs) (full-rows start orders rows)
    ∙ sym (flat_map-cons line (take 15 (fields columns.Full start orders r))
    (map (take 15) (map (fields columns.Full start orders) rows)))

untimed-is : (wanted : Columns) (start : Start) (headed : Bool) (orders : Orders) (rows : List Row) →
    untimed_part_text wanted headed orders rows
    ≡ flat_map line (map (take (untimed_columns wanted)) (timed_table wanted start headed orders rows))
untimed-is columns.Plain start true orders rows =
    ap (λ (xs : List ℕ). header_line ++ xs) (plain-rows start orders rows)
    ∙ sym (flat_map-cons line (take 8 (untimed_names columns.Plain ++ time_names columns.Plain))
    (map (take 8) (map (fields columns.Plain start orders) rows)))
untimed-is columns.Plain start false orders rows = plain-rows start orders rows
untimed-is columns.Full start true orders rows =
    ap (λ (xs : List ℕ). full_header_line ++ xs) (full-rows start orders rows)
    ∙ sym (flat_map-cons line (take 15 (untimed_names columns.Full ++ time_names columns.Full))
    (map (take 15) (map (fields columns.Full start orders) rows)))
untimed-is columns.Full start false orders rows = full-rows start orders rows

-- so the report without times is the one with times with the columns of times left out
pub untimed-is-cut : UntimedIsTimedCut
untimed-is-cut wanted start headed orders rows =
    record { timed = timed-is wanted start headed orders rows; untimed = untimed-is wanted start headed orders rows }
