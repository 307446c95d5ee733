-- The lines of a full report, and of a plain one, are those of one table.
use Rattle.std.proofs.Common.{◌≡◌, ◌∙◌, ◌∷◌, ◌++◌, [], Bool, true, false, ℕ, List, map, ap, refl, sym}
use Rattle.std.specs.List.{flat_map}
use Rattle.std.proofs.lemmas.List.Concat.{flat_map-cons}
use Rattle.report.specs.Laws.{PlainIsFullCut, full_table, plain_of}
use Rattle.report.specs.ReportText.{full_fields, full_header_line, full_line, full_names, full_part_text, header_line}
use Rattle.report.specs.ReportText.{line, part_text, row_line}
use Rattle.report.specs.Sources.{Orders}
use Rattle.report.specs.declared.row.Row.{Row}

full-rows : (orders : Orders) (rows : List Row) →
    flat_map (full_line orders) rows ≡ flat_map line (map (full_fields orders) rows)
full-rows orders [] = refl
full-rows orders (r ∷ rows) =
    flat_map-cons (full_line orders) r rows
    ∙ ap (λ (xs : List ℕ). full_line orders r ++ xs) (full-rows orders rows)
    ∙ sym (flat_map-cons line (full_fields orders r) (map (full_fields orders) rows))

-- the eight fields after the order's are those of a plain line
plain-rows : (orders : Orders) (rows : List Row) →
    flat_map row_line rows ≡ flat_map line (map plain_of (map (full_fields orders) rows))
plain-rows orders [] = refl
plain-rows orders (r ∷ rows) =
    flat_map-cons row_line r rows
    ∙ ap (λ (xs : List ℕ). row_line r ++ xs) (plain-rows orders rows)
    ∙ sym (flat_map-cons line (plain_of (full_fields orders r)) (map plain_of (map (full_fields orders) rows)))

full-is : (headed : Bool) (orders : Orders) (rows : List Row) →
    full_part_text headed orders rows ≡ flat_map line (full_table headed orders rows)
full-is true orders rows =
    ap (λ (xs : List ℕ). full_header_line ++ xs) (full-rows orders rows)
    ∙ sym (flat_map-cons line full_names (map (full_fields orders) rows))
full-is false orders rows = full-rows orders rows

plain-is : (headed : Bool) (orders : Orders) (rows : List Row) →
    part_text headed rows ≡ flat_map line (map plain_of (full_table headed orders rows))
plain-is true orders rows =
    ap (λ (xs : List ℕ). header_line ++ xs) (plain-rows orders rows)
    ∙ sym (flat_map-cons line (plain_of full_names) (map plain_of (map (full_fields orders) rows)))
plain-is false orders rows = plain-rows orders rows

-- so the plain report is the full one with the order's columns, and those after the next eight, left out
pub plain-is-cut : PlainIsFullCut
plain-is-cut headed orders rows =
    record { full = full-is headed orders rows; plain = plain-is headed orders rows }
