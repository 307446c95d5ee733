-- The text of rows, as CSV: no field has a comma, a quotation mark or a line end, so none is quoted (own).
use Rattle.std.specs.Prelude.{ℕ, ◌/◌, ◌%◌, List, [], ◌∷◌, ◌++◌, codes}
use Rattle.std.specs.Fmt.{decimal}
use Rattle.std.specs.List.{flat_map}
use Rattle.hex.specs.Hex.{encode_lower}
use Rattle.verification.specs.declared.difference.Difference.{Difference}
use Rattle.verification.specs.declared.difference.Kind.{Kind}
use Rattle.verification.specs.declared.difference.Kind.TheVariants as kinds
use Rattle.verification.specs.declared.row.Row.{Row}
use Rattle.verification.specs.declared.row.Finding.{Finding}
use Rattle.verification.specs.declared.row.Finding.TheVariants as findings

abbrev pub header_text : List ℕ
header_text = codes "lac,ci,id,serial,slot,difference\n"

-- four lower hexadecimal digits
abbrev pub serial_text : ℕ → List ℕ
serial_text serial = encode_lower ((serial / 256) ∷ (serial % 256) ∷ [])

-- broadcasts are counted from 0
abbrev pub kind_text : Kind → List ℕ
kind_text (kinds.Otherwise number) = codes "page " ++ (decimal number ++ codes " reads otherwise")
kind_text kinds.BeforeStart = codes "before its start"
kind_text kinds.AfterStop = codes "after its stop"
kind_text kinds.AfterLast = codes "after its last broadcast"
kind_text (kinds.NotWhole broadcast) = codes "broadcast " ++ (decimal broadcast ++ codes " not whole")
kind_text kinds.NotOrdered = codes "not ordered"
kind_text (kinds.Again broadcast) = codes "broadcast " ++ (decimal broadcast ++ codes " again")

-- the identifier, the serial number, the slot and the difference; a finding of a whole cell has only the last
abbrev pub difference_text : Difference → List ℕ
difference_text d =
    decimal d.id ++ (codes "," ++ (serial_text d.serial ++ (codes "," ++ (decimal d.slot ++ (codes ","
    ++ kind_text d.kind)))))

abbrev pub finding_text : Finding → List ℕ
finding_text (findings.Differs d) = difference_text d
finding_text findings.NoTape = codes ",,,no tape"
finding_text findings.OtherSlots = codes ",,,other slots"
finding_text findings.SecondTape = codes ",,,second tape"
finding_text findings.UnknownCell = codes ",,,unknown cell"

abbrev pub row_text : Row → List ℕ
row_text r =
    decimal r.cell.lac ++ (codes "," ++ (decimal r.cell.ci ++ (codes "," ++ (finding_text r.finding ++ codes "\n"))))

abbrev pub rows_text : List Row → List ℕ
rows_text rows = header_text ++ flat_map row_text rows
