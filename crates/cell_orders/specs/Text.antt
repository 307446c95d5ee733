-- An orders file: rows as CSV. Own.
use Rattle.std.specs.Prelude.{ℕ, ◌/◌, ◌%◌, true, List, [], ◌∷◌, ◌++◌, map, codes, decimal, Option, Some, None}
use Rattle.std.specs.List.{flat_map}
use Rattle.hex.specs.Hex.{encode_lower}
use Rattle.csv.specs.Writing.{default_writer, row_text, with_flexible}
use Rattle.csv.specs.declared.writer.WriterBuilder.{WriterBuilder}
use Rattle.cbs_page.specs.declared.content.Content.{Content}
use Rattle.cell_orders.specs.declared.row.CellAnswer.{CellAnswer}
use Rattle.cell_orders.specs.declared.row.CellOrder.{CellOrder}
use Rattle.cell_orders.specs.declared.row.CellOrder.TheVariants as rows
use Rattle.cell_orders.specs.declared.row.OrderRow.{OrderRow}

-- commas, LF after each row; rows differ in length
abbrev pub orders_writer : WriterBuilder
orders_writer = with_flexible default_writer true

-- numbers of 16 and of 8 bits, in lower hexadecimal digits
abbrev pub pair_text : ℕ → List ℕ
pair_text n = encode_lower (n / 256 ∷ n % 256 ∷ [])

abbrev pub octet_text : ℕ → List ℕ
octet_text n = encode_lower (n ∷ [])

-- a field that may be empty
abbrev pub text_if : {X : Type 0} → (X → List ℕ) → Option X → List ℕ
text_if text None = []
text_if text (Some x) = text x

-- the answer: that the cell took the order, or the cause
abbrev pub outcome_text : Option ℕ → List ℕ
outcome_text None = codes "ok"
outcome_text (Some cause) = octet_text cause

abbrev pub answer_text : Option CellAnswer → List ℕ
answer_text answer = text_if (λ a. outcome_text a.cause) answer

abbrev pub done_text : Option CellAnswer → List ℕ
done_text answer = text_if (λ a. text_if decimal a.done) answer

-- a page: its used octets, and all 82
abbrev pub page_text : Content → List ℕ
page_text content = decimal content.used ++ (codes "-" ++ encode_lower content.octets)

-- the fields of a row, whose first is its kind and whose second is its slot
abbrev pub fields_of_order : ℕ → CellOrder → List (List ℕ)
fields_of_order at (rows.Write id new_serial old_serial category period broadcasts dcs contents answer) =
    codes "write" ∷ decimal at ∷ decimal id ∷ pair_text new_serial ∷ text_if pair_text old_serial ∷ decimal category
    ∷ decimal period ∷ decimal broadcasts ∷ octet_text dcs.0 ∷ answer_text answer ∷ done_text answer
    ∷ map page_text contents
fields_of_order at (rows.Kill id old_serial answer) =
    codes "kill" ∷ decimal at ∷ decimal id ∷ pair_text old_serial ∷ answer_text answer ∷ done_text answer ∷ []
fields_of_order at rows.Clear = codes "clear" ∷ decimal at ∷ []

abbrev pub row_fields : OrderRow → List (List ℕ)
row_fields row = fields_of_order row.at row.order

abbrev pub row_line : OrderRow → List ℕ
row_line row = row_text orders_writer (row_fields row)

abbrev pub orders_text : List OrderRow → List ℕ
orders_text rows = flat_map row_line rows
