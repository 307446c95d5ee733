-- What is written of a row is read back.
use Rattle.std.proofs.Common.{◌≡◌, ◌<◌, ◌≤◌, ◌^◌, ◌∙◌, ◌/◌, ◌%◌, ℕ, true, false, List, [], ◌∷◌, ◌++◌}
use Rattle.std.proofs.Common.{length, map, Option, Some, None, Ok, ap, refl, sym, arith, append_assoc}
use Rattle.std.proofs.Common.{append-nil, inl, inr}
use Rattle.std.specs.Prelude.{nat_le, codes, All, IfSome}
use Rattle.std.specs.Fmt.{decimal}
use Rattle.std.specs.Str.{bytes_eq}
use Rattle.std.proofs.lemmas.Bool.{cases_Bool, ne_eqb}
use Rattle.std.proofs.lemmas.Fmt.{decimal_nonempty}
use Rattle.std.proofs.lemmas.List.{length-map}
use Rattle.std.proofs.lemmas.List.Elements.{All-head, All-tail}
use Rattle.std.proofs.lemmas.Option.{none-some}
use Rattle.std.proofs.lemmas.Slice.Eq.{bytes_eq-Decides}
use Rattle.hex.specs.Hex.{decode_pairs, lower_digits}
use Rattle.hex.proofs.HexLemmas.{length-encode_with}
use Rattle.csv.specs.Records.{field_at}
use Rattle.cbs_page.specs.declared.coding.Dcs.{Dcs}
use Rattle.cbs_page.specs.declared.content.Content.{Content}
use Rattle.cell_orders.specs.declared.row.CellAnswer.{CellAnswer}
use Rattle.cell_orders.specs.declared.row.CellOrder.{CellOrder}
use Rattle.cell_orders.specs.declared.row.CellOrder.TheVariants as rows
use Rattle.cell_orders.specs.declared.row.OrderRow.{OrderRow}
use Rattle.cell_orders.specs.Text.{answer_text, done_text, fields_of_order, octet_text, outcome_text, page_text}
use Rattle.cell_orders.specs.Text.{pair_text, row_fields, text_if}
use Rattle.orders_file.specs.Fields.{answer_of, cause, coding, done, is_empty, old_serial}
use Rattle.orders_file.specs.Laws.{Fits, FitsAnswer, FitsContent, FitsOrder, IsOctet, IsPair, untimed}
use Rattle.orders_file.specs.Number.{number, octet_of, serial}
use Rattle.orders_file.specs.Page.{IsPage, page, pages_after}
use Rattle.orders_file.specs.Ranges.{IsOrderWithin, IsWithin}
use Rattle.orders_file.specs.Row.{last_slot, order_of_fields, row_with, verb_of}
use Rattle.orders_file.proofs.NumberBack.{le_test, number_back, octet_back, octets_back, pair_back}
use Rattle.orders_file.proofs.PageBack.{page_back}

-- fields
number_is : (most n : ℕ) → n ≤ most → most < 10 ^ 10 → number most (decimal n) ≡ Ok n
number_is most n less small = rw (number_back most n less small) refl

serial_is : (n : ℕ) → IsPair n → serial (pair_text n) ≡ Ok n
serial_is n fits = rw (pair_back n fits) refl

has_some : (field : List ℕ) → 0 < length field → is_empty field ≡ false
has_some field some = ne_eqb (length field) 0 (λ none. omega arith)

pair_some : (n : ℕ) → is_empty (pair_text n) ≡ false
pair_some n =
    let long : length (pair_text n) ≡ 4 = length-encode_with lower_digits (n / 256 ∷ n % 256 ∷ []) in
    has_some (pair_text n) (omega (arith, long))

octet_some : (n : ℕ) → is_empty (octet_text n) ≡ false
octet_some n =
    let long : length (octet_text n) ≡ 2 = length-encode_with lower_digits (n ∷ []) in
    has_some (octet_text n) (omega (arith, long))

old_is : (old : Option ℕ) → IfSome old IsPair → old_serial (text_if pair_text old) ≡ Ok old
old_is None fits = refl
old_is (Some n) fits = rw (pair_some n, serial_is n fits) refl

coding_is : (dcs : Dcs) → IsOctet dcs.0 → coding (octet_text dcs.0) ≡ Ok dcs
coding_is dcs fits = rw (octet_back dcs.0 fits) refl

-- two hexadecimal digits aren't `ok`
no_octet : octet_of (codes "ok") ≡ None
unfolding decode_pairs
no_octet = refl

not_ok : (n : ℕ) → IsOctet n → bytes_eq (octet_text n) (codes "ok") ≡ false
not_ok n fits = elim (cases_Bool (bytes_eq (octet_text n) (codes "ok"))) [
  | inl same ↦
      let is : octet_text n ≡ codes "ok" = (bytes_eq-Decides (octet_text n) (codes "ok")).0 same in
      absurd (none-some n (sym no_octet ∙ ap octet_of (sym is) ∙ octet_back n fits))
  | inr other ↦ other
]

cause_is : (why : Option ℕ) → IfSome why IsOctet → cause (outcome_text why) ≡ Ok why
cause_is None fits = refl
cause_is (Some n) fits = rw (not_ok n fits, octet_back n fits) refl

done_is : (count : Option ℕ) → IfSome count IsPair → done (text_if decimal count) ≡ Ok count
done_is None fits = refl
done_is (Some n) fits =
    rw (has_some (decimal n) (decimal_nonempty n (omega arith)), number_is 65535 n (omega arith) (omega arith)) refl

outcome_some : (why : Option ℕ) → is_empty (outcome_text why) ≡ false
outcome_some None = refl
outcome_some (Some n) = octet_some n

answer_is : (answer : Option CellAnswer) → IfSome answer FitsAnswer
    → answer_of (answer_text answer) (done_text answer) ≡ Ok answer
answer_is None fits = refl
answer_is (Some answer) fits =
    rw (outcome_some answer.cause, cause_is answer.cause fits.cause, done_is answer.done fits.done) refl

-- pages
page_is : (content : Content) → FitsContent content → IsPage content → page (page_text content) ≡ Ok content
page_is content fits few =
    rw (page_back content.used content.octets few (octets_back 82 content.octets fits.whole fits.octets)) refl

pages_are : (before contents : List Content) → All FitsContent contents → All IsPage contents
    → pages_after before (map page_text contents) ≡ Ok (before ++ contents)
pages_are before [] fit few = ap (λ (l : List Content). Ok l) (sym (append-nil before))
pages_are before (content ∷ contents) fit few =
    rw (page_is content (All-head FitsContent content contents fit) (All-head IsPage content contents few))
    (pages_are (before ++ content ∷ []) contents (All-tail FitsContent content contents fit)
    (All-tail IsPage content contents few)
    ∙ ap (λ (l : List Content). Ok l) (append_assoc before (content ∷ []) contents))

-- an order with its slot
order_is : (at : ℕ) (order : CellOrder) → at ≤ last_slot → FitsOrder order → IsOrderWithin order
    → order_of_fields (fields_of_order at order) ≡ Ok (row_with at order)
unfolding field_at verb_of
order_is at (rows.Write id new_serial old_serial category period broadcasts dcs contents answer) slot fits within =
    let fields : List (List ℕ) =
    fields_of_order at (rows.Write id new_serial old_serial category period broadcasts dcs contents answer) in
    let pages : length (map page_text contents) ≡ length contents = length-map contents page_text in
    let some : nat_le 12 (length fields) ≡ true = le_test 12 (length fields) (omega (arith, pages, within.1.some)) in
    let few : nat_le (length fields) 26 ≡ true = le_test (length fields) 26 (omega (arith, pages, within.1.few)) in
    rw (
      some,
      few,
      number_is last_slot at slot (omega arith),
      number_is 65535 id (omega arith) (omega arith),
      serial_is new_serial fits.1,
      old_is old_serial fits.2,
      number_is 255 category (omega arith) (omega arith),
      number_is 4095 period within.0 (omega arith),
      number_is 65535 broadcasts (omega arith) (omega arith),
      coding_is dcs fits.5,
      answer_is answer fits.7,
      pages_are [] contents fits.6 within.1.each,
    ) refl
order_is at (rows.Kill id old_serial answer) slot fits within =
    rw (
      number_is last_slot at slot (omega arith),
      number_is 65535 id (omega arith) (omega arith),
      serial_is old_serial fits.1,
      answer_is answer fits.2,
    ) refl
order_is at rows.Clear slot fits within = rw (number_is last_slot at slot (omega arith)) refl

-- the fields of a row are read as that row, but for its time and packet
pub row_is : (row : OrderRow) → Fits row → IsWithin row → order_of_fields (row_fields row) ≡ Ok (untimed row)
row_is row fits within = order_is row.at row.order within.at fits within.order
