-- What judged rows leave room for.
use Rattle.std.proofs.Common.{◌≡◌, ℕ, ◌+◌, ◌<◌, ◌≤◌, ◌&&◌, ◌||◌, ◌∙◌, Bool, true, false, cond, not, nat_le, nat_lt, eqb}
use Rattle.std.proofs.Common.{List, length, Option, Some, None, Ok, refl, sym, ap, arith, inl, inr}
use Rattle.std.specs.Option.{option_and_then}
use Rattle.std.specs.Str.{is_utf8}
use Rattle.std.proofs.lemmas.Bool.{cases_Bool, le-leb, leb-false, leb-true, ltb-false, ltb-true}
use Rattle.cbsp_wire.specs.declared.message.Cell.{Cell}
use Rattle.alert_book.specs.declared.book.order.Order.{Order}
use Rattle.alert_book.specs.declared.book.row.Row.{Row}
use Rattle.alert_book.specs.declared.book.row.Row.TheVariants as rows
use Rattle.alert_book.specs.declared.book.row.Verb.{Verb}
use Rattle.alert_book.specs.declared.fault.RowFault.TheVariants as fault
use Rattle.alert_book.specs.declared.judging.bounds.Bounds.{Bounds}
use Rattle.alert_book.specs.declared.judging.bounds.Bounds.TheVariants as bounds
use Rattle.alert_book.specs.Fields.{are_texts, column}
use Rattle.alert_book.specs.Judging.{field_judged, is_over, is_past, is_past_by, most_cells, name_of_verb, name_written}
use Rattle.alert_book.specs.Judging.{next_meant, row_judged, Counted}
use Rattle.alert_book.specs.JudgingSteps.{HasRoom, IsWithin}
use Rattle.alert_book.specs.Network.{declares_cell}
use Rattle.alert_book.specs.Row.{cell_row_within, row_after_verb_by, verb_of}
use Rattle.alert_book.proofs.FewRows.{either_new, fault_never, never_new, new_parts, verb_new, DeclaresNew}
use Rattle.alert_book.proofs.KeptLaws.{cell_row_gives, cell_verb, either_gives, no_gift}

-- the number of the next row is more than a bound if there are as many rows
less_is : (n count : ℕ) → nat_lt n (count + 1) ≡ nat_le n count
less_is n count = elim (cases_Bool (nat_lt n (count + 1))) [
  | inl less ↦ less ∙ sym (le-leb n count (omega (arith, ltb-true n (count + 1) less)))
  | inr more ↦ elim (cases_Bool (nat_le n count)) [
    | inl within ↦ absurd (omega (arith, leb-true n count within, ltb-false n (count + 1) more))
    | inr past ↦ more ∙ sym past
  ]
]

-- the next row is over if it is one too many
pub over_is_past : (bound : Bounds) (count : ℕ) (orders : List Order) (fields : List (List ℕ))
    → is_over bound (count + 1) orders fields ≡ is_past_by bound count orders fields
over_is_past bounds.Book count orders fields = less_is 4096 count
over_is_past bounds.Network count orders fields =
    ap (λ (b : Bool). b || (not (declares_cell fields) && nat_le 4096 (length orders))) (less_is 69633 count)

-- a row declares a cell that is new, where there is room for one
pub judged_new : (bound : Bounds) (row : ℕ) (cells : List Cell) (orders : List Order) (fields : List (List ℕ))
    → DeclaresNew (most_cells bound) cells (row_judged bound row cells orders fields)
judged_new bound row cells orders fields =
    either_new (most_cells bound) cells (is_over bound row orders fields) _ _
    (never_new (most_cells bound) cells _ (fault_never fault.TooManyRows))
    (either_new (most_cells bound) cells (not (are_texts fields)) _ _
    (never_new (most_cells bound) cells _ (fault_never fault.Columns))
    (verb_new (most_cells bound) (verb_of (column fields 0)) row cells (field_judged bound cells) orders fields))

few_cells : (bound : Bounds) (count : ℕ) → nat_le (most_cells bound) count ≡ false → count < 65536
few_cells bounds.Book count room = omega (arith, leb-false 64 count room)
few_cells bounds.Network count room = omega (arith, leb-false 65536 count room)

-- a row that declares a cell gives no order
cell_gives_none : (bound : Bounds) (row : ℕ) (cells : List Cell) (orders : List Order) (fields : List (List ℕ))
    (order : Order) → declares_cell fields ≡ true → row_judged bound row cells orders fields ≡ Ok (rows.Give order) → ⊥
cell_gives_none bound row cells orders fields order cell is =
    either_gives (is_over bound row orders fields) _ _ (no_gift fault.TooManyRows)
    (either_gives (not (are_texts fields)) _ _ (no_gift fault.Columns)
    (either_gives (eqb (length fields) 3) _ _ (cell_row_gives (most_cells bound) cells fields)
    (no_gift fault.Columns))) order (rw (cell_verb (column fields 0) cell) at is)

-- and writes no name
cell_is_nameless : (orders : List Order) (fields : List (List ℕ)) → declares_cell fields ≡ true
    → name_written orders fields ≡ None
cell_is_nameless orders fields cell = by_text (is_utf8 (column fields 0))
  where
    by_verb : (verb : Option Verb) → verb_of (column fields 0) ≡ verb
        → name_of_verb verb orders (column fields 2) ≡ None
        → name_of_verb (verb_of (column fields 0)) orders (column fields 2) ≡ None
    by_verb verb is none = rw is none

    by_text : (text : Bool) → name_of_verb (option_and_then verb_of (cond text (Some (column fields 0)) None)) orders
        (column fields 2) ≡ None
    by_text true = by_verb _ (cell_verb (column fields 0) cell) refl
    by_text false = refl

-- whether a row that isn't one too many comes before 4,096 orders
few_orders : (count : ℕ) (orders : List Order) (fields : List (List ℕ)) → declares_cell fields ≡ false
    → is_past_by bounds.Network count orders fields ≡ false → length orders < 4096
few_orders count orders fields other past = elim (cases_Bool (nat_le 69633 count)) [
  | inl full ↦ absurd (cc (rw full at past))
  | inr room ↦ elim (cases_Bool (nat_le 4096 (length orders))) [
    | inl many ↦ absurd (cc (rw (room, other, many) at past))
    | inr few ↦ leb-false 4096 (length orders) few
  ]
]

few_rows : (count : ℕ) (orders : List Order) (fields : List (List ℕ))
    → is_past_by bounds.Network count orders fields ≡ false → count < 69633
few_rows count orders fields past = elim (cases_Bool (nat_le 69633 count)) [
  | inl full ↦ absurd (cc (rw full at past))
  | inr room ↦ leb-false 69633 count room
]

-- a row that isn't one too many has room
pub row_has_room : (bound : Bounds) (count : ℕ) (orders : List Order) (fields : List (List ℕ))
    → IsWithin bound count (length orders) → is_past_by bound count orders fields ≡ false
    → IsWithin bound (count + 1) (length orders)
row_has_room bounds.Book count orders fields within past =
    (omega (arith, within.0), omega (arith, leb-false 4096 count past))
row_has_room bounds.Network count orders fields within past =
    (within.0, omega (arith, few_rows count orders fields past))

-- and so has its order, if it declares no cell
pub order_has_room : (bound : Bounds) (count : ℕ) (orders : List Order) (fields : List (List ℕ))
    → IsWithin bound count (length orders) → is_past_by bound count orders fields ≡ false
    → declares_cell fields ≡ false
    → IsWithin bound (count + 1) (length orders + 1) × (length orders ≤ 4095)
order_has_room bounds.Book count orders fields within past other =
    let fits = leb-false 4096 count past in
    ((omega (arith, within.0), omega (arith, fits)), omega (arith, within.0, fits))
order_has_room bounds.Network count orders fields within past other =
    let few = few_orders count orders fields other past in
    ((omega (arith, few), omega (arith, few_rows count orders fields past)), omega (arith, few))

-- so what a row means has room
pub judged_room : (before : Counted) (fields : List (List ℕ)) (meant : Row)
    → IsWithin before.bounds before.rows (length before.known.orders) → is_past before fields ≡ false
    → next_meant before fields ≡ Ok meant → HasRoom before meant
judged_room before fields (rows.Declare cell) within past is =
    let new = new_parts (most_cells before.bounds) before.known.cells cell
    (judged_new before.bounds (before.rows + 1) before.known.cells before.known.orders fields cell is) in (
      row_has_room before.bounds before.rows before.known.orders fields within past,
      few_cells before.bounds (length before.known.cells) new.0,
    )
judged_room before fields (rows.Give order) within past is = elim (cases_Bool (declares_cell fields)) [
  | inl cell ↦ absurd (cell_gives_none before.bounds (before.rows + 1) before.known.cells before.known.orders fields
      order cell is)
  | inr other ↦ order_has_room before.bounds before.rows before.known.orders fields within past other
]

-- and so has the name that a wrong one writes
pub name_has_room : (before : Counted) (fields : List (List ℕ)) (name : List ℕ)
    → IsWithin before.bounds before.rows (length before.known.orders) → is_past before fields ≡ false
    → Some name ≡ name_written before.known.orders fields
    → IsWithin before.bounds (before.rows + 1) (length before.known.orders + 1)
    × (length before.known.orders ≤ 4095)
name_has_room before fields name within past is = elim (cases_Bool (declares_cell fields)) [
  | inl cell ↦ absurd (no_name (is ∙ cell_is_nameless before.known.orders fields cell))
  | inr other ↦ order_has_room before.bounds before.rows before.known.orders fields within past other
]
  where
    no_name : Some name ≡ None → ⊥
    no_name same = cc

-- what a row comes to that isn't one too many, and whose columns are text
pub next_is : (before : Counted) (fields : List (List ℕ)) → is_past before fields ≡ false → are_texts fields ≡ true
    → next_meant before fields
    ≡ row_after_verb_by (verb_of (column fields 0)) (cell_row_within (most_cells before.bounds) before.known.cells
    fields)
    (before.rows + 1) (field_judged before.bounds before.known.cells) before.known.orders fields
next_is before fields past texts =
    rw (over_is_past before.bounds before.rows before.known.orders fields, past, texts) refl

-- a row that is right isn't one too many
pub right_room : (before : Counted) (fields : List (List ℕ)) (meant : Row) → next_meant before fields ≡ Ok meant
    → is_past before fields ≡ false
right_room before fields meant is = elim (cases_Bool (is_past before fields)) [
  | inl past ↦ absurd (cc (rw (over_is_past before.bounds before.rows before.known.orders fields ∙ past) at is))
  | inr room ↦ room
]
