-- The fields of a row that may be empty or have a form of their own. Own.
use Rattle.std.specs.Prelude.{ℕ, ◌==◌, Bool, if◌then◌else◌, Option, Some, None, List, length, codes, Result, Ok, Err}
use Rattle.std.specs.Option.{ok_or}
use Rattle.std.specs.Str.{bytes_eq}
use Rattle.cbs_page.specs.declared.coding.Dcs.{Dcs}
use Rattle.cell_orders.specs.declared.row.CellAnswer.{CellAnswer}
use Rattle.orders_file.specs.declared.fault.OrdersFileFaultKind.{OrdersFileFaultKind}
use Rattle.orders_file.specs.declared.fault.OrdersFileFaultKind.TheVariants as faults
use Rattle.orders_file.specs.Columns.{if_right}
use Rattle.orders_file.specs.Number.{number, octet_of, serial}

abbrev pub is_empty : List ℕ → Bool
is_empty field = length field == 0

-- a value that was read, where a field may be empty
abbrev pub some_right : {A : Type 0} → Result A OrdersFileFaultKind → Result (Option A) OrdersFileFaultKind
some_right read = if_right read (λ value. Ok (Some value))

abbrev pub old_serial : List ℕ → Result (Option ℕ) OrdersFileFaultKind
old_serial field = if is_empty field then Ok None else some_right (serial field)

abbrev pub coding_with : ℕ → Dcs
coding_with octet = record { 0 = octet }

abbrev pub coding : List ℕ → Result Dcs OrdersFileFaultKind
coding field = if_right (ok_or (octet_of field) faults.Digits) (λ octet. Ok (coding_with octet))

-- why the cell refused, of an answer; nothing if it took the order
abbrev pub cause : List ℕ → Result (Option ℕ) OrdersFileFaultKind
cause field =
    if bytes_eq field (codes "ok") then Ok None
    else some_right (ok_or (octet_of field) faults.Answer)

-- how many broadcasts an answer says, if it does
abbrev pub done : List ℕ → Result (Option ℕ) OrdersFileFaultKind
done field = if is_empty field then Ok None else some_right (number 65535 field)

abbrev pub answer_with : (cause done : Option ℕ) → CellAnswer
answer_with cause done = record { cause = cause; done = done }

-- an answer that came, by ANSWER and DONE
abbrev pub some_answer : (answer done : List ℕ) → Result (Option CellAnswer) OrdersFileFaultKind
some_answer answer number =
    if_right (cause answer) (λ cause.
    if_right (done number) (λ done.
    Ok (Some (answer_with cause done))))

-- none came, so no number of broadcasts may stand there
abbrev pub no_answer : (done : List ℕ) → Result (Option CellAnswer) OrdersFileFaultKind
no_answer number = if is_empty number then Ok None else Err faults.Answer

abbrev pub answer_of : (answer done : List ℕ) → Result (Option CellAnswer) OrdersFileFaultKind
answer_of answer number = if is_empty answer then no_answer number else some_answer answer number
