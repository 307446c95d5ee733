-- Worked values: rows, and their faults.
use Rattle.std.proofs.Common.{◌≡◌, ◌∷◌, [], Some, None, Ok, Err, refl}
use Rattle.std.specs.Prelude.{codes}
use Rattle.hex.specs.Hex.{decode_pairs}
use Rattle.csv.specs.Records.{field_at}
use Rattle.cell_orders.specs.declared.row.CellOrder.TheVariants as rows
use Rattle.orders_file.specs.declared.fault.OrdersFileFaultKind.TheVariants as faults
use Rattle.orders_file.specs.Row.{order_of_fields, row_with, verb_of}

-- kill,4,4370,0010,ok,3
accepted : order_of_fields
    (codes "kill" ∷ codes "4" ∷ codes "4370" ∷ codes "0010" ∷ codes "ok" ∷ codes "3" ∷ [])
    ≡ Ok (row_with 4 (rows.Kill 4370 16 (Some (record { cause = None; done = Some 3 }))))
unfolding field_at verb_of decode_pairs
accepted = refl

-- kill,0004,1,aBcD,0c,: cause 12, and no number
refused : order_of_fields
    (codes "kill" ∷ codes "0004" ∷ codes "1" ∷ codes "aBcD" ∷ codes "0c" ∷ codes "" ∷ [])
    ≡ Ok (row_with 4 (rows.Kill 1 43981 (Some (record { cause = Some 12; done = None }))))
unfolding field_at verb_of decode_pairs
refused = refl

-- kill,4,1,0010,,: no answer
unanswered : order_of_fields (codes "kill" ∷ codes "4" ∷ codes "1" ∷ codes "0010" ∷ codes "" ∷ codes "" ∷ [])
    ≡ Ok (row_with 4 (rows.Kill 1 16 None))
unfolding field_at verb_of decode_pairs
unanswered = refl

-- clear,2147483647
cleared : order_of_fields (codes "clear" ∷ codes "2147483647" ∷ []) ≡ Ok (row_with 2147483647 rows.Clear)
unfolding field_at verb_of
cleared = refl

-- one slot later than the last
too_late : order_of_fields (codes "clear" ∷ codes "2147483648" ∷ []) ≡ Err faults.Number
unfolding field_at verb_of
too_late = refl

no_verb : order_of_fields (codes "Clear" ∷ codes "1" ∷ []) ≡ Err faults.Verb
unfolding field_at verb_of
no_verb = refl

more_columns : order_of_fields (codes "clear" ∷ codes "x" ∷ codes "" ∷ []) ≡ Err faults.Columns
unfolding field_at verb_of
more_columns = refl

-- three hexadecimal digits, and a wrong answer behind them
short_serial : order_of_fields (codes "kill" ∷ codes "4" ∷ codes "1" ∷ codes "010" ∷ codes "no" ∷ codes "" ∷ [])
    ≡ Err faults.Digits
unfolding field_at verb_of decode_pairs
short_serial = refl

-- a number of broadcasts, and no answer
counted : order_of_fields (codes "kill" ∷ codes "4" ∷ codes "1" ∷ codes "0010" ∷ codes "" ∷ codes "3" ∷ [])
    ≡ Err faults.Answer
unfolding field_at verb_of decode_pairs
counted = refl
