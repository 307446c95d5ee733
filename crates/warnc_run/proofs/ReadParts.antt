-- What came of the tapes of records, one after the other.
use Rattle.std.proofs.Common.{◌≡◌, ◌∙◌, ℕ, suc, ◌<◌, List, [], ◌∷◌, ◌++◌, length, map, All, Ok, Err, ap, ap₂}
use Rattle.std.proofs.Common.{append-nil, arith, refl, slice_index_or, sym}
use Rattle.std.specs.List.{flat_map}
use Rattle.std.proofs.lemmas.Grind.{flat_map-append}
use Rattle.std.proofs.lemmas.List.Elements.{All-head, All-tail}
use Rattle.bsc_table.specs.Record.{Record}
use Rattle.handset.specs.Tape.{TapeReading}
use Rattle.report.specs.declared.row.Row.{Row}
use Rattle.warnc_run.specs.Products.{own_rows, reading_of_record}
use Rattle.warnc_run.specs.ReadSteps.{AreAllReadings, AreRowsAt, AreAllRows, HasOwnTape, WasMade, IsReadingAt}
use Rattle.warnc_run.specs.ReadSteps.{ReadingMade, RowsMade, readings_in, rows_in}

-- where memory was refused for none, these are the rows of all records
own_of_each : (records : List Record) (all : List RowsMade) → length all ≡ length records
    → ((place : ℕ) (d : RowsMade) → place < length all → AreRowsAt records place (slice_index_or all place d))
    → All HasOwnTape records
    → All WasMade all
    → flat_map rows_in all ≡ own_rows records
own_of_each [] [] long each tapes made = refl
own_of_each [] (one ∷ all) long each tapes made = absurd (omega (arith, long))
own_of_each (r ∷ records) [] long each tapes made = absurd (omega (arith, long))
own_of_each (r ∷ records) (Err refused ∷ all) long each tapes made = absurd (All-head WasMade (Err refused) all made)
own_of_each (r ∷ records) (Ok rows ∷ all) long each tapes made =
    ap₂ (λ (own rest : List Row). own ++ rest)
    (each 0 (Ok rows) (omega arith) r (All-head HasOwnTape r records tapes) ∙ append-nil _)
    (own_of_each records all (omega (arith, long))
    (λ place d within. each (suc place) d (omega (arith, within)))
    (All-tail HasOwnTape r records tapes) (All-tail WasMade (Ok rows) all made))

-- so it is of all
pub rows_of_all : (records : List Record) (all : List RowsMade) → AreAllRows records all → All HasOwnTape records
    → All WasMade all
    → flat_map rows_in all ≡ own_rows records
rows_of_all records all are tapes made = own_of_each records all are.count are.each tapes made

-- and so the readings
read_of_each : (records : List Record) (all : List ReadingMade) → length all ≡ length records
    → ((place : ℕ) (d : ReadingMade) → place < length all → IsReadingAt records place (slice_index_or all place d))
    → All HasOwnTape records
    → All WasMade all
    → flat_map readings_in all ≡ map reading_of_record records
read_of_each [] [] long each tapes made = refl
read_of_each [] (one ∷ all) long each tapes made = absurd (omega (arith, long))
read_of_each (r ∷ records) [] long each tapes made = absurd (omega (arith, long))
read_of_each (r ∷ records) (Err refused ∷ all) long each tapes made = absurd (All-head WasMade (Err refused) all made)
read_of_each (r ∷ records) (Ok reading ∷ all) long each tapes made =
    ap₂ (λ (own : TapeReading) (rest : List TapeReading). own ∷ rest)
    (each 0 (Ok reading) (omega arith) r (All-head HasOwnTape r records tapes))
    (read_of_each records all (omega (arith, long))
    (λ place d within. each (suc place) d (omega (arith, within)))
    (All-tail HasOwnTape r records tapes) (All-tail WasMade (Ok reading) all made))

-- of all, too
pub readings_of_all : (records : List Record) (all : List ReadingMade) → AreAllReadings records all
    → All HasOwnTape records
    → All WasMade all
    → flat_map readings_in all ≡ map reading_of_record records
readings_of_all records all are tapes made = read_of_each records all are.count are.each tapes made

-- what is joined, with one more
pub rows_next : (all : List RowsMade) (made : RowsMade) (rows new own : List Row)
    → rows ≡ flat_map rows_in all → rows_in made ≡ own → new ≡ rows ++ own
    → new ≡ flat_map rows_in (all ++ made ∷ [])
rows_next all made rows new own before is more =
    more
    ∙ ap₂ (λ (front back : List Row). front ++ back) before (sym is)
    ∙ sym (flat_map-append rows_in all (made ∷ [])
    ∙ ap (λ (back : List Row). flat_map rows_in all ++ back) (append-nil (rows_in made)))

-- and so of readings
pub readings_next : (all : List ReadingMade) (made : ReadingMade) (readings new own : List TapeReading)
    → readings ≡ flat_map readings_in all → readings_in made ≡ own → new ≡ readings ++ own
    → new ≡ flat_map readings_in (all ++ made ∷ [])
readings_next all made readings new own before is more =
    more
    ∙ ap₂ (λ (front back : List TapeReading). front ++ back) before (sym is)
    ∙ sym (flat_map-append readings_in all (made ∷ [])
    ∙ ap (λ (back : List TapeReading). flat_map readings_in all ++ back) (append-nil (readings_in made)))
