-- One step of each walk: over the messages that are shown, over the slots, and over the entries from the last one on.
use Rattle.std.proofs.Common.{◌≡◌, ℕ, ◌+◌, ◌<◌, ◌≤◌, Bool, true, false, cond, Option, Some, None, List, [], ◌∷◌}
use Rattle.std.proofs.Common.{◌++◌}
use Rattle.std.proofs.Common.{length, map, take, drop, drop-cons, get_or, set, eqb, count_by, suc, refl, sym, ◌∙◌}
use Rattle.std.proofs.Common.{ap, inl, inr, arith, append_assoc, append-nil, eq-eqb, eqb-true}
use Rattle.std.specs.Prelude.{◌&&◌, ◌||◌, not, if◌then◌else◌}
use Rattle.std.specs.List.{flat_map, list_any, range_with_len}
use Rattle.std.specs.Option.{option_map_or}
use Rattle.std.proofs.lemmas.Bool.{cases_eq}
use Rattle.std.proofs.lemmas.List.{map_more, take_more, length-map, length-take-le, get_or-map, get_or-set_other}
use Rattle.std.proofs.lemmas.List.{get_or-set_same, map-append}
use Rattle.std.proofs.lemmas.List.Folds.{list_any-append}
use Rattle.std.proofs.lemmas.List.Sums.{count_by_more_no, count_by_more_yes}
use Rattle.std.proofs.lemmas.Option.{slice_get_read}
use Rattle.cbsp_wire.specs.declared.message.Cell.{Cell}
use Rattle.scheduler.specs.Pages.{airs_page, times_aired}
use Rattle.bsc_table.specs.declared.entry.Aired.{Aired}
use Rattle.bsc_table.specs.declared.entry.Entry.{Entry}
use Rattle.bsc_table.specs.Book.{aired_pair, air_pairs}
use Rattle.bsc_table.specs.Record.{Record}
use Rattle.handset.specs.declared.messages.Shown.{Shown}
use Rattle.handset.specs.declared.tape.Reading.{Reading}
use Rattle.handset.specs.Keeping.{message_shown, messages_shown}
use Rattle.handset.specs.Reception.{ShownMessage}
use Rattle.handset.specs.Tape.{TapeReading, reading_of, readings_of}
use Rattle.report.specs.declared.row.Row.{Row}
use Rattle.report.specs.Rows.{AreOfOneCells, cell_rows, is_shown, report_rows}
use Rattle.report.specs.LastPages.{first_airing}
use Rattle.report.specs.RowSteps.{Pair, has_name, is_pair, stop_at, stop_of_command}
use Rattle.report.proofs.ListLaws.{flat_map-place}

-- a set with one more pair, and the messages with one more
either : (here there : Bool) → cond here true there ≡ (there || (here || false))
either true true = refl
either true false = refl
either false true = refl
either false false = refl

-- one name more is shown exactly if one message more is
pub name-more : (names new : List Pair) (shown : List Shown) (i : ℕ) (m : Shown) (id serial : ℕ) → i < length shown →
    m ≡ get_or shown i m →
    has_name new id serial ≡ cond (is_pair (m.id, m.serial) (id, serial)) true (has_name names id serial) →
    has_name names id serial ≡ is_shown (messages_shown (take i shown)) id serial →
    has_name new id serial ≡ is_shown (messages_shown (take (i + 1) shown)) id serial
name-more names new shown i m id serial within item updated before =
    let test : ShownMessage → Bool = λ x. is_pair (x.id, x.serial) (id, serial) in
    let one_more : messages_shown (take (i + 1) shown) ≡ messages_shown (take i shown) ++ message_shown m ∷ [] =
    map_more message_shown shown i m within
    ∙ ap (λ x. messages_shown (take i shown) ++ message_shown x ∷ []) (sym item) in
    updated ∙ ap (λ there. cond (is_pair (m.id, m.serial) (id, serial)) true there) before
    ∙ either (is_pair (m.id, m.serial) (id, serial)) (is_shown (messages_shown (take i shown)) id serial)
    ∙ sym (list_any-append test (messages_shown (take i shown)) (message_shown m ∷ []))
    ∙ ap (list_any test) (sym one_more)

-- one more slot
pub counted : (test : Option (ℕ × ℕ) → Bool) (air : List (Option (ℕ × ℕ))) (i : ℕ) → i < length air →
    (says : Bool) → test (get_or air i None) ≡ says →
    count_by test (take (i + 1) air) ≡ count_by test (take i air) + (if says then 1 else 0)
counted test air i within true is = count_by_more_yes test air i None within is
counted test air i within false is = count_by_more_no test air i None within is ∙ omega arith

-- one slot more airs a page once more, or doesn't
pub times-more : (air : List (Option Aired)) (i place pages : ℕ) (used : Option Aired) → i < length air →
    get_or air i None ≡ used → times_aired place pages (air_pairs air) (i + 1)
    ≡ times_aired place pages (air_pairs air) i + (if airs_page place pages (aired_pair used) then 1 else 0)
times-more air i place pages used within is =
    let within_pairs : i < length (air_pairs air) = omega (arith, length-map air aired_pair) in
    counted (airs_page place pages) (air_pairs air) i within_pairs (airs_page place pages (aired_pair used))
    (ap (airs_page place pages) (get_or-map aired_pair air i None None within ∙ ap aired_pair is))

-- the first slot that airs a page, with one slot more in front
pub first-more : (air : List (Option Aired)) (slot next entry page : ℕ) (used : Option Aired) → slot + 1 ≡ next →
    slot < length air → get_or air slot None ≡ used → first_airing entry page (drop slot (air_pairs air)) slot
    ≡ (if airs_page entry page (aired_pair used) then Some slot
    else first_airing entry page (drop next (air_pairs air)) next)
first-more air slot next entry page used after within is =
    let within_pairs : slot < length (air_pairs air) = omega (arith, length-map air aired_pair) in
    let more : suc slot ≡ next = omega (arith, after) in
    let here : get_or (air_pairs air) slot (aired_pair used) ≡ aired_pair used =
    get_or-map aired_pair air slot None (aired_pair used) within ∙ ap aired_pair is in
    ap (λ (uses : List (Option (ℕ × ℕ))). first_airing entry page uses slot)
    (drop-cons (air_pairs air) slot (aired_pair used) within_pairs)
    ∙ ap (λ (x : Option (ℕ × ℕ)). first_airing entry page (x ∷ drop (suc slot) (air_pairs air)) slot) here
    ∙ ap (λ (n : ℕ). if airs_page entry page (aired_pair used) then Some slot
    else first_airing entry page (drop (suc slot) (air_pairs air)) n) after
    ∙ ap (λ (n : ℕ). if airs_page entry page (aired_pair used) then Some slot
    else first_airing entry page (drop n (air_pairs air)) next) more

-- the entries from a place on are the one there and those after it
pub dropped : (log : List Entry) (n place : ℕ) (e : Entry) → n + 1 ≡ place → n < length log → e ≡ get_or log n e →
    drop n log ≡ e ∷ drop place log
dropped log n place e next within is =
    let more : suc n ≡ place = omega (arith, next) in
    drop-cons log n e within ∙ ap (λ x. x ∷ drop (suc n) log) (sym is) ∙ ap (λ at. e ∷ drop at log) more

-- the stop at a place is that of the entry there, by the entries after it
stop-here : (log : List Entry) (n place : ℕ) (e : Entry) → n + 1 ≡ place → n < length log → e ≡ get_or log n e →
    stop_at log n ≡ stop_of_command (drop place log) e.command
stop-here log n place e next within is =
    ap (λ found. option_map_or (λ (x : Entry). stop_of_command (drop (n + 1) log) x.command) found None)
    (slice_get_read log (length log) n e refl within is)
    ∙ ap (λ at. stop_of_command (drop at log) e.command) next

-- the stop of each entry is that of the first later command that stops it
pub stops-each : (log : List Entry) (stops : List (Option ℕ)) (n place : ℕ) (e : Entry) (stop : Option ℕ) →
    n + 1 ≡ place → place ≤ length log → length stops ≡ length log → e ≡ get_or log n e →
    stop ≡ stop_of_command (drop place log) e.command →
    ((k : ℕ) → place ≤ k → k < length log → get_or stops k None ≡ stop_at log k) →
    (k : ℕ) → n ≤ k → k < length log → get_or (set stops n stop) k None ≡ stop_at log k
stops-each log stops n place e stop next within places item is each k above below = elim (cases_eq k n) [
  | inl same ↦
      let below_stops : n < length stops = omega arith in
      let below_log : n < length log = omega arith in
      rw same (get_or-set_same stops n stop None below_stops ∙ is ∙ sym (stop-here log n place e next below_log item))
  | inr other ↦ let later : place ≤ k = omega arith in get_or-set_other stops n k stop None other ∙ each k later below
]

-- the rows of one more place
pub rows-next : (front rows new more : List Row) (f : ℕ → List Row) (place : ℕ) →
    rows ≡ front ++ flat_map f (range_with_len 0 place) → f place ≡ more → new ≡ rows ++ more →
    new ≡ front ++ flat_map f (range_with_len 0 (place + 1))
rows-next front rows new more f place before here is =
    is ∙ ap (λ (xs : List Row). xs ++ more) before
    ∙ ap (λ (xs : List Row). (front ++ flat_map f (range_with_len 0 place)) ++ xs) (sym here)
    ∙ flat_map-place f place front

-- the rows of one more cell
rows_of-more : (records : List Record) (readings : List TapeReading) (r : Record) (reading : TapeReading) →
    length records ≡ length readings →
    report_rows (records ++ r ∷ []) (readings ++ reading ∷ []) ≡ report_rows records readings ++ cell_rows r
    reading.shown
rows_of-more [] [] r reading same = append-nil (cell_rows r reading.shown)
rows_of-more [] (x ∷ readings) r reading same = absurd (let no : ⊥ = omega (arith, same) in no)
rows_of-more (x ∷ records) [] r reading same = absurd (let no : ⊥ = omega (arith, same) in no)
rows_of-more (x ∷ records) (y ∷ readings) r reading same =
    let shorter : length records ≡ length readings = omega (arith, same) in
    ap (λ rows. cell_rows x y.shown ++ rows) (rows_of-more records readings r reading shorter)
    ∙ sym (append_assoc (cell_rows x y.shown) (report_rows records readings) (cell_rows r reading.shown))

-- the rows of one cell more come after those of the cells before it
pub cells-more : (records : List Record) (readings : List Reading) (i : ℕ) (r : Record) (reading : Reading) →
    length records ≡ length readings → i < length records → r ≡ get_or records i r →
    reading ≡ get_or readings i reading →
    report_rows (take i records) (readings_of (take i readings)) ++ cell_rows r (messages_shown reading.shown.items)
    ≡ report_rows (take (i + 1) records) (readings_of (take (i + 1) readings))
cells-more records readings i r reading same within is reads =
    let within_readings : i < length readings = omega (arith, same) in
    let front : length (take i records) ≡ i = length-take-le i records (omega arith) in
    let other_front : length (take i readings) ≡ i = length-take-le i readings (omega arith) in
    let long : length (take i records) ≡ length (readings_of (take i readings)) =
    omega (arith, length-map (take i readings) reading_of) in
    let one : take (i + 1) records ≡ take i records ++ r ∷ [] =
    take_more records i r within ∙ ap (λ x. take i records ++ x ∷ []) (sym is) in
    let other : readings_of (take (i + 1) readings) ≡ readings_of (take i readings) ++ reading_of reading ∷ [] =
    map_more reading_of readings i reading within_readings
    ∙ ap (λ x. readings_of (take i readings) ++ reading_of x ∷ []) (sym reads) in
    sym (ap (λ xs. report_rows xs (readings_of (take (i + 1) readings))) one
    ∙ ap (λ xs. report_rows (take i records ++ r ∷ []) xs) other
    ∙ rows_of-more (take i records) (readings_of (take i readings)) r (reading_of reading) long)

-- cells that are compared as different aren't equal
different : (a b : Cell) → true ≡ not (eqb a.lac b.lac && eqb a.ci b.ci) → a ≡ b → ⊥
different a b ne same =
    let lac : eqb a.lac b.lac ≡ true = eq-eqb a.lac b.lac (ap (λ (x : Cell). x.lac) same) in
    let ci : eqb a.ci b.ci ≡ true = eq-eqb a.ci b.ci (ap (λ (x : Cell). x.ci) same) in
    let no : true ≡ false = ne ∙ ap (λ (x : Bool). not (x && eqb a.ci b.ci)) lac ∙ ap not ci in
    cc

-- and cells that are compared as equal are
pub equal_cells : (a b : Cell) → false ≡ not (eqb a.lac b.lac && eqb a.ci b.ci) → a ≡ b
equal_cells a b same = by_test (eqb a.lac b.lac) (eqb a.ci b.ci) refl refl same
  where
    by_test : (x y : Bool) → eqb a.lac b.lac ≡ x → eqb a.ci b.ci ≡ y → false ≡ not (x && y) → a ≡ b
    by_test true true lac ci h =
        ap (λ (n : ℕ). record { lac = n; ci = a.ci }) (eqb-true a.lac b.lac lac)
        ∙ ap (λ (n : ℕ). record { lac = b.lac; ci = n }) (eqb-true a.ci b.ci ci)
    by_test true false lac ci h = cc
    by_test false y lac ci h = cc

-- so lists of cells that differ at a place aren't equal
pub cells-differ : (records : List Record) (readings : List Reading) (i : ℕ) (r : Record) (reading : Reading) →
    i < length records → i < length readings → r ≡ get_or records i r → reading ≡ get_or readings i reading →
    true ≡ not (eqb r.cell.lac reading.cell.lac && eqb r.cell.ci reading.cell.ci) →
    AreOfOneCells records (readings_of readings) → ⊥
cells-differ records readings i r reading within reads is read ne same =
    let of_record : get_or (map (λ (x : Record). x.cell) records) i r.cell ≡ r.cell =
    get_or-map (λ (x : Record). x.cell) records i r r.cell within ∙ ap (λ (x : Record). x.cell) (sym is) in
    let within_readings : i < length (readings_of readings) = omega (arith, length-map readings reading_of) in
    let of_reading : get_or (map (λ (x : TapeReading). x.cell) (readings_of readings)) i r.cell ≡ reading.cell =
    get_or-map (λ (x : TapeReading). x.cell) (readings_of readings) i (reading_of reading) r.cell within_readings
    ∙ ap (λ (x : TapeReading). x.cell) (get_or-map reading_of readings i reading (reading_of reading) reads)
    ∙ ap (λ (x : Reading). x.cell) (sym read) in
    different r.cell reading.cell ne
    (sym of_record ∙ ap (λ (cells : List Cell). get_or cells i r.cell) same ∙ of_reading)

-- and one more pair of equal cells
pub cells-agree : (records : List Record) (readings : List Reading) (i : ℕ) (r : Record) (reading : Reading) →
    i < length records → i < length readings → r ≡ get_or records i r → reading ≡ get_or readings i reading →
    r.cell ≡ reading.cell → AreOfOneCells (take i records) (readings_of (take i readings)) →
    AreOfOneCells (take (i + 1) records) (readings_of (take (i + 1) readings))
cells-agree records readings i r reading within reads is read one same =
    let record_cell : Record → Cell = λ x. x.cell in
    let reading_cell : TapeReading → Cell = λ x. x.cell in
    map_more record_cell records i r within
    ∙ ap (λ (x : Record). map record_cell (take i records) ++ x.cell ∷ []) (sym is)
    ∙ ap (λ (cells : List Cell). cells ++ r.cell ∷ []) same
    ∙ ap (λ (x : Cell). map reading_cell (readings_of (take i readings)) ++ x ∷ []) one
    ∙ ap (λ (x : Reading). map reading_cell (readings_of (take i readings)) ++ x.cell ∷ []) read
    ∙ sym (map-append reading_cell (readings_of (take i readings)) (reading_of (get_or readings i reading) ∷ []))
    ∙ ap (map reading_cell) (sym (map_more reading_of readings i reading reads))
