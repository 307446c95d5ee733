-- What is kept of tapes, after none and after one more.
use Rattle.std.proofs.Common.{◌≡◌, ℕ, suc, ◌+◌, ◌<◌, ◌≤◌, Bool, true, false, cond, Option, Some, None, List, [], ◌∷◌}
use Rattle.std.proofs.Common.{◌++◌, length, map, find, get_or, min, set, take, refl, sym, ◌∙◌, ap, subst, arith, All}
use Rattle.std.proofs.Common.{append-nil, append_assoc}
use Rattle.std.specs.Prelude.{◌&&◌, ◌||◌, ◌==◌, MatchBool, if◌then◌else◌}
use Rattle.std.specs.List.{AllByRecursion, AllZip, flat_map, list_any}
use Rattle.std.specs.Cmp.{nat_eq_equiv}
use Rattle.std.proofs.lemmas.List.{length-append, map-append, take_more}
use Rattle.std.proofs.lemmas.List.Concat.{flat_map-cons}
use Rattle.std.proofs.lemmas.List.Elements.{All-nil, All-cons, All-from_recursion, recursion_from_All}
use Rattle.std.proofs.lemmas.Slice.Zip.{all_zipped_more}
use Rattle.cbsp_wire.specs.declared.message.Cell.{Cell}
use Rattle.cbsp_wire.specs.Range.{is_cell}
use Rattle.cbsp_wire.proofs.CellLists.{same_cell}
use Rattle.bsc_table.specs.Record.{Record}
use Rattle.verification.specs.declared.detail.Detail.{Detail}
use Rattle.verification.specs.declared.detail.Detail.TheVariants as detail
use Rattle.verification.specs.declared.detail.TableLayout.{TableLayout}
use Rattle.verification.specs.declared.difference.Difference.{Difference}
use Rattle.verification.specs.declared.judgement.CellFinding.{CellFinding}
use Rattle.verification.specs.declared.judgement.CellFinding.TheVariants as found
use Rattle.verification.specs.declared.judgement.CellState.{CellState}
use Rattle.verification.specs.declared.row.Finding.TheVariants as findings
use Rattle.verification.specs.declared.row.Row.{Row}
use Rattle.verification.specs.Found.{FindingsState, HasTaken, IsFound, IsFoundBy, IsFoundIn, lines_with, unjudged}
use Rattle.verification.specs.FoundSteps.{explained_found, lines_of_found, lines_of_state, put_each, put_found}
use Rattle.verification.specs.FoundSteps.{rows_of_finding, rows_of_found, rows_of_state, text_of_detail}
use Rattle.verification.specs.FoundSteps.{text_of_found, text_of_layout}
use Rattle.verification.specs.Judgement.{AreFoundOf, IsFoundOf}
use Rattle.verification.specs.Table.{AreLinesOfCells, IsExplained, IsTable, IsTextWith, difference_lines}
use Rattle.verification.specs.Table.{explained_header, finding_line, finds_untimely, lines_in_front, lines_of_cell}
use Rattle.verification.specs.Table.{lines_of_finding, other_line, shift_lines}
use Rattle.verification.specs.Shift.{is_untimely}
use Rattle.slot_times.specs.declared.start.Start.{Start}
use Rattle.handset.specs.Recording.{TapeRecording}
use Rattle.verification.specs.Rows.{AreJudged, AreRows, AreRowsBy, AreRowsOfCells, AreTapeRows}
use Rattle.verification.specs.Rows.{difference_row, is_known, is_tape_of, other_row, other_rows, finding_row}

-- no tapes
runs-of : (records : List Record) → map (λ (c : CellState). c.run) (map unjudged records) ≡ records
runs-of [] = refl
runs-of (r ∷ records) = ap (λ rs. r ∷ rs) (runs-of records)

none-found : (layout : TableLayout) (records : List Record) → All (IsFound layout []) (map unjudged records)
none-found layout [] = All-nil (IsFound layout [])
none-found layout (r ∷ records) = All-cons (IsFound layout []) (unjudged r) (map unjudged records) refl
    (none-found layout records)

-- before any tape nothing is found
pub taken-none : (layout : TableLayout) (records : List Record) (f : FindingsState) → f.layout ≡ layout
    → f.cells ≡ map unjudged records → f.seen ≡ [] →
    f.others ≡ [] → HasTaken layout records f []
taken-none layout records f layout_is cells seen others = record {
  layout_is = layout_is;
  cells = ap (map (λ (c : CellState). c.run)) cells ∙ runs-of records;
  found = subst (All (IsFound layout [])) (sym cells) (none-found layout records);
  seen = seen;
  others = others;
}

-- the first that passes a test, with one more at the end
same-here : {X : Type 0} (test : Bool) (y : X) (one two : Option X) → one ≡ two →
    cond test (Some y) one ≡ cond test (Some y) two
same-here true y one two same = refl
same-here false y one two same = same

find-same : {X : Type 0} (test : X → Bool) (xs : List X) (x : X) → test x ≡ false →
    find test (xs ++ x ∷ []) ≡ find test xs
find-same test [] x fails = ap (λ here. cond here (Some x) None) fails
find-same test (y ∷ xs) x fails =
    same-here (test y) y (find test (xs ++ x ∷ [])) (find test xs) (find-same test xs x fails)

kept-here : {X : Type 0} (here there : Bool) (y : X) (one two : Option X) → (here || there) ≡ true →
    (there ≡ true → one ≡ two) → cond here (Some y) one ≡ cond here (Some y) two
kept-here true there y one two some later = refl
kept-here false there y one two some later = later some

find-kept : {X : Type 0} (test : X → Bool) (xs : List X) (x : X) → list_any test xs ≡ true →
    find test (xs ++ x ∷ []) ≡ find test xs
find-kept test [] x some = cc
find-kept test (y ∷ xs) x some =
    kept-here (test y) (list_any test xs) y (find test (xs ++ x ∷ [])) (find test xs) some (find-kept test xs x)

new-here : {X : Type 0} (here there : Bool) (y x : X) (one : Option X) → (here || there) ≡ false →
    (there ≡ false → one ≡ Some x) → cond here (Some y) one ≡ Some x
new-here true there y x one none later = cc
new-here false there y x one none later = later none

find-new : {X : Type 0} (test : X → Bool) (xs : List X) (x : X) → list_any test xs ≡ false → test x ≡ true →
    find test (xs ++ x ∷ []) ≡ Some x
find-new test [] x none passes = ap (λ here. cond here (Some x) None) passes
find-new test (y ∷ xs) x none passes =
    new-here (test y) (list_any test xs) y x (find test (xs ++ x ∷ [])) none
    (λ rest. find-new test xs x rest passes)

-- cells are compared either way
pub cell-symm : (a b : Cell) → is_cell a b ≡ is_cell b a
cell-symm a b =
    ap (λ (x : Bool). x && (a.ci == b.ci)) (nat_eq_equiv.symm a.lac b.lac)
    ∙ ap (λ (x : Bool). (b.lac == a.lac) && x) (nat_eq_equiv.symm a.ci b.ci)

-- a cell of which the tape isn't
stays : (layout : TableLayout) (tapes : List TapeRecording) (tape : TapeRecording) (c : CellState)
    → is_cell c.run.cell tape.cell ≡ false →
    IsFound layout tapes c → IsFound layout (tapes ++ tape ∷ []) c
stays layout tapes tape c other is =
    subst (λ o. IsFoundBy layout c.run o c.finding) (sym (find-same (is_tape_of c.run.cell) tapes tape other)) is

-- a cell that had a tape, if this tape is of it
stays-seen : (layout : TableLayout) (tapes : List TapeRecording) (tape : TapeRecording) (c : CellState)
    → list_any (is_tape_of tape.cell) tapes ≡ true →
    IsFound layout tapes c → IsFound layout (tapes ++ tape ∷ []) c
stays-seen layout tapes tape c seen is = by_test (is_cell c.run.cell tape.cell) refl
  where
    by_test : (here : Bool) → is_cell c.run.cell tape.cell ≡ here → IsFound layout (tapes ++ tape ∷ []) c
    by_test true same =
        let had : list_any (is_tape_of c.run.cell) tapes ≡ true =
        ap (λ cell. list_any (is_tape_of cell) tapes) (same_cell c.run.cell tape.cell same) ∙ seen in
        subst (λ o. IsFoundBy layout c.run o c.finding) (sym (find-kept (is_tape_of c.run.cell) tapes tape had)) is
    by_test false other = stays layout tapes tape c other is

-- a cell, if none of the tapes before this one is of its cell
one-put : (layout : TableLayout) (tapes : List TapeRecording) (tape : TapeRecording) (c : CellState)
    (f : Option CellFinding) →
    list_any (is_tape_of tape.cell) tapes ≡ false → IsFoundOf layout tape c.run f → IsFound layout tapes c →
    IsFound layout (tapes ++ tape ∷ []) (put_found c f)
one-put layout tapes tape c None unseen found is = stays layout tapes tape c found is
one-put layout tapes tape c (Some finding) unseen found is =
    let none : list_any (is_tape_of c.run.cell) tapes ≡ false =
    ap (λ cell. list_any (is_tape_of cell) tapes) (same_cell c.run.cell tape.cell found.0) ∙ unseen in
    subst (λ o. IsFoundBy layout c.run o finding) (sym (find-new (is_tape_of c.run.cell) tapes tape none found.0))
    found.1

each-put : (layout : TableLayout) (tapes : List TapeRecording) (tape : TapeRecording) (cells : List CellState)
    (found : List (Option CellFinding)) →
    list_any (is_tape_of tape.cell) tapes ≡ false →
    AllZip (IsFoundOf layout tape) (map (λ (c : CellState). c.run) cells) found →
    AllByRecursion (IsFound layout tapes) cells →
    AllByRecursion (IsFound layout (tapes ++ tape ∷ [])) (put_each cells found)
each-put layout tapes tape [] found unseen are is = tt
each-put layout tapes tape (c ∷ cells) [] unseen are is = absurd are
each-put layout tapes tape (c ∷ cells) (f ∷ found) unseen are is = (
  one-put layout tapes tape c f unseen are.0 is.0,
  each-put layout tapes tape cells found unseen are.1 is.1,
)

-- the rows of one more tape that isn't judged
others-more : (records : List Record) (before tapes : List TapeRecording) (tape : TapeRecording) →
    other_rows records before (tapes ++ tape ∷ [])
    ≡ other_rows records before tapes ++ other_row records (before ++ tapes) tape
others-more records before [] tape =
    append-nil (other_row records before tape)
    ∙ ap (λ bs. other_row records bs tape) (sym (append-nil before))
others-more records before (t ∷ tapes) tape =
    ap (λ rows. other_row records before t ++ rows) (others-more records (before ++ t ∷ []) tapes tape)
    ∙ ap (λ bs. other_row records before t
    ++ (other_rows records (before ++ t ∷ []) tapes ++ other_row records bs tape)) (append_assoc before (t ∷ []) tapes)
    ∙ sym (append_assoc (other_row records before t) (other_rows records (before ++ t ∷ []) tapes)
    (other_row records (before ++ t ∷ tapes) tape))

-- which row a tape has
row-by : (records : List Record) (before : List TapeRecording) (tape : TapeRecording) (known second : Bool) →
    is_known records tape.cell ≡ known → list_any (is_tape_of tape.cell) before ≡ second →
    other_row records before tape
    ≡ (if known then (if second then finding_row tape.cell findings.SecondTape ∷ [] else [])
    else finding_row tape.cell findings.UnknownCell ∷ [])
row-by records before tape known second is_known_is is_second_is =
    ap (λ (x : Bool). if x
    then (if list_any (is_tape_of tape.cell) before then finding_row tape.cell findings.SecondTape ∷ [] else [])
    else finding_row tape.cell findings.UnknownCell ∷ []) is_known_is
    ∙ ap (λ (x : Bool). if known then (if x then finding_row tape.cell findings.SecondTape ∷ [] else [])
    else finding_row tape.cell findings.UnknownCell ∷ []) is_second_is

-- the cells of the tapes
seen-more : (f : FindingsState) (tapes : List TapeRecording) (tape : TapeRecording) (seen : List Cell) →
    f.seen ≡ map (λ (t : TapeRecording). t.cell) tapes → seen ≡ f.seen ++ tape.cell ∷ [] →
    seen ≡ map (λ (t : TapeRecording). t.cell) (tapes ++ tape ∷ [])
seen-more f tapes tape seen are more =
    more ∙ ap (λ cells. cells ++ tape.cell ∷ []) are ∙ sym (map-append (λ (t : TapeRecording). t.cell) tapes
    (tape ∷ []))

seen-any : (cell : Cell) (tapes : List TapeRecording) →
    list_any (is_cell cell) (map (λ (t : TapeRecording). t.cell) tapes) ≡ list_any (is_tape_of cell) tapes
seen-any cell [] = refl
seen-any cell (t ∷ tapes) = ap (λ (x : Bool). is_cell cell t.cell || x) (seen-any cell tapes)

-- a tape of no cell of the run
apart-here : (here there : Bool) → (here || there) ≡ false → (here ≡ false) × (there ≡ false)
apart-here true there none = cc
apart-here false there none = (refl, none)

apart : (cells : List CellState) (cell : Cell) → is_known (map (λ (c : CellState). c.run) cells) cell ≡ false →
    All (λ (c : CellState). is_cell c.run.cell cell ≡ false) cells
apart [] cell none = All-nil (λ (c : CellState). is_cell c.run.cell cell ≡ false)
apart (c ∷ cells) cell none =
    let both = apart-here (is_cell cell c.run.cell) (is_known (map (λ (c : CellState). c.run) cells) cell) none in
    All-cons (λ (c : CellState). is_cell c.run.cell cell ≡ false) c cells (cell-symm c.run.cell cell ∙ both.0)
    (apart cells cell both.1)

known-of : (records : List Record) (f : FindingsState) (cell : Cell) (known : Bool) →
    map (λ (c : CellState). c.run) f.cells ≡ records → is_known (map (λ (c : CellState). c.run) f.cells) cell ≡ known →
    is_known records cell ≡ known
known-of records f cell known cells is = ap (λ rs. is_known rs cell) (sym cells) ∙ is

-- a tape of a cell that isn't of the run gives a row
pub taken-unknown : (layout : TableLayout) (records : List Record) (old new : FindingsState)
    (tapes : List TapeRecording)
    (tape : TapeRecording) →
    new.layout ≡ old.layout → HasTaken layout records old tapes → is_known (map (λ (c : CellState). c.run) old.cells)
    tape.cell ≡ false →
    new.cells ≡ old.cells → new.seen ≡ old.seen ++ tape.cell ∷ [] →
    new.others ≡ old.others ++ finding_row tape.cell findings.UnknownCell ∷ []
    → HasTaken layout records new (tapes ++ tape ∷ [])
taken-unknown layout records old new tapes tape layout_is taken unknown cells seen others = record {
  layout_is = layout_is ∙ taken.layout_is;
  cells = ap (map (λ (c : CellState). c.run)) cells ∙ taken.cells;
  found = subst (All (IsFound layout (tapes ++ tape ∷ []))) (sym cells)
      (λ k d within. stays layout tapes tape (get_or old.cells k d) (apart old.cells tape.cell unknown k d within)
      (taken.found k d within));
  seen = seen-more old tapes tape new.seen taken.seen seen;
  others = others ∙ ap (λ rows. rows ++ finding_row tape.cell findings.UnknownCell ∷ []) taken.others
      ∙ ap (λ rows. other_rows records [] tapes ++ rows)
      (sym (row-by records tapes tape false (list_any (is_tape_of tape.cell) tapes)
      (known-of records old tape.cell false taken.cells unknown) refl))
      ∙ sym (others-more records [] tapes tape);
}

-- so does the second tape of a cell
pub taken-second : (layout : TableLayout) (records : List Record) (old new : FindingsState) (tapes : List TapeRecording)
    (tape : TapeRecording) →
    new.layout ≡ old.layout → HasTaken layout records old tapes → is_known (map (λ (c : CellState). c.run) old.cells)
    tape.cell ≡ true →
    list_any (is_cell tape.cell) old.seen ≡ true →
    new.cells ≡ old.cells → new.seen ≡ old.seen ++ tape.cell ∷ [] →
    new.others ≡ old.others ++ finding_row tape.cell findings.SecondTape ∷ []
    → HasTaken layout records new (tapes ++ tape ∷ [])
taken-second layout records old new tapes tape layout_is taken known second cells seen others =
    let had : list_any (is_tape_of tape.cell) tapes ≡ true =
    sym (seen-any tape.cell tapes) ∙ ap (list_any (is_cell tape.cell)) (sym taken.seen) ∙ second in
    record {
      layout_is = layout_is ∙ taken.layout_is;
      cells = ap (map (λ (c : CellState). c.run)) cells ∙ taken.cells;
      found = subst (All (IsFound layout (tapes ++ tape ∷ []))) (sym cells)
          (λ k d within. stays-seen layout tapes tape (get_or old.cells k d) had (taken.found k d within));
      seen = seen-more old tapes tape new.seen taken.seen seen;
      others = others ∙ ap (λ rows. rows ++ finding_row tape.cell findings.SecondTape ∷ []) taken.others
          ∙ ap (λ rows. other_rows records [] tapes ++ rows)
          (sym (row-by records tapes tape true true (known-of records old tape.cell true taken.cells known) had))
          ∙ sym (others-more records [] tapes tape);
    }

-- a cell keeps its run
run-put : (c : CellState) (f : Option CellFinding) → (put_found c f).run ≡ c.run
run-put c None = refl
run-put c (Some finding) = refl

runs-put : (cells : List CellState) (found : List (Option CellFinding)) →
    map (λ (c : CellState). c.run) (put_each cells found) ≡ map (λ (c : CellState). c.run) cells
runs-put [] found = refl
runs-put (c ∷ cells) [] = refl
runs-put (c ∷ cells) (f ∷ found) =
    ap (λ r. r ∷ map (λ (s : CellState). s.run) (put_each cells found)) (run-put c f)
    ∙ ap (λ rs. c.run ∷ rs) (runs-put cells found)

-- the first tape of a cell is judged
pub taken-first : (layout : TableLayout) (records : List Record) (old new : FindingsState) (tapes : List TapeRecording)
    (tape : TapeRecording) (found : List (Option CellFinding)) →
    new.layout ≡ old.layout → HasTaken layout records old tapes → is_known (map (λ (c : CellState). c.run) old.cells)
    tape.cell ≡ true →
    list_any (is_cell tape.cell) old.seen ≡ false → AreFoundOf layout records tapes tape found →
    new.cells ≡ put_each old.cells found → new.seen ≡ old.seen ++ tape.cell ∷ [] →
    new.others ≡ old.others → HasTaken layout records new (tapes ++ tape ∷ [])
taken-first layout records old new tapes tape found layout_is taken known first are cells seen others =
    let unseen : list_any (is_tape_of tape.cell) tapes ≡ false =
    sym (seen-any tape.cell tapes) ∙ ap (list_any (is_cell tape.cell)) (sym taken.seen) ∙ first in
    record {
      layout_is = layout_is ∙ taken.layout_is;
      cells = ap (map (λ (c : CellState). c.run)) cells ∙ runs-put old.cells found ∙ taken.cells;
      found = subst (All (IsFound layout (tapes ++ tape ∷ []))) (sym cells)
          (All-from_recursion (IsFound layout (tapes ++ tape ∷ [])) (put_each old.cells found)
          (each-put layout tapes tape old.cells found unseen
          (subst (λ rs. AllZip (IsFoundOf layout tape) rs found) (sym taken.cells) (are unseen))
          (recursion_from_All (IsFound layout tapes) old.cells taken.found)));
      seen = seen-more old tapes tape new.seen taken.seen seen;
      others = others ∙ taken.others ∙ sym (append-nil (other_rows records [] tapes))
          ∙ ap (λ rows. other_rows records [] tapes ++ rows)
          (sym (row-by records tapes tape true false (known-of records old tape.cell true taken.cells known) unseen))
          ∙ sym (others-more records [] tapes tape);
    }

-- nothing is said of what a second tape finds
pub second-found : (layout : TableLayout) (records : List Record) (f : FindingsState) (tapes : List TapeRecording)
    (tape : TapeRecording) (found : List (Option CellFinding)) →
    HasTaken layout records f tapes → list_any (is_cell tape.cell) f.seen ≡ true →
    AreFoundOf layout records tapes tape found
second-found layout records f tapes tape found taken second unseen =
    let had : list_any (is_tape_of tape.cell) tapes ≡ true =
    sym (seen-any tape.cell tapes) ∙ ap (list_any (is_cell tape.cell)) (sym taken.seen) ∙ second in
    cc

-- what the first tape of a cell finds
pub first-found : (layout : TableLayout) (records : List Record) (f : FindingsState) (tapes : List TapeRecording)
    (tape : TapeRecording) (found : List (Option CellFinding)) →
    HasTaken layout records f tapes →
    AllZip (IsFoundOf f.layout tape) (map (λ (c : CellState). c.run) f.cells) found →
    AreFoundOf layout records tapes tape found
first-found layout records f tapes tape found taken are unseen =
    subst (λ (l : TableLayout). AllZip (IsFoundOf l tape) records found) taken.layout_is
    (subst (λ rs. AllZip (IsFoundOf f.layout tape) rs found) taken.cells are)

-- what a tape finds stays so when further tapes are taken before it
none-here : (here there all : Bool) → (here || all) ≡ false → (all ≡ false → there ≡ false) → (here || there) ≡ false
none-here true there all none later = cc
none-here false there all none later = later none

none-before : {X : Type 0} (test : X → Bool) (xs ys : List X) → list_any test (xs ++ ys) ≡ false →
    list_any test xs ≡ false
none-before test [] ys none = refl
none-before test (x ∷ xs) ys none =
    none-here (test x) (list_any test xs) (list_any test (xs ++ ys)) none (none-before test xs ys)

-- what a tape finds after some tapes it finds after more of them
pub found-later : (layout : TableLayout) (records : List Record) (before more : List TapeRecording)
    (tape : TapeRecording) (found : List (Option CellFinding)) →
    AreFoundOf layout records before tape found → AreFoundOf layout records (before ++ more) tape found
found-later layout records before more tape found are unseen =
    are (none-before (is_tape_of tape.cell) before more unseen)

-- one more cell of which that was found
pub found-next : (P : Record → Option CellFinding → Type 0) (cells : List CellState) (i : ℕ) (c : CellState)
    (found : List (Option CellFinding)) (f : Option CellFinding) →
    i < length cells → c ≡ get_or cells i c → AllZip P (map (λ (s : CellState). s.run) (take i cells)) found →
    P c.run f → AllZip P (map (λ (s : CellState). s.run) (take (i + 1) cells)) (found ++ f ∷ [])
found-next P cells i c found f within is so_far this =
    subst (λ rs. AllZip P rs (found ++ f ∷ []))
    (sym (ap (map (λ (s : CellState). s.run)) (take_more cells i c within)
    ∙ map-append (λ (s : CellState). s.run) (take i cells) (get_or cells i c ∷ [])))
    (all_zipped_more P (map (λ (s : CellState). s.run) (take i cells)) found (get_or cells i c).run f so_far
    (subst (λ (s : CellState). P s.run f) is this))

-- where nothing was found nothing is put
pub put-none : (cells : List CellState) → cells ≡ put_each cells []
put-none [] = refl
put-none (c ∷ cells) = refl

-- one more finding that is put
put-next : (cells : List CellState) (found : List (Option CellFinding)) (f : Option CellFinding) (d : CellState) →
    length found < length cells →
    set (put_each cells found) (length found) (put_found (get_or (put_each cells found) (length found) d) f)
    ≡ put_each cells (found ++ f ∷ [])
put-next [] found f d within = absurd (let less : ⊥ = omega arith in less)
put-next (x ∷ cells) [] f d within = ap (λ xs. put_found x f ∷ xs) (put-none cells)
put-next (x ∷ cells) (g ∷ found) f d within =
    ap (λ xs. put_found x g ∷ xs) (put-next cells found f d (omega arith))

put-past : (cells : List CellState) (found : List (Option CellFinding)) (f : Option CellFinding) →
    length cells ≤ length found → put_each cells (found ++ f ∷ []) ≡ put_each cells found
put-past [] found f past = refl
put-past (x ∷ cells) [] f past = absurd (let less : ⊥ = omega arith in less)
put-past (x ∷ cells) (g ∷ found) f past = ap (λ xs. put_found x g ∷ xs) (put-past cells found f (omega arith))

-- as many cells stay
pub length-put : (cells : List CellState) (found : List (Option CellFinding)) →
    length (put_each cells found) ≡ length cells
length-put [] found = refl
length-put (x ∷ cells) [] = refl
length-put (x ∷ cells) (g ∷ found) = ap suc (length-put cells found)

-- one more cell gets what was found of it
pub put-turn : (cells now : List CellState) (found : List (Option CellFinding)) (f : Option CellFinding) (place : ℕ)
    (d new : CellState) →
    place ≡ min (length found) (length cells) → now ≡ put_each cells found → place < length now →
    new ≡ put_found (get_or now place d) f →
    (place + 1 ≡ min (length (found ++ f ∷ [])) (length cells))
    × (set now place new ≡ put_each cells (found ++ f ∷ []))
put-turn cells now found f place d new many put within new_is =
    let long : length now ≡ length cells = ap length put ∙ length-put cells found in
    let at : place ≡ length found = omega arith in (
      omega (arith, length-append found (f ∷ [])),
      ap (λ ns. set ns place new) put ∙ ap (λ i. set (put_each cells found) i new) at
          ∙ ap (set (put_each cells found) (length found))
          (new_is ∙ ap (λ s. put_found s f)
          (ap (λ ns. get_or ns place d) put ∙ ap (λ i. get_or (put_each cells found) i d) at))
          ∙ put-next cells found f d (omega arith),
    )

-- past the last cell nothing is put
pub put-passed : (cells now : List CellState) (found : List (Option CellFinding)) (f : Option CellFinding) (place : ℕ) →
    place ≡ min (length found) (length cells) → now ≡ put_each cells found → length now ≤ place →
    (place ≡ min (length (found ++ f ∷ [])) (length cells)) × (now ≡ put_each cells (found ++ f ∷ []))
put-passed cells now found f place many put past =
    let long : length now ≡ length cells = ap length put ∙ length-put cells found in (
      omega (arith, length-append found (f ∷ [])),
      put ∙ sym (put-past cells found f (omega arith)),
    )

-- the rows of what was found are those of the tapes
of-tape : (layout : TableLayout) (r : Record) (tape : TapeRecording) (finding : CellFinding)
    → IsFoundIn layout r tape.slots tape.blocks finding →
    AreTapeRows r tape (rows_of_finding r.cell finding)
of-tape layout r tape found.NoTape is = absurd is
of-tape layout r tape found.OtherSlots is =
    subst (λ b. MatchBool b (AreJudged r tape.blocks (finding_row r.cell findings.OtherSlots ∷ []))
    (finding_row r.cell findings.OtherSlots ∷ [] ≡ finding_row r.cell findings.OtherSlots ∷ [])) (sym is) refl
of-tape layout r tape (found.Judged ds lines) is =
    subst (λ b. MatchBool b (AreJudged r tape.blocks (map (difference_row r.cell) ds.items))
    (map (difference_row r.cell) ds.items ≡ finding_row r.cell findings.OtherSlots ∷ [])) (sym is.0)
    (record { found = ds.items; differences = is.1; rows_are = refl })

of-first : (layout : TableLayout) (r : Record) (first : Option TapeRecording) (finding : CellFinding)
    → IsFoundBy layout r first finding →
    AreRowsBy r first (rows_of_finding r.cell finding)
of-first layout r None finding is = ap (rows_of_finding r.cell) is
of-first layout r (Some tape) finding is = of-tape layout r tape finding is

of-cells : (layout : TableLayout) (tapes : List TapeRecording) (cells : List CellState)
    → AllByRecursion (IsFound layout tapes) cells →
    AreRowsOfCells tapes (map (λ (c : CellState). c.run) cells) (flat_map rows_of_state cells)
of-cells layout tapes [] all = refl
of-cells layout tapes (c ∷ cells) all = (
  rows_of_state c,
  flat_map rows_of_state cells,
  flat_map-cons rows_of_state c cells,
  of-first layout c.run (find (is_tape_of c.run.cell) tapes) c.finding all.0,
  of-cells layout tapes cells all.1,
)

-- the rows of what was found are those of the tapes
pub rows-are : (layout : TableLayout) (records : List Record) (f : FindingsState) (tapes : List TapeRecording)
    (rows : List Row) →
    HasTaken layout records f tapes → rows ≡ flat_map rows_of_state f.cells ++ f.others → AreRows records tapes rows
rows-are layout records f tapes rows taken is = record {
  cells = flat_map rows_of_state f.cells;
  of_cells = subst (λ rs. AreRowsOfCells tapes rs (flat_map rows_of_state f.cells)) taken.cells
      (of-cells layout tapes f.cells (recursion_from_All (IsFound layout tapes) f.cells taken.found));
  all = is ∙ ap (λ others. flat_map rows_of_state f.cells ++ others) taken.others;
}

-- the lines of what was found are those of the tapes
lines-of-found : (layout : TableLayout) (r : Record) (tape : Option TapeRecording) (finding : CellFinding) →
    layout.detail ≡ detail.Explained → IsFoundBy layout r tape finding →
    lines_of_found layout.start r.cell finding
    ≡ lines_of_cell layout.start r tape (rows_of_finding r.cell finding)
lines-of-found layout r None found.NoTape explains is =
    sym (append-nil (finding_line layout.start r.cell findings.NoTape))
lines-of-found layout r None found.OtherSlots explains is = cc
lines-of-found layout r None (found.Judged ds lines) explains is = cc
lines-of-found layout r (Some tape) found.NoTape explains is = absurd is
lines-of-found layout r (Some tape) found.OtherSlots explains is =
    sym (append-nil (finding_line layout.start r.cell findings.OtherSlots))
lines-of-found layout r (Some tape) (found.Judged ds lines) explains is =
    is.2 ∙ ap (λ (d : Detail). lines_with d layout.start r tape.blocks ds.items) explains
    ∙ ap (λ some. (if some then shift_lines layout.start r tape.blocks else [])
    ++ flat_map (difference_lines layout.start r tape.blocks) ds.items)
    (sym (untimely r.cell ds.items))
    ∙ ap (λ xs. lines_in_front layout.start r (Some tape) (map (difference_row r.cell) ds.items) ++ xs)
    (sym (each layout.start r tape ds.items))
  where
    each : (start : Option Start) (r : Record) (tape : TapeRecording) (ds : List Difference) →
        flat_map (λ (row : Row). lines_of_finding start r (Some tape) row.finding) (map (difference_row r.cell) ds)
        ≡ flat_map (difference_lines start r tape.blocks) ds
    each start r tape [] = refl
    each start r tape (d ∷ ds) =
        flat_map-cons (λ (row : Row). lines_of_finding start r (Some tape) row.finding) (difference_row r.cell d)
        (map (difference_row r.cell) ds)
        ∙ ap (λ xs. difference_lines start r tape.blocks d ++ xs) (each start r tape ds)
        ∙ sym (flat_map-cons (difference_lines start r tape.blocks) d ds)

    untimely : (cell : Cell) (ds : List Difference) →
        list_any (λ (row : Row). finds_untimely row.finding) (map (difference_row cell) ds)
        ≡ list_any (λ (d : Difference). is_untimely d.kind) ds
    untimely cell [] = refl
    untimely cell (d ∷ ds) = ap (λ (some : Bool). is_untimely d.kind || some) (untimely cell ds)

lines-of-cells : (layout : TableLayout) (tapes : List TapeRecording) (cells : List CellState) →
    layout.detail ≡ detail.Explained → AllByRecursion (IsFound layout tapes) cells →
    AreLinesOfCells layout.start tapes (map (λ (c : CellState). c.run) cells) (flat_map rows_of_state cells)
    (flat_map (lines_of_state layout.start) cells)
lines-of-cells layout tapes [] explains all = (refl, refl)
lines-of-cells layout tapes (c ∷ cells) explains all = (
  rows_of_state c,
  flat_map rows_of_state cells,
  flat_map (lines_of_state layout.start) cells,
  flat_map-cons rows_of_state c cells,
  flat_map-cons (lines_of_state layout.start) c cells
      ∙ ap (λ xs. xs ++ flat_map (lines_of_state layout.start) cells)
      (lines-of-found layout c.run (find (is_tape_of c.run.cell) tapes) c.finding explains all.0),
  of-first layout c.run (find (is_tape_of c.run.cell) tapes) c.finding all.0,
  lines-of-cells layout tapes cells explains all.1,
)

explained-are : (layout : TableLayout) (records : List Record) (f : FindingsState) (tapes : List TapeRecording)
    (rows : List Row) (text : List ℕ) →
    layout.detail ≡ detail.Explained → HasTaken layout records f tapes →
    rows ≡ flat_map rows_of_state f.cells ++ f.others → text ≡ explained_found layout.start f →
    IsExplained layout.start records tapes rows text
explained-are layout records f tapes rows text explains taken is said =
    let lines : List ℕ = flat_map (lines_of_state layout.start) f.cells in
    record {
      cells = flat_map rows_of_state f.cells;
      lines = lines;
      of_cells = subst (λ rs. AreLinesOfCells layout.start tapes rs (flat_map rows_of_state f.cells) lines) taken.cells
          (lines-of-cells layout tapes f.cells explains
          (recursion_from_All (IsFound layout tapes) f.cells taken.found));
      all = is ∙ ap (λ others. flat_map rows_of_state f.cells ++ others) taken.others;
      text_is = said ∙ ap (λ others. explained_header layout.start
          ++ (lines ++ flat_map (other_line layout.start) others)) taken.others;
    }

text-by : (d : Detail) (layout : TableLayout) (records : List Record) (f : FindingsState) (tapes : List TapeRecording)
    (rows : List Row) (text : List ℕ) →
    layout.detail ≡ d → HasTaken layout records f tapes → rows ≡ rows_of_found f →
    text ≡ text_of_detail d layout.start f rows → IsTextWith d layout.start records tapes rows text
text-by detail.Plain layout records f tapes rows text with_detail taken is said = said
text-by detail.Explained layout records f tapes rows text with_detail taken is said =
    explained-are layout records f tapes rows text with_detail taken is said

-- the table of what was found is that of the tapes
pub table-is : (layout : TableLayout) (records : List Record) (f : FindingsState) (tapes : List TapeRecording)
    (rows : List Row) (text : List ℕ) →
    HasTaken layout records f tapes → rows ≡ rows_of_found f → text ≡ text_of_found f rows →
    IsTable layout records tapes rows text
table-is layout records f tapes rows text taken is said = record {
  rows_are = rows-are layout records f tapes rows taken is;
  text_is = text-by layout.detail layout records f tapes rows text refl taken is
      (said ∙ ap (λ (l : TableLayout). text_of_layout l f rows) taken.layout_is);
}
