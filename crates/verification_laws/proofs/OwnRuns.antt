-- The own tapes of cells have no rows.
use Rattle.std.proofs.Common.{◌≡◌, ℕ, ◌<◌, Bool, true, false, cond, not, Option, Some, List, [], ◌∷◌}
use Rattle.std.proofs.Common.{◌++◌, length, map, find, get_or, refl, sym, ap, subst, ◌∙◌, arith, All, inl, inr}
use Rattle.std.specs.Prelude.{◌||◌, MatchBool, if◌then◌else◌}
use Rattle.std.specs.List.{AllByRecursion, Contains, IsDistinct, list_any}
use Rattle.std.specs.List.Sorted.{IsPermutation}
use Rattle.std.proofs.lemmas.Bool.{and_parts, cases_eq, cases_lt, eq-eqb}
use Rattle.std.proofs.lemmas.List.{get_or-map, get_or_default, length-map}
use Rattle.std.proofs.lemmas.List.Elements.{All-map, recursion_from_All}
use Rattle.std.proofs.lemmas.List.Folds.{list_any-append, list_any_at}
use Rattle.std.proofs.lemmas.List.Sorted.{All-permutation, Contains-permutation, IsPermutation-map}
use Rattle.std.proofs.lemmas.List.Sorted.{IsPermutation-refl}
use Rattle.std.proofs.lemmas.Map.Keys.{IsDistinct-IsPermutation, IsDistinct-head, IsDistinct-tail}
use Rattle.std.proofs.lemmas.Map.Keys.{apart_from_distinct}
use Rattle.cbsp_wire.specs.declared.message.Cell.{Cell}
use Rattle.cbsp_wire.specs.Range.{are_distinct, is_cell}
use Rattle.cbsp_wire.proofs.CellLists.{is_itself}
use Rattle.bsc_table.specs.Legal.{IsLegal}
use Rattle.bsc_table.specs.Record.{Record}
use Rattle.cbch_blocks.specs.RecordBlocks.{blocks_of}
use Rattle.handset.specs.Recording.{TapeRecording}
use Rattle.verification.specs.declared.difference.Difference.{Difference}
use Rattle.verification.specs.declared.row.Finding.TheVariants as findings
use Rattle.verification.specs.declared.row.Row.{Row}
use Rattle.verification.specs.Rows.{AreCellRows, AreJudged, AreRowsBy, AreRowsOfCells}
use Rattle.verification.specs.Rows.{difference_row, is_known, is_tape_of, other_rows, finding_row}
use Rattle.verification.proofs.FoundLaws.{cell-symm}
use Rattle.verification_laws.specs.OwnTapes.{AreOwnTapes, NoRowsAreFound, NothingIsFound, OwnTapesDifferNowhere}
use Rattle.verification_laws.specs.OwnTapes.{OwnTapesHaveNoRows, OwnTapesKeepTheirCells, recording_of}

-- nothing is a list of the differences of a tape that has none
pub kept-cells : OwnTapesDifferNowhere → OwnTapesKeepTheirCells
kept-cells nowhere r legal ended = record {
  all = subst (λ (ds : List Difference). IsPermutation ds []) (sym (nowhere r legal ended)) (IsPermutation-refl []);
  sorted = λ k d low high. absurd (let less : ⊥ = omega arith in less);
}

-- the cells of records and of their tapes are distinct
none-of : {X : Type 0} (test : X → Bool) (xs : List X) → list_any test xs ≡ false →
    AllByRecursion (λ x. test x ≡ false) xs
none-of test [] none = tt
none-of test (x ∷ xs) none =
    let both = parts (test x) (list_any test xs) none in (both.0, none-of test xs both.1)
  where
    parts : (a b : Bool) → (a || b) ≡ false → (a ≡ false) × (b ≡ false)
    parts true b is = cc
    parts false b is = (refl, is)

not-true : (b : Bool) → not b ≡ true → b ≡ false
not-true true is = cc
not-true false is = refl

distinct-cells : (cells : List Cell) → are_distinct cells ≡ true → IsDistinct is_cell cells
unfolding IsDistinct
distinct-cells [] is = tt
distinct-cells (c ∷ cells) is =
    let both = and_parts (not (list_any (is_cell c) cells)) (are_distinct cells) is in
    (none-of (is_cell c) cells (not-true (list_any (is_cell c) cells) both.0), distinct-cells cells both.1)

same-cells : (records : List Record) →
    map (λ (t : TapeRecording). t.cell) (map recording_of records) ≡ map (λ (r : Record). r.cell) records
same-cells [] = refl
same-cells (r ∷ records) = ap (λ cells. r.cell ∷ cells) (same-cells records)

distinct-tapes : (records : List Record) (tapes : List TapeRecording) → AreOwnTapes records tapes →
    IsDistinct is_cell (map (λ (t : TapeRecording). t.cell) tapes)
distinct-tapes records tapes own =
    IsDistinct-IsPermutation is_cell cell-symm (map (λ (t : TapeRecording). t.cell) (map recording_of records))
    (map (λ (t : TapeRecording). t.cell) tapes)
    (IsPermutation-map (λ (t : TapeRecording). t.cell) (map recording_of records) tapes own.own)
    (subst (IsDistinct is_cell) (sym (same-cells records))
    (distinct-cells (map (λ (r : Record). r.cell) records) own.distinct))

-- so the first tape of a cell is its own
find-here : (here there : Bool) (x own : TapeRecording) (rest : Option TapeRecording) → (here || there) ≡ true →
    (here ≡ true → x ≡ own) → (there ≡ true → rest ≡ Some own) → cond here (Some x) rest ≡ Some own
find-here true there x own rest some is later = ap Some (is refl)
find-here false there x own rest some is later = later some

find-own : (test : TapeRecording → Bool) (own : TapeRecording) (tapes : List TapeRecording) →
    AllByRecursion (λ t. test t ≡ true → t ≡ own) tapes → list_any test tapes ≡ true → find test tapes ≡ Some own
find-own test own [] all some = cc
find-own test own (t ∷ tapes) all some =
    find-here (test t) (list_any test tapes) t own (find test tapes) some all.0
    (λ later. find-own test own tapes all.1 later)

only-own : (records : List Record) (i : ℕ) (r : Record) → IsDistinct is_cell (map (λ (x : Record). x.cell) records) →
    i < length records → get_or records i r ≡ r →
    All (λ (x : Record). is_cell r.cell x.cell ≡ true → recording_of x ≡ recording_of r) records
only-own records i r distinct inside is = λ k d within same.
    let cells : List Cell = map (λ (x : Record). x.cell) records in
    let long = length-map records (λ (x : Record). x.cell) in
    let x : Record = get_or records k d in
    let at_i : get_or (map (λ (x : Record). x.cell) records) i r.cell ≡ r.cell =
    get_or-map (λ (x : Record). x.cell) records i r r.cell inside ∙ ap (λ (x : Record). x.cell) is in
    let at_k : get_or (map (λ (x : Record). x.cell) records) k r.cell ≡ (get_or records k d).cell =
    get_or-map (λ (x : Record). x.cell) records k d r.cell within in
    elim (cases_eq k i) [
      | inl e ↦ ap recording_of (get_or_default records k d r within ∙ ap (λ n. get_or records n r) e ∙ is)
      | inr other ↦ elim (cases_lt k i) [
        | inl before ↦
            let apart = apart_from_distinct is_cell (map (λ (x : Record). x.cell) records) k i r.cell distinct before
            (omega (arith, long, inside)) in
            let no : is_cell (get_or records k d).cell r.cell ≡ false = rw (at_k, at_i) at apart in
            absurd (let t : true ≡ false = sym same ∙ cell-symm r.cell (get_or records k d).cell ∙ no in cc)
        | inr after ↦
            let apart = apart_from_distinct is_cell (map (λ (x : Record). x.cell) records) i k r.cell distinct
            (omega (arith, after, other)) (omega (arith, long, within)) in
            let no : is_cell r.cell (get_or records k d).cell ≡ false = rw (at_i, at_k) at apart in
            absurd (let t : true ≡ false = sym same ∙ no in cc)
      ]
    ]

first-own : (records : List Record) (tapes : List TapeRecording) → AreOwnTapes records tapes → (i : ℕ) (r : Record) →
    i < length records → get_or records i r ≡ r → find (is_tape_of r.cell) tapes ≡ Some (recording_of r)
first-own records tapes own i r inside is =
    let all = All-permutation (λ (t : TapeRecording). is_tape_of r.cell t ≡ true → t ≡ recording_of r)
    (map recording_of records) tapes own.own
    (All-map (λ (t : TapeRecording). is_tape_of r.cell t ≡ true → t ≡ recording_of r) recording_of records
    (only-own records i r (distinct-cells (map (λ (x : Record). x.cell) records) own.distinct) inside is)) in
    let there : Contains (map recording_of records) (recording_of r) = (
      i,
      omega (arith, length-map records recording_of, inside),
      get_or-map recording_of records i r (recording_of r) inside ∙ ap recording_of is,
    ) in
    let found = Contains-permutation (map recording_of records) tapes (recording_of r) own.own there in
    find-own (is_tape_of r.cell) (recording_of r) tapes
    (recursion_from_All (λ (t : TapeRecording). is_tape_of r.cell t ≡ true → t ≡ recording_of r) tapes all)
    (list_any_at (is_tape_of r.cell) tapes found.0 (recording_of r) found.1
    (ap (is_tape_of r.cell) found.2 ∙ is_itself r.cell))

-- a cell with its own tape
record IsKept (tapes : List TapeRecording) (r : Record) : Type 0 where
  legal : IsLegal r
  ended : r.clock ≡ r.slots
  first : find (is_tape_of r.cell) tapes ≡ Some (recording_of r)

all-kept : (records : List Record) (tapes : List TapeRecording) → AreOwnTapes records tapes →
    AllByRecursion (IsKept tapes) records
all-kept records tapes own =
    recursion_from_All (IsKept tapes) records
    (λ k d within. record {
      legal = own.legal k d within;
      ended = own.ended k d within;
      first = first-own records tapes own k (get_or records k d) within
          (get_or_default records k (get_or records k d) d within);
    })

no-rows-of : OwnTapesKeepTheirCells → (tapes : List TapeRecording) (r : Record) → IsKept tapes r →
    AreCellRows tapes r []
no-rows-of cells tapes r kept =
    subst (λ o. AreRowsBy r o []) (sym kept.first)
    (subst (λ b. MatchBool b (AreJudged r (blocks_of r) []) ([] ≡ finding_row r.cell findings.OtherSlots ∷ []))
    (sym (eq-eqb r.slots r.slots refl))
    (record { found = []; differences = cells r kept.legal kept.ended; rows_are = refl }))

no-rows : OwnTapesKeepTheirCells → (tapes : List TapeRecording) (records : List Record) →
    AllByRecursion (IsKept tapes) records → AreRowsOfCells tapes records []
no-rows cells tapes [] all = refl
no-rows cells tapes (r ∷ records) all =
    ([], [], refl, no-rows-of cells tapes r all.0, no-rows cells tapes records all.1)

-- and no other rows
only-none-of : NothingIsFound → (tapes : List TapeRecording) (r : Record) → IsKept tapes r → (rows : List Row) →
    AreCellRows tapes r rows → rows ≡ []
only-none-of nothing tapes r kept rows are =
    let judged : AreJudged r (blocks_of r) rows =
    subst (λ b. MatchBool b (AreJudged r (blocks_of r) rows) (rows ≡ finding_row r.cell findings.OtherSlots ∷ []))
    (eq-eqb r.slots r.slots refl)
    (subst (λ o. AreRowsBy r o rows) kept.first are) in
    judged.rows_are ∙ ap (map (difference_row r.cell)) (nothing r judged.found kept.legal kept.ended judged.differences)

only-none : NothingIsFound → (tapes : List TapeRecording) (records : List Record) →
    AllByRecursion (IsKept tapes) records → (rows : List Row) → AreRowsOfCells tapes records rows → rows ≡ []
only-none nothing tapes [] all rows are = are
only-none nothing tapes (r ∷ records) all rows are =
    are.2 ∙ ap (λ (xs : List Row). xs ++ are.1) (only-none-of nothing tapes r all.0 are.0 are.3)
    ∙ only-none nothing tapes records all.1 are.1 are.4

-- each tape is of a cell, and of one that had none
known-tapes : (records : List Record) (tapes : List TapeRecording) → AreOwnTapes records tapes →
    AllByRecursion (λ (t : TapeRecording). is_known records t.cell ≡ true) tapes
known-tapes records tapes own =
    recursion_from_All (λ (t : TapeRecording). is_known records t.cell ≡ true) tapes
    (All-permutation (λ (t : TapeRecording). is_known records t.cell ≡ true) (map recording_of records) tapes own.own
    (All-map (λ (t : TapeRecording). is_known records t.cell ≡ true) recording_of records
    (λ k d within. list_any_at (λ (r : Record). is_cell (get_or records k d).cell r.cell) records k d within
    (is_itself (get_or records k d).cell))))

new-more : (before : List TapeRecording) (t : TapeRecording) (tapes : List TapeRecording) →
    AllByRecursion (λ (u : TapeRecording). list_any (is_tape_of u.cell) before ≡ false) tapes →
    AllByRecursion (λ (c : Cell). is_cell t.cell c ≡ false) (map (λ (u : TapeRecording). u.cell) tapes) →
    AllByRecursion (λ (u : TapeRecording). list_any (is_tape_of u.cell) (before ++ t ∷ []) ≡ false) tapes
new-more before t [] new apart = tt
new-more before t (u ∷ tapes) new apart = (
  list_any-append (is_tape_of u.cell) before (t ∷ [])
      ∙ ap (λ (x : Bool). x || (is_tape_of u.cell t || false)) new.0
      ∙ ap (λ (x : Bool). x || false) (cell-symm u.cell t.cell ∙ apart.0),
  new-more before t tapes new.1 apart.1,
)

other-none : (records : List Record) (before tapes : List TapeRecording) →
    AllByRecursion (λ (t : TapeRecording). is_known records t.cell ≡ true) tapes →
    IsDistinct is_cell (map (λ (t : TapeRecording). t.cell) tapes) →
    AllByRecursion (λ (t : TapeRecording). list_any (is_tape_of t.cell) before ≡ false) tapes →
    other_rows records before tapes ≡ []
other-none records before [] known distinct new = refl
other-none records before (t ∷ tapes) known distinct new =
    let cells : List Cell = map (λ (u : TapeRecording). u.cell) tapes in
    ap (λ (x : Bool). (if x
    then (if list_any (is_tape_of t.cell) before then finding_row t.cell findings.SecondTape ∷ [] else [])
    else finding_row t.cell findings.UnknownCell ∷ []) ++ other_rows records (before ++ t ∷ []) tapes) known.0
    ∙ ap (λ (x : Bool). (if x then finding_row t.cell findings.SecondTape ∷ [] else [])
    ++ other_rows records (before ++ t ∷ []) tapes) new.0
    ∙ other-none records (before ++ t ∷ []) tapes known.1
    (IsDistinct-tail is_cell t.cell (map (λ (u : TapeRecording). u.cell) tapes) distinct)
    (new-more before t tapes new.1
    (IsDistinct-head is_cell t.cell (map (λ (u : TapeRecording). u.cell) tapes) distinct))

all-new : (tapes : List TapeRecording) →
    AllByRecursion (λ (t : TapeRecording). list_any (is_tape_of t.cell) [] ≡ false) tapes
all-new [] = tt
all-new (t ∷ tapes) = (refl, all-new tapes)

others : (records : List Record) (tapes : List TapeRecording) → AreOwnTapes records tapes →
    other_rows records [] tapes ≡ []
others records tapes own =
    other-none records [] tapes (known-tapes records tapes own) (distinct-tapes records tapes own) (all-new tapes)

-- the tapes of a run have no rows beside its book
pub runs-kept : OwnTapesKeepTheirCells → OwnTapesHaveNoRows
runs-kept cells records tapes own = record {
  cells = [];
  of_cells = no-rows cells tapes records (all-kept records tapes own);
  all = sym (others records tapes own);
}

-- so verify finds none
pub no-rows-found : NothingIsFound → NoRowsAreFound
no-rows-found nothing records tapes rows own are =
    are.all ∙ ap (λ (xs : List Row). xs ++ other_rows records [] tapes)
    (only-none nothing tapes records (all-kept records tapes own) are.cells are.of_cells)
    ∙ others records tapes own
