-- What was noted of the cells of a desk, each at its place, after one more note and at the end of a pass.
use Rattle.std.proofs.Common.{◌≡◌, ◌∙◌, ℕ, zero, suc, ◌+◌, ◌<◌, ◌≤◌, Some, eqb, refl, sym}
use Rattle.std.proofs.Common.{subst, ap, arith, Bool, true, false, not, inl, inr, List, [], ◌∷◌, ◌++◌, length}
use Rattle.std.proofs.Common.{slice_index_or, slice_set}
use Rattle.std.specs.List.{AllZip, list_any, slice_get}
use Rattle.std.proofs.Math.Seq.{get_or-append_seam}
use Rattle.std.proofs.lemmas.Bool.{cases_Bool, cases_lt, false≢true, eqb-true, eqb-false}
use Rattle.std.proofs.lemmas.List.{length-append, length-set, get_or_append_left}
use Rattle.std.proofs.lemmas.List.{get_or_default}
use Rattle.std.proofs.lemmas.List.{get_or-set_same, get_or-set_other}
use Rattle.std.proofs.lemmas.List.Folds.{list_any_at}
use Rattle.std.proofs.lemmas.Slice.Zip.{AllZip-long}
use Rattle.std.proofs.lemmas.Option.{slice_get_within}
use Rattle.cbsp_wire.proofs.Tests.{and_parts}
use Rattle.cbsp_wire.proofs.CellLists.{itself_at, same_cell}
use Rattle.cbsp_wire.specs.declared.message.Cell.{Cell}
use Rattle.cbsp_wire.specs.Range.{are_distinct, is_cell}
use Rattle.bsc_table.specs.Record.{Record}
use Rattle.order_desk.specs.declared.note.Note.{Note}
use Rattle.order_desk.specs.declared.settle.cell_notes.CellNotes.{CellNotes}
use Rattle.order_desk.specs.Settled.{IsBookOf, cell_of}
use Rattle.order_desk.specs.SettleSteps.{AreNoted, HasNoted}
use Rattle.order_desk.specs.SettleSteps.{IsOfCell, is_note_of}
use Rattle.order_desk.proofs.Noted.{noted_other}

-- of distinct cells each stands at one place
same_place : (cells : List Cell) (one other : ℕ) (d : Cell)
    → are_distinct cells ≡ true
    → one < length cells
    → other < length cells
    → is_cell (slice_index_or cells one d) (slice_index_or cells other d) ≡ true
    → one < other
    → ⊥
same_place [] one other d distinct within also same less = absurd (none one within)
  where
    none : (n : ℕ) → n < 0 → ⊥
    none n lt = omega arith
same_place (c ∷ cells) zero zero d distinct within also same less = none less
  where
    none : 0 < 0 → ⊥
    none lt = omega arith
same_place (c ∷ cells) zero (suc other) d distinct within also same less =
    let parts = and_parts (not (list_any (is_cell c) cells)) (are_distinct cells) distinct in
    false≢true (sym (is_false (list_any (is_cell c) cells) parts.0)
    ∙ list_any_at (is_cell c) cells other d (inside also) same)
  where
    is_false : (b : Bool) → not b ≡ true → b ≡ false
    is_false true is = sym is
    is_false false is = refl

    inside : suc other < suc (length cells) → other < length cells
    inside lt = omega arith
same_place (c ∷ cells) (suc one) zero d distinct within also same less = none one less
  where
    none : (n : ℕ) → suc n < 0 → ⊥
    none n lt = omega arith
same_place (c ∷ cells) (suc one) (suc other) d distinct within also same less =
    let parts = and_parts (not (list_any (is_cell c) cells)) (are_distinct cells) distinct in
    same_place cells one other d parts.1 (inside one within) (inside other also) same (lower less)
  where
    inside : (n : ℕ) → suc n < suc (length cells) → n < length cells
    inside n lt = omega arith

    lower : suc one < suc other → one < other
    lower lt = omega arith

other_way : (a b : Cell) → is_cell a b ≡ true → is_cell b a ≡ true
other_way a b is =
    let same = same_cell a b is in
    subst (λ (c : Cell). is_cell c a ≡ true) same (subst (λ (c : Cell). is_cell a c ≡ true) (sym same) is)

-- a book's cell stands at its place
cell_at : (cells : List Cell) (books : List Record) (place : ℕ) (c : Cell) (d : Record)
    → AllZip IsOfCell cells books
    → place < length books
    → (slice_index_or books place d).cell ≡ slice_index_or cells place c
cell_at cells [] place c d right within = absurd (none within)
  where
    none : place < 0 → ⊥
    none lt = omega arith
cell_at [] (r ∷ books) place c d right within = absurd right
cell_at (cell ∷ cells) (r ∷ books) zero c d right within = right.0
cell_at (cell ∷ cells) (r ∷ books) (suc place) c d right within = cell_at cells books place c d right.1 (inside within)
  where
    inside : suc place < suc (length books) → place < length books
    inside lt = omega arith

-- the books of a desk's cells, for runs of its slots, are those of its cells
pub of_cells : (slots : ℕ) (cells : List Cell) (books : List Record) → AllZip (IsBookOf slots) cells books
    → AllZip IsOfCell cells books
of_cells slots [] [] right = tt
of_cells slots [] (r ∷ books) right = absurd right
of_cells slots (cell ∷ cells) [] right = absurd right
of_cells slots (cell ∷ cells) (r ∷ books) right = (right.0.0, of_cells slots cells books right.1)

-- one more book, of whose cell nothing is noted yet
pub noted_push : (books : List Record) (earlier : List (List Note)) (given : List Note) (noted : List CellNotes)
    (r : Record) (notes : CellNotes)
    → AreNoted books earlier given noted
    → HasNoted r earlier given notes
    → AreNoted (books ++ r ∷ []) earlier given (noted ++ notes ∷ [])
noted_push books earlier given noted r notes are has = record {
  places = length-append noted (notes ∷ []) ∙ (ap (λ n. n + 1) are.places ∙ sym (length-append books (r ∷ [])));
  each = λ place s n within. elim (cases_lt place (length books)) [
    | inl less ↦ subst (λ (t : Record). HasNoted t earlier given (slice_index_or (noted ++ notes ∷ []) place n))
        (sym (get_or_append_left books (r ∷ []) s place less))
        (subst (HasNoted (slice_index_or books place s) earlier given)
        (sym (get_or_append_left noted (notes ∷ []) n place (subst (λ k. place < k) (sym are.places) less)))
        (are.each place s n less))
    | inr more ↦ subst (λ k. HasNoted (slice_index_or (books ++ r ∷ []) k s) earlier given
        (slice_index_or (noted ++ notes ∷ []) k n)) (sym (last place within more)) (at_end s n)
  ];
}
  where
    last : (place : ℕ) → place < length (books ++ r ∷ []) → length books ≤ place → place ≡ length books
    last place within more = here (length-append books (r ∷ []))
      where
        here : length (books ++ r ∷ []) ≡ length books + 1 → place ≡ length books
        here long = omega (arith, within, more, long)

    at_end : (s : Record) (n : CellNotes) → HasNoted (slice_index_or (books ++ r ∷ []) (length books) s) earlier given
        (slice_index_or (noted ++ notes ∷ []) (length books) n)
    at_end s n = subst (λ (t : Record). HasNoted t earlier given
        (slice_index_or (noted ++ notes ∷ []) (length books) n)) (sym (get_or-append_seam books r [] s))
        (subst (HasNoted r earlier given) (sym (ap (λ k. slice_index_or (noted ++ notes ∷ []) k n) (sym are.places)
        ∙ get_or-append_seam noted notes [] n)) has)

-- a note of the cell at a place
pub noted_note : (cells : List Cell) (books : List Record) (earlier : List (List Note)) (given : List Note)
    (note : Note) (noted : List CellNotes) (place : ℕ) (r : Record) (d new : CellNotes)
    → are_distinct cells ≡ true
    → AllZip IsOfCell cells books
    → slice_get cells place ≡ Some (cell_of note)
    → r ≡ slice_index_or books place r
    → (is_note_of r.cell note ≡ true → HasNoted r earlier given (slice_index_or noted place d)
    → HasNoted r earlier (given ++ note ∷ []) new)
    → AreNoted books earlier given noted
    → AreNoted books earlier (given ++ note ∷ []) (slice_set noted place new)
noted_note cells books earlier given note noted place r d new distinct right found r_is added are = record {
  places = length-set noted place new ∙ are.places;
  each = λ at s n within. elim (cases_Bool (eqb at place)) [
    | inl is ↦ subst (λ k. HasNoted (slice_index_or books k s) earlier (given ++ note ∷ [])
        (slice_index_or (slice_set noted place new) k n)) (sym (eqb-true at place is)) (here s n)
    | inr not ↦ subst (HasNoted (slice_index_or books at s) earlier (given ++ note ∷ []))
        (sym (get_or-set_other noted place at new n (eqb-false at place not)))
        (noted_other (slice_index_or books at s) earlier given note (slice_index_or noted at n)
        (elsewhere at s within (eqb-false at place not)) (are.each at s n within))
  ];
}
  where
    long : length books ≡ length cells
    long = AllZip-long IsOfCell cells books right

    of_cells : place < length cells
    of_cells = slice_get_within cells place (cell_of note) found

    there : place < length books
    there = subst (λ n. place < n) (sym long) of_cells

    is_at : (d : Cell) → is_cell (cell_of note) (slice_index_or cells place d) ≡ true
    is_at d = itself_at cells (cell_of note) place d found

    cell_is : (d : Cell) → r.cell ≡ slice_index_or cells place d
    cell_is d = ap (λ (s : Record). s.cell) r_is ∙ cell_at cells books place d r right there

    is_own : is_note_of r.cell note ≡ true
    is_own = subst (λ (c : Cell). is_cell c (cell_of note) ≡ true) (sym (cell_is r.cell))
        (other_way (cell_of note) (slice_index_or cells place r.cell) (is_at r.cell))

    before : HasNoted r earlier given (slice_index_or noted place d)
    before = subst (λ (s : Record). HasNoted s earlier given (slice_index_or noted place d)) (sym r_is)
        (are.each place r d there)

    here : (s : Record) (n : CellNotes) → HasNoted (slice_index_or books place s) earlier (given ++ note ∷ [])
        (slice_index_or (slice_set noted place new) place n)
    here s n = subst (λ (t : Record). HasNoted t earlier (given ++ note ∷ [])
        (slice_index_or (slice_set noted place new) place n)) (r_is ∙ get_or_default books place r s there)
        (subst (HasNoted r earlier (given ++ note ∷ [])) (sym (get_or-set_same noted place new n
        (subst (λ k. place < k) (sym are.places) there))) (added is_own before))

    greater : (at : ℕ) → (at ≡ place → ⊥) → place ≤ at → place < at
    greater at other more = omega arith

    elsewhere : (at : ℕ) (s : Record) → at < length books → (at ≡ place → ⊥)
        → is_note_of (slice_index_or books at s).cell note ≡ false
    elsewhere at s within other =
        elim (cases_Bool (is_cell (slice_index_or books at s).cell (cell_of note))) [
          | inl is ↦
              let d = s.cell in
              let within_cells = subst (λ n. at < n) long within in
              let both = subst (λ (c : Cell). is_cell (slice_index_or cells at d) c ≡ true)
              (same_cell (cell_of note) (slice_index_or cells place d) (is_at d))
              (subst (λ (c : Cell). is_cell c (cell_of note) ≡ true) (cell_at cells books at d s right within) is) in
              elim (cases_lt at place) [
                | inl less ↦ absurd (same_place cells at place d distinct within_cells of_cells both less)
                | inr more ↦ absurd (same_place cells place at d distinct of_cells within_cells
                    (other_way (slice_index_or cells at d) (slice_index_or cells place d) both)
                    (greater at other more))
              ]
          | inr not ↦ not
        ]

-- the pass under way has ended at the cells before a place, and at no others
pub record IsEndedBefore (at : ℕ) (old new : List CellNotes) : Type 0 where
  pub places : length new ≡ length old
  pub ended : (place : ℕ) (n : CellNotes) → place < at
      → (r : Record) (earlier : List (List Note)) (given : List Note)
      → HasNoted r earlier given (slice_index_or old place n)
      → HasNoted r (earlier ++ given ∷ []) [] (slice_index_or new place n)
  pub rest : (place : ℕ) (n : CellNotes) → at ≤ place → slice_index_or new place n ≡ slice_index_or old place n

-- before a walk over the cells it has ended at none
pub none_ended : (noted : List CellNotes) → IsEndedBefore 0 noted noted
none_ended noted = record {
  places = refl;
  ended = λ place n lt. absurd (none place lt);
  rest = λ place n le. refl;
}
  where
    none : (place : ℕ) → place < 0 → ⊥
    none place lt = omega arith

-- one cell more at which it has
pub one_ended : (at : ℕ) (old now : List CellNotes) (d new : CellNotes)
    → at < length now
    → ((r : Record) (earlier : List (List Note)) (given : List Note)
    → HasNoted r earlier given (slice_index_or now at d)
    → HasNoted r (earlier ++ given ∷ []) [] new)
    → IsEndedBefore at old now
    → IsEndedBefore (at + 1) old (slice_set now at new)
one_ended at old now d new within end is = record {
  places = length-set now at new ∙ is.places;
  ended = λ place n lt r earlier given has. elim (cases_Bool (eqb place at)) [
    | inl same ↦ subst (λ k. HasNoted r (earlier ++ given ∷ []) [] (slice_index_or (slice_set now at new) k n))
        (sym (eqb-true place at same)) (subst (HasNoted r (earlier ++ given ∷ []) [])
        (sym (get_or-set_same now at new n within)) (end r earlier given
        (subst (HasNoted r earlier given) (here n)
        (subst (λ k. HasNoted r earlier given (slice_index_or old k n)) (eqb-true place at same) has))))
    | inr other ↦ subst (HasNoted r (earlier ++ given ∷ []) [])
        (sym (get_or-set_other now at place new n (eqb-false place at other)))
        (is.ended place n (below place lt (eqb-false place at other)) r earlier given has)
  ];
  rest = λ place n le. get_or-set_other now at place new n (apart place le) ∙ is.rest place n (further place le);
}
  where
    here : (n : CellNotes) → slice_index_or old at n ≡ slice_index_or now at d
    here n = sym (is.rest at n (omega arith)) ∙ get_or_default now at n d within

    below : (place : ℕ) → place < at + 1 → (place ≡ at → ⊥) → place < at
    below place lt other = omega arith

    apart : (place : ℕ) → at + 1 ≤ place → place ≡ at → ⊥
    apart place le same = omega arith

    further : (place : ℕ) → at + 1 ≤ place → at ≤ place
    further place le = omega arith

-- and the end of the pass at all of them
pub noted_ended : (books : List Record) (earlier : List (List Note)) (given : List Note) (old new : List CellNotes)
    (at : ℕ)
    → AreNoted books earlier given old
    → length new ≤ at
    → IsEndedBefore at old new
    → AreNoted books (earlier ++ given ∷ []) [] new
noted_ended books earlier given old new at are all is = record {
  places = is.places ∙ are.places;
  each = λ place r n within. is.ended place n (reached place within) (slice_index_or books place r) earlier given
      (are.each place r n within);
}
  where
    long : length new ≡ length books
    long = is.places ∙ are.places

    reached : (place : ℕ) → place < length books → place < at
    reached place within = omega (arith, long, all)

-- the notes that stand at a book's place are those of its cell
pub noted_at : (books : List Record) (passes : List (List Note)) (noted : List CellNotes) (place : ℕ) (r : Record)
    (notes : CellNotes)
    → AreNoted books passes [] noted
    → place < length books
    → r ≡ slice_index_or books place r
    → notes ≡ slice_index_or noted place notes
    → HasNoted r passes [] notes
noted_at books passes noted place r notes are within r_is notes_is =
    subst (λ (s : Record). HasNoted s passes [] notes) (sym r_is)
    (subst (HasNoted (slice_index_or books place r) passes []) (sym notes_is) (are.each place r notes within))
