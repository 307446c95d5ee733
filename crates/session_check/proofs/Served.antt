-- What the books of cells hold after what the cells were asked.
use Rattle.std.proofs.Common.{◌≡◌, ◌≢◌, ℕ, ◌<◌, ◌≤◌, ◌+◌, suc, Bool, true, false, cond, List, [], ◌∷◌, ◌++◌, All, Some}
use Rattle.std.specs.Prelude.{IfOk, Result, Ok, Err}
use Rattle.std.specs.declared.alloc.AllocError.{AllocError}
use Rattle.std.proofs.Common.{◌⊎◌, None, map, filter, length, get_or, set, refl, sym, subst, ap, ◌∙◌, arith, inl, inr}
use Rattle.std.specs.List.{AllZip, slice_get}
use Rattle.std.proofs.lemmas.Bool.{cases_Bool, cases_eq, cases_lt}
use Rattle.std.proofs.lemmas.List.{append-nil, append_assoc, get_or-map, get_or-set_other, get_or-set_same, length-map}
use Rattle.std.proofs.lemmas.List.{length-append, length-set, map-append}
use Rattle.std.proofs.lemmas.List.Elements.{All-append, All-cons, All-head, All-map, All-nil, All-tail, All-weaker}
use Rattle.std.proofs.lemmas.List.Elements.{filter-append}
use Rattle.std.proofs.lemmas.List.Folds.{list_any_at}
use Rattle.std.proofs.lemmas.Option.{get_or_from_slice_get, slice_get_within}
use Rattle.std.proofs.Math.Seq.{map-set_same}
use Rattle.cbsp_wire.specs.declared.message.Cell.{Cell}
use Rattle.cbsp_wire.specs.Range.{are_distinct, is_cell}
use Rattle.cbsp_wire.proofs.CellLists.{distinct_from, found_near, is_itself, same_cell}
use Rattle.bsc_table.specs.declared.command.Command.{Command}
use Rattle.bsc_table.specs.declared.command.Command.TheVariants as commands
use Rattle.bsc_table.specs.declared.entry.Answer.{Answer}
use Rattle.bsc_table.specs.declared.entry.Answer.TheVariants as answers
use Rattle.bsc_table.specs.declared.entry.Entry.{Entry}
use Rattle.bsc_table.specs.Record.{Record}
use Rattle.bsc_table.specs.Transitions.{opened}
use Rattle.order_desk.specs.Reply.{IsAnswerTo, cells_answered}
use Rattle.order_desk.specs.ReplyLaws.{IsOrdered}
use Rattle.order_desk.specs.Settled.{IsPlayedOut}
use Rattle.book_runs.specs.Run.{Asked, Exchange, IsRunOfBook, asked_of, entries_for, given_slot, is_among}
use Rattle.session_check.specs.AloneSteps.{HasServed, HaveAnsweredFrom, HaveRoomFor, HaveServed, IsAnsweredFrom}
use Rattle.session_check.specs.AloneSteps.{IsUnknownIfForeign, asked_by_all, clock_for}
use Rattle.session_check.specs.NotedSteps.{asked_at, record_cells}
use Rattle.session_check.proofs.Noted.{clash}

-- the entry of what a cell is asked, in a slot
abbrev entry_at : Asked → ℕ → Entry
entry_at a slot = record { command = a.command; slot = slot; answer = a.answer }

-- what is asked last moves the clock last, and has the last entry
clock_after : (slots clock : ℕ) (asked : List Asked) (a : Asked)
    → clock_for slots clock (asked ++ a ∷ []) ≡ given_slot slots (clock_for slots clock asked) a.at
clock_after slots clock [] a = refl
clock_after slots clock (b ∷ asked) a = clock_after slots (given_slot slots clock b.at) asked a

entries_after : (slots clock : ℕ) (asked : List Asked) (a : Asked)
    → entries_for slots clock (asked ++ a ∷ [])
    ≡ entries_for slots clock asked ++ entry_at a (given_slot slots (clock_for slots clock asked) a.at) ∷ []
entries_after slots clock [] a = refl
entries_after slots clock (b ∷ asked) a =
    ap (λ (entries : List Entry). entry_at b (given_slot slots clock b.at) ∷ entries)
    (entries_after slots (given_slot slots clock b.at) asked a)

-- one more command
has_served_one : (slots at : ℕ) (command : Command) (answer : Answer) (asked : List Asked) (before after : Record)
    → HasServed slots asked before
    → IsAnsweredFrom at command answer before after
    → HasServed slots (asked ++ asked_at at command answer ∷ []) after
has_served_one slots at command answer asked before after had is =
    let a = asked_at at command answer in
    let slot : given_slot before.slots before.clock at ≡ given_slot slots (clock_for slots 0 asked) at =
    ap (λ (n : ℕ). given_slot n before.clock at) had.run ∙ ap (λ (n : ℕ). given_slot slots n at) had.stands in record {
      run = is.run ∙ had.run;
      stands = is.stands ∙ slot ∙ sym (clock_after slots 0 asked a);
      entries = is.entered
          ∙ ap (λ (log : List Entry). log ++ entry_at a (given_slot before.slots before.clock at) ∷ []) had.entries
          ∙ ap (λ (n : ℕ). entries_for slots 0 asked ++ entry_at a n ∷ []) slot ∙ sym (entries_after slots 0 asked a);
    }

-- what one answer asks of the cell itself, and of another
asked_itself : (at : ℕ) (command : Command) (answer : Answer) (cell other : Cell) → is_cell other cell ≡ true
    → asked_by_all at command ((cell, answer) ∷ []) other ≡ asked_at at command answer ∷ []
asked_itself at command answer cell other is =
    ap (λ b. map (λ (a : Cell × Answer). asked_at at command a.1) (cond b ((cell, answer) ∷ []) [])) is

asked_no_other : (at : ℕ) (command : Command) (answer : Answer) (cell other : Cell) → is_cell other cell ≡ false
    → asked_by_all at command ((cell, answer) ∷ []) other ≡ []
asked_no_other at command answer cell other is =
    ap (λ b. map (λ (a : Cell × Answer). asked_at at command a.1) (cond b ((cell, answer) ∷ []) [])) is

-- answers one after the other
asked_append : (at : ℕ) (command : Command) (xs ys : List (Cell × Answer)) (cell : Cell)
    → asked_by_all at command (xs ++ ys) cell
    ≡ asked_by_all at command xs cell ++ asked_by_all at command ys cell
asked_append at command xs ys cell =
    ap (map (λ (a : Cell × Answer). asked_at at command a.1)) (filter-append (λ a. is_cell cell a.0) xs ys)
    ∙ map-append (λ (a : Cell × Answer). asked_at at command a.1) (filter (λ a. is_cell cell a.0) xs)
    (filter (λ a. is_cell cell a.0) ys)

-- the same of equal asks
pub same_served : (slots : ℕ) (one other : Cell → List Asked) (books : List Record)
    → ((cell : Cell) → one cell ≡ other cell)
    → HaveServed slots one books
    → HaveServed slots other books
same_served slots one other books same had =
    All-weaker (λ (r : Record). HasServed slots (one r.cell) r) (λ (r : Record). HasServed slots (other r.cell) r)
    (λ r has. subst (λ (asked : List Asked). HasServed slots asked r) (same r.cell) has) books had

-- a log that has room for the entries of some cells
abbrev HasRoomFor : List Cell → Record → Type 0
HasRoomFor named r = length r.log + length (filter (is_cell r.cell) named) ≤ 4096

-- of a longer list no fewer cells are kept
kept_more : (b : Bool) (cell : Cell) (kept : List Cell) → length kept ≤ length (cond b (cell ∷ kept) kept)
kept_more true cell kept = omega arith
kept_more false cell kept = omega arith

kept_first : (b : Bool) (cell : Cell) (kept : List Cell)
    → length (cond b (cell ∷ []) []) ≤ length (cond b (cell ∷ kept) kept)
kept_first true cell kept = omega arith
kept_first false cell kept = omega arith

-- room for a list of cells is room for the first of them, and for the others
pub room_for_first : (cell : Cell) (later : List Cell) (books : List Record)
    → HaveRoomFor (cell ∷ later) books
    → HaveRoomFor (cell ∷ []) books
room_for_first cell later books room =
    All-weaker (HasRoomFor (cell ∷ later)) (HasRoomFor (cell ∷ []))
    (λ r has. omega (arith, has, kept_first (is_cell r.cell cell) cell (filter (is_cell r.cell) later))) books room

room_for_later : (cell : Cell) (later : List Cell) (books : List Record)
    → HaveRoomFor (cell ∷ later) books
    → HaveRoomFor later books
room_for_later cell later books room =
    All-weaker (HasRoomFor (cell ∷ later)) (HasRoomFor later)
    (λ r has. omega (arith, has, kept_more (is_cell r.cell cell) cell (filter (is_cell r.cell) later))) books room

-- no answers
pub answered_none : (cells : List Cell) (at : ℕ) (command : Command) (books : List Record)
    → HaveAnsweredFrom cells at command [] books books
answered_none cells at command books = record {
  same = refl;
  fit = All-nil (λ a. IsAnswerTo command a.1);
  foreign = All-nil (IsUnknownIfForeign cells);
  served = λ slots asked had.
      same_served slots asked (λ cell. asked cell ++ []) books (λ cell. sym (append-nil (asked cell))) had;
  room = λ later had. had;
}

-- one more
pub answered_more : (cells : List Cell) (at : ℕ) (command : Command) (done : List (Cell × Answer))
    (next : Cell × Answer) (before mid after : List Record)
    → HaveAnsweredFrom cells at command done before mid
    → HaveAnsweredFrom cells at command (next ∷ []) mid after
    → HaveAnsweredFrom cells at command (done ++ next ∷ []) before after
answered_more cells at command done next before mid after first then = record {
  same = then.same ∙ first.same;
  fit = All-append (λ a. IsAnswerTo command a.1) done (next ∷ []) first.fit then.fit;
  foreign = All-append (IsUnknownIfForeign cells) done (next ∷ []) first.foreign then.foreign;
  served = λ slots asked had.
      same_served slots
      (λ cell. (asked cell ++ asked_by_all at command done cell) ++ asked_by_all at command (next ∷ []) cell)
      (λ cell. asked cell ++ asked_by_all at command (done ++ next ∷ []) cell) after
      (λ cell. append_assoc (asked cell) (asked_by_all at command done cell)
      (asked_by_all at command (next ∷ []) cell)
      ∙ ap (λ (more : List Asked). asked cell ++ more) (sym (asked_append at command done (next ∷ []) cell)))
      (then.served slots (λ cell. asked cell ++ asked_by_all at command done cell) (first.served slots asked had));
  room = λ later had.
      then.room later (first.room (next.0 ∷ later) (subst (λ (named : List Cell). HaveRoomFor named before)
      (ap (λ (cells : List Cell). cells ++ later)
      (map-append (λ (a : Cell × Answer). a.0) done (next ∷ []))
      ∙ append_assoc (cells_answered done) (next.0 ∷ []) later) had));
}

-- a refusal is an answer to each order
refusal_fits : (command : Command) (cause : ℕ) → IsOrdered command → IsAnswerTo command (answers.Cause cause)
refusal_fits (commands.Write id serial None category dcs period broadcasts contents) cause ordered = tt
refusal_fits (commands.Write id serial (Some old) category dcs period broadcasts contents) cause ordered = tt
refusal_fits (commands.Kill id serial) cause ordered = tt
refusal_fits (commands.Status id serial) cause ordered = absurd ordered

-- a book's cell is the cell of its place
cell_of_place : (cells : List Cell) (books : List Record) (i : ℕ) (d : Record)
    → record_cells books ≡ cells
    → i < length books
    → (get_or books i d).cell ≡ get_or cells i d.cell
cell_of_place cells books i d same within =
    sym (get_or-map (λ (r : Record). r.cell) books i d d.cell within)
    ∙ ap (λ (cs : List Cell). get_or cs i d.cell) same

-- there are as many books as cells
pub place_within : (cells : List Cell) (books : List Record) → record_cells books ≡ cells → length cells ≡ length books
place_within cells books same = sym (ap length same) ∙ length-map books (λ (r : Record). r.cell)

-- a cell that isn't among the books' is none of them
is_none_of : (cells : List Cell) (books : List Record) (cell : Cell) (i : ℕ) (d : Record)
    → record_cells books ≡ cells
    → is_among cells cell ≡ false
    → i < length books
    → is_cell (get_or books i d).cell cell ≡ false
is_none_of cells books cell i d same foreign within =
    let r = get_or books i d in
    elim (cases_Bool (is_cell r.cell cell)) [
      | inl is ↦
          let at_place : get_or cells i d.cell ≡ cell =
          sym (cell_of_place cells books i d same within) ∙ same_cell r.cell cell is in
          absurd (clash (is_among cells cell) (list_any_at (is_cell cell) cells i d.cell
          (omega (arith, within, place_within cells books same))
          (subst (λ (c : Cell). is_cell cell c ≡ true) (sym at_place) (is_itself cell))) foreign)
      | inr other ↦ other
    ]

-- what nobody of the books was asked leaves them
not_asked : (slots at : ℕ) (command : Command) (answer : Answer) (cell : Cell) (asked : Cell → List Asked) (r : Record)
    → is_cell r.cell cell ≡ false
    → HasServed slots (asked r.cell) r
    → HasServed slots (asked r.cell ++ asked_by_all at command ((cell, answer) ∷ []) r.cell) r
not_asked slots at command answer cell asked r other had =
    subst (λ (all : List Asked). HasServed slots all r)
    (sym (ap (λ (more : List Asked). asked r.cell ++ more) (asked_no_other at command answer cell r.cell other)
    ∙ append-nil (asked r.cell))) had

-- so it is answered as unknown, and the books stay
pub answered_unknown : (cells : List Cell) (at : ℕ) (command : Command) (cell : Cell) (books : List Record)
    → record_cells books ≡ cells
    → is_among cells cell ≡ false
    → IsOrdered command
    → HaveAnsweredFrom cells at command ((cell, answers.Cause 0x03) ∷ []) books books
answered_unknown cells at command cell books same foreign ordered = record {
  same = refl;
  fit = All-cons (λ a. IsAnswerTo command a.1) (cell, answers.Cause 0x03) [] (refusal_fits command 0x03 ordered)
      (All-nil (λ a. IsAnswerTo command a.1));
  foreign = All-cons (IsUnknownIfForeign cells) (cell, answers.Cause 0x03) [] (λ _. refl)
      (All-nil (IsUnknownIfForeign cells));
  served = λ slots asked had i d within.
      not_asked slots at command (answers.Cause 0x03) cell asked (get_or books i d)
      (is_none_of cells books cell i d same foreign within) (had i d within);
  room = λ later had. room_for_later cell later books had;
}

-- the log of a place's cell has room for one entry, and for those of the later cells
room_there : (cells : List Cell) (cell : Cell) (later : List Cell) (place : ℕ) (books : List Record) (before : Record)
    → record_cells books ≡ cells
    → slice_get cells place ≡ Some cell
    → before ≡ get_or books place before
    → HaveRoomFor (cell ∷ later) books
    → length before.log + suc (length (filter (is_cell before.cell) later)) ≤ 4096
room_there cells cell later place books before same there is_before room =
    let inside : place < length books =
    omega (arith, slice_get_within cells place cell there, place_within cells books same) in
    let own : before.cell ≡ cell =
    ap (λ (r : Record). r.cell) is_before ∙ cell_of_place cells books place before same inside
    ∙ get_or_from_slice_get cells place cell before.cell there in
    let kept = filter (is_cell before.cell) later in
    subst (λ b. length before.log + length (cond b (cell ∷ kept) kept) ≤ 4096)
    (ap (λ (c : Cell). is_cell c cell) own ∙ is_itself cell)
    (subst (HasRoomFor (cell ∷ later)) (sym is_before) (room place before inside))

-- so the cell can answer
pub room_at : (cells : List Cell) (cell : Cell) (place : ℕ) (books : List Record) (before : Record)
    → record_cells books ≡ cells
    → slice_get cells place ≡ Some cell
    → before ≡ get_or books place before
    → HaveRoomFor (cell ∷ []) books
    → length before.log < 4096
room_at cells cell place books before same there is_before room =
    let one = room_there cells cell [] place books before same there is_before room in omega (arith, one)

-- the cells of two places aren't one
is_another : (cells : List Cell) (books : List Record) (cell : Cell) (place i : ℕ) (d : Record)
    → record_cells books ≡ cells
    → are_distinct cells ≡ true
    → slice_get cells place ≡ Some cell
    → i ≢ place
    → i < length books
    → is_cell (get_or books i d).cell cell ≡ false
is_another cells books cell place i d same distinct there apart within =
    let r = get_or books i d in
    let pairs = distinct_from cells distinct in
    let own : get_or cells place d.cell ≡ cell = get_or_from_slice_get cells place cell d.cell there in
    let count = place_within cells books same in
    let in_cells : place < length cells = slice_get_within cells place cell there in
    elim (cases_Bool (is_cell r.cell cell)) [
      | inl is ↦
          let at_place : get_or cells i d.cell ≡ get_or cells place d.cell =
          sym (cell_of_place cells books i d same within) ∙ same_cell r.cell cell is ∙ sym own in
          elim (cases_lt i place) [
            | inl before ↦ absurd (pairs i place d.cell before in_cells at_place)
            | inr after ↦ absurd (pairs place i d.cell (omega (arith, after, apart))
                (omega (arith, within, count)) (sym at_place))
          ]
      | inr other ↦ other
    ]

-- the cell of a place answered: the other books are as they were
pub answered_there : (cells : List Cell) (at : ℕ) (command : Command) (answer : Answer) (cell : Cell) (place : ℕ)
    (books : List Record) (before after : Record)
    → record_cells books ≡ cells
    → are_distinct cells ≡ true
    → slice_get cells place ≡ Some cell
    → before ≡ get_or books place before
    → IsAnsweredFrom at command answer before after
    → HaveAnsweredFrom cells at command ((cell, answer) ∷ []) books (set books place after)
answered_there cells at command answer cell place books before after same distinct there is_before is =
    record {
      same = map-set_same (λ (r : Record). r.cell) books place after before
          (is.cell ∙ ap (λ (r : Record). r.cell) is_before);
      fit = All-cons (λ a. IsAnswerTo command a.1) (cell, answer) [] is.fit (All-nil (λ a. IsAnswerTo command a.1));
      foreign = All-cons (IsUnknownIfForeign cells) (cell, answer) []
          (λ foreign. absurd (clash (is_among cells cell) (found_near cells cell place there) foreign))
          (All-nil (IsUnknownIfForeign cells));
      served = each;
      room = room_left;
    }
  where
    inside : place < length books
    inside = omega (arith, slice_get_within cells place cell there, place_within cells books same)

    own_cell : before.cell ≡ cell
    own_cell =
        ap (λ (r : Record). r.cell) is_before ∙ cell_of_place cells books place before same inside
        ∙ get_or_from_slice_get cells place cell before.cell there

    here : (slots : ℕ) (asked : Cell → List Asked)
        → HaveServed slots asked books
        → HasServed slots (asked after.cell ++ asked_by_all at command ((cell, answer) ∷ []) after.cell) after
    here slots asked had =
        let had_here : HasServed slots (asked before.cell) before =
        subst (λ (r : Record). HasServed slots (asked r.cell) r) (sym is_before) (had place before inside) in
        let one = has_served_one slots at command answer (asked before.cell) before after had_here is in
        let itself : is_cell after.cell cell ≡ true =
        subst (λ (c : Cell). is_cell c cell ≡ true) (sym (is.cell ∙ own_cell)) (is_itself cell) in
        subst (λ (all : List Asked). HasServed slots all after)
        (ap (λ (c : Cell). asked c ++ asked_at at command answer ∷ []) (sym is.cell)
        ∙ ap (λ (more : List Asked). asked after.cell ++ more)
        (sym (asked_itself at command answer cell after.cell itself))) one

    each : (slots : ℕ) (asked : Cell → List Asked)
        → HaveServed slots asked books
        → HaveServed slots (λ c. asked c ++ asked_by_all at command ((cell, answer) ∷ []) c) (set books place after)
    each slots asked had i d within = by_place (cases_eq i place)
      where
        Has : Record → Type 0
        Has r = HasServed slots (asked r.cell ++ asked_by_all at command ((cell, answer) ∷ []) r.cell) r

        by_place : (i ≡ place) ⊎ (i ≢ place) → Has (get_or (set books place after) i d)
        by_place (inl own) =
            subst Has (sym (ap (λ (k : ℕ). get_or (set books place after) k d) own
            ∙ get_or-set_same books place after d inside)) (here slots asked had)
        by_place (inr apart) =
            let i_within : i < length books = omega (arith, within, length-set books place after) in
            subst Has (sym (get_or-set_other books place i after d apart))
            (not_asked slots at command answer cell asked (get_or books i d)
            (is_another cells books cell place i d same distinct there apart i_within) (had i d i_within))

    room_left : (later : List Cell) → HaveRoomFor (cell ∷ later) books → HaveRoomFor later (set books place after)
    room_left later had i d within = by_place (cases_eq i place)
      where
        room_here : HasRoomFor later after
        room_here =
            let one = room_there cells cell later place books before same there is_before had in
            let entries : length after.log ≡ length before.log + 1 =
            ap length is.entered ∙ length-append before.log _ in
            subst (λ (c : Cell). length after.log + length (filter (is_cell c) later) ≤ 4096) (sym is.cell)
            (omega (arith, one, entries))

        by_place : (i ≡ place) ⊎ (i ≢ place) → HasRoomFor later (get_or (set books place after) i d)
        by_place (inl own) =
            subst (HasRoomFor later) (sym (ap (λ (k : ℕ). get_or (set books place after) k d) own
            ∙ get_or-set_same books place after d inside)) room_here
        by_place (inr apart) =
            subst (HasRoomFor later) (sym (get_or-set_other books place i after d apart))
            (room_for_later cell later books had i d (omega (arith, within, length-set books place after)))

-- so, if it answered
pub answered_place : (cells : List Cell) (at : ℕ) (command : Command) (cell : Cell) (place : ℕ) (books : List Record)
    (found : Result Answer AllocError) (before after : Record)
    → record_cells books ≡ cells
    → are_distinct cells ≡ true
    → slice_get cells place ≡ Some cell
    → before ≡ get_or books place before
    → IfOk found (λ answer. IsAnsweredFrom at command answer before after)
    → IfOk found (λ answer. HaveAnsweredFrom cells at command ((cell, answer) ∷ []) books (set books place after))
answered_place cells at command cell place books (Ok answer) before after same distinct there is_before is =
    answered_there cells at command answer cell place books before after same distinct there is_before is
answered_place cells at command cell place books (Err refused) before after same distinct there is_before is = tt

-- a new book has served nothing
pub new_served : (slots : ℕ) (cells : List Cell)
    → HaveServed slots (λ cell. []) (map (λ (cell : Cell). opened cell slots) cells)
new_served slots cells =
    All-map (λ (r : Record). HasServed slots [] r) (λ (cell : Cell). opened cell slots) cells
    (λ k d within. record { run = refl; stands = refl; entries = refl })

-- new books are of their cells
pub new_cells : (slots : ℕ) (cells : List Cell) → record_cells (map (λ (cell : Cell). opened cell slots) cells) ≡ cells
new_cells slots [] = refl
new_cells slots (cell ∷ cells) = ap (λ (all : List Cell). cell ∷ all) (new_cells slots cells)

-- a book that is played to its end after what it served
played_one : (slots : ℕ) (exchanges : List Exchange) (r s : Record)
    → HasServed slots (asked_of r.cell exchanges) r
    → IsPlayedOut r s
    → IsRunOfBook slots exchanges s
played_one slots exchanges r s had played = record {
  run = played.played.same_slots ∙ had.run;
  over = played.played.clock_at ∙ had.run;
  legal = played.legal;
  entries = played.played.same_log ∙ had.entries
      ∙ ap (λ (c : Cell). entries_for slots 0 (asked_of c exchanges)) (sym played.played.same_cell);
}

-- and all
pub played_all : (slots : ℕ) (exchanges : List Exchange) (books records : List Record)
    → HaveServed slots (λ cell. asked_of cell exchanges) books
    → AllZip IsPlayedOut books records
    → All (IsRunOfBook slots exchanges) records
played_all slots exchanges [] [] had played = All-nil (IsRunOfBook slots exchanges)
played_all slots exchanges [] (s ∷ records) had played = absurd played
played_all slots exchanges (r ∷ books) [] had played = absurd played
played_all slots exchanges (r ∷ books) (s ∷ records) had played =
    let Has : Record → Type 0 = λ x. HasServed slots (asked_of x.cell exchanges) x in
    All-cons (IsRunOfBook slots exchanges) s records
    (played_one slots exchanges r s (All-head Has r books had) played.0)
    (played_all slots exchanges books records (All-tail Has r books had) played.1)

-- and of the same cells
pub played_cells : (books records : List Record) → AllZip IsPlayedOut books records
    → record_cells records ≡ record_cells books
played_cells [] [] played = refl
played_cells [] (s ∷ records) played = absurd played
played_cells (r ∷ books) [] played = absurd played
played_cells (r ∷ books) (s ∷ records) played =
    ap (λ (c : Cell). c ∷ record_cells records) played.0.played.same_cell
    ∙ ap (λ (cs : List Cell). r.cell ∷ cs) (played_cells books records played.1)
