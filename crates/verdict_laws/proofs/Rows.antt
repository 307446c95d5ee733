-- The row of an entry says what the entry does: whether it begins a message, whether it ends one, and that it was
-- answered.
use Rattle.std.proofs.Common.{◌≡◌, ℕ, Bool, true, false, Option, Some, None, List, [], ◌∷◌, ◌++◌, find, refl, sym}
use Rattle.std.proofs.Common.{ap, ◌∙◌, inl, inr, cond}
use Rattle.std.specs.Prelude.{◌&&◌, ◌||◌, ◌==◌, ◌⊎◌}
use Rattle.std.specs.List.{AllByRecursion, flat_map, list_any}
use Rattle.std.proofs.Math.Bool.{and-false, or-false}
use Rattle.std.proofs.lemmas.Grind.{flat_map-append}
use Rattle.std.proofs.lemmas.List.Folds.{list_any-append}
use Rattle.bsc_table.specs.declared.command.Command.{Command}
use Rattle.bsc_table.specs.declared.command.Command.TheVariants as commands
use Rattle.bsc_table.specs.declared.entry.Answer.{Answer}
use Rattle.bsc_table.specs.declared.entry.Answer.TheVariants as answers
use Rattle.bsc_table.specs.declared.entry.Entry.{Entry}
use Rattle.bsc_table.specs.Record.{Record, is_stop_by, is_stop_of, start_of}
use Rattle.bsc_table.specs.Reported.{completed_in}
use Rattle.cell_orders.specs.declared.row.CellOrder.{CellOrder}
use Rattle.cell_orders.specs.declared.row.CellOrder.TheVariants as rows
use Rattle.cell_orders.specs.declared.row.OrderRow.{OrderRow}
use Rattle.record_orders.specs.Ordered.{answer_said, category_number, row_in_slot, rows_of_command, rows_of_entry}
use Rattle.verification.specs.Asked.{AskedMessage, asked_from, asked_of_entry, asked_of_log}
use Rattle.order_verdict.specs.Ordered.{begins, begins_row, ends, ends_row, row_slot, told_by}
use Rattle.order_verdict.specs.Verdict.{unanswered, unanswered_by}
use Rattle.verdict_laws.proofs.Answered.{Fits, IsKnown}

-- the order of a row; that of a status stands in none
abbrev pub order_of : Command → Answer → CellOrder
order_of (commands.Write id serial replaces category dcs period broadcasts contents) answer =
    rows.Write id serial replaces (category_number category) period broadcasts dcs contents (answer_said answer)
order_of (commands.Kill id serial) answer = rows.Kill id serial (answer_said answer)
order_of (commands.Status id serial) answer = rows.Clear

-- a message has this identifier and serial number
abbrev pub is_named : (id serial : ℕ) → AskedMessage → Bool
is_named id serial a = (id == a.id) && (serial == a.serial)

-- what an entry's row says
pub record HasRow (command : Command) (answer : Answer) : Type 0 where
  pub rows_are : (slot : ℕ) → rows_of_command slot (answer_said answer) command
      ≡ row_in_slot slot (order_of command answer) ∷ []
  pub ends_is : (id serial : ℕ) → ends id serial (order_of command answer) ≡ is_stop_by id serial command answer
  pub told_is : told_by (order_of command answer) ≡ completed_in answer
  pub answered : (at : ℕ) → unanswered_by at (order_of command answer) ≡ []
  pub begins_is : (id serial : ℕ) (later : List Entry) → begins id serial (order_of command answer)
      ≡ list_any (is_named id serial) (asked_from (start_of answer) command later)

-- an entry without a row does nothing
pub record HasNone (command : Command) (answer : Answer) : Type 0 where
  pub rows_are : (slot : ℕ) → rows_of_command slot (answer_said answer) command ≡ []
  pub stops : (id serial : ℕ) → is_stop_by id serial command answer ≡ false
  pub asks : (later : List Entry) → asked_from (start_of answer) command later ≡ []

-- a status asks for nothing
pub none-asked : (start : Option ℕ) (id serial : ℕ) (later : List Entry) →
    asked_from start (commands.Status id serial) later ≡ []
none-asked None id serial later = refl
none-asked (Some start) id serial later = refl

-- each entry whose answer fits has a row or does nothing
pub row-of : (command : Command) (answer : Answer) → Fits command answer →
    HasNone command answer ⊎ HasRow command answer
row-of (commands.Status id serial) answer fits = inl (record {
  rows_are = λ slot. refl;
  stops = λ i s. refl;
  asks = λ later. none-asked (start_of answer) id serial later;
})
row-of (commands.Kill id serial) (answers.Stopped completed) fits = inr (record {
  rows_are = λ slot. refl;
  ends_is = λ i s. refl;
  told_is = refl;
  answered = λ at. refl;
  begins_is = λ i s later. refl;
})
row-of (commands.Kill id serial) (answers.Cause cause) fits = inr (record {
  rows_are = λ slot. refl;
  ends_is = λ i s. refl;
  told_is = refl;
  answered = λ at. refl;
  begins_is = λ i s later. refl;
})
row-of (commands.Kill id serial) (answers.Started slot) fits = absurd fits
row-of (commands.Kill id serial) (answers.Replaced slot completed) fits = absurd fits
row-of (commands.Kill id serial) (answers.Told completed state) fits = absurd fits
row-of (commands.Kill id serial) answers.Unknown fits = absurd fits
row-of (commands.Kill id serial) answers.Refused fits = absurd fits
row-of (commands.Write id serial None category dcs period broadcasts contents) (answers.Started slot) fits =
    inr (record {
      rows_are = λ at. refl;
      ends_is = λ i s. and-false (i == id);
      told_is = refl;
      answered = λ at. refl;
      begins_is = λ i s later. sym (or-false ((i == id) && (s == serial)));
    })
row-of (commands.Write id serial None category dcs period broadcasts contents) (answers.Cause cause) fits =
    inr (record {
      rows_are = λ at. refl;
      ends_is = λ i s. refl;
      told_is = refl;
      answered = λ at. refl;
      begins_is = λ i s later. refl;
    })
row-of (commands.Write id serial None category dcs period broadcasts contents) (answers.Replaced slot completed) fits =
    absurd fits
row-of (commands.Write id serial None category dcs period broadcasts contents) (answers.Stopped completed) fits =
    absurd fits
row-of (commands.Write id serial None category dcs period broadcasts contents) (answers.Told completed state) fits =
    absurd fits
row-of (commands.Write id serial None category dcs period broadcasts contents) answers.Unknown fits = absurd fits
row-of (commands.Write id serial None category dcs period broadcasts contents) answers.Refused fits = absurd fits
row-of (commands.Write id serial (Some old) category dcs period broadcasts contents) (answers.Replaced slot completed)
    fits = inr (record {
      rows_are = λ at. refl;
      ends_is = λ i s. refl;
      told_is = refl;
      answered = λ at. refl;
      begins_is = λ i s later. sym (or-false ((i == id) && (s == serial)));
    })
row-of (commands.Write id serial (Some old) category dcs period broadcasts contents) (answers.Cause cause) fits =
    inr (record {
      rows_are = λ at. refl;
      ends_is = λ i s. refl;
      told_is = refl;
      answered = λ at. refl;
      begins_is = λ i s later. refl;
    })
row-of (commands.Write id serial (Some old) category dcs period broadcasts contents) (answers.Started slot) fits =
    absurd fits
row-of (commands.Write id serial (Some old) category dcs period broadcasts contents) (answers.Stopped completed) fits =
    absurd fits
row-of (commands.Write id serial (Some old) category dcs period broadcasts contents) (answers.Told completed state)
    fits = absurd fits
row-of (commands.Write id serial (Some old) category dcs period broadcasts contents) answers.Unknown fits = absurd fits
row-of (commands.Write id serial (Some old) category dcs period broadcasts contents) answers.Refused fits = absurd fits

-- the row of an entry that has one
abbrev pub own_row : Entry → OrderRow
own_row e = row_in_slot e.slot (order_of e.command e.answer)

-- the rows of entries, and none of them lacks its answer
none-unanswered : (e : Entry) → HasNone e.command e.answer ⊎ HasRow e.command e.answer →
    flat_map unanswered (rows_of_entry e) ≡ []
none-unanswered e (inl none) = ap (flat_map unanswered) (none.rows_are e.slot)
none-unanswered e (inr has) =
    ap (flat_map unanswered) (has.rows_are e.slot)
    ∙ ap (λ found. found ++ []) (has.answered (row_slot e.slot))

-- none of a history's rows lacks its answer
pub all-answered : (r : Record) (log : List Entry) → AllByRecursion (IsKnown r) log →
    flat_map unanswered (flat_map rows_of_entry log) ≡ []
all-answered r [] all = refl
all-answered r (e ∷ later) all =
    flat_map-append unanswered (rows_of_entry e) (flat_map rows_of_entry later)
    ∙ ap (λ found. found ++ flat_map unanswered (flat_map rows_of_entry later))
    (none-unanswered e (row-of e.command e.answer all.0.fits))
    ∙ all-answered r later all.1

-- an entry's rows begin what it asks
begins-here : (id serial : ℕ) (e : Entry) (later : List Entry) →
    HasNone e.command e.answer ⊎ HasRow e.command e.answer →
    list_any (begins_row id serial) (rows_of_entry e) ≡ list_any (is_named id serial) (asked_of_entry e later)
begins-here id serial e later (inl none) =
    ap (list_any (begins_row id serial)) (none.rows_are e.slot)
    ∙ sym (ap (list_any (is_named id serial)) (none.asks later))
begins-here id serial e later (inr has) =
    ap (list_any (begins_row id serial)) (has.rows_are e.slot)
    ∙ or-false (begins id serial (order_of e.command e.answer)) ∙ has.begins_is id serial later

-- of an entry that is known
pub row-begins : (r : Record) (id serial : ℕ) (e : Entry) (later : List Entry) → IsKnown r e →
    list_any (begins_row id serial) (rows_of_entry e) ≡ list_any (is_named id serial) (asked_of_entry e later)
row-begins r id serial e later known = begins-here id serial e later (row-of e.command e.answer known.fits)

-- and those of all entries what all ask
pub rows-begin : (r : Record) (id serial : ℕ) (log : List Entry) → AllByRecursion (IsKnown r) log →
    list_any (begins_row id serial) (flat_map rows_of_entry log) ≡ list_any (is_named id serial) (asked_of_log log)
rows-begin r id serial [] all = refl
rows-begin r id serial (e ∷ later) all =
    list_any-append (begins_row id serial) (rows_of_entry e) (flat_map rows_of_entry later)
    ∙ ap (λ here. here || list_any (begins_row id serial) (flat_map rows_of_entry later))
    (row-begins r id serial e later all.0)
    ∙ ap (λ rest. list_any (is_named id serial) (asked_of_entry e later) || rest) (rows-begin r id serial later all.1)
    ∙ sym (list_any-append (is_named id serial) (asked_of_entry e later) (asked_of_log later))

-- the first row that ends a message is that of the first entry that stops it
pub record IsEndedBy (r : Record) (id serial : ℕ) (later : List Entry) (e : Entry) : Type 0 where
  pub known : IsKnown r e
  pub stops : is_stop_of id serial e ≡ true
  pub found : find (is_stop_of id serial) later ≡ Some e
  pub row : find (ends_row id serial) (flat_map rows_of_entry later) ≡ Some (own_row e)
  pub told : told_by (own_row e).order ≡ completed_in e.answer

-- or there is no such row, and no such entry
pub record IsEndless (id serial : ℕ) (later : List Entry) : Type 0 where
  pub found : find (is_stop_of id serial) later ≡ None
  pub row : find (ends_row id serial) (flat_map rows_of_entry later) ≡ None

-- one of the two
abbrev pub Ending : (r : Record) (id serial : ℕ) → List Entry → Type 0
Ending r id serial later = IsEndless id serial later ⊎ ((e : Entry) × IsEndedBy r id serial later e)

goes-on : (r : Record) (id serial : ℕ) (e : Entry) (later : List Entry) → is_stop_of id serial e ≡ false →
    find (ends_row id serial) (flat_map rows_of_entry (e ∷ later))
    ≡ find (ends_row id serial) (flat_map rows_of_entry later) → Ending r id serial later →
    Ending r id serial (e ∷ later)
goes-on r id serial e later stays same (inl none) = inl (record {
  found = ap (λ here. cond here (Some e) (find (is_stop_of id serial) later)) stays ∙ none.found;
  row = same ∙ none.row;
})
goes-on r id serial e later stays same (inr some) = inr (
  some.0,
  record {
    known = some.1.known;
    stops = some.1.stops;
    found = ap (λ here. cond here (Some e) (find (is_stop_of id serial) later)) stays ∙ some.1.found;
    row = same ∙ some.1.row;
    told = some.1.told;
  },
)

-- of a history's entries
pub ending : (r : Record) (id serial : ℕ) (log : List Entry) → AllByRecursion (IsKnown r) log →
    Ending r id serial log
ending r id serial [] all = inl (record { found = refl; row = refl })
ending r id serial (e ∷ later) all =
    by_row (row-of e.command e.answer all.0.fits) (ending r id serial later all.1)
  where
    with_row : HasRow e.command e.answer → (stops : Bool) → is_stop_of id serial e ≡ stops →
        Ending r id serial later → Ending r id serial (e ∷ later)
    with_row has true says rest = inr (
      e,
      record {
        known = all.0;
        stops = says;
        found = ap (λ here. cond here (Some e) (find (is_stop_of id serial) later)) says;
        row = ap (λ rows. find (ends_row id serial) (rows ++ flat_map rows_of_entry later)) (has.rows_are e.slot)
            ∙ ap (λ here. cond here (Some (own_row e))
            (find (ends_row id serial) (flat_map rows_of_entry later))) (has.ends_is id serial ∙ says);
        told = has.told_is;
      },
    )
    with_row has false says rest = goes-on r id serial e later says
        (ap (λ rows. find (ends_row id serial) (rows ++ flat_map rows_of_entry later)) (has.rows_are e.slot)
        ∙ ap (λ here. cond here (Some (own_row e)) (find (ends_row id serial) (flat_map rows_of_entry later)))
        (has.ends_is id serial ∙ says)) rest

    by_row : HasNone e.command e.answer ⊎ HasRow e.command e.answer → Ending r id serial later →
        Ending r id serial (e ∷ later)
    by_row (inl none) rest = goes-on r id serial e later (none.stops id serial)
        (ap (λ rows. find (ends_row id serial) (rows ++ flat_map rows_of_entry later)) (none.rows_are e.slot))
        rest
    by_row (inr has) rest = with_row has (is_stop_of id serial e) refl rest
