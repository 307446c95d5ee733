-- What concerns some cells of a book's run is the run of their book.
use Rattle.std.proofs.Common.{◌≡◌, ℕ, Bool, true, false, cond, List, []}
use Rattle.std.proofs.Common.{◌∷◌, ◌++◌, get_or, map, filter, refl, ap, sym, ◌∙◌}
use Rattle.std.specs.List.{All}
use Rattle.std.proofs.lemmas.List.Elements.{All-filter, All-head, All-map, All-tail, All-weaker, filter_passes}
use Rattle.cbsp_wire.specs.declared.message.Cell.{Cell}
use Rattle.reply_outcome.specs.Replies.{cells_asked}
use Rattle.bsc_table.specs.declared.entry.Answer.{Answer}
use Rattle.bsc_table.specs.Record.{Record}
use Rattle.order_desk.specs.Reply.{cells_answered}
use Rattle.book_runs.specs.CellParts.{CellsRunApart, RecordsAreThoseOfTheWhole, asks_some, is_of_some}
use Rattle.alert_book.specs.Restricted.{Keep}
use Rattle.book_runs.specs.CellParts.{kept_answers}
use Rattle.book_runs.specs.CellParts.{kept_exchange, kept_exchanges, kept_records, kept_request}
use Rattle.alert_book.specs.Restricted.{restricted}
use Rattle.book_runs.specs.Run.{Asked, Exchange, IsExchange, IsRunOfBook, asked_in, asked_of, asked_with}
use Rattle.book_runs.specs.Run.{entries_for}
use Rattle.book_runs.proofs.CellLists.{filter_mapped}
use Rattle.book_runs.proofs.KeptReplies.{kept_asks, own_kept, own_of}
use Rattle.book_runs.proofs.KeptRequests.{nothing}
use Rattle.book_runs.proofs.KeptSessions.{is_kept_exchange, turns_kept}
use Rattle.book_runs.proofs.Laws.{OneRunLaws}
use Rattle.book_runs.proofs.OneRun.{one_run}

none_mapped : {X Y : Type 0} (f : X → Y) (xs : List X) → map f xs ≡ [] → xs ≡ []
none_mapped f [] none = refl
none_mapped f (x ∷ xs) none = absurd (cc)

-- a turn asks one of these cells what its share does
asked_kept : (keep : Keep) (cell : Cell) → keep cell ≡ true → (x : Exchange)
    → asked_in cell (kept_exchange keep x) ≡ asked_in cell x
asked_kept keep cell own x = ap (map (asked_with x)) (own_kept keep cell own x.answers)

none_asked : (keep : Keep) (cell : Cell) → keep cell ≡ true → (cells : List Cell) (x : Exchange)
    → IsExchange cells x → asks_some (kept_request keep x.turn.request) ≡ false → asked_in cell x ≡ []
none_asked keep cell own cells x is none =
    let named : map (λ (a : Cell × Answer). a.0) (kept_answers keep x.answers) ≡ [] =
    sym (filter_mapped keep (λ (a : Cell × Answer). a.0) x.answers)
    ∙ sym (kept_asks keep x.turn.request.message (cells_answered x.answers) x.command is.asked)
    ∙ nothing (cells_asked (kept_request keep x.turn.request).message) none in
    sym (asked_kept keep cell own x)
    ∙ ap (λ (l : List (Cell × Answer)). map (asked_with x) (own_of cell l))
    (none_mapped (λ (a : Cell × Answer). a.0) (kept_answers keep x.answers) named)

-- one of these cells is asked the same by the exchanges that ask some of them
pub asked_same : (keep : Keep) (cell : Cell) → keep cell ≡ true → (cells : List Cell) (exchanges : List Exchange)
    → All (IsExchange cells) exchanges → asked_of cell (kept_exchanges keep exchanges) ≡ asked_of cell exchanges
asked_same keep cell own cells [] each = refl
asked_same keep cell own cells (x ∷ exchanges) each =
    let rest = asked_same keep cell own cells exchanges (All-tail (IsExchange cells) x exchanges each) in
    by_some (asks_some (kept_request keep x.turn.request)) (λ none. none_asked keep cell own cells x
    (All-head (IsExchange cells) x exchanges each) none) rest
  where
    by_some : (some : Bool) → (some ≡ false → asked_in cell x ≡ [])
        → asked_of cell (kept_exchanges keep exchanges) ≡ asked_of cell exchanges
        → asked_of cell (cond some (kept_exchange keep x ∷ kept_exchanges keep exchanges)
        (kept_exchanges keep exchanges)) ≡ asked_in cell x ++ asked_of cell exchanges
    by_some true none rest =
        ap (λ (l : List Asked). l ++ asked_of cell (kept_exchanges keep exchanges)) (asked_kept keep cell own x)
        ∙ ap (λ (l : List Asked). asked_in cell x ++ l) rest
    by_some false none rest =
        rest ∙ ap (λ (l : List Asked). l ++ asked_of cell exchanges) (sym (none refl))

-- and its record is one of their run
kept_record : (keep : Keep) (slots : ℕ) (cells : List Cell) (exchanges : List Exchange) (r : Record)
    → All (IsExchange cells) exchanges → keep r.cell ≡ true → IsRunOfBook slots exchanges r
    → IsRunOfBook slots (kept_exchanges keep exchanges) r
kept_record keep slots cells exchanges r each own run = record {
  run = run.run;
  over = run.over;
  legal = run.legal;
  entries = run.entries ∙ ap (entries_for slots 0) (sym (asked_same keep r.cell own cells exchanges each));
}

-- what concerns some cells of a book's run is a run of their book
pub cells_run_apart : CellsRunApart
cells_run_apart keep book slots exchanges records run = record {
  session = turns_kept keep book.cells book 0 1 exchanges run.exchanged run.session;
  cells = sym (filter_mapped keep (λ (r : Record). r.cell) records) ∙ ap (filter keep) run.cells;
  exchanged =
      All-filter is_of_some (IsExchange (filter keep book.cells)) (map (kept_exchange keep) exchanges)
      (All-map (IsExchange (filter keep book.cells)) (kept_exchange keep) exchanges
      (All-weaker (IsExchange book.cells) (λ (x : Exchange). IsExchange (filter keep book.cells) (kept_exchange keep x))
      (λ x is. is_kept_exchange keep book.cells x is) exchanges run.exchanged));
  each = λ k d within.
      kept_record keep slots book.cells exchanges (get_or (kept_records keep records) k d) run.exchanged
      (filter_passes (λ (r : Record). keep r.cell) records k d within)
      (All-filter (λ (r : Record). keep r.cell) (IsRunOfBook slots exchanges) records run.each k d within);
}

-- so a run of their book has their records
pub records_are_those : OneRunLaws → RecordsAreThoseOfTheWhole
records_are_those laws keep book slots exchanges others records rest whole part =
    one_run laws (restricted keep book) slots others (kept_exchanges keep exchanges) rest (kept_records keep records)
    part (cells_run_apart keep book slots exchanges records whole)
