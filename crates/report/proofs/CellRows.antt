-- The rows of a cell whose history is legal, by what was counted and noted at each place of its log.
use Rattle.std.proofs.Common.{◌≡◌, ℕ, ◌+◌, ◌<◌, Bool, Option, Some, None, List, [], ◌∷◌, ◌++◌, length, map, drop}
use Rattle.std.proofs.Common.{find, get_or}
use Rattle.std.proofs.Common.{◌≤◌, refl, sym, ◌∙◌, ap, subst, arith, append_assoc, length-append}
use Rattle.std.specs.Prelude.{nat_le}
use Rattle.std.specs.List.{All, Contains, flat_map, range_with_len, slice_get, slice_index}
use Rattle.std.specs.Option.{option_map_or, option_to_list}
use Rattle.std.proofs.Math.Seq.{drop-append-add}
use Rattle.std.proofs.lemmas.List.{get_or-map, length-map, length_push}
use Rattle.std.proofs.lemmas.List.Concat.{flat_map-cons}
use Rattle.std.proofs.lemmas.List.Elements.{All-contains, All-contains_itself, All-filter}
use Rattle.scheduler.specs.Message.{ScheduledMessage}
use Rattle.scheduler.specs.AirLaws.{LastPagesAreCompletedBroadcasts, NumbersRise}
use Rattle.scheduler.specs.Completed.{completed}
use Rattle.scheduler.specs.Pages.{times_aired}
use Rattle.bsc_table.specs.declared.command.Command.{Command}
use Rattle.bsc_table.specs.declared.command.Command.TheVariants as commands
use Rattle.bsc_table.specs.declared.entry.Answer.{Answer}
use Rattle.bsc_table.specs.declared.entry.Answer.TheVariants as answers
use Rattle.bsc_table.specs.declared.entry.Entry.{Entry}
use Rattle.bsc_table.specs.Legal.{IsLegal}
use Rattle.bsc_table.specs.Record.{Record, Accepted, added_by, accepted_in, predecessor_of, messages_in, rank_of}
use Rattle.bsc_table.specs.Record.{replaced_in, start_of, written_behind}
use Rattle.bsc_table.specs.Written.{AcceptedAreWrites, AcceptedHaveLoads, AcceptedRise}
use Rattle.handset.specs.Reception.{ShownMessage}
use Rattle.report.specs.declared.row.Row.{Row}
use Rattle.report.specs.Rows.{accepted_at, cell_rows, entry_rows, first_shown, is_at, message_row, refusal_rows}
use Rattle.report.specs.Rows.{rows_from}
use Rattle.report.specs.LastPages.{first_airing, first_last_page, page_count_of}
use Rattle.report.specs.RowSteps.{last_pages, row_at, row_by, rows_by}
use Rattle.report.specs.RowSteps.{started_row, stop_at}
use Rattle.report.specs.RowSteps.{stop_in, stop_of_command}
use Rattle.report.proofs.FirstAiring.{first-found}
use Rattle.report.proofs.EntryRows.{message-at, stopped_after, stopped-first, with_stop}

-- the laws of legal histories and of air lists that are used
pub record Laws : Type 0 where
  pub written : AcceptedAreWrites
  pub rise : AcceptedRise
  pub loads : AcceptedHaveLoads
  pub last : LastPagesAreCompletedBroadcasts

-- the completed broadcasts of an accepted message before a slot are as many as its last pages
completed-is : Laws → (r : Record) → IsLegal r → (a : Accepted) → Contains (accepted_in r.log) a → (slot : ℕ) →
    slot ≤ length r.air → completed a.message r.air slot ≡ times_aired a.message.entry a.message.pages r.air slot
completed-is laws r legal a here slot played =
    let all : List Accepted = accepted_in r.log in
    let message : Accepted → ScheduledMessage = λ x. x.message in
    let long = length-map all message in
    let loads = All-contains (λ (x : Accepted). (0 < x.message.pages) × (0 < x.message.period)) all a
    (laws.loads r legal) here in
    let rise : NumbersRise (messages_in r.log) = λ i j d less within.
    let second : j < length all = omega (arith, long, within) in
    let first : i < length all = omega (arith, less, second) in
    rw (get_or-map message all i a d first)
    (rw (get_or-map message all j a d second) (laws.rise r.log i j a less second)) in
    let there : Contains (messages_in r.log) a.message = (
      here.0,
      omega (arith, long, here.1),
      get_or-map message all here.0 a a.message here.1 ∙ ap message here.2,
    ) in
    sym (laws.last (messages_in r.log) r.air a.message slot rise there loads.0 loads.1 legal.aired played)

-- the first slot after which one is completed is the first that airs the last page
first-is : Laws → (r : Record) → IsLegal r → r.slots ≡ length r.air → (a : Accepted) →
    Contains (accepted_in r.log) a → first_shown r a ≡ first_airing a.message.entry a.message.pages r.air 0
first-is laws r legal ended a here =
    let test : ℕ → Bool = λ slot. nat_le 1 (completed a.message r.air (slot + 1)) in
    ap (λ (n : ℕ). find test (range_with_len 0 n)) ended
    ∙ first-found test r.air a.message.entry a.message.pages [] r.air refl refl
    (λ slot within. ap (λ (n : ℕ). nat_le 1 n) (completed-is laws r legal a here (slot + 1) (omega (arith, within))))

-- what has an entry's number is accepted
accepted-there : (log : List Entry) (place : ℕ) (a : Accepted) → accepted_at place log ≡ a ∷ [] →
    Contains (accepted_in log) a
accepted-there log place a is =
    let all : All (Contains (accepted_in log)) (a ∷ []) =
    subst (All (Contains (accepted_in log))) is
    (All-filter (is_at place) (Contains (accepted_in log)) (accepted_in log)
    (All-contains_itself (accepted_in log))) in
    all 0 a (omega arith)

-- without a message there are the rows of a refusal
without : (r : Record) (shown : List ShownMessage) (accepted : List Accepted) (rows : List Row) → accepted ≡ [] →
    map (message_row r shown) accepted ++ rows ≡ rows
without r shown accepted rows none = ap (λ (xs : List Accepted). map (message_row r shown) xs ++ rows) none

-- the row of a message that starts
started : Laws → (r : Record) (shown : List ShownMessage) → IsLegal r → r.slots ≡ length r.air →
    (before later : List Entry) (slot start id serial : ℕ) (replaces : Option ℕ) (category : _) (period broadcasts : ℕ)
    (dcs : _) (contents : _) → accepted_at (length before) r.log
    ≡ map (stopped_after later) (added_by (accepted_in before) (length before) slot (Some start)
    (commands.Write id serial replaces category dcs period broadcasts contents)) →
    map (message_row r shown) (accepted_at (length before) r.log) ++ []
    ≡ option_to_list (started_row r.cell (length before) r.slots shown (stop_in later (id, serial))
    (times_aired (length before) (length contents) r.air (length r.air))
    (first_airing (length before) (length contents) r.air 0)
    (commands.Write id serial replaces category dcs period broadcasts contents) start)
started laws r shown legal ended before later slot start id serial replaces category period broadcasts dcs contents is =
    let all : List Accepted = accepted_in before in
    let a : Accepted = written_behind all (length before) slot start
    (predecessor_of slot start (replaced_in all id replaces)) id serial (length contents) period broadcasts
    (rank_of category) in
    let b : Accepted = with_stop a (stop_in later (id, serial)) in
    let one : accepted_at (length before) r.log ≡ b ∷ [] =
    is ∙ ap (λ (x : Accepted). x ∷ []) (stopped-first later a refl) in
    let there : Contains (accepted_in r.log) b = accepted-there r.log (length before) b one in
    let counted : completed b.message r.air r.slots
    ≡ times_aired (length before) (length contents) r.air (length r.air) =
    ap (completed b.message r.air) ended ∙ completed-is laws r legal b there (length r.air) (omega arith) in
    let found : first_shown r b ≡ first_airing (length before) (length contents) r.air 0 =
    first-is laws r legal ended b there in
    ap (λ (xs : List Accepted). map (message_row r shown) xs ++ []) one
    ∙ ap (λ (n : ℕ). (record (message_row r shown b) { completed = n }) ∷ []) counted
    ∙ ap (λ (first : Option ℕ). (record (message_row r shown b) {
      completed = times_aired (length before) (length contents) r.air (length r.air);
      first_shown = first;
    }) ∷ []) found

-- the row of an entry, by its command and its answer
by_parts : Laws → (r : Record) (shown : List ShownMessage) → IsLegal r → r.slots ≡ length r.air →
    (before later : List Entry) (slot : ℕ) (command : Command) (answer : Answer) →
    accepted_at (length before) r.log ≡ map (stopped_after later)
    (added_by (accepted_in before) (length before) slot (start_of answer) command) →
    map (message_row r shown) (accepted_at (length before) r.log)
    ++ refusal_rows r.cell (length before) slot answer command
    ≡ option_to_list (row_by r.cell (length before) r.slots shown (stop_of_command later command)
    (times_aired (length before) (page_count_of command) r.air (length r.air))
    (first_airing (length before) (page_count_of command) r.air 0) slot command answer)
by_parts laws r shown legal ended before later slot
    (commands.Write id serial replaces category dcs period broadcasts contents) (answers.Started start) is =
    started laws r shown legal ended before later slot start id serial replaces category period broadcasts dcs contents
    is
by_parts laws r shown legal ended before later slot
    (commands.Write id serial replaces category dcs period broadcasts contents) (answers.Replaced start others) is =
    started laws r shown legal ended before later slot start id serial replaces category period broadcasts dcs contents
    is
by_parts laws r shown legal ended before later slot
    (commands.Write id serial replaces category dcs period broadcasts contents) (answers.Stopped completed) is =
    without r shown _ [] is
by_parts laws r shown legal ended before later slot
    (commands.Write id serial replaces category dcs period broadcasts contents) (answers.Told completed state) is =
    without r shown _ [] is
by_parts laws r shown legal ended before later slot
    (commands.Write id serial replaces category dcs period broadcasts contents) answers.Unknown is =
    without r shown _ [] is
by_parts laws r shown legal ended before later slot
    (commands.Write id serial replaces category dcs period broadcasts contents) (answers.Cause cause) is =
    without r shown _ _ is
by_parts laws r shown legal ended before later slot
    (commands.Write id serial replaces category dcs period broadcasts contents) answers.Refused is =
    without r shown _ [] is
by_parts laws r shown legal ended before later slot (commands.Kill id serial) (answers.Started start) is =
    without r shown _ [] is
by_parts laws r shown legal ended before later slot (commands.Kill id serial) (answers.Replaced start others) is =
    without r shown _ [] is
by_parts laws r shown legal ended before later slot (commands.Kill id serial) (answers.Stopped completed) is =
    without r shown _ [] is
by_parts laws r shown legal ended before later slot (commands.Kill id serial) (answers.Told completed state) is =
    without r shown _ [] is
by_parts laws r shown legal ended before later slot (commands.Kill id serial) answers.Unknown is =
    without r shown _ [] is
by_parts laws r shown legal ended before later slot (commands.Kill id serial) (answers.Cause cause) is =
    without r shown _ _ is
by_parts laws r shown legal ended before later slot (commands.Kill id serial) answers.Refused is =
    without r shown _ [] is
by_parts laws r shown legal ended before later slot (commands.Status id serial) (answers.Started start) is =
    without r shown _ [] is
by_parts laws r shown legal ended before later slot (commands.Status id serial) (answers.Replaced start others) is =
    without r shown _ [] is
by_parts laws r shown legal ended before later slot (commands.Status id serial) (answers.Stopped completed) is =
    without r shown _ [] is
by_parts laws r shown legal ended before later slot (commands.Status id serial) (answers.Told completed state) is =
    without r shown _ [] is
by_parts laws r shown legal ended before later slot (commands.Status id serial) answers.Unknown is =
    without r shown _ [] is
by_parts laws r shown legal ended before later slot (commands.Status id serial) (answers.Cause cause) is =
    without r shown _ [] is
by_parts laws r shown legal ended before later slot (commands.Status id serial) answers.Refused is =
    without r shown _ [] is

-- the entry between two parts of a log
entry-here : (before : List Entry) (e : Entry) (later : List Entry) →
    slice_get (before ++ e ∷ later) (length before) ≡ Some e
entry-here [] e later = refl
entry-here (x ∷ before) e later = entry-here before e later

-- what the walk has at the places: the stops, how often the last pages were aired, and when first
pub record AreNoted (r : Record) (stops : List (Option ℕ)) (counts : List ℕ) (firsts : List (Option ℕ)) : Type 0 where
  pub stops_are : (place : ℕ) → place < length r.log → get_or stops place None ≡ stop_at r.log place
  pub counts_are : (place : ℕ) → place < length r.log → slice_index counts place ≡ last_pages r.log r.air place
  pub firsts_are : (place : ℕ) → place < length r.log → get_or firsts place None ≡ first_last_page r.log r.air place

-- the rows of an entry are those that the walk gives at its place
entry-is : Laws → (r : Record) (shown : List ShownMessage) (stops : List (Option ℕ)) (counts : List ℕ)
    (firsts : List (Option ℕ)) → IsLegal r → r.slots ≡ length r.air → AreNoted r stops counts firsts →
    (before : List Entry) (e : Entry) (later : List Entry) → r.log ≡ before ++ e ∷ later →
    entry_rows r shown (length before) e
    ≡ row_at r.cell r.slots shown stops counts firsts (length before) (slice_get r.log (length before))
entry-is laws r shown stops counts firsts legal ended noted before e later is =
    let place : ℕ = length before in
    let here : slice_get r.log (length before) ≡ Some e =
    ap (λ (log : List Entry). slice_get log (length before)) is ∙ entry-here before e later in
    let within : length before < length r.log =
    omega (arith, ap (λ (log : List Entry). length log) is, length-append before (e ∷ later)) in
    let after : drop (length before + 1) r.log ≡ later =
    ap (λ (log : List Entry). drop (length before + 1) log) is ∙ drop-append-add before (e ∷ later) 1 in
    let stop : get_or stops (length before) None ≡ stop_of_command later e.command =
    noted.stops_are (length before) within
    ∙ ap (λ found. option_map_or (λ (x : Entry). stop_of_command (drop (length before + 1) r.log) x.command) found None)
    here
    ∙ ap (λ (log : List Entry). stop_of_command log e.command) after in
    let count : slice_index counts (length before)
    ≡ times_aired (length before) (page_count_of e.command) r.air (length r.air) =
    noted.counts_are (length before) within
    ∙ ap (λ found. times_aired (length before) (option_map_or (λ (x : Entry). page_count_of x.command) found 0) r.air
    (length r.air)) here in
    let first : get_or firsts (length before) None
    ≡ first_airing (length before) (page_count_of e.command) r.air 0 =
    noted.firsts_are (length before) within
    ∙ ap (λ found. first_airing (length before) (option_map_or (λ (x : Entry). page_count_of x.command) found 0) r.air
    0) here in
    let stop_is : Option ℕ = get_or stops (length before) None in
    by_parts laws r shown legal ended before later e.slot e.command e.answer
    (ap (accepted_at (length before)) is ∙ message-at laws.written before e later)
    ∙ ap (λ (n : Option ℕ). option_to_list (row_by r.cell (length before) r.slots shown n
    (times_aired (length before) (page_count_of e.command) r.air (length r.air))
    (first_airing (length before) (page_count_of e.command) r.air 0) e.slot e.command e.answer)) (sym stop)
    ∙ ap (λ (n : ℕ). option_to_list (row_by r.cell (length before) r.slots shown stop_is n
    (first_airing (length before) (page_count_of e.command) r.air 0) e.slot e.command e.answer)) (sym count)
    ∙ ap (λ (n : Option ℕ). option_to_list (row_by r.cell (length before) r.slots shown stop_is
    (slice_index counts (length before)) n e.slot e.command e.answer)) (sym first)
    ∙ ap (row_at r.cell r.slots shown stops counts firsts (length before)) (sym here)

rows-from : Laws → (r : Record) (shown : List ShownMessage) (stops : List (Option ℕ)) (counts : List ℕ)
    (firsts : List (Option ℕ)) → IsLegal r → r.slots ≡ length r.air → AreNoted r stops counts firsts →
    (before rest : List Entry) → r.log ≡ before ++ rest → rows_from r shown (length before) rest
    ≡ flat_map (λ at. row_at r.cell r.slots shown stops counts firsts at (slice_get r.log at))
    (range_with_len (length before) (length rest))
rows-from laws r shown stops counts firsts legal ended noted before [] is = refl
rows-from laws r shown stops counts firsts legal ended noted before (e ∷ later) is =
    let at_place : ℕ → List Row = λ at. row_at r.cell r.slots shown stops counts firsts at (slice_get r.log at) in
    let longer : length (before ++ e ∷ []) ≡ length before + 1 = length_push before e in
    let next : r.log ≡ (before ++ e ∷ []) ++ later = is ∙ sym (append_assoc before (e ∷ []) later) in
    let rest : rows_from r shown (length before + 1) later
    ≡ flat_map at_place (range_with_len (length before + 1) (length later)) =
    subst (λ (n : ℕ). rows_from r shown n later ≡ flat_map at_place (range_with_len n (length later))) longer
    (rows-from laws r shown stops counts firsts legal ended noted (before ++ e ∷ []) later next) in
    ap (λ (rows : List Row). rows ++ rows_from r shown (length before + 1) later)
    (entry-is laws r shown stops counts firsts legal ended noted before e later is)
    ∙ ap (λ (rows : List Row). at_place (length before) ++ rows) rest
    ∙ sym (flat_map-cons at_place (length before) (range_with_len (length before + 1) (length later)))

-- so the rows of a cell are those that the walk gives
pub cell-is : Laws → (r : Record) (shown : List ShownMessage) (stops : List (Option ℕ)) (counts : List ℕ)
    (firsts : List (Option ℕ)) → IsLegal r → r.slots ≡ length r.air → AreNoted r stops counts firsts →
    cell_rows r shown ≡ rows_by r.cell r.slots shown stops counts firsts r.log
cell-is laws r shown stops counts firsts legal ended noted =
    rows-from laws r shown stops counts firsts legal ended noted [] r.log refl
