-- What `tape` of all cells writes and refuses, and what its statuses say of the ends.
use Rattle.std.proofs.Common.{◌≡◌, ◌↔◌, ℕ, ◌+◌, ◌<◌, ◌≤◌, List, [], ◌∷◌, Option, None, Some, IfSome}
use Rattle.std.proofs.Common.{refl, ap, length, ◌∙◌}
use Rattle.std.proofs.Common.{true, false, Ok, Err, Result, IsErrOf, IsTrue}
use Rattle.std.proofs.Common.{sym, subst, arith, inl, inr, rules}
use Rattle.std.specs.Io.KnownBytes.{Keeps}
use Rattle.std.proofs.lemmas.List.{length-append}
use Rattle.device_ends.specs.Sink.{sink_failed, writer_of}
use Rattle.device_ends.specs.Source.{reader_of, source_failed}
use Rattle.device_ends.specs.Stream.{Writes}
use Rattle.device_ends.specs.declared.reading.Source.{Source}
use Rattle.device_ends.specs.declared.writing.Sink.{Sink}
use Rattle.gsmtap.specs.TapesOfCapture.{AreTapesOfCapture, IsTapesFault}
use Rattle.gsmtap.specs.declared.tapes.TapesFault.TheVariants as tapes
use Rattle.warnc_air.specs.AllTapes.{IsAllTapesFault, IsUnwritten, Readers, WritesTapes, all_wanted}
use Rattle.warnc_air.specs.CellTable.{IsCellTable, IsTableFault}
use Rattle.warnc_air.specs.declared.all.AllTapesFault.{AllTapesFault}
use Rattle.warnc_air.specs.declared.all.AllTapesFault.TheVariants as fault
use Rattle.warnc_air.specs.declared.all.AllWanted.{AllWanted}
use Rattle.warnc_air.specs.declared.cell_table.CellRow.{CellRow}
use Rattle.warnc_cli.proofs.SomeTape.{some_tape}
use Rattle.warnc_cli.proofs.Statuses.{OneOrFour}
use Rattle.warnc_cli.specs.Run.{AnyHasFailed, WritesSome}
use Rattle.warnc_cli.specs.RunSteps.{HasRun}
use Rattle.warnc_cli.specs.Status.{status_of_tapes_of_all}
use Rattle.warnc_cli.specs.Tasks.{AreAllTapes, HasNoTapes, WritesOutputOfBoth}
use Rattle.warnc_cli.specs.declared.command.Task.TheVariants as task

-- the tapes that were written are those of the table and of the capture
pub tapes_written : (wanted : AllWanted) (ends : Readers) (old new : Option (List ℕ)) → WritesTapes wanted ends old new
    → WritesOutputOfBoth (AreAllTapes wanted) ends.table_first ends.capture_first old new
tapes_written wanted ends old new wrote =
    let has = wrote.1 in record {
      book_octets = has.table.octets;
      tapes_octets = has.so.octets;
      output = wrote.0;
      of_book = has.table.all;
      of_tapes = has.so.all;
      is_output = (has.rows, has.table.so, has.so.so);
      appended = wrote.2;
    }

-- tapes of one cell at least aren't empty
some_of : (wanted : AllWanted) (rows : List CellRow) (capture output : List ℕ) → 0 < length rows
    → AreTapesOfCapture (all_wanted wanted rows) capture output
    → 0 < length output
some_of wanted [] capture output some are = absurd (omega (arith, some))
some_of wanted (row ∷ rows) capture output some are =
    let long : length output ≡ length are.0 + length are.1 = ap length are.4 ∙ length-append are.0 are.1 in
    omega (arith, long, some_tape _ capture are.0 are.2)

-- so something was written
pub some_tapes : (wanted : AllWanted) (ends : Readers) (old new : Option (List ℕ)) → WritesTapes wanted ends old new
    → WritesSome old new
some_tapes wanted ends old new wrote =
    let has = wrote.1 in
    (wrote.0, some_of wanted has.rows has.so.octets wrote.0 has.table.so.some has.so.so, wrote.2)

-- readers of known octets
abbrev known_readers : (table capture : List ℕ) (table_last capture_last : Option (List ℕ)) → Readers
known_readers table capture table_last capture_last = record {
  table_first = Some table;
  table_last = table_last;
  capture_first = Some capture;
  capture_last = capture_last;
}

-- a fault of status 1 says why the table and the capture have no tapes
refused_here : (wanted : AllWanted) (table capture : List ℕ) (table_last capture_last old new : Option (List ℕ))
    (why : AllTapesFault)
    → IsAllTapesFault wanted (known_readers table capture table_last capture_last) old new why
    → status_of_tapes_of_all why ≡ 1
    → HasNoTapes wanted table capture
refused_here wanted table capture table_last capture_last old new fault.TableReadFailed told is =
    absurd (omega (arith, is))
refused_here wanted table capture table_last capture_last old new fault.TableTooLong told is = inl (inl told)
refused_here wanted table capture table_last capture_last old new (fault.Table f) told is =
    inl (inr (f, subst (λ (octets : List ℕ). IsTableFault octets f) (sym told.all) told.so))
refused_here wanted table capture table_last capture_last old new fault.ReadFailed told is = absurd (omega (arith, is))
refused_here wanted table capture table_last capture_last old new fault.TooLong told is = inr (
  told.rows,
  subst (λ (octets : List ℕ). IsCellTable octets told.rows) (sym told.table.all) told.table.so,
  inl told.so,
)
refused_here wanted table capture table_last capture_last old new (fault.Air why) told is = inr (
  told.rows,
  subst (λ (octets : List ℕ). IsCellTable octets told.rows) (sym told.table.all) told.table.so,
  inr (
    tapes.Air why,
    subst (λ (octets : List ℕ). IsTapesFault (all_wanted wanted told.rows) octets (tapes.Air why))
        (sym told.so.0.all) told.so.0.so,
  ),
)
refused_here wanted table capture table_last capture_last old new (fault.NoBlock row) told is = inr (
  told.rows,
  subst (λ (octets : List ℕ). IsCellTable octets told.rows) (sym told.table.all) told.table.so,
  inr (
    tapes.NoBlock told.so.0,
    subst (λ (octets : List ℕ). IsTapesFault (all_wanted wanted told.rows) octets (tapes.NoBlock told.so.0))
        (sym told.so.1.all) told.so.1.so,
  ),
)
refused_here wanted table capture table_last capture_last old new fault.Refused told is = absurd (omega (arith, is))
refused_here wanted table capture table_last capture_last old new fault.WriteFailed told is =
    absurd (omega (arith, is))

-- the same of readers whose octets may be unknown
pub refused_tapes : (wanted : AllWanted) (table capture table_last capture_last old new : Option (List ℕ))
    (why : AllTapesFault)
    → IsAllTapesFault wanted (record {
      table_first = table;
      table_last = table_last;
      capture_first = capture;
      capture_last = capture_last;
    }) old new why
    → status_of_tapes_of_all why ≡ 1
    → IfSome table (λ octets. IfSome capture (HasNoTapes wanted octets))
refused_tapes wanted None capture table_last capture_last old new why told is = tt
refused_tapes wanted (Some table) None table_last capture_last old new why told is = tt
refused_tapes wanted (Some table) (Some capture) table_last capture_last old new why told is =
    refused_here wanted table capture table_last capture_last old new why told is

-- what the engine says of the ends with a fault
pub record AreEnds {B R W : Type 0} (why : AllTapesFault) (first_table last_table : Source B) (first last : Source R)
    (old new : Sink W) : Type 0 where
  pub table_failed : IsErrOf {T = Unit {0}} (Err why) fault.TableReadFailed ↔ IsTrue (source_failed last_table)
  pub capture_failed : source_failed first ≡ false
      → (IsErrOf {T = Unit {0}} (Err why) fault.ReadFailed ↔ IsTrue (source_failed last))
  pub capture_told : IsErrOf {T = Unit {0}} (Err why) fault.ReadFailed → source_failed last ≡ true
  pub write_failed : IsUnwritten why → sink_failed new ≡ true
  pub untouched : (IsUnwritten why → ⊥) → new ≡ old

-- the status that a result's fault has
abbrev status_in : Result (Unit {0}) AllTapesFault → ℕ
status_in (Ok done) = 0
status_in (Err why) = status_of_tapes_of_all why

-- an end failed
failing : {B R W : Type 0} (wanted : AllWanted) (file : _) (status : ℕ) (table_left : B → Option (List ℕ))
    (left : R → Option (List ℕ)) (held : W → Option (List ℕ)) (first_table last_table : Source B)
    (first last : Source R) (old new : Sink W)
    → status ≡ 3
    → AnyHasFailed last_table last new
    → HasRun (task.Tapes wanted file) status table_left left held first_table last_table first last old new
failing wanted file status table_left left held first_table last_table first last old new is failed = record {
  statuses = omega (arith, is);
  understood = λ two. omega (arith, is, two);
  done = λ zero. absurd (omega (arith, is, zero));
  wrote = λ zero always. absurd (omega (arith, is, zero));
  refused = λ one. absurd (omega (arith, is, one));
  nothing_written = λ none. absurd (none (inr is));
  untouched = λ none. absurd (none (inr is));
  of_refused = λ one. absurd (omega (arith, is, one));
  of_memory = λ four. absurd (omega (arith, is, four));
  device = λ _. failed;
  failed = λ _ _ _ _. is;
  no_book = λ none. absurd none;
}

-- no end failed, and nothing was written
quiet : {B R W : Type 0} (wanted : AllWanted) (file : _) (why : AllTapesFault) (table_left : B → Option (List ℕ))
    (left : R → Option (List ℕ)) (held : W → Option (List ℕ)) (first_table last_table : Source B)
    (first last : Source R) (old new : Sink W)
    → OneOrFour (status_of_tapes_of_all why)
    → (status_of_tapes_of_all why ≡ 1 → IfSome (table_left (reader_of first_table))
    (λ octets. IfSome (left (reader_of first)) (HasNoTapes wanted octets)))
    → AreEnds why first_table last_table first last old new
    → new ≡ old
    → Writes held Keeps old new
    → HasRun (task.Tapes wanted file) (status_of_tapes_of_all why) table_left left held first_table last_table first
    last old new
quiet {W = W} wanted file why table_left left held first_table last_table first last old new one_or_four refused ends
    same
    kept = record {
      statuses = bound one_or_four;
      understood = λ two. not_two one_or_four two;
      done = λ zero. absurd (not_zero one_or_four zero);
      wrote = λ zero always. absurd (not_zero one_or_four zero);
      refused = refused;
      nothing_written = λ none. kept;
      untouched = λ none. same;
      of_refused = λ one. inl (tt, kept);
      of_memory = λ four. inl kept;
      device = λ three. absurd (not_three one_or_four three);
      failed = λ sound input sink failed. absurd (neither input sink failed);
      no_book = λ none. absurd none;
    }
  where
    bound : OneOrFour (status_of_tapes_of_all why) → status_of_tapes_of_all why ≤ 4
    bound (inl is) = omega (arith, is)
    bound (inr is) = omega (arith, is)

    not_two : OneOrFour (status_of_tapes_of_all why) → status_of_tapes_of_all why ≡ 2 → ⊥
    not_two (inl is) two = omega (arith, is, two)
    not_two (inr is) two = omega (arith, is, two)

    not_zero : OneOrFour (status_of_tapes_of_all why) → status_of_tapes_of_all why ≡ 0 → ⊥
    not_zero (inl is) zero = omega (arith, is, zero)
    not_zero (inr is) zero = omega (arith, is, zero)

    not_three : OneOrFour (status_of_tapes_of_all why) → status_of_tapes_of_all why ≡ 3 → ⊥
    not_three (inl is) three = omega (arith, is, three)
    not_three (inr is) three = omega (arith, is, three)

    neither : source_failed first ≡ false → sink_failed old ≡ false → AnyHasFailed last_table last new → ⊥
    neither input sink (inl failed) = not_three one_or_four (ap status_in (ends.table_failed.1 failed))
    neither input sink (inr (inl failed)) = not_three one_or_four (ap status_in ((ends.capture_failed input).1 failed))
    neither input sink (inr (inr failed)) =
        let now : sink_failed old ≡ true = subst (λ (s : Sink W). sink_failed s ≡ true) same failed in
        search (rules, now, sink)

-- a fault of the engine ends the run with its status
ended : {B R W : Type 0} (wanted : AllWanted) (file : _) (why : AllTapesFault) (table_left : B → Option (List ℕ))
    (left : R → Option (List ℕ)) (held : W → Option (List ℕ)) (first_table last_table : Source B)
    (first last : Source R) (old new : Sink W)
    → (status_of_tapes_of_all why ≡ 1 → IfSome (table_left (reader_of first_table))
    (λ octets. IfSome (left (reader_of first)) (HasNoTapes wanted octets)))
    → AreEnds why first_table last_table first last old new
    → (new ≡ old → Writes held Keeps old new)
    → HasRun (task.Tapes wanted file) (status_of_tapes_of_all why) table_left left held first_table last_table first
    last old new
ended wanted file fault.TableReadFailed table_left left held first_table last_table first last old new refused ends
    kept =
    failing wanted file 3 table_left left held first_table last_table first last old new refl
    (inl (ends.table_failed.0 refl))
ended wanted file fault.TableTooLong table_left left held first_table last_table first last old new refused ends kept =
    let same = ends.untouched (λ is. cc) in
    quiet wanted file fault.TableTooLong table_left left held first_table last_table first last old new (inl refl)
    refused ends same (kept same)
ended wanted file (fault.Table f) table_left left held first_table last_table first last old new refused ends kept =
    let same = ends.untouched (λ is. cc) in
    quiet wanted file (fault.Table f) table_left left held first_table last_table first last old new (inl refl) refused
    ends same (kept same)
ended wanted file fault.ReadFailed table_left left held first_table last_table first last old new refused ends kept =
    failing wanted file 3 table_left left held first_table last_table first last old new refl
    (inr (inl (ends.capture_told refl)))
ended wanted file fault.TooLong table_left left held first_table last_table first last old new refused ends kept =
    let same = ends.untouched (λ is. cc) in
    quiet wanted file fault.TooLong table_left left held first_table last_table first last old new (inl refl) refused
    ends same (kept same)
ended wanted file (fault.Air why) table_left left held first_table last_table first last old new refused ends kept =
    let same = ends.untouched (λ is. cc) in
    quiet wanted file (fault.Air why) table_left left held first_table last_table first last old new (inl refl) refused
    ends same (kept same)
ended wanted file (fault.NoBlock row) table_left left held first_table last_table first last old new refused ends kept =
    let same = ends.untouched (λ is. cc) in
    quiet wanted file (fault.NoBlock row) table_left left held first_table last_table first last old new (inl refl)
    refused ends same (kept same)
ended wanted file fault.Refused table_left left held first_table last_table first last old new refused ends kept =
    let same = ends.untouched (λ is. cc) in
    quiet wanted file fault.Refused table_left left held first_table last_table first last old new (inr refl) refused
    ends same (kept same)
ended wanted file fault.WriteFailed table_left left held first_table last_table first last old new refused ends kept =
    failing wanted file 3 table_left left held first_table last_table first last old new refl
    (inr (inr (ends.write_failed refl)))

-- the same of a status that is the fault's
pub ends_with : {B R W : Type 0} (wanted : AllWanted) (file : _) (why : AllTapesFault) (status : ℕ)
    (table_left : B → Option (List ℕ)) (left : R → Option (List ℕ)) (held : W → Option (List ℕ))
    (first_table last_table : Source B) (first last : Source R) (old new : Sink W)
    → status ≡ status_of_tapes_of_all why
    → (status_of_tapes_of_all why ≡ 1 → IfSome (table_left (reader_of first_table))
    (λ octets. IfSome (left (reader_of first)) (HasNoTapes wanted octets)))
    → AreEnds why first_table last_table first last old new
    → (new ≡ old → Writes held Keeps old new)
    → HasRun (task.Tapes wanted file) status table_left left held first_table last_table first last old new
ends_with wanted file why status table_left left held first_table last_table first last old new same refused ends kept =
    subst (λ (s : ℕ). HasRun (task.Tapes wanted file) s table_left left held first_table last_table first last old new)
    (sym same)
    (ended wanted file why table_left left held first_table last_table first last old new refused ends kept)

-- all tapes were written
pub all_written : {B R W : Type 0} (wanted : AllWanted) (file : _) (table_left : B → Option (List ℕ))
    (left : R → Option (List ℕ)) (held : W → Option (List ℕ)) (first_table last_table : Source B)
    (first last : Source R) (old new : Sink W) (ends : Readers)
    → ends.table_first ≡ table_left (reader_of first_table)
    → ends.capture_first ≡ left (reader_of first)
    → Writes held (WritesTapes wanted ends) old new
    → source_failed last_table ≡ false
    → source_failed last ≡ false
    → sink_failed new ≡ false
    → HasRun (task.Tapes wanted file) 0 table_left left held first_table last_table first last old new
all_written wanted file table_left left held first_table last_table first last old new ends table capture wrote
    table_sound
    sound sink_sound = record {
      statuses = omega arith;
      understood = λ two. omega (arith, two);
      done = λ _.
          subst (λ (octets : Option (List ℕ)). WritesOutputOfBoth (AreAllTapes wanted) octets (left (reader_of first))
          (held (writer_of old)) (held (writer_of new)))
          table
          (subst (λ (octets : Option (List ℕ)). WritesOutputOfBoth (AreAllTapes wanted) ends.table_first octets
          (held (writer_of old)) (held (writer_of new)))
          capture
          (tapes_written wanted ends (held (writer_of old)) (held (writer_of new)) wrote));
      wrote = λ _ _. some_tapes wanted ends (held (writer_of old)) (held (writer_of new)) wrote;
      refused = λ one. absurd (omega (arith, one));
      nothing_written = λ none. absurd (none (inl refl));
      untouched = λ none. absurd (none (inl refl));
      of_refused = λ one. absurd (omega (arith, one));
      of_memory = λ four. absurd (omega (arith, four));
      device = λ three. absurd (omega (arith, three));
      failed = λ _ _ _ failed. absurd (neither failed);
      no_book = λ none. absurd none;
    }
  where
    neither : AnyHasFailed last_table last new → ⊥
    neither (inl failed) = search (rules, failed, table_sound)
    neither (inr (inl failed)) = search (rules, failed, sound)
    neither (inr (inr failed)) = search (rules, failed, sink_sound)
