-- Steps of a run (own): what the status of a command says, once it is over. The contracts of private functions alone
-- speak of it.
use Rattle.std.specs.Prelude.{◌≡◌, ◌≢◌, ⊤, ℕ, ◌≤◌, ◌⊎◌, Bool, false, List, Option, IfSome, None}
use Rattle.std.specs.Io.KnownBytes.{Keeps}
use Rattle.device_ends.specs.Moves.{WritesOutput}
use Rattle.device_ends.specs.Sink.{sink_failed, writer_of}
use Rattle.device_ends.specs.Source.{reader_of, source_failed}
use Rattle.device_ends.specs.Stream.{Writes}
use Rattle.device_ends.specs.declared.reading.Source.{Source}
use Rattle.device_ends.specs.declared.writing.Sink.{Sink}
use Rattle.slot_times.specs.declared.start.Start.{Start}
use Rattle.warnc_run.specs.declared.run.Books.TheVariants as books
use Rattle.warnc_cli.specs.Run.{AnyHasFailed, ByInputs, OneHasFailed, WritesSome}
use Rattle.warnc_cli.specs.Tasks.{AlwaysWrites, KeepsUnseen, Means, Refuses, RefusesOne, WritesAll}
use Rattle.warnc_cli.specs.Tasks.{WritesDifferences, WritesFirstGroups}
use Rattle.alert_book.specs.declared.judging.bounds.Extent.{Extent}
use Rattle.warnc_cli.specs.declared.command.Task.{Task}
use Rattle.warnc_cli.specs.declared.command.Task.TheVariants as task

-- something may be written by a task with a status
abbrev pub MayHaveWritten : Task → (status : ℕ) → Type 0
MayHaveWritten (task.Make run made) status =
    (status ≡ 0) ⊎ ((status ≡ 3) ⊎ (((status ≡ 1) ⊎ (status ≡ 4)) × (run.books ≡ books.EachGroup)))
MayHaveWritten (task.Verify from slots pages layout file workers) status = (status ≡ 0) ⊎ ((status ≡ 3) ⊎ (status ≡ 1))
MayHaveWritten (task.VerifyOrders cell terms file) status = (status ≡ 0) ⊎ ((status ≡ 3) ⊎ (status ≡ 1))
MayHaveWritten (task.Check what) status = (status ≡ 0) ⊎ ((status ≡ 3) ⊎ (status ≡ 1))
MayHaveWritten (task.Remark what slots start strict) status = (status ≡ 0) ⊎ ((status ≡ 3) ⊎ (status ≡ 1))
MayHaveWritten other status = (status ≡ 0) ⊎ (status ≡ 3)

-- a task reads no book, orders or table beside its input
abbrev pub IsOfOneInput : Task → Type 0
IsOfOneInput (task.Verify from slots pages layout file workers) = ⊥
IsOfOneInput (task.VerifyOrders cell terms file) = ⊥
IsOfOneInput (task.Tapes wanted file) = ⊥
IsOfOneInput other = ⊤

-- nor a table with status 1
abbrev pub IsSilent : Task → Type 0
IsSilent (task.Verify from slots pages layout file workers) = ⊥
IsSilent (task.VerifyOrders cell terms file) = ⊥
IsSilent (task.Tapes wanted file) = ⊥
IsSilent (task.Check what) = ⊥
IsSilent (task.Remark what slots start strict) = ⊥
IsSilent other = ⊤

-- what status 0 says of a task of one input
abbrev pub IsDoneBy : {R W : Type 0} → Task → (status : ℕ) (left : R → Option (List ℕ)) (held : W → Option (List ℕ))
    → (first : Source R) → (old new : Sink W) → Type 0
IsDoneBy task status left held first old new =
    status ≡ 0 → WritesOutput (Means task) (left (reader_of first)) (held (writer_of old)) (held (writer_of new))

-- and of any that always writes something
abbrev pub WroteSomeBy : {W : Type 0} → Task → (status : ℕ) (held : W → Option (List ℕ)) → (old new : Sink W) → Type 0
WroteSomeBy task status held old new = status ≡ 0 → AlwaysWrites task → Writes held WritesSome old new

-- what status 1 says of a task of one input
abbrev pub IsRefusedBy : {R : Type 0} → Task → (status : ℕ) (left : R → Option (List ℕ)) → (first : Source R) → Type 0
IsRefusedBy task status left first = status ≡ 1 → IfSome (left (reader_of first)) (RefusesOne task)

-- what statuses 1 and 4 say of what it wrote
abbrev pub WroteFrontBy : {R W : Type 0} → Task → (status : ℕ) (left : R → Option (List ℕ))
    (held : W → Option (List ℕ)) → (first : Source R) → (old new : Sink W) → Type 0
WroteFrontBy task status left held first old new = (status ≡ 1) ⊎ (status ≡ 4) → Writes held Keeps old new
    ⊎ WritesFirstGroups task None (left (reader_of first)) (held (writer_of old)) (held (writer_of new))

-- what statuses 1 and 4 say of what `check` wrote: with 1 the faults, or nothing of a book that is too long, and with 4
-- nothing
abbrev pub WroteFaultsBy : {R W : Type 0} → Extent → (status : ℕ) (left : R → Option (List ℕ))
    (held : W → Option (List ℕ)) → (first : Source R) → (old new : Sink W) → Type 0
WroteFaultsBy what status left held first old new = (status ≡ 1
    → KeepsUnseen (task.Check what) None (left (reader_of first)) (held (writer_of old)) (held (writer_of new))
    ⊎ WritesDifferences (task.Check what) None (left (reader_of first)) (held (writer_of old)) (held (writer_of new)))
    × (status ≡ 4 → Writes held Keeps old new)

-- and of what `check --slots` wrote: with 1 the faults or the remarks, or nothing of a book that is too long or has no
-- run, and with 4 nothing
abbrev pub WroteRemarksBy : {R W : Type 0} → Extent → (slots : ℕ) (start : Option Start) (strict : Bool) (status : ℕ)
    (left : R → Option (List ℕ))
    (held : W → Option (List ℕ)) → (first : Source R) → (old new : Sink W) → Type 0
WroteRemarksBy what slots start strict status left held first old new = (status ≡ 1
    → KeepsUnseen (task.Remark what slots start strict) None (left (reader_of first)) (held (writer_of old))
    (held (writer_of new))
    ⊎ WritesDifferences (task.Remark what slots start strict) None (left (reader_of first)) (held (writer_of old))
    (held (writer_of new)))
    × (status ≡ 4 → Writes held Keeps old new)

-- what the status of a task of one input says of both ends
pub record IsRunBetween {R W : Type 0} (task : Task) (status : ℕ) (held : W → Option (List ℕ)) (last : Source R)
    (old new : Sink W) : Type 0 where
  -- there are five statuses, and it is no mistake of the words
  pub statuses : status ≤ 4
  pub understood : status ≢ 2
  pub nothing_written : (MayHaveWritten task status → ⊥) → Writes held Keeps old new
  pub untouched : (MayHaveWritten task status → ⊥) → new ≡ old
  -- it is 3 only if one of the ends has failed
  pub device : status ≡ 3 → OneHasFailed last new
  -- and always if one has, if the sink had not failed before
  pub failed : sink_failed old ≡ false → OneHasFailed last new → status ≡ 3

-- what a run of `verify` keeps: it reads a book, too, and writes the differences with status 1
pub record IsVerifyRunBetween {B R W : Type 0} (status : ℕ) (first_book last_book : Source B)
    (first last : Source R) (old new : Sink W) (before after : Option (List ℕ)) : Type 0 where
  pub statuses : status ≤ 4
  -- with 2 and 4 nothing was written, and the sink is as it was
  pub nothing_written : status ≢ 0 → status ≢ 1 → status ≢ 3 → Keeps before after
  pub untouched : status ≢ 0 → status ≢ 1 → status ≢ 3 → new ≡ old
  -- it is no mistake of the words
  pub understood : status ≢ 2
  -- it is 3 only if one of the ends has failed
  pub device : status ≡ 3 → AnyHasFailed last_book last new
  -- and always if one has, if neither the tapes' nor the sink had failed before
  pub failed : source_failed first ≡ false → sink_failed old ≡ false → AnyHasFailed last_book last new → status ≡ 3

-- what the status of any task says, and of the book's end
pub record HasRun {B R W : Type 0} (task : Task) (status : ℕ) (book_left : B → Option (List ℕ))
    (left : R → Option (List ℕ)) (held : W → Option (List ℕ)) (first_book last_book : Source B)
    (first last : Source R) (old new : Sink W) : Type 0 where
  pub statuses : status ≤ 4
  pub understood : status ≢ 2
  pub done : status ≡ 0 → ByInputs book_left left held (WritesAll task) first_book first old new
  pub wrote : status ≡ 0 → AlwaysWrites task → Writes held WritesSome old new
  pub refused : status ≡ 1 → Refuses task (book_left (reader_of first_book)) (left (reader_of first))
  pub nothing_written : (MayHaveWritten task status → ⊥) → Writes held Keeps old new
  pub untouched : (MayHaveWritten task status → ⊥) → new ≡ old
  pub of_refused : status ≡ 1 → ByInputs book_left left held (KeepsUnseen task) first_book first old new
      ⊎ (ByInputs book_left left held (WritesDifferences task) first_book first old new
      ⊎ ByInputs book_left left held (WritesFirstGroups task) first_book first old new)
  pub of_memory : status ≡ 4 → Writes held Keeps old new
      ⊎ ByInputs book_left left held (WritesFirstGroups task) first_book first old new
  pub device : status ≡ 3 → AnyHasFailed last_book last new
  pub failed : source_failed first_book ≡ false → source_failed first ≡ false → sink_failed old ≡ false
      → AnyHasFailed last_book last new → status ≡ 3
  pub no_book : IsOfOneInput task → last_book ≡ first_book

-- what a status says of a sink: `old` and `new` are the sink before and after, and `before` and `after` what its writer
-- holds
pub record IsStatusOfSink {W : Type 0} (status : ℕ) (old new : Sink W) (before after : Option (List ℕ)) : Type 0 where
  -- there are five statuses
  pub statuses : status ≤ 4
  -- with 1, 2 and 4 nothing was
  pub nothing_written : status ≢ 0 → status ≢ 3 → Keeps before after
  -- and the sink is as it was
  pub untouched : status ≢ 0 → status ≢ 3 → new ≡ old
