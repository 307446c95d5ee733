-- Why nothing, or not all, is made of the octets that are read. Own.
use Rattle.std.specs.Prelude.{◌≡◌, ◌≢◌, ⊤, ℕ, ◌<◌, ◌≤◌, List, Option, Result}
use Rattle.std.specs.Io.KnownBytes.{Consumes, IsAtEnd, Keeps}
use Rattle.device_ends.specs.Stream.{IsStreamBetween}
use Rattle.device_ends.specs.declared.reading.Source.{Source}
use Rattle.device_ends.specs.declared.writing.Sink.{Sink}
use Rattle.alert_book.specs.declared.network.Origin.{Origin}
use Rattle.alert_book.specs.declared.network.Origin.TheVariants as origin
use Rattle.alert_book.specs.Book.{Contents, unread}
use Rattle.alert_book.specs.Origin.{IsBookFrom, LacksGroup, RefusesFrom}
use Rattle.order_desk.specs.declared.fault.DeskFault.{DeskFault}
use Rattle.order_desk.specs.declared.fault.DeskFault.TheVariants as desk
use Rattle.order_desk.specs.declared.note.Note.{Note}
use Rattle.order_desk.specs.declared.settle.SettleFault.{SettleFault}
use Rattle.order_desk.specs.declared.settle.SettleFault.TheVariants as settle
use Rattle.order_desk.specs.Settled.{ClosedDesk, IsFault}
use Rattle.parallel_compile.specs.declared.fault.CompileFault.{CompileFault}
use Rattle.parallel_compile.specs.declared.fault.CompileFault.TheVariants as compile
use Rattle.parallel_compile.specs.Workers.{max_workers}
use Rattle.warnc_run.specs.declared.fault.RunFault.{RunFault}
use Rattle.warnc_run.specs.declared.fault.RunFault.TheVariants as fault
use Rattle.warnc_run.specs.declared.product.Product.{Product}
use Rattle.warnc_run.specs.declared.product.Product.TheVariants as product
use Rattle.warnc_run.specs.Made.{tape_size, MakesTapesFront}
use Rattle.warnc_run.specs.Products.{IsCompiled, IsLive}

-- all of the octets were read, and are a book, or a network book whose group has this one
pub record HasReadFrom (from : Origin) (first last : Option (List ℕ)) : Type 0 where
  pub input : List ℕ
  pub book : Contents
  pub read : Consumes first last input
  pub ended : IsAtEnd last
  pub is_book : IsBookFrom from input book

-- the most sessions of a run
abbrev pub max_sessions : ℕ
max_sessions = 64

-- there are 1 to 64 workers
abbrev pub AreWorkers : ℕ → Type 0
AreWorkers workers = (0 < workers) × (workers ≤ max_workers)

-- a fault of the writer
abbrev pub IsWriteFault : RunFault → Type 0
IsWriteFault (fault.Write failed) = ⊤
IsWriteFault other = ⊥

-- a fault of several workers: the tape at a place isn't that of the cell's record. One worker sends no pages, and makes
-- the tapes of the records
abbrev pub IsPieceFault : RunFault → Type 0
IsPieceFault (fault.Compile (compile.Piece index)) = ⊤
IsPieceFault other = ⊥

-- a fault that a run can have that makes this: no number of workers is wrong, and only tapes are written piece by piece
abbrev pub IsOfProduct : RunFault → Product → Type 0
IsOfProduct (fault.Compile compile.Workers) made = ⊥
IsOfProduct (fault.Compile (compile.Piece index)) product.Tapes = ⊤
IsOfProduct (fault.Compile (compile.Piece index)) other = ⊥
IsOfProduct (fault.Compile compile.Refused) made = ⊤
IsOfProduct (fault.Write failed) product.Tapes = ⊤
IsOfProduct (fault.Write failed) other = ⊥
IsOfProduct (fault.Book f) made = ⊤
IsOfProduct (fault.NoGroup groups) made = ⊤
IsOfProduct (fault.Desk f) made = ⊤
IsOfProduct (fault.Settle f) made = ⊤
IsOfProduct fault.Refused made = ⊤

-- why workers made no tapes, of octets that the reader has left before and after: there can't be this many of them, or
-- the octets are a book, and memory ran out, or the tape at a place isn't that of the cell's record
abbrev pub IsCompileFault : (from : Origin) (first last : Option (List ℕ)) → CompileFault → Type 0
IsCompileFault from first last compile.Workers = ⊤
IsCompileFault from first last compile.Refused = HasReadFrom from first last
IsCompileFault from first last (compile.Piece index) = HasReadFrom from first last

-- a fault of the desk under an order of a session: it is out of memory, or finds the book of another cell in a lock
abbrev pub IsDeskFault : DeskFault → Type 0
IsDeskFault (desk.Memory done) = ⊤
IsDeskFault desk.Unknown = ⊤
IsDeskFault other = ⊥

-- a fault of the settlement of a book's run with this many sessions: some notes of passes don't agree with what a
-- closed desk of the book's cells holds, and this is the first thing that is wrong; or the pass of this part isn't that
-- of the part's session, where their number stands for all later passes; or it is out of memory
abbrev pub IsSettleFault : (book : Contents) (slots parts : ℕ) → SettleFault → Type 0
IsSettleFault book slots parts (settle.Session part) = part ≤ parts
IsSettleFault book slots parts other =
    (closed : ClosedDesk) × (passes : List (List Note)) × (closed.cells ≡ book.cells) × (closed.slots ≡ slots)
    × IsFault closed passes other

-- a fault of threads at a desk: the desk's, only if it is out of memory or finds the book of another cell; or the
-- workers', only if they are out of memory; or of memory
abbrev pub IsOfRun : RunFault → Type 0
IsOfRun (fault.Book f) = ⊥
IsOfRun (fault.NoGroup groups) = ⊥
IsOfRun (fault.Write failed) = ⊥
IsOfRun (fault.Settle f) = ⊥
IsOfRun (fault.Desk f) = IsDeskFault f
IsOfRun (fault.Compile f) = f ≡ compile.Refused
IsOfRun fault.Refused = ⊤

-- a fault of the run of a book with this many sessions and by one worker: of its threads, or of its settlement
abbrev pub IsOfBook : (book : Contents) (slots parts : ℕ) → RunFault → Type 0
IsOfBook book slots parts (fault.Settle f) = IsSettleFault book slots parts f
IsOfBook book slots parts other = IsOfRun other

-- the faults with which a run of a book can end for another reason than memory: no contract excludes them, since what a
-- lock of the desk holds, and what a worker sends, is known by its type alone
abbrev pub StopsRun : (book : Contents) (slots parts : ℕ) → RunFault → Type 0
StopsRun book slots parts (fault.Desk f) = f ≡ desk.Unknown
StopsRun book slots parts (fault.Settle f) = (f ≢ settle.Refused) × IsSettleFault book slots parts f
StopsRun book slots parts (fault.Compile (compile.Piece index)) = ⊤
StopsRun book slots parts other = ⊥

-- why nothing was made of a book, or of a group's, in runs of this many slots and with this many sessions: the fault is
-- the book's; or the network has no such group; or the octets are a book, and the desk was out of memory or found the
-- book of another cell, or wasn't settled; or it is the workers' fault; or memory ran out; and nothing is written. Or
-- the writer failed with a front of the tapes
abbrev pub IsRunFault : (from : Origin) (slots parts : ℕ) (Means : (input output : List ℕ) → Type 0)
    (first last old new : Option (List ℕ)) → RunFault → Type 0
IsRunFault from slots parts Means first last old new (fault.Book f) = RefusesFrom from first last f × Keeps old new
IsRunFault from slots parts Means first last old new (fault.NoGroup groups) =
    LacksGroup from first last groups × Keeps old new
IsRunFault from slots parts Means first last old new (fault.Desk f) =
    IsDeskFault f × HasReadFrom from first last × Keeps old new
IsRunFault from slots parts Means first last old new (fault.Settle f) =
    (read : HasReadFrom from first last) × IsSettleFault read.book slots parts f × Keeps old new
IsRunFault from slots parts Means first last old new (fault.Compile f) =
    IsCompileFault from first last f × Keeps old new
IsRunFault from slots parts Means first last old new fault.Refused = Keeps old new
IsRunFault from slots parts Means first last old new (fault.Write failed) =
    MakesTapesFront Means (tape_size slots) failed.written first last old new

-- why `live` and `compile` of a book made no tapes
abbrev pub IsLiveFault : (slots parts : ℕ) → (first last old new : Option (List ℕ)) → RunFault → Type 0
IsLiveFault slots parts first last old new f =
    IsRunFault origin.Book slots parts (IsLive slots parts) first last old new f

abbrev pub IsCompileRunFault : (slots : ℕ) → (first last old new : Option (List ℕ)) → RunFault → Type 0
IsCompileRunFault slots first last old new f =
    IsRunFault origin.Book slots 1 (IsCompiled slots) first last old new f

-- what is so of a run at any reader and any writer
abbrev pub IsRunAtEnds : {R W : Type 0} → Result (Unit {0}) RunFault → (held : W → Option (List ℕ))
    → (first last : Source R) → (old new : Sink W) → Type 0
IsRunAtEnds result held first last old new =
    IsStreamBetween (fault.Book unread) IsWriteFault result held first last old new
