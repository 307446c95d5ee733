-- What `warnc verify --orders` makes of an orders file and of tapes: the table of what a cell's tape has otherwise than
-- the cell was ordered and answered. Own.
use Rattle.std.specs.Prelude.{◌≡◌, ⊤, ℕ, ◌<◌, ◌==◌, ◌&&◌, not, Bool, false, true, if◌then◌else◌, List, [], Option}
use Rattle.std.specs.Prelude.{Some, None, IfSome, find, length}
use Rattle.std.specs.Io.KnownBytes.{Appends, Consumes, IsAtEnd}
use Rattle.cbsp_wire.specs.declared.message.Cell.{Cell}
use Rattle.cell_orders.specs.declared.row.OrderRow.{OrderRow}
use Rattle.device_ends.specs.Moves.{AppendsFront}
use Rattle.device_ends.specs.Source.{reader_of}
use Rattle.device_ends.specs.declared.reading.Source.{Source}
use Rattle.handset.specs.Recording.{TapeRecording, AreRecordings}
use Rattle.handset.specs.Tape.{IsTapesFault}
use Rattle.order_verdict.specs.Lags.{lags_text}
use Rattle.order_verdict.specs.Text.{differences_text, no_tape_text, other_slots_text}
use Rattle.order_verdict.specs.Verdict.{AreOrderDifferences}
use Rattle.order_verdict.specs.declared.difference.OrderDifference.{OrderDifference}
use Rattle.orders_file.specs.File.{IsOrdersFile, IsOrdersFileFault, max_orders_file}
use Rattle.verification.specs.Rows.{is_tape_of}
use Rattle.warnc_verdict.specs.declared.fault.VerifyOrdersFault.{VerifyOrdersFault}
use Rattle.warnc_verdict.specs.declared.fault.VerifyOrdersFault.TheVariants as faults
use Rattle.warnc_verdict.specs.declared.terms.VerdictTerms.{VerdictTerms}

-- what the readers of the orders and of the tapes have left before and after a call
pub record Readers : Type 0 where
  pub orders_first : Option (List ℕ)
  pub orders_last : Option (List ℕ)
  pub tapes_first : Option (List ℕ)
  pub tapes_last : Option (List ℕ)

abbrev pub readers_of : {B R : Type 0} → (orders_left : B → Option (List ℕ)) → (left : R → Option (List ℕ))
    → (orders_first orders_last : Source B) → (first last : Source R) → Readers
readers_of orders_left left orders_first orders_last first last = record {
  orders_first = orders_left (reader_of orders_first);
  orders_last = orders_left (reader_of orders_last);
  tapes_first = left (reader_of first);
  tapes_last = left (reader_of last);
}

-- a tape has another number of slots than is asked for
abbrev pub has_other_slots : (wanted : Option ℕ) → (slots : ℕ) → Bool
has_other_slots None slots = false
has_other_slots (Some wanted) slots = not (slots == wanted)

-- so many differences of a cell's tape from these rows, and their table; that it has another number of slots is one,
-- and then nothing else of it is judged
abbrev pub IsVerdictOf : (cell : Cell) (delay : ℕ) → List OrderRow → TapeRecording → (other : Bool) → (count : ℕ)
    → (output : List ℕ) → Type 0
IsVerdictOf cell delay rows tape true count output = (count ≡ 1) × (output ≡ other_slots_text cell)
IsVerdictOf cell delay rows tape false count output =
    (found : List OrderDifference) × AreOrderDifferences tape.slots delay rows tape.blocks found
    × (length found ≡ count) × (output ≡ differences_text cell found)

-- that there is no tape is one, too
abbrev pub IsVerdictBy : (cell : Cell) (terms : VerdictTerms) → List OrderRow → Option TapeRecording → (count : ℕ)
    → (output : List ℕ) → Type 0
IsVerdictBy cell terms rows None count output = (count ≡ 1) × (output ≡ no_tape_text cell)
IsVerdictBy cell terms rows (Some tape) count output =
    IsVerdictOf cell terms.delay rows tape (has_other_slots terms.slots tape.slots) count output

-- what is told of how late the messages of these rows come: nothing if that isn't asked, or if the tape isn't judged
abbrev pub lags_of : VerdictTerms → List OrderRow → Option TapeRecording → List ℕ
lags_of terms rows None = []
lags_of terms rows (Some tape) =
    if terms.lags && not (has_other_slots terms.slots tape.slots) then lags_text rows tape.blocks else []

-- octets are an orders file and tapes; by the first tape of the cell there are so many differences, of which this is
-- the table
pub record IsOrdersVerdict (cell : Cell) (terms : VerdictTerms) (count : ℕ) (orders tapes output : List ℕ) : Type 0
  where
    pub rows : List OrderRow
    pub read : IsOrdersFile orders rows
    pub recordings : List TapeRecording
    pub recordings_are : AreRecordings tapes recordings
    pub verdict : IsVerdictBy cell terms rows (find (is_tape_of cell) recordings) count output

-- there is none
abbrev pub AreOrdersKept : (cell : Cell) (terms : VerdictTerms) → (orders tapes output : List ℕ) → Type 0
AreOrdersKept cell terms orders tapes output = IsOrdersVerdict cell terms 0 orders tapes output

-- there are some
abbrev pub HasOrderDifferences : (cell : Cell) (terms : VerdictTerms) → (orders tapes output : List ℕ) → Type 0
HasOrderDifferences cell terms orders tapes output =
    (count : ℕ) × IsOrdersVerdict cell terms count orders tapes output × (0 < count)

abbrev pub AreOrdersBroken : (cell : Cell) (terms : VerdictTerms) → (orders tapes : List ℕ) → Type 0
AreOrdersBroken cell terms orders tapes = (output : List ℕ) × HasOrderDifferences cell terms orders tapes output

-- the octets of an orders file were read: they have these rows
pub record HasOrders (first last : Option (List ℕ)) (rows : List OrderRow) : Type 0 where
  pub orders : List ℕ
  pub read : Consumes first last orders
  pub ended : IsAtEnd last
  pub are : IsOrdersFile orders rows

-- the file and the tapes were read to their ends, and this is the table of so many differences
pub record JudgesOrders (cell : Cell) (terms : VerdictTerms) (ends : Readers) (count : ℕ) (output : List ℕ) : Type 0
  where
    pub orders : List ℕ
    pub orders_read : Consumes ends.orders_first ends.orders_last orders
    pub orders_ended : IsAtEnd ends.orders_last
    pub tapes : List ℕ
    pub tapes_read : IfSome ends.tapes_first (λ input. input ≡ tapes)
    pub tapes_ended : IsAtEnd ends.tapes_last
    pub verdict : IsOrdersVerdict cell terms count orders tapes output

-- their table was written, or a front of it
abbrev pub JudgesAndWrites : (cell : Cell) (terms : VerdictTerms) → Readers → (old new : Option (List ℕ)) → (count : ℕ)
    → Type 0
JudgesAndWrites cell terms ends old new count =
    (output : List ℕ) × JudgesOrders cell terms ends count output × Appends old new output

abbrev pub JudgesAndWritesFront : (cell : Cell) (terms : VerdictTerms) → Readers → (old new : Option (List ℕ))
    → (count : ℕ)
    → Type 0
JudgesAndWritesFront cell terms ends old new count =
    (output : List ℕ) × JudgesOrders cell terms ends count output × AppendsFront old new output

-- a writer was given these octets, or, if it has failed, a front of them
abbrev pub WritesUnlessFailed : (failed : Bool) → (old new : Option (List ℕ)) → (octets : List ℕ) → Type 0
WritesUnlessFailed false old new octets = Appends old new octets
WritesUnlessFailed true old new octets = AppendsFront old new octets

-- the file and the tapes were read, and this is what is told of how late messages come
pub record HasLags (cell : Cell) (terms : VerdictTerms) (ends : Readers) (text : List ℕ) : Type 0 where
  pub rows : List OrderRow
  pub orders : HasOrders ends.orders_first ends.orders_last rows
  pub tapes : List ℕ
  pub tapes_read : IfSome ends.tapes_first (λ input. input ≡ tapes)
  pub recordings : List TapeRecording
  pub recordings_are : AreRecordings tapes recordings
  pub is : text ≡ lags_of terms rows (find (is_tape_of cell) recordings)

-- it was told to a writer that now has failed or not
abbrev pub TellsLags : (cell : Cell) (terms : VerdictTerms) → Readers → (failed : Bool) → (old new : Option (List ℕ))
    → Type 0
TellsLags cell terms ends failed old new =
    (text : List ℕ) × HasLags cell terms ends text × WritesUnlessFailed failed old new text

-- why it isn't so that there are no differences: the file is too long, or none of orders; or it is one, and the tapes
-- are none; or there are as many differences, one or more, and they were written; or memory ran out; or an end failed
abbrev pub IsVerifyOrdersFault : (cell : Cell) (terms : VerdictTerms) → Readers → (old new : Option (List ℕ))
    → VerifyOrdersFault
    → Type 0
IsVerifyOrdersFault cell terms ends old new faults.Unread = ⊤
IsVerifyOrdersFault cell terms ends old new faults.TooLong =
    IfSome ends.orders_first (λ input. max_orders_file < length input)
IsVerifyOrdersFault cell terms ends old new (faults.Orders f) =
    IfSome ends.orders_first (λ input. IsOrdersFileFault input f)
IsVerifyOrdersFault cell terms ends old new (faults.Tapes f) =
    (rows : List OrderRow) × HasOrders ends.orders_first ends.orders_last rows
    × IfSome ends.tapes_first (λ input. IsTapesFault input f)
IsVerifyOrdersFault cell terms ends old new (faults.Differences count) =
    JudgesAndWrites cell terms ends old new count × (0 < count)
IsVerifyOrdersFault cell terms ends old new faults.Refused = ⊤
IsVerifyOrdersFault cell terms ends old new faults.WriteFailed =
    (count : ℕ) × JudgesAndWritesFront cell terms ends old new count

-- a fault that tells of differences, one with which something may have been written, and one of the orders file
abbrev pub IsOrderDifference : VerifyOrdersFault → Type 0
IsOrderDifference (faults.Differences count) = ⊤
IsOrderDifference other = ⊥

abbrev pub HasWrittenTable : VerifyOrdersFault → Type 0
HasWrittenTable (faults.Differences count) = ⊤
HasWrittenTable faults.WriteFailed = ⊤
HasWrittenTable other = ⊥

abbrev pub IsOfOrders : VerifyOrdersFault → Type 0
IsOfOrders faults.Unread = ⊤
IsOfOrders faults.TooLong = ⊤
IsOfOrders (faults.Orders f) = ⊤
IsOfOrders other = ⊥
