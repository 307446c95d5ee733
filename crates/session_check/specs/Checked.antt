-- What a check of passes says (own): that each is right, or which is the first that isn't.
use Rattle.std.specs.Prelude.{◌≡◌, ℕ, ◌<◌, min, List}
use Rattle.alert_book.specs.Book.{Contents}
use Rattle.bsc_table.specs.Record.{Record}
use Rattle.order_desk.specs.Agreement.{IsRightNumber}
use Rattle.order_desk.specs.declared.note.Note.{Note}
use Rattle.order_desk.specs.declared.settle.SettleFault.{SettleFault}
use Rattle.order_desk.specs.declared.settle.SettleFault.TheVariants as faults
use Rattle.book_runs.specs.Sessions.{IsRightPass}

-- what was noted of a cell's log agrees with it
abbrev pub HasRightNumbers : List (List Note) → Record → Type 0
HasRightNumbers passes r = (k : ℕ) → IsRightNumber r.cell r.log passes k

-- a pass isn't right, and those before it are: the fault names its part, which for each pass after the parts is their
-- number
pub record IsFirstWrongPass (book : Contents) (parts : ℕ) (records : List Record) (passes : List (List Note))
    (fault : SettleFault) : Type 0 where
  pub place : ℕ
  pub wrong : IsRightPass book parts records passes place → ⊥
  pub least : (lesser : ℕ) → lesser < place → IsRightPass book parts records passes lesser
  pub told : fault ≡ faults.Session (min place parts)
