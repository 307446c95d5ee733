-- What the slots by which messages come late say of a delay. Own.
use Rattle.std.specs.Prelude.{◌≡◌, ◌≤◌, ℕ, ◌+◌, ◌*◌, nat_le, nat_lt, Bool, false, Option, Some, None, List, All, length}
use Rattle.std.specs.Prelude.{is_some}
use Rattle.cell_orders.specs.declared.row.OrderRow.{OrderRow}
use Rattle.verification.specs.Difference.{first_slot}
use Rattle.verification.specs.Shift.{slot_of_first}
use Rattle.verification.specs.declared.difference.Kind.TheVariants as kinds
use Rattle.verification.specs.declared.judged.JudgedPage.{JudgedPage}
use Rattle.order_verdict.specs.Air.{pages_on_air}
use Rattle.order_verdict.specs.Judged.{own_pages_in}
use Rattle.order_verdict.specs.Lags.{slot_of_last}
use Rattle.order_verdict.specs.Ordered.{OrderedMessage, ordered_in}

-- the last page comes so many slots after a stop, or more
abbrev pub ends_late : (delay : ℕ) → (stop last : Option ℕ) → Bool
ends_late delay None last = false
ends_late delay (Some stop) None = false
ends_late delay (Some stop) (Some last) = nat_le (stop + delay) last

-- the first page comes before its order
abbrev pub starts_early : (at : ℕ) → (first : Option ℕ) → Bool
starts_early at None = false
starts_early at (Some first) = nat_lt first at

-- a page comes after the stop exactly if the last one does, and before the start exactly if the first one does
pub record IsToldByLags (delay : ℕ) (m : OrderedMessage) (pages : List JudgedPage) : Type 0 where
  pub stop : is_some (first_slot m.late pages kinds.AfterStop) ≡ ends_late delay m.ended (slot_of_last pages)
  pub start : is_some (first_slot m.early pages kinds.BeforeStart)
      ≡ starts_early m.early.start (slot_of_first pages)

-- so it is of each message and the pages of it on a tape
abbrev pub DelaysAreToldByLags : Type 0
DelaysAreToldByLags = (delay : ℕ) (rows : List OrderRow) (blocks : List (List ℕ))
    → length blocks ≤ 4 * 65535
    → All (λ (m : OrderedMessage). IsToldByLags delay m (own_pages_in m (pages_on_air blocks)))
    (ordered_in delay rows)
